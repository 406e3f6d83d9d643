-- The grammar of scalars, as a relation between tokens and trees.
use Rattle.std.specs.Prelude.{ℕ, suc, max, ◌<◌, ◌^◌, ◌≡◌, pos, List, [], ◌∷◌, Option, Some, None}
use Rattle.record_core.specs.declared.span.Span.{Span}
use Rattle.lexer.specs.declared.token.Token.{Token}
use Rattle.lexer.specs.declared.token.TokenKind.{TokenKind}
use Rattle.lexer.specs.declared.token.TokenKind.TheVariants as kind
use Rattle.lexer.specs.declared.mark.Mark.TheVariants as mark
use Rattle.expr_tree.specs.declared.scalar.Operator.{Operator}
use Rattle.expr_tree.specs.declared.scalar.Operator.TheVariants.{Add, Subtract, Multiply}
use Rattle.expr_tree.specs.Trees.{ScalarTree}
use Rattle.grammar.specs.declared.level.OperatorLevel.{OperatorLevel}
use Rattle.grammar.specs.declared.level.OperatorLevel.TheVariants.{Products, Sums}
use Rattle.grammar.specs.Tokens.{reaching, token, mark_at}

-- the operators of each level
abbrev pub operator : OperatorLevel → TokenKind → Option Operator
operator Products (kind.Mark mark.Star) = Some Multiply
operator Sums (kind.Mark mark.Plus) = Some Add
operator Sums (kind.Mark mark.Minus) = Some Subtract
operator l k = None

-- no operator of the level comes next
abbrev pub NoOperator : OperatorLevel → List Token → Type 0
NoOperator l [] = Unit {0}
NoOperator l (t ∷ ts) = operator l t.kind ≡ None

-- what is read; for a chain, also the tree, extent and height of its operands so far
pub data Part : Type 0 where
  Atom : Part
  Unary : Part
  Chain : OperatorLevel → Part
  Rest : OperatorLevel → ScalarTree → Span → ℕ → Part

-- the operand between the operators of a level
abbrev pub operand : OperatorLevel → Part
operand Products = Unary
operand Sums = Chain Products

-- the tokens begin with that part, which is this tree with this extent and height, and these tokens are left; a part's extent includes its brackets,
-- but the span of its node doesn't
pub data Reads : Part → List Token → ScalarTree → Span → ℕ → List Token → Type 0 where
  -- atom = NUMBER | COLUMN | "(" scalar ")"
  number : {s : Span} {n : ℕ} {ts : List Token} → n < 2 ^ 63 → Reads Atom (token (kind.Number n) s ∷ ts) (ScalarTree.literal s (pos n)) s 1 ts
  column : {s : Span} {n : ℕ} {ts : List Token} → Reads Atom (token (kind.Column n) s ∷ ts) (ScalarTree.column s n) s 1 ts
  bracket : {s r e : Span} {t : ScalarTree} {h : ℕ} {ts us : List Token} → Reads (Chain Sums) ts t e h (mark_at mark.CloseRound r ∷ us)
      → Reads Atom (mark_at mark.OpenRound s ∷ ts) t (reaching s r) (suc h) us
  -- unary = "-" atom | atom
  minus : {s e : Span} {t : ScalarTree} {h : ℕ} {ts us : List Token} → Reads Atom ts t e h us
      → Reads Unary (mark_at mark.Minus s ∷ ts) (ScalarTree.negate (reaching s e) t) (reaching s e) (suc h) us
  plain : {e : Span} {t : ScalarTree} {h : ℕ} {ts us : List Token} → Reads Atom ts t e h us → Reads Unary ts t e h us
  -- product = unary { "*" unary }, scalar = product { ("+" | "-") product }; repeated operators group to the left
  chain : {l : OperatorLevel} {a t : ScalarTree} {e f : Span} {h n : ℕ} {ts us vs : List Token} → Reads (operand l) ts a e h us
      → Reads (Rest l a e h) us t f n vs → Reads (Chain l) ts t f n vs
  stop : {l : OperatorLevel} {a : ScalarTree} {e : Span} {h : ℕ} {us : List Token} → NoOperator l us → Reads (Rest l a e h) us a e h us
  more : {l : OperatorLevel} {o : Operator} {a b t : ScalarTree} {x : Token} {e f g : Span} {h k n : ℕ} {us vs ws : List Token} → operator l x.kind ≡ Some o
      → Reads (operand l) us b f k vs → Reads (Rest l (ScalarTree.binary (reaching e f) o a b) (reaching e f) (suc (max h k))) vs t g n ws
      → Reads (Rest l a e h) (x ∷ us) t g n ws

-- scalar
abbrev pub ScalarAt : List Token → ScalarTree → ℕ → List Token → Type 0
ScalarAt ts t h us = (e : Span) × Reads (Chain Sums) ts t e h us
