-- The grammar of conditions, as a relation between tokens and trees.
use Rattle.std.specs.Prelude.{ℕ, suc, max, ◌≡◌, List, [], ◌∷◌, Option, Some, None}
use Rattle.record_core.specs.declared.span.Span.{Span}
use Rattle.record_core.specs.declared.keyword.Keyword.TheVariants as keyword
use Rattle.lexer.specs.declared.token.Token.{Token}
use Rattle.lexer.specs.declared.token.TokenKind.{TokenKind}
use Rattle.lexer.specs.declared.token.TokenKind.TheVariants as kind
use Rattle.lexer.specs.declared.mark.Mark.TheVariants as mark
use Rattle.expr_tree.specs.declared.condition.Comparison.{Comparison}
use Rattle.expr_tree.specs.declared.condition.Comparison.TheVariants as comparison
use Rattle.expr_tree.specs.declared.condition.Connective.{Connective}
use Rattle.expr_tree.specs.declared.condition.Connective.TheVariants.{And, Or}
use Rattle.expr_tree.specs.Trees.{ScalarTree, CondTree}
use Rattle.grammar.specs.declared.level.OperatorLevel.TheVariants.{Sums}
use Rattle.grammar.specs.declared.level.ConnectiveLevel.{ConnectiveLevel}
use Rattle.grammar.specs.declared.level.ConnectiveLevel.TheVariants.{Conjunctions, Disjunctions}
use Rattle.grammar.specs.Tokens.{reaching, mark_at, keyword_at}
use Rattle.grammar.specs.Scalars as scalar

-- the connective of each level
abbrev pub connective : ConnectiveLevel → TokenKind → Option Connective
connective Conjunctions (kind.Keyword keyword.And) = Some And
connective Disjunctions (kind.Keyword keyword.Or) = Some Or
connective l k = None

-- compare = "=" | "!=" | "<" | "<=" | ">" | ">="
abbrev pub compares : TokenKind → Option Comparison
compares (kind.Mark mark.Equal) = Some comparison.Equal
compares (kind.Mark mark.NotEqual) = Some comparison.NotEqual
compares (kind.Mark mark.Below) = Some comparison.Less
compares (kind.Mark mark.AtMost) = Some comparison.AtMost
compares (kind.Mark mark.Above) = Some comparison.Greater
compares (kind.Mark mark.AtLeast) = Some comparison.AtLeast
compares k = None

-- no connective of the level comes next
abbrev pub NoConnective : ConnectiveLevel → List Token → Type 0
NoConnective l [] = Unit {0}
NoConnective l (t ∷ ts) = connective l t.kind ≡ None

-- what is read; for a chain, also the tree, extent and height of its operands so far
pub data Part : Type 0 where
  Square : Part
  Single : Part
  Chain : ConnectiveLevel → Part
  Rest : ConnectiveLevel → CondTree → Span → ℕ → Part

-- the operand between the connectives of a level
abbrev pub operand : ConnectiveLevel → Part
operand Conjunctions = Single
operand Disjunctions = Chain Conjunctions

-- the tokens begin with that part, which is this tree with this extent and height, and these tokens are left; a part's extent includes its brackets,
-- but the span of its node doesn't, except for those of `not [..]`
pub data Reads : Part → List Token → CondTree → Span → ℕ → List Token → Type 0 where
  -- test = "not" "[" cond "]" | "[" cond "]" | scalar compare scalar
  square : {s r e : Span} {t : CondTree} {h : ℕ} {ts us : List Token} → Reads (Chain Disjunctions) ts t e h (mark_at mark.CloseSquare r ∷ us)
      → Reads Square (mark_at mark.OpenSquare s ∷ ts) t (reaching s r) (suc h) us
  negated : {s e : Span} {t : CondTree} {h : ℕ} {ts us : List Token} → Reads Square ts t e h us
      → Reads Single (keyword_at keyword.Not s ∷ ts) (CondTree.negate (reaching s e) t) (reaching s e) h us
  bracketed : {e : Span} {t : CondTree} {h : ℕ} {ts us : List Token} → Reads Square ts t e h us → Reads Single ts t e h us
  compared : {a b : ScalarTree} {o : Comparison} {x : Token} {e f : Span} {h k : ℕ} {ts us vs : List Token}
      → scalar.Reads (scalar.Chain Sums) ts a e h (x ∷ us) → compares x.kind ≡ Some o → scalar.Reads (scalar.Chain Sums) us b f k vs
      → Reads Single ts (CondTree.compare (reaching e f) o a b) (reaching e f) (suc (max h k)) vs
  -- conj = test { "and" test }, cond = conj { "or" conj }; repeated connectives group to the left
  chain : {l : ConnectiveLevel} {a t : CondTree} {e f : Span} {h n : ℕ} {ts us vs : List Token} → Reads (operand l) ts a e h us
      → Reads (Rest l a e h) us t f n vs → Reads (Chain l) ts t f n vs
  stop : {l : ConnectiveLevel} {a : CondTree} {e : Span} {h : ℕ} {us : List Token} → NoConnective l us → Reads (Rest l a e h) us a e h us
  more : {l : ConnectiveLevel} {o : Connective} {a b t : CondTree} {x : Token} {e f g : Span} {h k n : ℕ} {us vs ws : List Token}
      → connective l x.kind ≡ Some o → Reads (operand l) us b f k vs
      → Reads (Rest l (CondTree.logical (reaching e f) o a b) (reaching e f) (suc (max h k))) vs t g n ws → Reads (Rest l a e h) (x ∷ us) t g n ws

-- cond
abbrev pub ConditionAt : List Token → CondTree → ℕ → List Token → Type 0
ConditionAt ts t h us = (e : Span) × Reads (Chain Disjunctions) ts t e h us
