-- Tokens begin with at most one scalar.
use Rattle.std.proofs.Common.{◌≡◌, ℕ, suc, ◌≤◌, arith, List, [], ◌∷◌, refl, ap}
use Rattle.record_core.specs.declared.span.Span.{Span}
use Rattle.expr_tree.specs.Trees.{ScalarTree}
use Rattle.lexer.specs.declared.token.Token.{Token}
use Rattle.lexer.specs.declared.token.TokenKind.{TokenKind}
use Rattle.lexer.specs.declared.token.TokenKind.TheVariants as kind
use Rattle.lexer.specs.declared.mark.Mark.TheVariants as mark
use Rattle.grammar.specs.declared.level.OperatorLevel.{OperatorLevel}
use Rattle.grammar.specs.declared.level.OperatorLevel.TheVariants.{Products, Sums}
use Rattle.grammar.specs.Tokens.{reaching}
use Rattle.grammar.specs.Phrases.{IsOne}
use Rattle.grammar.specs.Scalars.{Part, Reads, Atom, Unary, Chain, Rest, number, column, bracket, minus, plain, chain, stop, more, ScalarAt}
use Rattle.grammar.proofs.Tokens.{first_one}

-- the same tree, extent and height, with the same tokens left
pub record Same (t u : ScalarTree) (e f : Span) (m n : ℕ) (us vs : List Token) : Type 0 where
  pub tree : t ≡ u
  pub extent : e ≡ f
  pub height : m ≡ n
  pub left : us ≡ vs

-- an atom doesn't begin with a minus
no_minus : {s e : Span} {t : ScalarTree} {h : ℕ} {ts us : List Token} → Reads Atom (record { kind = kind.Mark mark.Minus; span = s } ∷ ts) t e h us → ⊥
no_minus d = elim d [ ]

pub one_reading : {p : Part} {ts us vs : List Token} {t u : ScalarTree} {e f : Span} {m n : ℕ} → Reads p ts t e m us → Reads p ts u f n vs → Same t u e f m n us vs
one_reading (number h) (number k) = record { tree = refl; extent = refl; height = refl; left = refl }
one_reading column column = record { tree = refl; extent = refl; height = refl; left = refl }
one_reading (bracket {s = s} d) (bracket x) = let h = one_reading d x in let q = first_one h.left in record { tree = h.tree; extent = ap (λ t. reaching s t.span) q; height = ap suc h.height; left = cc }
one_reading (minus d) (minus x) = let h = one_reading d x in record { tree = cc; extent = cc; height = ap suc h.height; left = h.left }
one_reading (minus d) (plain x) = absurd (no_minus x)
one_reading (plain d) (minus x) = absurd (no_minus d)
one_reading (plain d) (plain x) = one_reading d x
one_reading (chain d r) (chain x y) = let h = one_reading d x in one_reading r (rw (← h.tree, ← h.extent, ← h.height, ← h.left) at y)
one_reading (stop h) (stop k) = record { tree = refl; extent = refl; height = refl; left = refl }
one_reading (stop h) (more k x y) = absurd (cc)
one_reading (more k d r) (stop h) = absurd (cc)
one_reading (more {o = o} i d r) (more {o = p} j x y) = let h = one_reading d x in let q : o ≡ p = cc in one_reading r (rw (← q, ← h.tree, ← h.extent, ← h.height, ← h.left) at y)

pub one_scalar : IsOne ScalarAt
one_scalar ts us vs x y h k d e = let a = one_reading d.1 e.1 in record { value = a.tree; height = a.height; left = a.left }

-- adding what follows doesn't lower it
pub grows : {l : OperatorLevel} {a t : ScalarTree} {e f : Span} {h n : ℕ} {us vs : List Token} → Reads (Rest l a e h) us t f n vs → h ≤ n
grows (stop x) = omega arith
grows {h = h} (more {k = k} i d r) = let w = grows r in omega arith

-- a token that a scalar may begin with
abbrev pub IsStart : TokenKind → Type 0
IsStart (kind.Number n) = Unit {0}
IsStart (kind.Column n) = Unit {0}
IsStart (kind.Mark mark.OpenRound) = Unit {0}
IsStart (kind.Mark mark.Minus) = Unit {0}
IsStart k = ⊥

abbrev pub Starts : List Token → Type 0
Starts [] = ⊥
Starts (t ∷ ts) = IsStart t.kind

starts_atom : {t : ScalarTree} {e : Span} {h : ℕ} {ts us : List Token} → Reads Atom ts t e h us → Starts ts
starts_atom (number h) = tt
starts_atom column = tt
starts_atom (bracket d) = tt

starts_unary : {t : ScalarTree} {e : Span} {h : ℕ} {ts us : List Token} → Reads Unary ts t e h us → Starts ts
starts_unary (minus d) = tt
starts_unary (plain d) = starts_atom d

starts_product : {t : ScalarTree} {e : Span} {h : ℕ} {ts us : List Token} → Reads (Chain Products) ts t e h us → Starts ts
starts_product (chain d r) = starts_unary d

pub starts_sum : {t : ScalarTree} {e : Span} {h : ℕ} {ts us : List Token} → Reads (Chain Sums) ts t e h us → Starts ts
starts_sum (chain d r) = starts_product d
