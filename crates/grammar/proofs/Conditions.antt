-- Tokens begin with at most one condition.
use Rattle.std.proofs.Common.{◌≡◌, ℕ, suc, ◌≤◌, arith, List, ◌∷◌, refl, ap, sym, ◌∙◌}
use Rattle.record_core.specs.declared.span.Span.{Span}
use Rattle.record_core.specs.declared.keyword.Keyword.TheVariants as keyword
use Rattle.expr_tree.specs.Trees.{ScalarTree, CondTree}
use Rattle.lexer.specs.declared.token.Token.{Token}
use Rattle.grammar.specs.declared.level.OperatorLevel.TheVariants.{Sums}
use Rattle.grammar.specs.declared.level.ConnectiveLevel.{ConnectiveLevel}
use Rattle.grammar.specs.Tokens.{reaching, keyword_at}
use Rattle.grammar.specs.Phrases.{IsOne}
use Rattle.grammar.specs.Scalars as scalar
use Rattle.grammar.specs.Conditions.{Part, Reads, Square, Rest, square, negated, bracketed, compared, chain, stop, more, compares, ConditionAt}
use Rattle.grammar.proofs.Tokens.{first_one, rest_one, some_one}
use Rattle.grammar.proofs.Scalars as scalar_laws

-- the same tree, extent and height, with the same tokens left
pub record Same (t u : CondTree) (e f : Span) (m n : ℕ) (us vs : List Token) : Type 0 where
  pub tree : t ≡ u
  pub extent : e ≡ f
  pub height : m ≡ n
  pub left : us ≡ vs

-- a scalar doesn't begin with `[` or `not`
pub no_scalar : {x : Token} {e : Span} {t : ScalarTree} {h : ℕ} {ts us : List Token} → scalar.Reads (scalar.Chain Sums) (x ∷ ts) t e h us → scalar_laws.IsStart x.kind
no_scalar d = scalar_laws.starts_sum d

no_square : {s e : Span} {t : CondTree} {h : ℕ} {ts us : List Token} → Reads Square (keyword_at keyword.Not s ∷ ts) t e h us → ⊥
no_square d = elim d [ ]

square_start : {t : CondTree} {e f : Span} {h k : ℕ} {a : ScalarTree} {ts us vs : List Token} → Reads Square ts t e h us → scalar.Reads (scalar.Chain Sums) ts a f k vs → ⊥
square_start (square d) x = no_scalar x

pub one_reading : {p : Part} {ts us vs : List Token} {t u : CondTree} {e f : Span} {m n : ℕ} → Reads p ts t e m us → Reads p ts u f n vs → Same t u e f m n us vs
one_reading (square {s = s} d) (square x) = let h = one_reading d x in let q = first_one h.left in record { tree = h.tree; extent = ap (λ t. reaching s t.span) q; height = ap suc h.height; left = cc }
one_reading (negated d) (negated x) = let h = one_reading d x in record { tree = cc; extent = cc; height = h.height; left = h.left }
one_reading (negated d) (bracketed x) = absurd (no_square x)
one_reading (negated d) (compared x i y) = absurd (no_scalar x)
one_reading (bracketed d) (negated x) = absurd (no_square d)
one_reading (bracketed d) (bracketed x) = one_reading d x
one_reading (bracketed d) (compared x i y) = absurd (square_start d x)
one_reading (compared d i r) (negated x) = absurd (no_scalar d)
one_reading (compared d i r) (bracketed x) = absurd (square_start x d)
one_reading (compared {o = o} d i r) (compared {o = p} x j y) =
    let h = scalar_laws.one_reading d x in
    let q = first_one h.left in
    let us = rest_one h.left in
    let w = scalar_laws.one_reading r (rw (← us) at y) in
    let op : o ≡ p = some_one (sym i ∙ (ap (λ t. compares t.kind) q ∙ j)) in
    record { tree = cc; extent = cc; height = cc; left = w.left }
one_reading (chain d r) (chain x y) = let h = one_reading d x in one_reading r (rw (← h.tree, ← h.extent, ← h.height, ← h.left) at y)
one_reading (stop h) (stop k) = record { tree = refl; extent = refl; height = refl; left = refl }
one_reading (stop h) (more k x y) = absurd (cc)
one_reading (more k d r) (stop h) = absurd (cc)
one_reading (more {o = o} i d r) (more {o = p} j x y) = let h = one_reading d x in let q : o ≡ p = cc in one_reading r (rw (← q, ← h.tree, ← h.extent, ← h.height, ← h.left) at y)

pub one_condition : IsOne ConditionAt
one_condition ts us vs x y h k d e = let a = one_reading d.1 e.1 in record { value = a.tree; height = a.height; left = a.left }

-- adding what follows doesn't lower it
pub grows : {l : ConnectiveLevel} {a t : CondTree} {e f : Span} {h n : ℕ} {us vs : List Token} → Reads (Rest l a e h) us t f n vs → h ≤ n
grows (stop x) = omega arith
grows {h = h} (more {k = k} i d r) = let w = grows r in omega arith
