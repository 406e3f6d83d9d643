-- The rules of the normaliser, and the trees to which none of them applies. Literals are folded. A `where` of a `where` becomes one, and so does a
-- `select` of a `select` if no scalar is copied. A `distinct` of a `distinct`, an `except` or an `intersect` becomes what it holds, and so does an
-- iterate of no turns. A let that no output reaches is dropped.
use Rattle.std.specs.Prelude.{◌≡◌, ◌⊎◌, ℕ, ◌+◌, ◌≤◌, nat_eq, List, [], ◌∷◌, ◌++◌, slice_index_or, pos}
use Rattle.std.specs.List.{AllByRecursion}
use Rattle.semantics.specs.Multiset.{IsAmong, one_if}
use Rattle.semantics.specs.Query.{Name, Scalar, Cond, Loop, Rel, Let, Output, Program}
use Rattle.semantics.specs.FreeNames.{free, free_in_outputs}

-- ---- select of select

-- the columns of a scalar, with repeats
abbrev pub uses : Scalar → List ℕ
uses (Scalar.column c) = c ∷ []
uses (Scalar.literal z) = []
uses (Scalar.plus s t) = uses s ++ uses t
uses (Scalar.minus s t) = uses s ++ uses t
uses (Scalar.times s t) = uses s ++ uses t
uses (Scalar.negation s) = uses s

-- the columns of scalars together
abbrev pub uses_all : List Scalar → List ℕ
uses_all [] = []
uses_all (s ∷ ss) = uses s ++ uses_all ss

-- how often c is among them
abbrev pub use_count : ℕ → List ℕ → ℕ
use_count c [] = 0
use_count c (d ∷ ds) = one_if (nat_eq c d) + use_count c ds

-- all together use each column at most once, so no scalar that replaces a column is copied
abbrev pub UsesOnce : List Scalar → Type 0
UsesOnce ss = (c : ℕ) → use_count c (uses_all ss) ≤ 1

-- each column is replaced by the scalar of ss that it names
abbrev pub replaced : List Scalar → Scalar → Scalar
replaced ss (Scalar.column c) = slice_index_or ss c (Scalar.literal (pos 0))
replaced ss (Scalar.literal z) = Scalar.literal z
replaced ss (Scalar.plus s t) = Scalar.plus (replaced ss s) (replaced ss t)
replaced ss (Scalar.minus s t) = Scalar.minus (replaced ss s) (replaced ss t)
replaced ss (Scalar.times s t) = Scalar.times (replaced ss s) (replaced ss t)
replaced ss (Scalar.negation s) = Scalar.negation (replaced ss s)

-- ---- unreached lets

-- x is used by an output, or by a let that is itself reached
abbrev pub Reaches : (x : Name) → (later : List Let) → List Output → Type 0
Reaches x [] outs = IsAmong x (free_in_outputs outs)
Reaches x (a ∷ as') outs = Reaches x as' outs ⊎ (IsAmong x (free a.value) × Reaches a.name as' outs)

-- every let is reached
abbrev pub AllReached : List Let → List Output → Type 0
AllReached [] outs = Unit {0}
AllReached (a ∷ as') outs = Reaches a.name as' outs × AllReached as' outs

-- ---- no rule applies

-- the scalar is a literal
abbrev pub IsLiteral : Scalar → Type 0
IsLiteral (Scalar.column c) = ⊥
IsLiteral (Scalar.literal z) = Unit {0}
IsLiteral (Scalar.plus s t) = ⊥
IsLiteral (Scalar.minus s t) = ⊥
IsLiteral (Scalar.times s t) = ⊥
IsLiteral (Scalar.negation s) = ⊥

-- no literals in it can be folded
abbrev pub NormalScalar : Scalar → Type 0
NormalScalar (Scalar.column c) = Unit {0}
NormalScalar (Scalar.literal z) = Unit {0}
NormalScalar (Scalar.plus s t) = NormalScalar s × NormalScalar t × (IsLiteral s → IsLiteral t → ⊥)
NormalScalar (Scalar.minus s t) = NormalScalar s × NormalScalar t × (IsLiteral s → IsLiteral t → ⊥)
NormalScalar (Scalar.times s t) = NormalScalar s × NormalScalar t × (IsLiteral s → IsLiteral t → ⊥)
NormalScalar (Scalar.negation s) = NormalScalar s × (IsLiteral s → ⊥)

-- no literals in its scalars can be folded; the conditions themselves aren't folded
abbrev pub NormalCond : Cond → Type 0
NormalCond (Cond.compare c s t) = NormalScalar s × NormalScalar t
NormalCond (Cond.conjunction c d) = NormalCond c × NormalCond d
NormalCond (Cond.disjunction c d) = NormalCond c × NormalCond d
NormalCond (Cond.negation c) = NormalCond c

-- the relation is a `where`
abbrev pub IsFilter : Rel → Type 0
IsFilter (Rel.named x) = ⊥
IsFilter (Rel.select r ss) = ⊥
IsFilter (Rel.filter r c) = Unit {0}
IsFilter (Rel.concat p q) = ⊥
IsFilter (Rel.join p q ps) = ⊥
IsFilter (Rel.group r ks as') = ⊥
IsFilter (Rel.distinct r) = ⊥
IsFilter (Rel.except p q) = ⊥
IsFilter (Rel.intersect p q) = ⊥
IsFilter (Rel.loop l n x r b) = ⊥

-- the relation is a `select`
abbrev pub IsSelect : Rel → Type 0
IsSelect (Rel.named x) = ⊥
IsSelect (Rel.select r ss) = Unit {0}
IsSelect (Rel.filter r c) = ⊥
IsSelect (Rel.concat p q) = ⊥
IsSelect (Rel.join p q ps) = ⊥
IsSelect (Rel.group r ks as') = ⊥
IsSelect (Rel.distinct r) = ⊥
IsSelect (Rel.except p q) = ⊥
IsSelect (Rel.intersect p q) = ⊥
IsSelect (Rel.loop l n x r b) = ⊥

-- the form gives a set: a `distinct`, an `except` or an `intersect`, in which no record occurs twice
abbrev pub IsSet : Rel → Type 0
IsSet (Rel.named x) = ⊥
IsSet (Rel.select r ss) = ⊥
IsSet (Rel.filter r c) = ⊥
IsSet (Rel.concat p q) = ⊥
IsSet (Rel.join p q ps) = ⊥
IsSet (Rel.group r ks as') = ⊥
IsSet (Rel.distinct r) = Unit {0}
IsSet (Rel.except p q) = Unit {0}
IsSet (Rel.intersect p q) = Unit {0}
IsSet (Rel.loop l n x r b) = ⊥

-- no rule on scalars and relations applies anywhere in it
abbrev pub NormalRel : Rel → Type 0
NormalRel (Rel.named x) = Unit {0}
NormalRel (Rel.select r ss) = NormalRel r × AllByRecursion NormalScalar ss × (IsSelect r → UsesOnce ss → ⊥)
NormalRel (Rel.filter r c) = NormalRel r × NormalCond c × (IsFilter r → ⊥)
NormalRel (Rel.concat p q) = NormalRel p × NormalRel q
NormalRel (Rel.join p q ps) = NormalRel p × NormalRel q
NormalRel (Rel.group r ks as') = NormalRel r
NormalRel (Rel.distinct r) = NormalRel r × (IsSet r → ⊥)
NormalRel (Rel.except p q) = NormalRel p × NormalRel q
NormalRel (Rel.intersect p q) = NormalRel p × NormalRel q
NormalRel (Rel.loop l n x r b) = NormalRel r × NormalRel b × (l ≡ Loop.iterate → n ≡ 0 → ⊥)

-- no rule applies anywhere in the program, and every let is reached
pub record NormalProgram (p : Program) : Type 0 where
  pub lets : AllByRecursion (λ (a : Let). NormalRel a.value) p.lets
  pub outputs : AllByRecursion (λ (o : Output). NormalRel o.value) p.outputs
  pub reached : AllReached p.lets p.outputs
