-- What a rewritten part of a query is reached by, and what is then true of it.
use Rattle.std.specs.Prelude.{◌≡◌, ℕ, ◌<◌}
use Rattle.std.specs.List.{AllByRecursion}
use Rattle.semantics.specs.Query.{Loop, Scalar, Cond, Rel, Output}
use Rattle.semantics.specs.Typing.{Scope, HasArity}
use Rattle.semantics.specs.Normal.{NormalScalar, NormalCond, IsFilter, IsSelect, IsSet, UsesOnce, uses_all}
use Rattle.semantics.specs.Rewriting.{Steps, ScalarStep, CondStep, RelStep}
use Rattle.semantics.specs.Limits.{max_fields}

-- a scalar folded: reached by steps, and no literals left to fold
pub record IsFolded (after before : Scalar) : Type 0 where
  pub steps : Steps ScalarStep before after
  pub normal : NormalScalar after

-- a condition with its scalars folded
pub record IsFoldedCond (after before : Cond) : Type 0 where
  pub steps : Steps CondStep before after
  pub normal : NormalCond after

-- a relation reached by steps, in whatever scope the first has an arity
pub record IsReached (after before : Rel) : Type 0 where
  pub steps : (scope : Scope) (d n : ℕ) → HasArity before scope d n → Steps RelStep before after

-- no rule applies anywhere in it, as the code sees it: a select whose scalars use a column beyond a record's fields stays
abbrev pub Reduced : Rel → Type 0
Reduced (Rel.named x) = Unit {0}
Reduced (Rel.select r ss) = Reduced r × AllByRecursion NormalScalar ss × (IsSelect r → AllByRecursion (λ c. c < max_fields) (uses_all ss) → UsesOnce ss → ⊥)
Reduced (Rel.filter r c) = Reduced r × NormalCond c × (IsFilter r → ⊥)
Reduced (Rel.concat p q) = Reduced p × Reduced q
Reduced (Rel.join p q ps) = Reduced p × Reduced q
Reduced (Rel.group r ks as') = Reduced r
Reduced (Rel.distinct r) = Reduced r × (IsSet r → ⊥)
Reduced (Rel.except p q) = Reduced p × Reduced q
Reduced (Rel.intersect p q) = Reduced p × Reduced q
Reduced (Rel.loop l n x r b) = Reduced r × Reduced b × (l ≡ Loop.iterate → n ≡ 0 → ⊥)

-- a relation rewritten until no rule applies
pub record IsRewritten (after before : Rel) : Type 0 where
  pub reached : IsReached after before
  pub reduced : Reduced after

-- an output of the same name, with its relation rewritten
pub record IsRewrittenOutput (after before : Output) : Type 0 where
  pub name : after.name ≡ before.name
  pub value : IsRewritten after.value before.value
