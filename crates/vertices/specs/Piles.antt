-- Records as they come.
use Rattle.std.specs.Prelude.{◌≡◌, ℕ, ◌<◌, List, length}
use Rattle.semantics.specs.Multiset.{Record, ◌≈◌}

-- records of `arity` numbers
pub record Piled : Type 0 where
  pub arity : ℕ
  pub records : List Record

-- the records of that arity that were absorbed at one time, of which there are some
abbrev pub IsPileThen : (arity : ℕ) → Piled → (ℕ → List Record) → Type 0
IsPileThen arity pile records = ((pile.arity ≡ arity) × (pile.records ≈ records 0)) × (0 < length (records 0))
