-- What it says of a number that it comes from a column.
use Rattle.std.specs.Prelude.{◌≡◌, ◌<◌, ℕ, suc, List, [], ◌∷◌, length, ℤ, Some, slice_get}
use Rattle.std.specs.Int.{int_wrap}
use Rattle.std.specs.List.{AllByRecursion}
use mir.Syntax.{w64}
use Rattle.semantics.specs.Multiset.{Record, IsAmong}
use Rattle.semantics.specs.Query.{Input}
use Rattle.field_origins.specs.declared.source.Source.{Source}

-- the record has that many fields, each a number within 64 bits
pub record IsRecord (arity : ℕ) (r : Record) : Type 0 where
  pub fields : length r ≡ arity
  pub fits : AllByRecursion (λ (z : ℤ). int_wrap w64 z ≡ z) r

-- the records of each input are such records; the first input has the number i
abbrev pub AreRecords : List Input → (i : ℕ) → (ℕ → List Record) → Type 0
AreRecords [] i records = Unit {0}
AreRecords (a ∷ as') i records = ((r : Record) → IsAmong r (records i) → IsRecord a.arity r) × AreRecords as' (suc i) records

-- the number stands in that column of some record
abbrev pub IsInColumn : ℤ → (c : ℕ) → List Record → Type 0
IsInColumn z c xs = (r : Record) × IsAmong r xs × (slice_get r c ≡ Some z)

-- the number stands in one of the columns, in some record of that input
pub record Stands (inputs : List Input) (records : ℕ → List Record) (sources : List Source) (z : ℤ) : Type 0 where
  pub source : Source
  pub among : IsAmong source sources
  pub is_input : source.input < length inputs
  pub stands : IsInColumn z source.column (records source.input)

-- no source is there twice
abbrev pub AreDifferent : List Source → Type 0
AreDifferent [] = Unit {0}
AreDifferent (s ∷ ss) = (IsAmong s ss → ⊥) × AreDifferent ss
