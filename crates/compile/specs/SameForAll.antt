-- What is the same for each record.
use Rattle.std.specs.Prelude.{◌≡◌, Bool}
use Rattle.semantics.specs.Multiset.{Record}
use Rattle.semantics.specs.Query.{Cond}
use Rattle.semantics.specs.Meaning.{holds}

-- the condition comes out like that for each record
abbrev pub IsAlways : Cond → Bool → Type 0
IsAlways c truth = (r : Record) → holds c r ≡ truth
