-- Messages that are merged, and the batches in which a message's records are stored.
use Rattle.std.specs.Prelude.{◌≡◌, ℕ, ◌<◌, ◌≤◌, ◌+◌, ◌⊎◌, List, [], ◌++◌, length, min}
use Rattle.std.specs.List.{AllByRecursion}
use Rattle.semantics.specs.Multiset.{Record}
use Rattle.machine.specs.World.{Message}
use Rattle.rows.specs.Counts.{most}
use Rattle.rows.specs.FlatRows.{arity_of, joined}

-- both are on one edge at one time, with one arity, and no record can occur too often in both together
pub record MayMerge (first second : Message) : Type 0 where
  pub edge : second.edge ≡ first.edge
  pub time : second.time ≡ first.time
  pub arity : arity_of second.records ≡ arity_of first.records
  pub few : length first.records + length second.records ≤ most

-- The first batch isn't empty, all have one arity, and `len` is the number of records in them, capped at 64 bits. There are several batches only if
-- none of them can occur too often.
pub record AreOneMessage (first : List Record) (more : List (List Record)) (len fields : ℕ) : Type 0 where
  pub some : 0 < length first
  pub counted : len ≡ min (length (first ++ joined more)) 18446744073709551615
  pub arity : fields ≡ arity_of first
  pub each : AllByRecursion (λ b. arity_of b ≡ arity_of first) more
  pub few : (more ≡ []) ⊎ (length (first ++ joined more) ≤ most)
