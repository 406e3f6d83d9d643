-- What the parts of a change of a search tree do.
use Rattle.std.specs.Prelude.{◌≡◌, ℕ, Option, Some, None}
use Rattle.semantics.specs.Time.{Time}
use Rattle.progress.specs.Times.{NoLater}
use Rattle.progress.specs.TimeCounts.{TimeCounts, counted_time, top, IsFirst, IsNone}
use Rattle.progress.specs.declared.tree.Entry.{Entry}
use Rattle.progress.specs.declared.tree.Node.{Node}
use Rattle.progress.specs.declared.tree.Node.TheVariants.{Leaf, Fork}

-- of two entries, the one with the lesser counters stays, and the other is passed on
pub data IsSifted (old entry new rest : Entry) : Type 0 where
  stays : new ≡ old → rest ≡ entry → NoLater old.time entry.time → IsSifted old entry new rest
  swaps : new ≡ entry → rest ≡ old → NoLater entry.time old.time → IsSifted old entry new rest

-- the top of the first comes before all of the second; the second is empty if the first is
pub record Leads (first second : TimeCounts) : Type 0 where
  pub empty : top first ≡ None → IsNone second
  pub before : (t : Time) (n : ℕ) → top first ≡ Some (counted_time t n) → IsFirst t second

-- the entry of a fork
abbrev pub entry_of : Node → Option Entry
entry_of Leaf = None
entry_of (Fork left here split right) = Some here
