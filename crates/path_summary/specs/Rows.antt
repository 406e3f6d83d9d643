-- A row of the table while it is made: the entries from one vertex to each vertex.
use Rattle.std.specs.Prelude.{◌≡◌, ℕ, ◌+◌, ◌^◌, ◌<◌, nat_lt, nat_eq, Bool, true, false, cond, ◌&&◌}
use Rattle.std.specs.Prelude.{◌||◌, List, length, Option, Some, None, slice_get, slice_set, slice_index_or}
use Rattle.semantics.specs.Limits.{max_loops}
use Rattle.semantics.specs.Summary.{Summary, then_action}
use Rattle.semantics.specs.Time.{Action, last}
use Rattle.semantics.proofs.PathSummaries.{MayTake}
use Rattle.path_summary.specs.Order.{in_order}
use Rattle.path_summary.specs.Linking.{Link, Links}

-- f takes counters to ones at or before those of h, as far as the two show: they keep the same number and h adds more, or adds the same and has no
-- lesser tail; or h keeps fewer and raises the last of them
abbrev pub is_below : Summary → Summary → Bool
is_below f h =
    cond (nat_eq f.keep h.keep) (nat_lt f.add h.add || (nat_eq f.add h.add && in_order f.tail h.tail)) (nat_lt h.keep f.keep && nat_lt 0 h.add)

-- the entry at a vertex
abbrev pub entry : List (Option Summary) → ℕ → Option Summary
entry row x = slice_index_or row x None

-- the entry at x exists, and is at or below f
pub record HasBelow (row : List (Option Summary)) (x : ℕ) (f : Summary) : Type 0 where
  pub least : Summary
  pub known : entry row x ≡ Some least
  pub below : is_below least f ≡ true

-- a summary may be followed by the action, and h is the result
pub record Follows (a : Action) (f h : Summary) : Type 0 where
  pub is : h ≡ then_action a f
  pub may : MayTake a f

-- With 32-bit numbers and as many places as loops may be inside one another, a summary may be followed by the action: the counter that it needs
-- exists, and there is room for what is added.
abbrev pub HasRoom : Action → Summary → Type 0
HasRoom Action.stay f = Unit {0}
HasRoom Action.enter f = length f.tail < max_loops
HasRoom Action.leave f = 0 < f.keep + length f.tail
HasRoom Action.next f = (0 < f.keep + length f.tail) × (f.add + 1 < 2 ^ 32) × (last f.tail + 1 < 2 ^ 32)

-- the row before and after an edge is tried: nothing was to do, or the entry there was not at or below
pub data Stepped (k : Link) (old new : List (Option Summary)) : Type 0 where
  same : new ≡ old → ((f : Summary) → entry old k.source ≡ Some f → HasBelow old k.target (then_action k.acts f)) → Stepped k old new
  set : (f h : Summary) → entry old k.source ≡ Some f → Follows k.acts f h → ((g : Summary) → entry old k.target ≡ Some g → is_below g h ≡ false)
      → new ≡ slice_set old k.target (Some h) → Stepped k old new

-- the edge leads below no entry
pub record Closes (k : Link) (row : List (Option Summary)) : Type 0 where
  pub step : (f : Summary) → entry row k.source ≡ Some f → MayTake k.acts f × HasBelow row k.target (then_action k.acts f)

-- no edge leads below an entry
pub record IsClosed (w : Links) (row : List (Option Summary)) : Type 0 where
  pub steps : (e : ℕ) (k : Link) → slice_get w.edges e ≡ Some k → Closes k row
