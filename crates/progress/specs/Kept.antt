-- What a tracker by location keeps.
use Rattle.std.specs.Prelude.{◌≡◌, ℕ, ◌+◌, ◌<◌, Bool, true, List, Some, slice_get, slice_index_or, [], length}
use Rattle.semantics.specs.Time.{Time}
use Rattle.semantics.specs.Graph.{Graph, edge_count}
use Rattle.semantics.specs.Could.{Location, Pointstamp, CouldResultIn}
use Rattle.machine.specs.Active.{one_if_same}
use Rattle.progress.specs.TimeCounts.{TimeCounts, count}
use Rattle.progress.specs.Content.{AllAt, times_at}

-- a location is in the list
abbrev pub Among : List Location → Location → Type 0
Among ls l = (i : ℕ) × (slice_get ls i ≡ Some l)

-- the bag has a time
abbrev pub HasSome : TimeCounts → Type 0
HasSome bag = (t : Time) × (0 < count bag t)

-- a time at a location
abbrev pub stamp : Location → Time → Pointstamp
stamp l t = record { time = t; location = l }

-- there is a tree for each edge and each vertex; what is active is known; and the locations where something is active are listed
pub record IsKept (g : Graph) (edges vertices : List TimeCounts) (listed : List Location) : Type 0 where
  pub edges_long : length edges ≡ edge_count g
  pub vertices_long : length vertices ≡ length g
  pub known : AllAt g (times_at edges vertices)
  pub where_active : (q : Pointstamp) → 0 < times_at edges vertices q → Among listed q.location

-- no time in the bag could result in p or, if `other`, none that makes another pointstamp than p
abbrev pub IsClearAt : Graph → TimeCounts → Location → Pointstamp → (other : Bool) → Type 0
IsClearAt g bag l p other = (t : Time) → 0 < count bag t → (other ≡ true → stamp l t ≡ p → ⊥) → CouldResultIn g (stamp l t) p → ⊥

-- some time in the bag could
pub record IsBlockedAt (g : Graph) (bag : TimeCounts) (l : Location) (p : Pointstamp) (other : Bool) : Type 0 where
  pub by : Time
  pub active : 0 < count bag by
  pub differs : other ≡ true → stamp l by ≡ p → ⊥
  pub could : CouldResultIn g (stamp l by) p

-- one more occurrence of p
abbrev pub AddsOne : (old new : Pointstamp → ℕ) → Pointstamp → Type 0
AddsOne old new p = (q : Pointstamp) → new q ≡ one_if_same q p + old q

-- the location has a tree
abbrev pub IsIn : (edges vertices : ℕ) → Location → Type 0
IsIn edges vertices (Location.edge e) = e < edges
IsIn edges vertices (Location.vertex v) = v < vertices

-- the lists are equally long, and differ only at that number
pub record IsChangedAt (old new : List TimeCounts) (number : ℕ) : Type 0 where
  pub long : length new ≡ length old
  pub others : (i : ℕ) → (i ≡ number → ⊥) → slice_index_or new i [] ≡ slice_index_or old i []
