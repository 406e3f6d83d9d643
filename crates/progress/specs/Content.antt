-- Active pointstamps as a multiset: how often each is active.
use Rattle.std.specs.Prelude.{◌≡◌, ℕ, ◌<◌, Bool, true, List, slice_index_or, []}
use Rattle.semantics.specs.Multiset.{total}
use Rattle.semantics.specs.Graph.{Graph}
use Rattle.semantics.specs.Could.{Location, Pointstamp, IsTimeAt, CouldResultIn}
use Rattle.machine.specs.Active.{one_if_same}
use Rattle.progress.specs.TimeCounts.{TimeCounts, count}

-- how often a pointstamp is in a list
abbrev pub times_in : List Pointstamp → Pointstamp → ℕ
times_in active q = total (one_if_same q) active

-- the times at a location, by the lists for edges and for vertices
abbrev pub bag_at : (edges vertices : List TimeCounts) → Location → TimeCounts
bag_at edges vertices (Location.edge e) = slice_index_or edges e []
bag_at edges vertices (Location.vertex v) = slice_index_or vertices v []

-- how often a pointstamp is among these
abbrev pub times_at : (edges vertices : List TimeCounts) → Pointstamp → ℕ
times_at edges vertices q = count (bag_at edges vertices q.location) q.time

-- each of these has a location of the graph, and a time of its depth
abbrev pub AllAt : Graph → (Pointstamp → ℕ) → Type 0
AllAt g content = (q : Pointstamp) → 0 < content q → IsTimeAt g q.location q.time

-- none of these could result in p or, if `other`, none but p itself
abbrev pub IsClear : Graph → (content : Pointstamp → ℕ) → Pointstamp → (other : Bool) → Type 0
IsClear g content p other = (q : Pointstamp) → 0 < content q → (other ≡ true → q ≡ p → ⊥) → CouldResultIn g q p → ⊥

-- one of these could result in p; if `other`, one that is different from p
pub record IsBlocked (g : Graph) (content : Pointstamp → ℕ) (p : Pointstamp) (other : Bool) : Type 0 where
  pub by : Pointstamp
  pub active : 0 < content by
  pub differs : other ≡ true → by ≡ p → ⊥
  pub could : CouldResultIn g by p
