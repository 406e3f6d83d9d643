-- Which requests may be delivered while these pointstamps are active.
use Rattle.std.specs.Prelude.{◌≡◌, ℕ, List, Some, slice_get}
use Rattle.semantics.specs.Graph.{Graph}
use Rattle.semantics.specs.Could.{CouldResultIn, IsTimeAt, Location, NoOtherOf, Pointstamp}
use Rattle.machine.specs.Active.{request_pointstamp}
use Rattle.machine.specs.World.{Request}
use Rattle.semantics.specs.Time.{IsAtMost}

-- no other of these pointstamps could result in the request's
abbrev pub IsDeliverable : Graph → (these : Pointstamp → Type 0) → Request → Type 0
IsDeliverable g these r = NoOtherOf (CouldResultIn g) these (request_pointstamp r)

-- the request at this place may be delivered
abbrev pub HasDeliverable : Graph → (these : Pointstamp → Type 0) → List Request → (place : ℕ) → Type 0
HasDeliverable g these rs place = (r : Request) × (slice_get rs place ≡ Some r) × IsDeliverable g these r

-- none of the requests may be delivered
abbrev pub NoneDeliverable : Graph → (these : Pointstamp → Type 0) → List Request → Type 0
NoneDeliverable g these rs = (place : ℕ) (r : Request) → slice_get rs place ≡ Some r → IsDeliverable g these r → ⊥

-- the requests' vertices are the graph's, and their times have the depth
abbrev pub AreAtVertices : Graph → List Request → Type 0
AreAtVertices g rs = (place : ℕ) (r : Request) → slice_get rs place ≡ Some r → IsTimeAt g (Location.vertex r.vertex) r.time

-- the request at this place, which may not be delivered
pub record IsBlocked (g : Graph) (these : Pointstamp → Type 0) (rs : List Request) (place : ℕ) : Type 0 where
  pub request : Request
  pub there : slice_get rs place ≡ Some request
  pub blocked : IsDeliverable g these request → ⊥

-- this place has a request of the same vertex, whose time is at or before that of r
pub record StandsBefore (rs : List Request) (r : Request) (place : ℕ) : Type 0 where
  pub request : Request
  pub there : slice_get rs place ≡ Some request
  pub vertex : request.vertex ≡ r.vertex
  pub time : IsAtMost request.time r.time
