-- When a sender may post changes: what it removes must be there, and what it adds must come from it.
use Rattle.std.specs.Prelude.{◌≡◌, ◌≢◌, ◌⊎◌, ◌≤◌, ◌<◌, ℕ, ◌+◌, ◌-◌, List, [], ◌∷◌}
use Rattle.semantics.specs.Graph.{Graph, input_count}
use Rattle.semantics.specs.Could.{Pointstamp, Location, CouldResultIn}
use Rattle.semantics.specs.Dataflow.{IsDataflow}
use Rattle.machine.specs.Views.{Changes, InOrder}

-- the pointstamp is at an input's vertex; vertices below `inputs` are the inputs
abbrev pub AtInput : (inputs : ℕ) → Pointstamp → Type 0
AtInput inputs p = (i : ℕ) × (i < inputs) × (p.location ≡ Location.vertex i)

-- These changes may be posted while each pointstamp is there `content` times. `feeder` is the sender that feeds, seals and closes.
pub record MayPost (could : Pointstamp → Pointstamp → Type 0) (inputs feeder : ℕ) (content : Pointstamp → ℕ) (b : Changes) : Type 0 where
  -- what is removed is there
  pub there : (p : Pointstamp) → b.removes p ≤ content p
  -- what is added differs from a pointstamp that could result in it; that one is removed by these changes or, if the feeder adds, is there at an
  -- input's vertex
  pub justified : (q : Pointstamp) → 0 < b.adds q → (p : Pointstamp) × (p ≢ q) × could p q
      × ((0 < b.removes p) ⊎ ((b.sender ≡ feeder) × AtInput inputs p × (0 < content p)))
  -- only the feeder adds or removes pointstamps at inputs' vertices
  pub feeder_only : (p : Pointstamp) → AtInput inputs p → 0 < b.adds p + b.removes p → b.sender ≡ feeder

-- how often each pointstamp is there after these changes
abbrev pub content_after : (Pointstamp → ℕ) → Changes → Pointstamp → ℕ
content_after content b p = content p + b.adds p - b.removes p

-- each of these changes may be posted after those before it
abbrev pub ArePosted : (could : Pointstamp → Pointstamp → Type 0) → (inputs feeder : ℕ) → (content : Pointstamp → ℕ) → List Changes → Type 0
ArePosted could inputs feeder content [] = Unit {0}
ArePosted could inputs feeder content (b ∷ log) =
    MayPost could inputs feeder content b × ArePosted could inputs feeder (content_after content b) log

-- the changes were posted over a dataflow graph, and the viewer has applied some of them, each sender's in order
pub record IsView (g : Graph) (workers : ℕ) (first : Pointstamp → ℕ) (log : List Changes) : Type 0 where
  pub flows : IsDataflow g
  pub some : 0 < workers
  pub posted : ArePosted (CouldResultIn g) (input_count g) workers first log
  pub order : InOrder log
