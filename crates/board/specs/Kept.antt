-- What a board keeps: some run leads to the world that it shows, and its views are of exactly the pointstamps that are active there.
use Rattle.std.specs.Prelude.{◌≡◌, ◌<◌, ◌≤◌, ◌+◌, ℕ, suc, Bool, false, cond, List, [], ◌∷◌, length}
use Rattle.semantics.specs.Graph.{Graph, input_count}
use Rattle.semantics.specs.Could.{Pointstamp}
use Rattle.semantics.specs.Dataflow.{IsDataflow}
use Rattle.graph.specs.Shown.{shown_graph}
use Rattle.machine.specs.World.{World, opening}
use Rattle.machine.specs.Active.{active_count}
use Rattle.machine.specs.Step.{Step, Allowed, after_step}
use Rattle.machine.specs.Run.{Run}
use Rattle.machine.specs.Engine.{network}
use Rattle.semantics.specs.Limits.{max_workers}
use Rattle.board.specs.Shown.{EmitsBehind, InputShown, Shown, net}
use Rattle.machine.specs.InTransit.{FedFits}
use Rattle.semantics.specs.PortArity.{IsTyped}
use Rattle.board.specs.Fitting.{FitsPlace, arity_in}
use Rattle.board.specs.Showing.{Shows, AreSidesOf, EachShard}
use Rattle.board.specs.Seals.{AreSeenBelow, HavePassed}
use Rattle.views.specs.Waiting.{IsSeenBy, Waiting}

-- how many inputs are open
abbrev pub open_count : List InputShown → ℕ
open_count [] = 0
open_count (x ∷ xs) = cond x.closed 0 1 + open_count xs

pub record IsKept (graph : Graph) (content : Pointstamp → ℕ) (s : Shown) : Type 0 where
  pub flows : IsDataflow (shown_graph s.graph)
  pub some : 0 < length s.sides
  pub few : length s.sides ≤ max_workers
  pub same : graph ≡ shown_graph s.graph
  pub inputs : length s.inputs ≡ input_count (shown_graph s.graph)
  pub room : length s.emitted ≡ length (shown_graph s.graph)
  pub sides : AreSidesOf s (length s.sides)
  pub typed : IsTyped (shown_graph s.graph) (arity_in s.graph)
  pub fitting : EachShard s (FitsPlace s.graph)
  pub steps : List Step
  pub world : World
  pub run : Run (network (shown_graph s.graph) (length s.sides)) opening steps world
  pub shows : Shows s world
  pub fed : FedFits (shown_graph s.graph) (arity_in s.graph) world
  pub tracked : (p : Pointstamp) → content p ≡ active_count (net s) world p

-- The same, and: the views are for that many workers, with room for the closes of all inputs; `passed` epochs have passed, and the first worker sees
-- them as passed.
pub record Keeps (graph : Graph) (viewers : ℕ) (content : Pointstamp → ℕ) (waiting : Waiting) (room : ℕ) (late : Bool) (passed : ℕ) (s : Shown) : Type 0 where
  pub kept : IsKept graph content s
  pub viewers_are : viewers ≡ length s.sides
  pub closes : open_count s.inputs ≤ room
  pub prompt : late ≡ false → (w k : ℕ) → w < viewers → k < suc viewers → waiting w k ≡ []
  pub passed_are : HavePassed s passed
  pub passed_seen : AreSeenBelow graph (IsSeenBy content waiting viewers 0) s passed

-- From whatever world the board showed before, the step is allowed and leads to one that it shows after. What was emitted stays.
pub record Goes (s : Shown) (taken : Step) (t : Shown) : Type 0 where
  pub step : (w : World) → Shows s w → Allowed (net s) w taken × Shows t (after_step (net s) w taken)
  pub graph : t.graph ≡ s.graph
  pub workers : length t.sides ≡ length s.sides
  pub emitted : EmitsBehind s.emitted t.emitted
