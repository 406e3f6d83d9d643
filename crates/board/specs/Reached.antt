-- A state to which a run leads.
use Rattle.std.specs.Prelude.{◌<◌, ℕ, List, length}
use Rattle.semantics.specs.Dataflow.{IsDataflow}
use Rattle.semantics.specs.Graph.{Graph}
use Rattle.graph.specs.Shown.{shown_graph}
use Rattle.machine.specs.Engine.{network}
use Rattle.machine.specs.Run.{Run}
use Rattle.machine.specs.Step.{Step}
use Rattle.machine.specs.World.{World, opening}
use Rattle.board.specs.Shown.{Shown}
use Rattle.board.specs.Showing.{Shows}

-- some run of a graph on so many workers leads to a world that the board shows
pub record IsReachedOn (g : Graph) (workers : ℕ) (s : Shown) : Type 0 where
  pub flows : IsDataflow g
  pub some : 0 < workers
  pub steps : List Step
  pub world : World
  pub run : Run (network g workers) opening steps world
  pub shows : Shows s world

-- the same for the board's own graph and workers
abbrev pub IsReached : Shown → Type 0
IsReached s = IsReachedOn (shown_graph s.graph) (length s.sides) s
