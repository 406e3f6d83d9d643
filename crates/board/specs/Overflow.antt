-- Where computing an event would make a count too large.
use Rattle.std.specs.Prelude.{ℕ}
use Rattle.semantics.specs.Graph.{Graph, in_port, target, vertex}
use Rattle.machine.specs.World.{Event, World}
use Rattle.vertices.specs.Outs.{GoesOver, WouldNotifyOver}
use Rattle.graph.specs.Shown.{shown_graph}
use Rattle.events.specs.Jobs.{Pass}
use Rattle.board.specs.Shown.{Shown}
use Rattle.board.specs.Showing.{Shows}

-- A count of what the worker's shard would have absorbed of the message, or of what it would send, would be above the greatest count. A notification
-- absorbs nothing.
abbrev pub Overflows : Graph → World → (worker : ℕ) → Event → Type 0
Overflows g w k (Event.arrival m) = GoesOver (vertex g (target g m.edge)).kind m.time (w.absorbed k (target g m.edge)) (in_port g m.edge) m.records
Overflows g w k (Event.notification n) = WouldNotifyOver (vertex g n.vertex).kind n.time (w.absorbed k n.vertex)

-- it would in each world that the board shows
abbrev pub DoesOverflow : Shown → Pass → Type 0
DoesOverflow s p = (w : World) → Shows s w → Overflows (shown_graph s.graph) w p.worker p.job.happening

-- it would in none
abbrev pub NeverOverflows : Shown → Pass → Type 0
NeverOverflows s p = (w : World) → Shows s w → Overflows (shown_graph s.graph) w p.worker p.job.happening → ⊥
