use Rattle.std.specs.Prelude.{map}
use Rattle.graph.specs.Locations.{location_of}
use Rattle.graph.specs.Shown.{shown_graph}
use Rattle.progress.proofs.Places.{ClearAmong}
use Rattle.progress.proofs.located.is_clear.Given as goal

abbrev pub invariant-loop-i : goal.invariant-loop-i
invariant-loop-i l = ClearAmong (shown_graph l.fn.paths) l.fn.edges l.fn.vertices (map location_of l.fn.listed) l.fn.p l.fn.other l.i
