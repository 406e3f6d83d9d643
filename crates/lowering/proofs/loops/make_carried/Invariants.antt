use Rattle.std.proofs.Common.{◌≡◌, ◌≤◌, ◌+◌, ◌*◌, ◌++◌, length, take}
use Rattle.semantics.specs.Lower.{carry, held_turns}
use Rattle.lowering.specs.Scopes.{ports_of}
use Rattle.graph.specs.Limits.{max_vertices}
use Rattle.graph.specs.Views.{graph_of}
use Rattle.lowering.proofs.loops.make_carried.Given as goal

abbrev pub invariant-loop-i : goal.invariant-loop-i
invariant-loop-i l = (length l.fn.made.items + 4 * l.i ≤ max_vertices) × (graph_of l.made.items ≡ graph_of l.fn.made.items ++ carry (held_turns l.turns l.once) (ports_of l.scope) l.depth (length l.fn.made.items) (take l.i l.names))
