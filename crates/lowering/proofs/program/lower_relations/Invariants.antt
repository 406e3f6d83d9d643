use Rattle.std.proofs.Common.{length, take}
use Rattle.expr_tree.specs.PlainLists.{plain_lets}
use Rattle.semantics.specs.Lower.{lower_lets}
use Rattle.lowering.specs.Scopes.{ports_of}
use Rattle.lowering.specs.Steps.{AreLowered}
use Rattle.graph.specs.Views.{graph_of}
use Rattle.lowering.proofs.program.lower_relations.Given as goal

abbrev pub invariant-loop-i : goal.invariant-loop-i
invariant-loop-i g l = AreLowered (graph_of l.fn.made.items) (graph_of l.made.items) (ports_of l.scope) (lower_lets (plain_lets (take l.i l.lets)) (ports_of l.fn.scope) (length l.fn.made.items))
