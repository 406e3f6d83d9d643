use Rattle.std.proofs.Common.{◌≡◌, ◌++◌, take, map}
use Rattle.std.specs.List.{flat_map}
use Rattle.expr_tree.specs.Views.{let_tree, output_tree}
use Rattle.compile.specs.Unused.{idle_in_let, idle_in_output}
use Rattle.compile.proofs.unused.idle_of_all.Given as goal

abbrev pub invariant-loop-i : goal.invariant-loop-i
invariant-loop-i g l = l.places.items ≡ flat_map idle_in_let (map let_tree (take l.i l.lets))

abbrev pub invariant-loop-i-2 : goal.invariant-loop-i-2
invariant-loop-i-2 g l = l.places.items ≡ flat_map idle_in_let (map let_tree l.lets) ++ flat_map idle_in_output (map output_tree (take l.i l.outputs))
