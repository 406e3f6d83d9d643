use Rattle.std.proofs.Common.{◌≡◌, map, take}
use Rattle.expr_tree.specs.Views.{let_tree}
use Rattle.expr_tree.proofs.copy.copy_lets.Given as goal

abbrev pub invariant-loop-item : goal.invariant-loop-item
invariant-loop-item g l = map let_tree l.copy.items ≡ map let_tree (take l.item-index l.lets.items)
