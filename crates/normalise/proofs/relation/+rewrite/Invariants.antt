use Rattle.std.proofs.Common.{◌+◌, ◌*◌}
use Rattle.expr_tree.specs.Views.{rel_tree}
use Rattle.expr_tree.proofs.Sizes.{rel_nodes}
use Rattle.normalise.proofs.relation.+rewrite.Given as goal

abbrev pub decreases-rewritten : goal.decreases-rewritten
decreases-rewritten g l = 3 * rel_nodes (rel_tree l.relation)

abbrev pub decreases-rewritten_in_box : goal.decreases-rewritten_in_box
decreases-rewritten_in_box g l = 3 * rel_nodes (rel_tree l.place.value) + 1

abbrev pub decreases-rewritten_loop : goal.decreases-rewritten_loop
decreases-rewritten_loop g l = 3 * rel_nodes (rel_tree l.start.value) + 3 * rel_nodes (rel_tree l.body.value) + 2
