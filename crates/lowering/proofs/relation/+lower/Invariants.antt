use Rattle.std.proofs.Common.{◌+◌, ◌*◌}
use Rattle.expr_tree.specs.Views.{rel_tree}
use Rattle.expr_tree.proofs.Sizes.{rel_nodes}
use Rattle.lowering.proofs.relation.+lower.Given as goal

abbrev pub decreases-lower_rel : goal.decreases-lower_rel
decreases-lower_rel g l = 2 * rel_nodes (rel_tree l.relation.now)

abbrev pub decreases-lower_loop : goal.decreases-lower_loop
decreases-lower_loop g l = 2 * rel_nodes (rel_tree l.start.now) + 2 * rel_nodes (rel_tree l.body.now) + 1
