use Rattle.std.proofs.Common.{◌+◌, ◌*◌}
use Rattle.expr_tree.specs.Views.{rel_tree}
use Rattle.expr_tree.proofs.Sizes.{rel_nodes}
use Rattle.kind_check.proofs.relation.+kinds.Given as goal

abbrev pub decreases-kinds_of : goal.decreases-kinds_of
decreases-kinds_of g l = 3 * rel_nodes (rel_tree l.relation.now)

abbrev pub decreases-turned : goal.decreases-turned
decreases-turned g l = 3 * rel_nodes (rel_tree l.body.now) + 1

abbrev pub decreases-settled : goal.decreases-settled
decreases-settled g l = 3 * rel_nodes (rel_tree l.body.now) + 2
