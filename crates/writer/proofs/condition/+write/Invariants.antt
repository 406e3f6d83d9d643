use Rattle.std.proofs.Common.{◌+◌, ◌*◌}
use Rattle.expr_tree.specs.Views.{cond_tree}
use Rattle.writer.proofs.Sizes.{cond_nodes}
use Rattle.writer.proofs.condition.+write.Given as goal

abbrev pub decreases-write_operand : goal.decreases-write_operand
decreases-write_operand g l = 4 * cond_nodes (cond_tree l.condition.now) + 1

abbrev pub decreases-write_cond : goal.decreases-write_cond
decreases-write_cond g l = 4 * cond_nodes (cond_tree l.condition.now)

abbrev pub decreases-write_logical : goal.decreases-write_logical
decreases-write_logical g l = 4 * cond_nodes (cond_tree l.left.now) + 4 * cond_nodes (cond_tree l.right.now) + 3

abbrev pub decreases-write_not : goal.decreases-write_not
decreases-write_not g l = 4 * cond_nodes (cond_tree l.inner.now) + 2
