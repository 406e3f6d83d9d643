use Rattle.std.proofs.Common.{◌+◌, ◌*◌}
use Rattle.expr_tree.specs.Views.{scalar_tree}
use Rattle.writer.proofs.Sizes.{scalar_nodes}
use Rattle.writer.proofs.scalar.+write.Given as goal

abbrev pub decreases-write_operand : goal.decreases-write_operand
decreases-write_operand g l = 4 * scalar_nodes (scalar_tree l.scalar.now) + 1

abbrev pub decreases-write_scalar : goal.decreases-write_scalar
decreases-write_scalar g l = 4 * scalar_nodes (scalar_tree l.scalar.now)

abbrev pub decreases-write_binary : goal.decreases-write_binary
decreases-write_binary g l = 4 * scalar_nodes (scalar_tree l.left.now) + 4 * scalar_nodes (scalar_tree l.right.now) + 3

abbrev pub decreases-write_negation : goal.decreases-write_negation
decreases-write_negation g l = 4 * scalar_nodes (scalar_tree l.inner.now) + 2
