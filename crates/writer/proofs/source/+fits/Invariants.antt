use Rattle.std.proofs.Common.{◌+◌, ◌*◌}
use Rattle.expr_tree.specs.Views.{scalar_tree}
use Rattle.writer.proofs.Sizes.{scalar_nodes}
use Rattle.writer.proofs.source.+fits.Given as goal

abbrev pub decreases-scalar_fits : goal.decreases-scalar_fits
decreases-scalar_fits g l = 2 * scalar_nodes (scalar_tree l.scalar.now)

abbrev pub decreases-operand_fits : goal.decreases-operand_fits
decreases-operand_fits g l = 2 * scalar_nodes (scalar_tree l.scalar.now) + 1
