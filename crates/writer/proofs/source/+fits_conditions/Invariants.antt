use Rattle.std.proofs.Common.{◌+◌, ◌*◌}
use Rattle.expr_tree.specs.Views.{cond_tree}
use Rattle.writer.proofs.Sizes.{cond_nodes}
use Rattle.writer.proofs.source.+fits_conditions.Given as goal

abbrev pub decreases-cond_fits : goal.decreases-cond_fits
decreases-cond_fits g l = 2 * cond_nodes (cond_tree l.condition.now)

abbrev pub decreases-side_fits : goal.decreases-side_fits
decreases-side_fits g l = 2 * cond_nodes (cond_tree l.condition.now) + 1
