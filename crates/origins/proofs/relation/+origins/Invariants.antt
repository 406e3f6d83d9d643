use Rattle.std.proofs.Common.{◌+◌, ◌*◌}
use Rattle.expr_tree.specs.Views.{rel_tree}
use Rattle.expr_tree.proofs.Sizes.{rel_nodes}
use Rattle.origins.proofs.relation.+origins.Given as goal

abbrev pub decreases-origins_of : goal.decreases-origins_of
decreases-origins_of g l = 2 * rel_nodes (rel_tree l.relation.now)

abbrev pub decreases-looped : goal.decreases-looped
decreases-looped g l = 2 * rel_nodes (rel_tree l.body.now) + 1
