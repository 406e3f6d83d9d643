use Rattle.std.proofs.Common.{◌+◌, ◌*◌}
use Rattle.expr_tree.specs.Views.{rel_tree}
use Rattle.expr_tree.proofs.Sizes.{rel_nodes}
use Rattle.expr_tree.proofs.copy.+copy.Given as goal

abbrev pub decreases-copy_rel : goal.decreases-copy_rel
decreases-copy_rel g l = 3 * rel_nodes (rel_tree l.relation.now)

abbrev pub decreases-copy_boxed : goal.decreases-copy_boxed
decreases-copy_boxed g l = 3 * rel_nodes (rel_tree l.relation.now) + 1

abbrev pub decreases-copy_select : goal.decreases-copy_select
decreases-copy_select g l = 3 * rel_nodes (rel_tree l.of.now) + 2

abbrev pub decreases-copy_where : goal.decreases-copy_where
decreases-copy_where g l = 3 * rel_nodes (rel_tree l.of.now) + 2

abbrev pub decreases-copy_set_operation : goal.decreases-copy_set_operation
decreases-copy_set_operation g l = 3 * rel_nodes (rel_tree l.left.now) + 3 * rel_nodes (rel_tree l.right.now) + 2

abbrev pub decreases-copy_join : goal.decreases-copy_join
decreases-copy_join g l = 3 * rel_nodes (rel_tree l.left.now) + 3 * rel_nodes (rel_tree l.right.now) + 2

abbrev pub decreases-copy_group : goal.decreases-copy_group
decreases-copy_group g l = 3 * rel_nodes (rel_tree l.of.now) + 2
