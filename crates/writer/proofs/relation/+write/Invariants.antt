use Rattle.std.proofs.Common.{◌+◌, ◌*◌}
use Rattle.expr_tree.specs.Views.{rel_tree}
use Rattle.expr_tree.proofs.Sizes.{rel_nodes}
use Rattle.writer.proofs.relation.+write.Given as goal

abbrev pub decreases-write_rel : goal.decreases-write_rel
decreases-write_rel g l = 2 * rel_nodes (rel_tree l.relation.now)

abbrev pub decreases-write_select : goal.decreases-write_select
decreases-write_select g l = 2 * rel_nodes (rel_tree l.of.now) + 1

abbrev pub decreases-write_filter : goal.decreases-write_filter
decreases-write_filter g l = 2 * rel_nodes (rel_tree l.of.now) + 1

abbrev pub decreases-write_set_operation : goal.decreases-write_set_operation
decreases-write_set_operation g l = 2 * rel_nodes (rel_tree l.left.now) + 2 * rel_nodes (rel_tree l.right.now) + 1

abbrev pub decreases-write_join : goal.decreases-write_join
decreases-write_join g l = 2 * rel_nodes (rel_tree l.left.now) + 2 * rel_nodes (rel_tree l.right.now) + 1

abbrev pub decreases-write_group : goal.decreases-write_group
decreases-write_group g l = 2 * rel_nodes (rel_tree l.of.now) + 1

abbrev pub decreases-write_distinct : goal.decreases-write_distinct
decreases-write_distinct g l = 2 * rel_nodes (rel_tree l.of.now) + 1

abbrev pub decreases-write_loop : goal.decreases-write_loop
decreases-write_loop g l = 2 * rel_nodes (rel_tree l.start.now) + 2 * rel_nodes (rel_tree l.body.now) + 1
