use Rattle.std.proofs.Common.{◌+◌, ◌*◌}
use Rattle.parser.proofs.relation.+parse.Given as goal

abbrev pub decreases-parse_rel : goal.decreases-parse_rel
decreases-parse_rel g l = 4 * l.room

abbrev pub decreases-parse_rel_then : goal.decreases-parse_rel_then
decreases-parse_rel_then g l = 4 * l.room + 1

abbrev pub decreases-parse_select : goal.decreases-parse_select
decreases-parse_select g l = 4 * l.room + 2

abbrev pub decreases-parse_where : goal.decreases-parse_where
decreases-parse_where g l = 4 * l.room + 2

abbrev pub decreases-parse_set_operation : goal.decreases-parse_set_operation
decreases-parse_set_operation g l = 4 * l.room + 2

abbrev pub decreases-parse_join : goal.decreases-parse_join
decreases-parse_join g l = 4 * l.room + 2

abbrev pub decreases-parse_group : goal.decreases-parse_group
decreases-parse_group g l = 4 * l.room + 2

abbrev pub decreases-parse_distinct : goal.decreases-parse_distinct
decreases-parse_distinct g l = 4 * l.room + 2

abbrev pub decreases-parse_iterate : goal.decreases-parse_iterate
decreases-parse_iterate g l = 4 * l.room + 2

abbrev pub decreases-parse_closure : goal.decreases-parse_closure
decreases-parse_closure g l = 4 * l.room + 2
