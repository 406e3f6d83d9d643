use Rattle.std.proofs.Common.{map}
use Rattle.expr_tree.specs.Plain.{plain_input}
use Rattle.sql.proofs.WidthsOfTables.{AreCounted}
use Rattle.sql.proofs.statement.table_widths.Given as goal

abbrev pub invariant-loop-i : goal.invariant-loop-i
invariant-loop-i g l = AreCounted (map plain_input l.inputs) l.made l.i l.widths.items
