use Rattle.std.proofs.Common.{◌≡◌, drop}
use Rattle.schema_check.specs.Checked.{table_kinds}
use Rattle.schema_check.proofs.tables.table_kinds.Given as goal

-- what is left decides
abbrev pub invariant-loop-table : goal.invariant-loop-table
invariant-loop-table l = table_kinds l.tables l.name ≡ table_kinds (drop l.table-index l.tables) l.name
