use Rattle.std.proofs.Common.{◌≡◌, ◌++◌, drop}
use Rattle.schema_check.specs.Checked.{column_kinds}
use Rattle.schema_check.proofs.tables.column_kinds.Given as goal

-- the kinds so far, and those of what is left
abbrev pub invariant-loop-column : goal.invariant-loop-column
invariant-loop-column l = column_kinds l.columns ≡ l.kinds.items ++ column_kinds (drop l.column-index l.columns)
