use Rattle.std.proofs.Common.{◌≡◌, drop}
use Rattle.query_kinds.specs.Listed as spec
use Rattle.query_kinds.proofs.tables.table_of.Given as goal

-- what is left decides
abbrev pub invariant-loop-table : goal.invariant-loop-table
invariant-loop-table l = spec.table_of l.tables l.name ≡ spec.table_of (drop l.table-index l.tables) l.name
