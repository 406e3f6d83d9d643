use Rattle.std.proofs.Common.{◌≡◌, ◌++◌, ◌-◌}
use Rattle.field_origins.specs.Shown.{origins}
use Rattle.field_origins.specs.Sources.{columns_from}
use Rattle.field_origins.proofs.fields.columns.Given as goal

-- so far, and what is left
abbrev pub invariant-loop-column : goal.invariant-loop-column
invariant-loop-column l = origins l.fields.items ++ columns_from l.input l.column (l.arity - l.column) ≡ columns_from l.input 0 l.arity
