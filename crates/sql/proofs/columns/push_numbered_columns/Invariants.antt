use Rattle.std.proofs.Common.{◌≡◌, ◌++◌}
use Rattle.sql.specs.Text.{column_text, numbered}
use Rattle.sql.proofs.columns.push_numbered_columns.Given as goal

abbrev pub invariant-loop-i : goal.invariant-loop-i
invariant-loop-i l = l.text.items ≡ l.fn.text.items ++ numbered column_text l.i
