use Rattle.std.proofs.Common.{◌≡◌, ◌++◌}
use Rattle.sql.specs.Text.{made_column_text, numbered}
use Rattle.sql.proofs.columns.push_numbered_made.Given as goal

abbrev pub invariant-loop-i : goal.invariant-loop-i
invariant-loop-i l = l.text.items ≡ l.fn.text.items ++ numbered (made_column_text l.dialect) l.i
