use Rattle.std.proofs.Common.{◌≡◌, ◌++◌}
use Rattle.sql.specs.Text.{declared_text, numbered}
use Rattle.sql.proofs.columns.push_numbered_declared.Given as goal

abbrev pub invariant-loop-i : goal.invariant-loop-i
invariant-loop-i l = l.text.items ≡ l.fn.text.items ++ numbered declared_text l.i
