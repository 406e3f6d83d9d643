use Rattle.std.proofs.Common.{◌≡◌, ◌++◌}
use Rattle.sql.specs.Text.{place_text, numbered}
use Rattle.sql.proofs.columns.push_numbered_places.Given as goal

abbrev pub invariant-loop-i : goal.invariant-loop-i
invariant-loop-i l = l.text.items ≡ l.fn.text.items ++ numbered place_text l.i
