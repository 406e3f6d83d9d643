use Rattle.std.proofs.Common.{◌≡◌, ◌≤◌}
use Rattle.csv_strict.specs.Strict.{line_of}
use Rattle.csv_strict.proofs.checking.line_at.Given as goal

-- the line of the place that was come to
abbrev pub invariant-loop-i : goal.invariant-loop-i
invariant-loop-i l = l.line ≡ line_of l.text l.i
