use Rattle.std.proofs.Common.{◌≡◌, ◌≤◌, Some}
use Rattle.csv_strict.specs.Strict.{state_at}
use Rattle.csv_strict.proofs.checking.check_text.Given as goal

-- the state after the bytes so far
abbrev pub invariant-loop-i : goal.invariant-loop-i
invariant-loop-i l = record {
  reached : state_at l.text l.i ≡ Some l.state;
  opened : l.opened ≤ l.i;
}
