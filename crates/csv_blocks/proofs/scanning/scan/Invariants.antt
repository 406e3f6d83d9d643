use Rattle.std.proofs.Common.{◌≡◌, ◌<◌, ◌≤◌, Some, take}
use Rattle.csv_strict.specs.Strict.{run}
use Rattle.csv_strict.specs.declared.state.State.TheVariants.{Record}
use Rattle.csv_blocks.proofs.scanning.scan.Given as goal

-- the bytes so far
abbrev pub invariant-loop-i : goal.invariant-loop-i
invariant-loop-i l = record {
  reached : run (Some l.fn.before) (take l.i l.bytes) ≡ Some l.state;
  within : l.count ≤ l.i;
  ends : 0 < l.count → run (Some l.fn.before) (take l.count l.bytes) ≡ Some Record;
}
