use Rattle.std.proofs.Common.{◌≡◌, Some, take}
use Rattle.csv_epochs.specs.Cells.{read}
use Rattle.csv_epochs.specs.Rows.{reading_of}
use Rattle.csv_epochs.proofs.row.Row.read_on.Given as goal

-- what was read so far
abbrev pub invariant-loop-i : goal.invariant-loop-i
invariant-loop-i l = record {
  column : l.self.column ≡ l.fn.self.column;
  reads : read l.fn.self.column (Some (reading_of l.fn.self)) (take l.i l.piece) ≡ Some (reading_of l.self);
}
