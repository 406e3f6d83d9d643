use Rattle.std.proofs.Common.{◌≡◌, ◌≤◌, ◌++◌, false, length}
use Rattle.csv_epochs.specs.Epochs.{KeepsHeader}
use Rattle.csv_epochs.specs.Opened.{IsKept, held_of, text_in}
use Rattle.csv_epochs.proofs.open.Open.take.Given as goal

-- what is held, and what is left of the piece
abbrev pub invariant-loop-self : goal.invariant-loop-self
invariant-loop-self l = record {
  kept : IsKept l.self;
  few : length l.rest ≤ length l.piece;
  header : KeepsHeader (held_of l.fn.self false) (held_of l.self false);
  all : text_in l.fn.self ++ l.piece ≡ text_in l.self ++ l.rest;
  column : l.self.row.column ≡ l.fn.self.row.column;
  lines : l.self.lines ≡ l.fn.self.lines;
}

abbrev pub decreases-loop-self : goal.decreases-loop-self
decreases-loop-self l = length l.rest
