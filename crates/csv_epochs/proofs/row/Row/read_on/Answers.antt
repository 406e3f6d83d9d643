use Rattle.std.proofs.Common.{◌∙◌, ℕ, get_or, Some, refl, sym, ap, arith, rules}
use Rattle.csv_epochs.specs.Cells.{reach}
use Rattle.csv_epochs.specs.Rows.{reading_of}
use Rattle.csv_epochs.proofs.Readings.{no-byte, read-stuck, row-ends, row-moves}
use Rattle.csv_epochs.proofs.row.Row.read_on.Goals as goal

pub loop-i-init : goal.loop-i-init
loop-i-init c = record { column = refl; reads = no-byte _ _ }

pub returns-in_default-clause-refused : goal.returns-in_default-clause-refused
returns-in_default-clause-refused c =
    read-stuck c.args.self.now.column (Some (reading_of c.args.self.now)) c.args.piece.now c.loop-i.i (reading_of c.loop-i.self) c.loop-i-test.true c.loop-i.invariant.reads
    (sym c.next.ensures ∙ c.in_default.is)

pub returns-then-eq-clause-reads : goal.returns-then-eq-clause-reads
returns-then-eq-clause-reads c = (
  c.loop-i.invariant.column,
  omega arith,
  omega arith,
  row-ends c.args.self.now.column (Some (reading_of c.args.self.now)) c.args.piece.now c.loop-i.i c.loop-i.self.state c.loop-i.self.place c.loop-i.self.cell.items c.in-Some.next
      c.loop-i-test.true c.loop-i.invariant.reads (sym c.next.ensures ∙ c.in-Some.is) (search rules),
)

pub loop-i-preserved : goal.loop-i-preserved
loop-i-preserved c = record {
  column = c.in_ok-step.ensures.column ∙ c.loop-i.invariant.column;
  reads =
      row-moves c.args.self.now.column (Some (reading_of c.args.self.now)) c.args.piece.now c.loop-i.i (reading_of c.loop-i.self) (reading_of c.step.new.self) c.in-Some.next
      c.loop-i-test.true c.loop-i.invariant.reads (sym c.next.ensures ∙ c.in-Some.is)
      (c.in_ok-step.ensures.reading ∙ ap (λ (k : ℕ). reach k (reading_of c.loop-i.self) (get_or c.args.piece.now c.loop-i.i 0) c.in-Some.next) c.loop-i.invariant.column);
}
