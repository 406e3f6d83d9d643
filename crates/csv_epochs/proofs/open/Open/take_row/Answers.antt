use Rattle.std.proofs.Common.{◌≡◌, ◌++◌, ℕ, List, [], ◌∷◌, Some, refl, take, inr}
use Rattle.csv_epochs.specs.Cells.{after, read_all}
use Rattle.csv_epochs.specs.Rows.{reading_of, row_cell}
use Rattle.csv_epochs.proofs.Taking.{amid, row-stuck, tail-cells, tail-ends, tail-more}
use Rattle.csv_epochs.proofs.open.Open.take_row.Goals as goal

pub returns-in-Err-clause-refused : goal.returns-in-Err-clause-refused
returns-in-Err-clause-refused c =
    row-stuck c.args.self.now (record c.args.self.now { row = c.read_on.new.self }) c.args.piece.now c.in-Err.stop (amid c.args.self.now c.requires.kept c.requires.stage) c.in-Err.ensures.refused refl refl

pub returns-in_ok-extend_from_slice-in-Ok-Some-clause-ended : goal.returns-in_ok-extend_from_slice-in-Ok-Some-clause-ended
returns-in_ok-extend_from_slice-in-Ok-Some-clause-ended c =
    let o = c.args.self.now in
    let a = amid o c.requires.kept c.requires.stage in
    let part : List ℕ = take c.in-Ok-Some.count c.args.piece.now in
    let column = o.row.column in
    let reads = rw c.in-Ok-Some.field-0-is at c.in-Ok-Some.ensures.reads in
    let same : c.read_on.new.self.column ≡ column = reads.0 in
    let cell = row_cell c.read_on.new.self in
    let all : read_all column (o.tail.items ++ part) ≡ Some (after column (cell ∷ [])) =
    tail-more column o.tail.items part (reading_of o.row) (Some (after column (cell ∷ []))) a.row reads.3 in
    let tail : c.extend_from_slice.new.self.items ≡ o.tail.items ++ part = c.in_ok-extend_from_slice-in-Ok-Some.ensures.items in
    record {
      stage = a.stage;
      head = rw same a.head;
      whole = rw same a.whole;
      ends = rw tail (tail-ends column (o.tail.items ++ part) cell all);
      row = rw (same, tail) (tail-cells column (o.tail.items ++ part) cell all);
    }

pub returns-in_ok-extend_from_slice-in-Ok-None-clause-ended : goal.returns-in_ok-extend_from_slice-in-Ok-None-clause-ended
returns-in_ok-extend_from_slice-in-Ok-None-clause-ended c =
    let o = c.args.self.now in
    let a = amid o c.requires.kept c.requires.stage in
    let column = o.row.column in
    let reads = rw c.in-Ok-None.field-0-is at c.in-Ok-None.ensures.reads in
    let same : c.read_on.new.self.column ≡ column = reads.0 in
    let tail : c.extend_from_slice-in-Ok-None.new.self.items ≡ o.tail.items ++ c.args.piece.now = c.in_ok-extend_from_slice-in-Ok-None.ensures.items in
    inr (record {
      stage = a.stage;
      head = rw same a.head;
      whole = rw same a.whole;
      row = rw (same, tail) (tail-more column o.tail.items c.args.piece.now (reading_of o.row) (Some (reading_of c.read_on.new.self)) a.row reads.1);
    })
