use Rattle.std.proofs.Common.{map}
use Rattle.csv.specs.Records.{fields_of}
use Rattle.text_dictionary.specs.Texts.{texts_of}
use Rattle.csv_cells.specs.Cells.{Spells}
use Rattle.csv_cells.proofs.Rows.{spelled-once, if-some}
use Rattle.csv_cells.proofs.laws.through_numbers.Goals as goal

pub returns : goal.returns
returns c =
    let read : Spells c.args.columns.now (texts_of c.read_row.new.dictionary) (fields_of c.args.row.now) c.read_row.new.numbers.items = c.in_ok-read_row.ensures.spelled in
    if-some c.in_ok-written.written _ _ (λ v s. spelled-once c.args.columns.now (texts_of c.read_row.new.dictionary) (map (λ w. w.items) v.items) (fields_of c.args.row.now) c.read_row.new.numbers.items (rw c.as_slice.ensures.value at s) read) c.in_ok-written.ensures.written
