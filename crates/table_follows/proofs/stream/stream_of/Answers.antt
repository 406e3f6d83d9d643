use Rattle.std.proofs.Common.{◌≡◌, ◌∙◌, ℕ, List, get_or, ap, subst}
use Rattle.std.proofs.lemmas.List.{get_or_default}
use Rattle.std.proofs.lemmas.Option.{slice_get-get_or}
use Rattle.csv_cells.specs.Cells.{plain}
use Rattle.csv_cells.specs.declared.column.Column.{Column}
use Rattle.schema.specs.declared.tables.Epochs.TheVariants.{By}
use Rattle.schema.specs.declared.tables.Table.{Table}
use Rattle.table_follows.proofs.stream.stream_of.Goals as goal

pub returns-in-By-clause-stream : goal.returns-in-By-clause-stream
returns-in-By-clause-stream c =
    let tables : List Table = c.args.tables.now in
    let place : ℕ = c.loop-place.place in
    let table : Table = get_or tables place c.index-tables-place.result in
    record {
      table = table;
      there = slice_get-get_or tables place c.index-tables-place.result c.loop-place-test.true;
      by = subst (λ (t : Table). t.epochs ≡ By c.in-By.column)
          (get_or_default tables place _ c.index-tables-place.result c.loop-place-test.true) c.in-By.is;
      kind = c.cells_at-cells.ensures ∙ ap (λ (cs : List Column). get_or cs c.in-By.column plain) c.as_slice.ensures.value;
    }
