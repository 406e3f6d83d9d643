use Rattle.std.proofs.Common.{◌≡◌, ◌∙◌, ap, []}
use Rattle.rows.specs.FlatRows.{RowList}
use Rattle.collector.specs.Piles.{with_open}
use Rattle.collector.proofs.Piles.{with_none, Records}
use Rattle.collector.proofs.input_records.make_room.Goals as goal

abbrev rows_of : RowList → Records
rows_of r = r.rows

pub returns-clause-same : goal.returns-clause-same
returns-clause-same c =
    let none : c.replace-rows.new.dest.rows ≡ [] = ap rows_of (c.replace-rows.ensures.after ∙ c.in_ok-fresh.ensures) in
    let was = ap rows_of c.replace-rows.ensures.value in
    rw none (with_none _ ∙ c.in_ok-seal.ensures ∙ ap (with_open _) was)
