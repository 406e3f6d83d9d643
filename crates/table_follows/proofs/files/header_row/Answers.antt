use Rattle.std.proofs.Common.{◌∙◌, ◌∷◌, ℕ, List, ap}
use Rattle.csv_cells.specs.Texts.{texts_of}
use Rattle.tables.specs.Answers.{header_of}
use Rattle.tables.specs.Files.{csv_text}
use Rattle.table_follows.proofs.Others.{nothing-decoded}
use Rattle.table_follows.proofs.files.header_row.Goals as goal

pub returns-in-Ok : goal.returns-in-Ok
returns-in-Ok c =
    let (rows, decoded, is) = c.in-Ok.ensures.decoded in
    is ∙ ap (λ (rs : List (List (List ℕ))). csv_text (header_of c.args.table.now c.args.with_epochs ∷ rs))
    (nothing-decoded c.args.table.now c.args.with_epochs (texts_of c.new-none.result) rows decoded)
