use Rattle.std.proofs.Common.{◌≡◌, ◌∙◌, ℕ, List, Some, None, slice_get, sym, ap}
use Rattle.std.proofs.lemmas.Bool.{false≢true}
use Rattle.std.proofs.lemmas.Slice.Eq.{bytes_eq-Decides}
use Rattle.csv.specs.Records.{fields_of}
use Rattle.csv_cells.proofs.Rows.{field-same, some-once}
use Rattle.tables.proofs.header.is_cell.Goals as goal

pub returns-in-Some : goal.returns-in-Some
returns-in-Some c =
    let fields : List (List ℕ) = fields_of c.args.row.now in
    let found : List ℕ = c.in-Some.found.now in
    let cell : List ℕ = c.args.cell.now in
    let there : slice_get fields c.args.place ≡ Some found = sym (field-same fields c.args.place) ∙ sym c.in-Some.ensures.value in
    let decides = bytes_eq-Decides found cell in (
      λ t. there ∙ ap Some (decides.0 (sym c.eq.ensures ∙ t)),
      λ e. c.eq.ensures ∙ decides.1 (some-once found cell (sym there ∙ e)),
    )

pub returns-in-None : goal.returns-in-None
returns-in-None c =
    let fields : List (List ℕ) = fields_of c.args.row.now in
    let none : slice_get fields c.args.place ≡ None = sym (field-same fields c.args.place) ∙ sym c.in-None.ensures.value in
    (λ t. absurd (false≢true t), λ e. let other : None ≡ Some c.args.cell.now = sym none ∙ e in cc other)
