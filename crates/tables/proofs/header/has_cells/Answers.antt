use Rattle.std.proofs.Common.{◌≡◌, ◌∙◌, ◌<◌, [], ℕ, List, get_or, length, map, refl, sym, ap, arith}
use Rattle.std.proofs.lemmas.Bool.{false≢true}
use Rattle.std.proofs.lemmas.List.{get_or-map, length-map}
use Rattle.csv.specs.Records.{fields_of}
use Rattle.tables.proofs.Cells.{next-cell, same-cell, same-cells}
use Rattle.tables.proofs.header.has_cells.Goals as goal

pub returns-then-not-is_cell : goal.returns-then-not-is_cell
returns-then-not-is_cell c =
    let fields : List (List ℕ) = fields_of c.args.row.now in
    let items : List (List ℕ) = map (λ v. v.items) c.args.cells.now in
    let i : ℕ = c.loop-i.i in
    let lt : i < length c.args.cells.now = c.loop-i-test.true in
    let within : i < length items = omega (arith, length-map c.args.cells.now (λ v. v.items), lt) in
    let at : c.as_slice.result.now ≡ get_or items i [] = c.as_slice.ensures.value ∙ ap (λ v. v.items) c.index-cells-i.is ∙ sym (get_or-map (λ v. v.items) c.args.cells.now i c.index-cells-i.result [] lt) in
    (λ t. absurd (false≢true t), λ e. absurd (false≢true (sym c.if-not-is_cell.true ∙ c.is_cell.ensures.1 (same-cell fields items i c.as_slice.result.now within at e))))

pub loop-i-preserved : goal.loop-i-preserved
loop-i-preserved c =
    let fields : List (List ℕ) = fields_of c.args.row.now in
    let items : List (List ℕ) = map (λ v. v.items) c.args.cells.now in
    let i : ℕ = c.loop-i.i in
    let lt : i < length c.args.cells.now = c.loop-i-test.true in
    let within : i < length items = omega (arith, length-map c.args.cells.now (λ v. v.items), lt) in
    let at : c.as_slice.result.now ≡ get_or items i [] = c.as_slice.ensures.value ∙ ap (λ v. v.items) c.index-cells-i.is ∙ sym (get_or-map (λ v. v.items) c.args.cells.now i c.index-cells-i.result [] lt) in
    record { same = next-cell fields items i c.as_slice.result.now within at (c.is_cell.ensures.0 c.if-not-is_cell.false) c.loop-i.invariant.same }

pub returns : goal.returns
returns c =
    let fields : List (List ℕ) = fields_of c.args.row.now in
    let items : List (List ℕ) = map (λ v. v.items) c.args.cells.now in
    let sized : length items ≡ length c.args.cells.now = length-map c.args.cells.now (λ v. v.items) in
    let all : fields ≡ items = same-cells fields items c.loop-i.i (omega (arith, sized)) (omega (arith, sized, c.loop-i-test.false)) c.loop-i.invariant.same in
    (λ t. all, λ e. refl)
