use Rattle.std.proofs.Common.{rules, inl, inr, length, ℕ, ℤ, List, ◌⊎◌, ◌<◌, ◌≤◌, ◌≡◌, [], ◌∷◌, ◌++◌, sym, ◌∙◌, get_or, slice_get, Some, pos, arith, FitsSigned, w64}
use Rattle.std.proofs.Math.Facts.{to_z-of_z}
use Rattle.std.proofs.lemmas.List.{append-nil}
use Rattle.std.proofs.lemmas.Option.{get_or_from_slice_get}
use Rattle.csv.specs.Records.{fields_of}
use Rattle.csv_cells.specs.Cells.{IsNoCell, IsRefusedRow, StandsAs, plain}
use Rattle.csv_cells.specs.declared.column.Column.{Column}
use Rattle.csv_cells.specs.declared.row.RowFault.{RowFault}
use Rattle.csv_cells.specs.declared.row.RowFault.TheVariants as fault
use Rattle.text_dictionary.specs.Texts.{Grows, texts_of}
use Rattle.csv_cells.proofs.Rows.{cell-kept, field-same, fits-push, no-field, numbers-push, grown-twice}
use Rattle.csv_cells.proofs.row.read_row.Goals as goal

-- the dictionary only grew
kept-row : {A B N : Type 0} (a b d : List (List ℕ)) → Grows a b → A ⊎ (B × N × Grows b d) → A ⊎ Grows a d
kept-row a b d g (inl x) = inl x
kept-row a b d g (inr x) = inr (grown-twice a b d g x.2)

-- a record with a cell for which no number stands
refused-row : (columns : List Column) (old new cells : List (List ℕ)) (zs : List ℤ) (i : ℕ) (why : RowFault) → length cells ≡ length columns → i < length columns
    → ((j : ℕ) → j < i → StandsAs (get_or columns j plain) old (get_or zs j (pos 0)) (get_or cells j []))
    → (why ≡ fault.NoMemory) ⊎ ((why ≡ fault.Cell i) × IsNoCell (get_or columns i plain) new (get_or cells i []) × Grows old new) → IsRefusedRow columns new cells why
refused-row columns old new cells zs i why long below known (inl e) = rw e tt
refused-row columns old new cells zs i why long below known (inr n) =
    rw n.0 (long, below, n.1, λ j under. (get_or zs j (pos 0), rw n.2.1 (cell-kept (get_or columns j plain) old n.2.0 _ _ (known j under))))

pub loop-i-preserved : goal.loop-i-preserved
loop-i-preserved c =
    let inv = c.loop-i.invariant in
    let cells = fields_of c.args.row.now in
    let grows : Grows (texts_of c.loop-i.dictionary) (texts_of c.number_of.new.dictionary) = c.in-Ok.ensures.grows in
    let fits : FitsSigned w64 c.in-Ok.z = search rules in
    let e : c.push.new.self.items ≡ c.loop-i.numbers.items ++ c.in-Ok.z ∷ [] = rw (to_z-of_z fits) at c.in_ok-push.ensures.items in
    let found : StandsAs (get_or c.args.columns.now c.loop-i.i plain) (texts_of c.number_of.new.dictionary) c.in-Ok.z c.in-Some.cell.now = c.in-Ok.ensures.found in
    let at_place : slice_get cells c.loop-i.i ≡ Some c.in-Some.cell.now = sym (field-same cells c.loop-i.i) ∙ sym c.in-Some.ensures.value in
    let there : get_or cells c.loop-i.i [] ≡ c.in-Some.cell.now = get_or_from_slice_get cells c.loop-i.i c.in-Some.cell.now [] at_place in
    record {
      counted = search (rules, e, inv.counted);
      fit = rw e (fits-push c.loop-i.numbers.items c.in-Ok.z c.loop-i.i inv.counted inv.fit fits);
      grown = grown-twice _ _ _ inv.grown grows;
      stands = rw (e, grows.1) (numbers-push c.args.columns.now (texts_of c.loop-i.dictionary) grows.0 c.loop-i.numbers.items cells c.in-Ok.z c.loop-i.i inv.counted inv.stands (rw there (rw grows.1 at found)));
    }

pub returns-in_default-clause-refused : goal.returns-in_default-clause-refused
returns-in_default-clause-refused c = λ same. no-field (fields_of c.args.row.now) c.loop-i.i (omega (arith, same, c.loop-i-test.true)) (sym (field-same (fields_of c.args.row.now) c.loop-i.i) ∙ sym c.in_default.ensures.value)

pub returns-in-Err-clause-refused : goal.returns-in-Err-clause-refused
returns-in-Err-clause-refused c =
    let inv = c.loop-i.invariant in
    let cells = fields_of c.args.row.now in
    let at_place : slice_get cells c.loop-i.i ≡ Some c.in-Some.cell.now = sym (field-same cells c.loop-i.i) ∙ sym c.in-Some.ensures.value in
    let there : get_or cells c.loop-i.i [] ≡ c.in-Some.cell.now = get_or_from_slice_get cells c.loop-i.i c.in-Some.cell.now [] at_place in
    let long : length cells ≡ length c.args.columns.now = search (rules, c.len.ensures, c.if-len-columns.false) in
    refused-row c.args.columns.now (texts_of c.loop-i.dictionary) (texts_of c.number_of.new.dictionary) cells c.loop-i.numbers.items c.loop-i.i c.in-Err.why long c.loop-i-test.true inv.stands (rw there c.in-Err.ensures.refused)

pub returns-in-Err-clause-kept : goal.returns-in-Err-clause-kept
returns-in-Err-clause-kept c = kept-row _ _ _ c.loop-i.invariant.grown c.in-Err.ensures.refused

pub returns-then-len-columns-clause-kept : goal.returns-then-len-columns-clause-kept
returns-then-len-columns-clause-kept c = inr ([], sym (append-nil (texts_of c.args.dictionary.now)))

pub returns-in_default-clause-kept : goal.returns-in_default-clause-kept
returns-in_default-clause-kept c = inr c.loop-i.invariant.grown

pub returns-clause-spelled : goal.returns-clause-spelled
returns-clause-spelled c =
    let inv = c.loop-i.invariant in
    let all : length c.args.columns.now ≤ c.loop-i.i = c.loop-i-test.false in
    record {
      counted = search (rules, inv.counted, all);
      wide = search (rules, c.len.ensures, c.if-len-columns.false);
      fit = λ j below. inv.fit j (omega (arith, below, all));
      stands = λ j below. inv.stands j (omega (arith, below, all));
    }

pub returns-clause-grows : goal.returns-clause-grows
returns-clause-grows c = c.loop-i.invariant.grown

pub loop-i-init : goal.loop-i-init
loop-i-init c = record {
  counted = search rules;
  fit = λ j below. absurd (omega (arith, below));
  grown = ([], sym (append-nil (texts_of c.args.dictionary.now)));
  stands = λ j below. absurd (omega (arith, below));
}
