use Rattle.std.proofs.Common.{rules, below_more, ◌≡◌, ◌≤◌, ◌++◌, ◌∷◌, ◌∙◌, [], ℕ, List, map, pos, get_or, ap, FitsSigned, w64, length, arith}
use Rattle.std.proofs.Math.Facts.{to_z-of_z}
use Rattle.std.proofs.lemmas.List.{length-map, map-append}
use Rattle.csv_cells.specs.Cells.{StandsAs, plain}
use Rattle.text_dictionary.specs.Texts.{texts_of}
use Rattle.csv_cells.proofs.Rows.{cells-push}
use Rattle.csv_cells.proofs.row.write_row.Goals as goal

pub loop-i-preserved : goal.loop-i-preserved
loop-i-preserved c =
    let inv = c.loop-i.invariant in
    let i : ℕ = c.loop-i.i in
    let cells : List (List ℕ) = map (λ w. w.items) c.loop-i.cells.items in
    let fits : FitsSigned w64 (get_or c.args.numbers.now i (pos 0)) = search rules in
    let pushed : c.push.new.self.items ≡ c.loop-i.cells.items ++ c.in-Some.cell ∷ [] = c.in_ok-push.ensures.items in
    let more : map (λ w. w.items) c.push.new.self.items ≡ cells ++ c.in-Some.cell.items ∷ [] =
    ap (map (λ w. w.items)) pushed ∙ map-append (λ w. w.items) c.loop-i.cells.items (c.in-Some.cell ∷ []) in
    let here : StandsAs (get_or c.args.columns.now i plain) (texts_of c.args.dictionary.now) (get_or c.args.numbers.now i (pos 0)) c.in-Some.cell.items = rw (c.in-Some.is, to_z-of_z fits) at c.in_ok-cell.ensures.written in
    record {
      counted = search rules;
      fit = below_more (λ (j : ℕ). FitsSigned w64 (get_or c.args.numbers.now j (pos 0))) i inv.fit fits;
      stands = rw more (cells-push c.args.columns.now (texts_of c.args.dictionary.now) c.args.numbers.now cells c.in-Some.cell.items i
          (length-map c.loop-i.cells.items (λ w. w.items) ∙ inv.counted) inv.stands here);
    }

pub returns-in_default-clause-none : goal.returns-in_default-clause-none
returns-in_default-clause-none c =
    let fits : FitsSigned w64 (get_or c.args.numbers.now c.loop-i.i (pos 0)) = search rules in
    λ cells s. (rw (c.in_default.is, to_z-of_z fits) at c.in_ok-cell.ensures.none) _ (s.stands c.loop-i.i c.loop-i-test.true)

pub returns-clause-written : goal.returns-clause-written
returns-clause-written c =
    let inv = c.loop-i.invariant in
    let all : length c.args.columns.now ≤ c.loop-i.i = c.loop-i-test.false in
    let wide : length c.loop-i.cells.items ≡ length c.args.columns.now = search (rules, inv.counted, all) in
    record {
      counted = search rules;
      wide = length-map c.loop-i.cells.items (λ w. w.items) ∙ wide;
      fit = λ j below. inv.fit j (omega (arith, below, all));
      stands = λ j below. inv.stands j (omega (arith, below, all));
    }
