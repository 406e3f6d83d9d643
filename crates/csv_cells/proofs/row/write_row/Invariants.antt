use Rattle.std.proofs.Common.{◌≡◌, ◌<◌, ℕ, [], length, map, pos, get_or, FitsSigned, w64}
use Rattle.text_dictionary.specs.Texts.{texts_of}
use Rattle.csv_cells.specs.Cells.{StandsAs, plain}
use Rattle.csv_cells.proofs.row.write_row.Given as goal

-- the cells so far are those of the numbers before place i
abbrev pub invariant-loop-i : goal.invariant-loop-i
invariant-loop-i l = record {
  counted : length l.cells.items ≡ l.i;
  fit : (j : ℕ) → j < l.i → FitsSigned w64 (get_or l.numbers j (pos 0));
  stands : (j : ℕ) → j < l.i → StandsAs (get_or l.columns j plain) (texts_of l.dictionary) (get_or l.numbers j (pos 0)) (get_or (map (λ w. w.items) l.cells.items) j []);
}
