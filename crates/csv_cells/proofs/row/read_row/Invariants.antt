use Rattle.std.proofs.Common.{◌≡◌, ◌<◌, ℕ, [], length, pos, get_or, FitsSigned, w64}
use Rattle.csv.specs.Records.{fields_of}
use Rattle.text_dictionary.specs.Texts.{texts_of, Grows}
use Rattle.csv_cells.specs.Cells.{StandsAs, plain}
use Rattle.csv_cells.proofs.row.read_row.Given as goal

-- the numbers so far stand for the cells before place i
abbrev pub invariant-loop-i : goal.invariant-loop-i
invariant-loop-i l = record {
  counted : length l.numbers.items ≡ l.i;
  fit : (j : ℕ) → j < l.i → FitsSigned w64 (get_or l.numbers.items j (pos 0));
  grown : Grows (texts_of l.fn.dictionary) (texts_of l.dictionary);
  stands : (j : ℕ) → j < l.i → StandsAs (get_or l.columns j plain) (texts_of l.dictionary) (get_or l.numbers.items j (pos 0)) (get_or (fields_of l.row) j []);
}
