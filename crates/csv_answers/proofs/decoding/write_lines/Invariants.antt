use Rattle.std.proofs.Common.{◌≡◌, ◌≤◌, ◌==◌, ◌++◌, ℕ, List, false, length, take, drop}
use Rattle.std.specs.List.{list_any}
use Rattle.csv_cells.specs.Texts.{texts_of}
use Rattle.csv_answers.specs.Answers.{AreLines, AreRows, outside, where_of}
use Rattle.csv_answers.specs.Files.{IsFile}
use Rattle.csv_answers.proofs.decoding.write_lines.Given as goal

abbrev pub invariant-loop-end : goal.invariant-loop-end
invariant-loop-end l = record {
  within : l.begin ≤ l.end;
  free : list_any (λ b. b == 10) (drop l.begin (take l.end l.answer)) ≡ false;
  counted : l.line ≤ l.begin;
  told : (before : List (List (List ℕ))) → IsFile l.fn.writer before
      → (lines : List (List ℕ)) × (rows : List (List (List ℕ))) × AreLines (take l.begin l.answer) lines
      × AreRows l.table l.with_epochs (texts_of l.dictionary) outside lines rows (where_of l.place) × IsFile l.writer (before ++ rows) × (l.line ≡ length lines);
}
