use Rattle.std.proofs.Common.{◌≡◌, ◌++◌, ℕ, ℤ, List}
use Rattle.csv_cells.specs.Texts.{texts_of, Grows}
use Rattle.csv_cells.specs.Encoded.{SpellsAll}
use Rattle.tables.specs.Blocks.{last_epoch}
use Rattle.tables.specs.Tables.{AreInOrder, HasRead, rows_text}
use Rattle.tables.proofs.records.append_rows.Given as goal

abbrev pub invariant-loop-count : goal.invariant-loop-count
invariant-loop-count g l = record {
  rows : List (List (List ℕ));
  read : (text : List ℕ) (before : List (List (List ℕ))) → HasRead text before l.fn.reader → HasRead text (before ++ rows) l.reader;
  all : List (List ℤ);
  spelled : SpellsAll l.columns (texts_of l.dictionary) rows all;
  ordered : AreInOrder l.target.epochs l.fn.last all;
  grown : Grows (texts_of l.fn.dictionary) (texts_of l.dictionary);
  written : (first : g.row.O.Denot) (taken : List ℕ) → g.O.LineSink.took first l.fn.out taken → g.O.LineSink.took first l.out (taken ++ rows_text l.target l.fn.last all);
  stays : (first : g.row.O.Denot) → g.O.LineSink.stays first l.fn.out → g.O.LineSink.stays first l.out;
  latest : l.latest ≡ last_epoch l.target l.fn.last all;
}
