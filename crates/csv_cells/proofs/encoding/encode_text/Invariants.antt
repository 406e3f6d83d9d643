use Rattle.std.proofs.Common.{◌≡◌, ◌<◌, ℕ, ℤ, List, Some}
use Rattle.csv.specs.Reading.{Reached, Ready, default_config, source_of, strip_bom}
use Rattle.csv.specs.declared.parser.State.TheVariants as st
use Rattle.csv.specs.declared.reader.Trim.TheVariants as trim
use Rattle.text_dictionary.specs.Texts.{texts_of, Grows}
use Rattle.csv_cells.specs.Encoded.{SpellsAll, lines_text}
use Rattle.csv_cells.proofs.encoding.encode_text.Given as goal

abbrev pub invariant-loop-row : goal.invariant-loop-row
invariant-loop-row l = record {
  trim : l.row-iterator.rdr.trim ≡ trim.None;
  ready : Ready l.row-iterator.rdr;
  left : 0 < l.row-iterator.left;
  config : l.row-iterator.rdr.config ≡ default_config;
  rest : List ℕ;
  source : source_of (λ s. Some s.now) l.row-iterator.rdr ≡ Some rest;
  rows : List (List (List ℕ));
  reached : Reached default_config st.StartRecord (strip_bom l.fn.text) rows l.row-iterator.rdr.state rest;
  all : List (List ℤ);
  spelled : SpellsAll l.columns (texts_of l.dictionary) rows all;
  grown : Grows (texts_of l.fn.dictionary) (texts_of l.dictionary);
  written : l.out.items ≡ lines_text l.name all;
}
