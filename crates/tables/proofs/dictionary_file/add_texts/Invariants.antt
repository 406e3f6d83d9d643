use Rattle.csv_cells.specs.Texts.{texts_of}
use Rattle.tables.specs.Dictionaries.{dictionary_rows}
use Rattle.tables.specs.Tables.{HasRead}
use Rattle.tables.proofs.dictionary_file.add_texts.Given as goal

abbrev pub invariant-loop-count : goal.invariant-loop-count
invariant-loop-count l = record { read : HasRead l.fn.text (dictionary_rows (texts_of l.dictionary)) l.reader }
