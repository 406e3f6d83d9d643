use Rattle.std.proofs.Common.{take}
use Rattle.csv_cells.specs.Texts.{texts_of}
use Rattle.csv_answers.specs.Files.{IsFile}
use Rattle.tables.specs.Dictionaries.{dictionary_rows}
use Rattle.tables.proofs.dictionary_file.dictionary_text.Given as goal

abbrev pub invariant-loop-place : goal.invariant-loop-place
invariant-loop-place l = record { file : IsFile l.writer (dictionary_rows (take l.place (texts_of l.dictionary))) }
