-- CSV files that are written, record by record.
use Rattle.std.specs.Prelude.{◌≡◌, ℕ, List, [], ◌∷◌, ◌++◌, false, Option, Some, None, length, not, ◌&&◌, ◌||◌, ◌==◌}
use Rattle.std.specs.Global.{Vec}
use Rattle.std.specs.Io.KnownBytes.{Appends}
use Rattle.csv.specs.Writing.{default_writer, fields_written, has_written, is_blank, row_body, row_text, text_written, writer_setup}
use Rattle.csv.specs.declared.writer.Writer.{Writer}

-- the text of records, each with quotes only where it needs them, and a line feed after each
unfoldable pub csv_text : List (List (List ℕ)) → List ℕ
csv_text [] = []
csv_text (row ∷ rows) = row_text default_writer row ++ csv_text rows

-- a record's cells, after one more if there is one
abbrev pub labelled : Option (List ℕ) → List (List ℕ) → List (List ℕ)
labelled None cells = cells
labelled (Some label) cells = label ∷ cells

-- what was written of a file
abbrev pub written_of : Writer (Vec ℕ) → Option (List ℕ)
written_of writer = text_written (λ (v : Vec ℕ). Some v.items) writer

-- no record is begun
pub record IsBetween (writer : Writer (Vec ℕ)) : Type 0 where
  pub setup : writer_setup writer ≡ default_writer
  pub fields : fields_written writer ≡ 0
  pub nothing : has_written writer ≡ false

-- between `old` and `new` these cells of a record were written
pub record HasBegun (old new : Writer (Vec ℕ)) (cells : List (List ℕ)) : Type 0 where
  pub setup : writer_setup new ≡ default_writer
  pub appended : Appends (written_of old) (written_of new) (row_body default_writer cells)
  pub fields : fields_written new ≡ length cells
  pub blank : is_blank default_writer cells ≡ (not (has_written new) && ((length cells == 0) || (length cells == 1)))

-- these records were written, and no other is begun
pub record IsFile (writer : Writer (Vec ℕ)) (rows : List (List (List ℕ))) : Type 0 where
  pub between : IsBetween writer
  pub written : written_of writer ≡ Some (csv_text rows)
