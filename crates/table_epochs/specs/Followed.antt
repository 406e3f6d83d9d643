-- What is written of the epochs of a CSV text that arrives.
use Rattle.std.specs.Prelude.{◌≡◌, ◌≢◌, ◌⊎◌, ℕ, suc, ℤ, true, List, [], ◌∷◌, ◌++◌, Option, Some, None, IfSome, codes, slice_set}
use Rattle.std.specs.Io.KnownBytes.{Appends}
use Rattle.collector.specs.OutputText.{epoch_line}
use Rattle.collector.specs.WrittenBytes.{AppendsFront}
use Rattle.query_answers.specs.Runs.{read_part}
use Rattle.query_answers.specs.Runs.{IsRun}
use Rattle.csv_cells.specs.Cells.{IsOnly, StandsAs}
use Rattle.csv_cells.specs.Texts.{Grows}
use Rattle.csv_cells.specs.declared.column.Column.{Column}
use Rattle.csv_epochs.specs.Epochs.{cell_of}
use Rattle.csv_epochs.specs.Taken.{AreEpochsOf, AreFirstOf}
use Rattle.csv_epochs.specs.declared.epoch.Epoch.{Epoch}
use Rattle.schema.specs.declared.tables.Schema.{Schema}
use Rattle.schema.specs.declared.tables.Table.{Table}
use Rattle.table_commands.specs.Read.{IsKnownAs}
use Rattle.table_faults.specs.declared.fault.Fault.TheVariants.{Write}
use Rattle.table_queries.specs.declared.fault.RunFault.{RunFault}
use Rattle.table_queries.specs.declared.fault.RunFault.TheVariants.{Tables}
use Rattle.tables.specs.Answers.{AreDecoded, header_of}
use Rattle.tables.specs.Files.{csv_text}
use Rattle.tables.specs.Inputs.{IsInput}
use Rattle.tables.specs.Tables.{IsLate}

-- a query that is answered epoch by epoch, and written at one output: the input whose file arrives has that place, and its epochs are by that
-- column; of the other files these are the texts
pub record Followed : Type 0 where
  pub schema : Schema
  pub table : Table
  pub query : List ℕ
  pub place : ℕ
  pub column : ℕ
  pub cells : Column
  pub files : List (List ℕ)

-- how many epochs were answered, the value of the last, and the texts of the dictionary then
pub record Reached : Type 0 where
  pub count : ℕ
  pub last : Option ℤ
  pub texts : List (List ℕ)

-- the value that stands for an epoch's cell, if one does
abbrev pub IsValue : Column → (texts : List (List ℕ)) → (cell : Option (List ℕ)) → (value : Option ℤ) → Type 0
IsValue column texts None value = value ≡ None
IsValue column texts (Some cell) None = IsOnly column texts cell None
IsValue column texts (Some cell) (Some z) = StandsAs column texts z cell

-- the answer to one epoch by itself, with that number in the place of 0; an answer without an epoch stays as it is
abbrev pub IsNumberedAs : (number : ℕ) → (answer text : List ℕ) → Type 0
IsNumberedAs number answer text = ((rest : List ℕ) × (answer ≡ codes "epoch 0\n" ++ rest) × (text ≡ epoch_line number ++ rest))
    ⊎ (((rest : List ℕ) → answer ≢ codes "epoch 0\n" ++ rest) × (text ≡ answer))

-- the rows of an epoch: those of the query's answer to the files, the epoch's text in the place of the one that arrives, under the epoch's number;
-- the epoch isn't late, by the value that its cell had as it was met
pub record IsAnswered (f : Followed) (old new : Reached) (epoch : Epoch) (rows : List (List (List ℕ))) : Type 0 where
  pub counted : new.count ≡ suc old.count
  pub met : List (List ℕ)
  pub first : Grows old.texts met
  pub value : IsValue f.cells met (cell_of epoch) new.last
  pub grows : Grows met new.texts
  pub ordered : ¬ IsLate old.last new.last
  pub input : List ℕ
  pub answer : List ℕ
  pub text : List ℕ
  pub encoded : IsInput f.schema (slice_set f.files f.place epoch.text.items) new.texts input
  pub run : IsRun (read_part f.query) input answer
  pub numbered : IsNumberedAs old.count answer text
  pub decoded : AreDecoded f.table true new.texts text rows

-- the rows of epochs, one after another
unfoldable pub AreAnswered : Followed → (old new : Reached) → List Epoch → (rows : List (List (List ℕ))) → Type 0
AreAnswered f old new [] rows = (new ≡ old) × (rows ≡ [])
AreAnswered f old new (epoch ∷ epochs) rows =
    (between : Reached) × (first : List (List (List ℕ))) × (rest : List (List (List ℕ)))
    × IsAnswered f old between epoch first × AreAnswered f between new epochs rest × (rows ≡ first ++ rest)

-- the CSV file of rows: the header row, and under it the rows
abbrev pub csv_file : Table → (rows : List (List (List ℕ))) → List ℕ
csv_file table rows = csv_text (header_of table true ∷ rows)

-- before the first epoch
pub record IsStart (r : Reached) : Type 0 where
  pub count : r.count ≡ 0
  pub last : r.last ≡ None

-- all of the text of the file that arrives was read, and the rows of its epochs were written, from that start
pub record FollowsAll (f : Followed) (start : Reached) (text : List ℕ) (old new : Option (List ℕ)) : Type 0 where
  pub header : List ℕ
  pub epochs : List Epoch
  pub split : AreEpochsOf f.column text header epochs
  pub is_start : IsStart start
  pub end : Reached
  pub rows : List (List (List ℕ))
  pub answered : AreAnswered f start end epochs rows
  pub written : Appends old new (csv_file f.table rows)

-- the rows of epochs were written, and nothing if there are none; if the writer failed, a beginning of that
abbrev pub WritesFirst : Table → RunFault → List Epoch → (rows : List (List (List ℕ))) → (old new : Option (List ℕ)) → Type 0
WritesFirst table fault epochs rows old new = ((epochs ≡ []) × (new ≡ old)) ⊎ (Appends old new (csv_file table rows)
    ⊎ ((fault ≡ Tables Write) × AppendsFront old new (csv_file table rows)))

-- so much of that text was read, and the rows of its first epochs were written
pub record FollowsPart (f : Followed) (text : List ℕ) (fault : RunFault) (old new : Option (List ℕ)) : Type 0 where
  pub epochs : List Epoch
  pub split : AreFirstOf f.column text epochs
  pub start : Reached
  pub is_start : IsStart start
  pub end : Reached
  pub rows : List (List (List ℕ))
  pub answered : AreAnswered f start end epochs rows
  pub written : WritesFirst f.table fault epochs rows old new

-- the bytes of a text begin so, where they are known
abbrev pub BeginsAs : (known : Option (List ℕ)) → (bytes : List ℕ) → Type 0
BeginsAs known bytes = IfSome known (λ b. (rest : List ℕ) × (b ≡ bytes ++ rest))

-- a text was followed to its end
abbrev pub FollowsText : (known : Option (List ℕ)) → Followed → (start : Reached) → (old new : Option (List ℕ)) → Type 0
FollowsText known f start old new = (text : List ℕ) × IsKnownAs known text × FollowsAll f start text old new

-- a beginning of it was
abbrev pub FailsText : (known : Option (List ℕ)) → Followed → (old new : Option (List ℕ)) → RunFault → Type 0
FailsText known f old new fault = (text : List ℕ) × BeginsAs known text × FollowsPart f text fault old new
