-- How far following is.
use Rattle.std.specs.Prelude.{◌≡◌, ◌++◌, ℕ, zero, suc, true, List, [], ◌∷◌, Option, map, slice_set}
use Rattle.std.specs.Io.KnownBytes.{Appends}
use Rattle.collector.specs.WrittenBytes.{AppendsFront}
use Rattle.query_answers.specs.Runs.{read_part}
use Rattle.query_answers.specs.Runs.{IsRun}
use Rattle.csv_cells.specs.Texts.{texts_of}
use Rattle.csv_epochs.specs.Epochs.{Held}
use Rattle.csv_epochs.specs.Taken.{AreEpochsOf, IsTaken}
use Rattle.csv_epochs.specs.declared.epoch.Epoch.{Epoch}
use Rattle.schema.specs.declared.tables.Table.{Table}
use Rattle.table_faults.specs.declared.fault.Fault.TheVariants.{Write}
use Rattle.table_queries.specs.declared.fault.RunFault.{RunFault}
use Rattle.table_queries.specs.declared.fault.RunFault.TheVariants.{Tables}
use Rattle.tables.specs.Answers.{IsDecoded, header_of}
use Rattle.tables.specs.Files.{csv_text}
use Rattle.table_epochs.specs.Followed.{AreAnswered, Followed, IsAnswered, IsNumberedAs, Reached, WritesFirst, csv_file}
use Rattle.table_epochs.specs.declared.epoch_answer.Following.{Following}

-- what is followed; the file that arrives is empty
abbrev pub followed_by : Following → Followed
followed_by f = record {
  schema = f.job.schema.now;
  table = f.job.table.now;
  query = f.job.query.now;
  place = f.stream.place;
  column = f.stream.column;
  cells = f.stream.cells;
  files = slice_set (map (λ v. v.items) f.files.items) f.stream.place [];
}

-- how far it is
abbrev pub reached_by : Following → Reached
reached_by f = record { count = f.count; last = f.last; texts = texts_of f.dictionary }

-- the same is followed
pub record Keeps (old new : Following) : Type 0 where
  pub followed : followed_by new ≡ followed_by old
  pub header : new.header ≡ old.header

-- the header row of what is written is there
abbrev pub HasHeader : Following → Type 0
HasHeader f = f.header.items ≡ csv_text (header_of f.job.table.now true ∷ [])

-- the CSV file of the answer to an input text, under that number
pub record IsFileUnder (table : Table) (query : List ℕ) (number : ℕ) (texts : List (List ℕ)) (input file : List ℕ) : Type 0 where
  pub answer : List ℕ
  pub text : List ℕ
  pub run : IsRun (read_part query) input answer
  pub numbered : IsNumberedAs number answer text
  pub decoded : IsDecoded table true texts text file

-- what is written for the rows of an epoch: the first time the header row too
abbrev pub bytes_for : (count : ℕ) → Table → (rows : List (List (List ℕ))) → List ℕ
bytes_for zero table rows = csv_file table rows
bytes_for (suc count) table rows = csv_text rows

-- the rows of an epoch were written
abbrev pub WritesEpoch : Followed → (old new : Reached) → Epoch → Option (List ℕ) → Option (List ℕ) → Type 0
WritesEpoch f old new epoch before after = (rows : List (List (List ℕ))) × IsAnswered f old new epoch rows × Appends before after
    (bytes_for old.count f.table rows)

-- the writer failed in the rows of an epoch
abbrev pub BreaksOff : Followed → (old : Reached) → Epoch → Option (List ℕ) → Option (List ℕ) → RunFault → Type 0
BreaksOff f old epoch before after fault = (fault ≡ Tables Write)
    × ((new : Reached) × (rows : List (List (List ℕ))) × IsAnswered f old new epoch rows × AppendsFront before after
    (bytes_for old.count f.table rows))

-- the rows of these epochs were written, and nothing if there are none
abbrev pub WritesRows : Table → List Epoch → (rows : List (List (List ℕ))) → Option (List ℕ) → Option (List ℕ) → Type 0
WritesRows table [] rows old new = new ≡ old
WritesRows table (epoch ∷ epochs) rows old new = Appends old new (csv_file table rows)

-- these epochs were answered and written
pub record HasWritten (f : Followed) (start now : Reached) (epochs : List Epoch) (old new : Option (List ℕ)) : Type 0 where
  pub rows : List (List (List ℕ))
  pub answered : AreAnswered f start now epochs rows
  pub written : WritesRows f.table epochs rows old new

-- these epochs were answered, and the last may be written in part
pub record HasBroken (f : Followed) (start : Reached) (epochs : List Epoch) (old new : Option (List ℕ)) (fault : RunFault) : Type 0 where
  pub end : Reached
  pub rows : List (List (List ℕ))
  pub answered : AreAnswered f start end epochs rows
  pub written : WritesFirst f.table fault epochs rows old new

-- of a text all was taken but what is left, and the epochs that were handed out were written
pub record IsGoing (f : Followed) (start now : Reached) (held : Held) (text left : List ℕ) (old new : Option (List ℕ)) : Type 0 where
  pub column : held.column ≡ f.column
  pub epochs : List Epoch
  pub taken : IsTaken held text left epochs
  pub written : HasWritten f start now epochs old new

-- a text has ended, and all its epochs were written
pub record HasTaken (f : Followed) (start now : Reached) (text header : List ℕ) (old new : Option (List ℕ)) : Type 0 where
  pub epochs : List Epoch
  pub split : AreEpochsOf f.column text header epochs
  pub written : HasWritten f start now epochs old new

-- some of these epochs were answered, and the last may be written in part
abbrev pub BreaksIn : Followed → (start : Reached) → (done epochs : List Epoch) → Option (List ℕ) → Option (List ℕ) → RunFault → Type 0
BreaksIn f start done epochs old new fault =
    (front : List Epoch) × (back : List Epoch) × (epochs ≡ front ++ back) × HasBroken f start (done ++ front) old new fault
