-- Answers that are written while the input still comes.
use Rattle.std.specs.Prelude.{◌≡◌, ◌<◌, ◌≤◌, ◌⊎◌, ℕ, ◌+◌, ◌-◌, Bool, true, List, [], ◌∷◌, ◌++◌, length, Option, Result, Ok, Err}
use Rattle.std.specs.Io.KnownBytes.{Appends, Consumes, IsAtEnd}
use Rattle.std.specs.List.{flat_map}
use Rattle.semantics.specs.Multiset.{Record, IsPartOf, ◌≈◌}
use Rattle.semantics.specs.Query.{Input, Program}
use Rattle.semantics.specs.Meaning.{program_meaning}
use Rattle.semantics.specs.Typing.{WellTyped}
use Rattle.semantics.specs.Lower.{lowered}
use Rattle.graph.specs.Shown.{GraphValue, shown_graph, shown_inputs, shown_names}
use Rattle.collector.specs.Pieces.{split_on}
use Rattle.collector.specs.Lines.{Item}
use Rattle.collector.specs.InputText.{IsInputText, IsRefused, LinesSay, epochs_after, records_in}
use Rattle.collector.specs.Watching.{Hands, has_ended, inner_of}
use Rattle.collector.specs.WrittenBytes.{AppendsFront}
use Rattle.collector.specs.declared.refusal.InputRefusal.TheVariants.{At}
use Rattle.collector.specs.declared.codes.TheConstants.{MALFORMED, NO_LINE_FEED}
use Rattle.collector.specs.declared.watched.Watched.{Watched}
use Rattle.follow.specs.Entries.{AreAt, Entry, complete_line, entry_line, records_of}
use Rattle.follow.specs.declared.outcome.Ending.{Ending}
use Rattle.follow.specs.declared.outcome.Ending.TheVariants as ending

-- the graph is that of this well-typed program
pub record IsGraphOf (g : GraphValue) (p : Program) : Type 0 where
  pub arities : List ℕ
  pub typed : WellTyped p arities
  pub graph : shown_graph g ≡ lowered p

-- at each output the entries are all of what the program means there on the records of an epoch, by input
abbrev pub IsWhole : GraphValue → (records : ℕ → List Record) → List Entry → Type 0
IsWhole g records entries = (p : Program) (k : ℕ) → IsGraphOf g p → k < length p.outputs → records_of k entries ≈ program_meaning p k records

-- at each output the entries are part of it
abbrev pub IsPart : GraphValue → (records : ℕ → List Record) → List Entry → Type 0
IsPart g records entries = (p : Program) (k : ℕ) → IsGraphOf g p → k < length p.outputs → IsPartOf (records_of k entries) (program_meaning p k records)

-- The text reports the epochs in order, each under its number and the offset. The first `done` are complete: for each, all lines of its answer, and then the line that says so. Of the next one
-- it has these entries.
pub data IsReport (offset : ℕ) (g : GraphValue) (records : (epoch input : ℕ) → List Record) : (done : ℕ) → List Entry → (text : List ℕ) → Type 0 where
  reports_nothing : IsReport offset g records 0 [] []
  reports_more : (done : ℕ) (entries more : List Entry) (text : List ℕ) → IsReport offset g records done entries text → AreAt (length (shown_names g)) more
      → IsReport offset g records done (entries ++ more) (text ++ flat_map (entry_line (shown_names g) (offset + done)) more)
  reports_whole : (done : ℕ) (entries : List Entry) (text : List ℕ) → IsReport offset g records done entries text
      → IsWhole g (records done) entries → IsReport offset g records (done + 1) [] (text ++ complete_line (offset + done))

-- the records that lines say of an input in an epoch
abbrev pub said_records : List Item → (epoch input : ℕ) → List Record
said_records items epoch input = records_in epoch input 0 items

-- what is written after the lines so far: the answers of the complete epochs are whole, and that of the next is part of what is meant
pub record IsAnswer (offset : ℕ) (g : GraphValue) (items : List Item) (done : ℕ) (entries : List Entry) (text : List ℕ) : Type 0 where
  pub reported : IsReport offset g (said_records items) done entries text
  pub part : IsPart g (said_records items done) entries

-- the bytes begin with these lines, which say these items; the rest is not read as lines
pub record IsRead (inputs : List Input) (bytes : List ℕ) (lines : List (List ℕ)) (items : List Item) (rest : List (List ℕ)) : Type 0 where
  pub parts : split_on 10 bytes ≡ lines ++ rest
  pub said : LinesSay inputs 0 lines items

-- Only epochs that have ended are complete: those before the last one that began. The last one too, once the reader has ended and each line was
-- taken, so that nothing comes after the last line feed.
abbrev pub IsSealed : (begun done : ℕ) → (ended : Bool) → (rest : List (List ℕ)) → Type 0
IsSealed begun done ended rest = (done ≤ begun - 1) ⊎ ((done ≤ begun) × (ended ≡ true) × (rest ≡ [] ∷ []))

-- the input is read to its end, and every epoch of it is complete
pub record IsAllReported (inputs : List Input) (bytes : List ℕ) (ended : Bool) (items : List Item) (done : ℕ) (entries : List Entry) : Type 0 where
  pub whole : IsInputText inputs bytes (epochs_after 0 items) (said_records items)
  pub all_read : ended ≡ true
  pub complete : done ≡ epochs_after 0 items
  pub none : entries ≡ []

-- the bytes of the longest line that says something: a name of 32, and 16 fields of 20, each after a space
abbrev pub max_line : ℕ
max_line = 368

-- the first of these lines has more bytes than that, so it says nothing, whatever comes after them
abbrev pub IsTooLong : (rest : List (List ℕ)) → Type 0
IsTooLong [] = ⊥
IsTooLong (line ∷ rest) = max_line < length line

-- The line after those that were read is the first faulty one. A last line without line feed is faulty only at the end; one that is too long is
-- malformed, and may still come.
pub record IsFaulty (inputs : List Input) (bytes : List ℕ) (ended : Bool) (lines rest : List (List ℕ)) (code line : ℕ) : Type 0 where
  pub refused : (IsRefused inputs bytes (At code line) × (code ≡ NO_LINE_FEED → ended ≡ true)) ⊎ ((code ≡ MALFORMED) × IsTooLong rest)
  pub next : line ≡ length lines + 1

-- how far the bytes were read: to the end, to a faulty line, to the last whole line before the reader failed, so that what is left isn't too long,
-- over more bytes than are taken, or unspecified
abbrev pub Reaches : List Input → (bytes : List ℕ) → (ended : Bool) → (lines : List (List ℕ)) → List Item
    → (rest : List (List ℕ)) → (done : ℕ) → List Entry → Result (Unit {0}) Ending → Type 0
Reaches inputs bytes ended lines items rest done entries (Ok _) = IsAllReported inputs bytes ended items done entries
Reaches inputs bytes ended lines items rest done entries (Err (ending.Input code line)) = IsFaulty inputs bytes ended lines rest code line
Reaches inputs bytes ended lines items rest done entries (Err ending.Read) = (piece : List ℕ) × (rest ≡ piece ∷ []) × (length piece ≤ max_line)
Reaches inputs bytes ended lines items rest done entries (Err ending.Write) = Unit {0}
Reaches inputs bytes ended lines items rest done entries (Err ending.NoMemory) = Unit {0}
Reaches inputs bytes ended lines items rest done entries (Err ending.Count) = Unit {0}
Reaches inputs bytes ended lines items rest done entries (Err ending.TooLong) = 18446744073709551615 ≤ length bytes

-- the text was written; if the writer failed, a beginning of it
abbrev pub Writes : (old new : Option (List ℕ)) → (text : List ℕ) → Result (Unit {0}) Ending → Type 0
Writes old new text (Ok _) = Appends old new text
Writes old new text (Err (ending.Input code line)) = Appends old new text
Writes old new text (Err ending.Read) = Appends old new text
Writes old new text (Err ending.Write) = AppendsFront old new text
Writes old new text (Err ending.NoMemory) = Appends old new text
Writes old new text (Err ending.Count) = Appends old new text
Writes old new text (Err ending.TooLong) = Appends old new text

-- These bytes were read, and the reader may have said that these are all; what was written is an answer to the lines that were read.
pub record Follows (offset : ℕ) (g : GraphValue) (bytes : List ℕ) (ended : Bool) (old new : Option (List ℕ)) (result : Result (Unit {0}) Ending) : Type 0 where
  pub lines : List (List ℕ)
  pub items : List Item
  pub rest : List (List ℕ)
  pub done : ℕ
  pub entries : List Entry
  pub text : List ℕ
  pub read : IsRead (shown_inputs g) bytes lines items rest
  pub answer : IsAnswer offset g items done entries text
  pub sealed : IsSealed (epochs_after 0 items) done ended rest
  pub reaches : Reaches (shown_inputs g) bytes ended lines items rest done entries result
  pub writes : Writes old new text result

-- The reader handed over these bytes, and if it ended, it has said that there are no more. Where its bytes are known, these are the next of them,
-- and all that were left.
pub record HasRead {R : Type 0} (remaining : R → Option (List ℕ)) (before after : Watched R) (bytes : List ℕ) (ended : Bool) : Type 0 where
  pub hands : Hands before after bytes
  pub said : ended ≡ true → has_ended after ≡ true
  pub known : Consumes (remaining (inner_of before)) (remaining (inner_of after)) bytes
  pub last : ended ≡ true → IsAtEnd (remaining (inner_of after))

-- what was read: some bytes, and whether they are all
abbrev pub Reading : Type 1
Reading = (bytes : List ℕ) → (ended : Bool) → Type 0

-- some bytes were read, and following them ended like this
abbrev pub FollowsInput : (offset : ℕ) → GraphValue → Reading → (old new : Option (List ℕ)) → Result (Unit {0}) Ending → Type 0
FollowsInput offset g read old new result = (bytes : List ℕ) × (ended : Bool) × read bytes ended × Follows offset g bytes ended old new result
