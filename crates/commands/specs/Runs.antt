-- What a run does.
use Rattle.std.specs.Prelude.{◌≡◌, ℕ, List, Option, Result, Ok, Err}
use Rattle.std.specs.Io.KnownBytes.{Appends}
use Rattle.semantics.specs.Multiset.{Record}
use Rattle.semantics.specs.Query.{Program}
use Rattle.collector.specs.InputText.{IsInputText}
use Rattle.collector.specs.WrittenBytes.{AppendsFront}
pub use Rattle.query_answers.specs.Runs.{IsRun}
use Rattle.compile.specs.CheckedInputs.{IsInputFault}
use Rattle.compile.specs.Compiled.{IsQueryFault}
use Rattle.compile.specs.Queries.{IsQuery}
use Rattle.diagnostics.specs.declared.fault.Fault.{Fault}
use Rattle.diagnostics.specs.declared.fault.Fault.TheVariants.{Query, TooManyVertices, Input, Schedule, NoMemory, Count}
use Rattle.diagnostics.specs.declared.fault.Fault.TheVariants.{NoWorker, Incomplete, ReadQuery, ReadInput, Write}

-- the query is taken, and the input for its inputs
pub record AreTaken (query input : List ℕ) : Type 0 where
  pub program : Program
  pub count : ℕ
  pub records : ℕ → ℕ → List Record
  pub reads : IsQuery query program
  pub epochs : IsInputText program.inputs input count records

-- The answer is written whole at Ok, and a beginning of it where the writer failed. Else nothing is written: the query is refused,
-- or the input, or both are taken and a count was too large, or a reader failed, or there was no memory.
abbrev pub Ends : List ℕ → List ℕ → Option (List ℕ) → Option (List ℕ) → Result (Unit {0}) Fault → Type 0
Ends query input old new (Ok u) = (text : List ℕ) × IsRun query input text × Appends old new text
Ends query input old new (Err Write) = (text : List ℕ) × IsRun query input text × AppendsFront old new text
Ends query input old new (Err (Query code start end)) = (new ≡ old) × IsQueryFault query (Query code start end)
Ends query input old new (Err TooManyVertices) = (new ≡ old) × IsQueryFault query TooManyVertices
Ends query input old new (Err (Input code line)) = (new ≡ old) × IsInputFault query input code line
Ends query input old new (Err NoMemory) = new ≡ old
Ends query input old new (Err ReadQuery) = new ≡ old
Ends query input old new (Err ReadInput) = new ≡ old
Ends query input old new (Err (Schedule code line)) = ⊥
Ends query input old new (Err Count) = (new ≡ old) × AreTaken query input
Ends query input old new (Err NoWorker) = new ≡ old
Ends query input old new (Err Incomplete) = new ≡ old

-- the query could not be read, or there was no memory
abbrev pub IsUnreadQuery : Fault → Type 0
IsUnreadQuery NoMemory = Unit {0}
IsUnreadQuery ReadQuery = Unit {0}
IsUnreadQuery _ = ⊥

-- the input or the schedule could not be read, or there was no memory
abbrev pub IsUnreadInput : Fault → Type 0
IsUnreadInput NoMemory = Unit {0}
IsUnreadInput ReadInput = Unit {0}
IsUnreadInput _ = ⊥

-- it came once both texts were read
abbrev pub IsAfterReading : Fault → Type 0
IsAfterReading ReadQuery = ⊥
IsAfterReading ReadInput = ⊥
IsAfterReading _ = Unit {0}
