-- What the reader of a line answers.
use Rattle.std.specs.Prelude.{ℕ, ℤ, List, [], length, Option, Some, None, Result, Ok, Err}
use Rattle.std.specs.Borrow.{Bor}
use Rattle.record_core.specs.Records.{IsRecord}
use Rattle.semantics.specs.Query.{Input}
use Rattle.collector.specs.Pieces.{split_on}
use Rattle.collector.specs.Lines.{Item, Says, IsFault, IsInput, IsAbsent, AreNumbers, MakeRecord}
use Rattle.collector.specs.declared.line.Line.{Line}
use Rattle.collector.specs.declared.line.Line.TheVariants as line
use Rattle.collector.specs.declared.line.LineError.{LineError}
use Rattle.collector.specs.declared.line.LineError.TheVariants as error
use Rattle.collector.specs.declared.refusal.Fault.TheVariants.{Malformed, TooManyEpochs, NoEpoch, Unknown, BadNumber, WrongFields}

-- the words of the text after the first word, if there is any
abbrev pub words_of : Option (Bor (List ℕ)) → List (List ℕ)
words_of None = []
words_of (Some text) = split_on 32 text.now

-- the item of a line, with the fields in the buffer
abbrev pub item_of : Line → List ℤ → Item
item_of line.Epoch fields = Item.epoch
item_of (line.Row input) fields = Item.row input fields

-- the input's number and its fields; or the first fault of the words after a name
abbrev pub RowEnds : List Input → List ℕ → List (List ℕ) → List ℤ → Result ℕ LineError → Type 0
RowEnds inputs name rest fields (Ok input) = IsInput inputs name input (length fields) × IsRecord fields × AreNumbers rest fields
RowEnds inputs name rest fields (Err error.NoMemory) = Unit {0}
RowEnds inputs name rest fields (Err (error.Fault Unknown)) = IsAbsent inputs name
RowEnds inputs name rest fields (Err (error.Fault BadNumber)) = (i : ℕ) × (arity : ℕ) × IsInput inputs name i arity × ((zs : List ℤ) → AreNumbers rest zs → ⊥)
RowEnds inputs name rest fields (Err (error.Fault WrongFields)) =
    (i : ℕ) × (arity : ℕ) × IsInput inputs name i arity × (zs : List ℤ) × AreNumbers rest zs × (MakeRecord arity zs → ⊥)
RowEnds inputs name rest fields (Err (error.Fault Malformed)) = ⊥
RowEnds inputs name rest fields (Err (error.Fault NoEpoch)) = ⊥
RowEnds inputs name rest fields (Err (error.Fault TooManyEpochs)) = ⊥

-- what the line says, or its fault
abbrev pub LineEnds : List Input → ℕ → List ℕ → List ℤ → Result Line LineError → Type 0
LineEnds inputs epochs text fields (Ok said) = Says inputs epochs text (item_of said fields)
LineEnds inputs epochs text fields (Err error.NoMemory) = Unit {0}
LineEnds inputs epochs text fields (Err (error.Fault fault)) = IsFault inputs epochs text fault
