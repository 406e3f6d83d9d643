-- What the reader of a line answers.
use Rattle.std.specs.Prelude.{◌≡◌, ◌∷◌, ℕ, List, [], decimal, Option, Some, None, Result, Ok, Err}
use Rattle.std.specs.Borrow.{Bor}
use Rattle.collector.specs.Lines.{IsWord}
use Rattle.schedule.specs.Commands.{Command, IsProper, arguments, verb_of}
use Rattle.schedule.specs.ScheduleText.{Says, IsFault, IsFormed, HasBadNumber, AreFilled, AreCounts}
use Rattle.schedule.specs.declared.verb.Verb.{Verb}
use Rattle.schedule.specs.declared.verb.ViewKind.{ViewKind}
use Rattle.schedule.specs.declared.line.Line.{Line}
use Rattle.schedule.specs.declared.line.Line.TheVariants as line
use Rattle.schedule.specs.declared.line.LineError.{LineError}
use Rattle.schedule.specs.declared.line.LineError.TheVariants as error
use Rattle.schedule.specs.declared.refusal.Fault.{Fault}
use Rattle.schedule.specs.declared.refusal.Fault.TheVariants.{Malformed, BadNumber}

-- the command of a line that was read
abbrev pub command_of : Line → Command
command_of (line.Feed input fields) = Command.feed input.now fields.items
command_of (line.Seal input) = Command.seal input.now
command_of (line.Close input) = Command.close input.now
command_of (line.Take worker choice) = Command.take worker choice
command_of (line.Commit worker) = Command.commit worker
command_of (line.Deliver worker choice) = Command.deliver worker choice
command_of (line.Print epoch) = Command.print epoch
command_of (line.Apply worker sender) = Command.apply worker sender

-- the one name that the words are; none if they aren't
abbrev pub NameEnds : List (List ℕ) → Option (Bor (List ℕ)) → Type 0
NameEnds words (Some name) = (words ≡ name.now ∷ []) × IsWord name.now
NameEnds words None = (name : List ℕ) → words ≡ name ∷ [] → IsWord name → ⊥

-- the one number that the words are, or the first fault
abbrev pub CountEnds : List (List ℕ) → Result ℕ Fault → Type 0
CountEnds words (Ok n) = words ≡ decimal n ∷ []
CountEnds words (Err Malformed) = AreFilled 1 words → ⊥
CountEnds words (Err BadNumber) = AreFilled 1 words × ((ns : List ℕ) → AreCounts words ns → ⊥)

-- the two numbers that the words are, or the first fault
abbrev pub CountsEnd : List (List ℕ) → Result (ℕ × ℕ) Fault → Type 0
CountsEnd words (Ok p) = words ≡ decimal p.0 ∷ decimal p.1 ∷ []
CountsEnd words (Err Malformed) = AreFilled 2 words → ⊥
CountsEnd words (Err BadNumber) = AreFilled 2 words × ((ns : List ℕ) → AreCounts words ns → ⊥)

-- what the words after a verb's letter say, or their first fault
abbrev pub ArgumentsEnd : Verb → List (List ℕ) → Result Line LineError → Type 0
ArgumentsEnd v words (Ok said) = (verb_of (command_of said) ≡ v) × (words ≡ arguments (command_of said)) × IsProper (command_of said)
ArgumentsEnd v words (Err error.NoMemory) = Unit {0}
ArgumentsEnd v words (Err (error.Fault Malformed)) = IsFormed v words → ⊥
ArgumentsEnd v words (Err (error.Fault BadNumber)) = IsFormed v words × HasBadNumber v words

-- what the line says, or its fault
abbrev pub LineEnds : ViewKind → List ℕ → Result Line LineError → Type 0
LineEnds kind text (Ok said) = Says kind text (command_of said)
LineEnds kind text (Err error.NoMemory) = Unit {0}
LineEnds kind text (Err (error.Fault fault)) = IsFault kind text fault
