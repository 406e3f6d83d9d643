-- The text of a schedule: what its lines say, and its first faulty line.
use Rattle.std.specs.Prelude.{◌≡◌, ◌<◌, ◌+◌, ◌^◌, ◌⊎◌, ℕ, ℤ, List, [], ◌∷◌, ◌++◌, length, decimal}
use Rattle.std.specs.List.{AllByRecursion}
use Rattle.collector.specs.declared.codes.TheConstants.{NO_LINE_FEED, BAD_NUMBER, MALFORMED}
use Rattle.collector.specs.Pieces.{split_on}
use Rattle.collector.specs.Lines.{AreNumbers, IsFilled, IsWord}
use Rattle.schedule.specs.Commands.{Command, IsKnown, IsProper, arguments, letter, verb_of}
use Rattle.schedule.specs.declared.verb.Verb.{Verb}
use Rattle.schedule.specs.declared.verb.Verb.TheVariants as verb
use Rattle.schedule.specs.declared.verb.ViewKind.{ViewKind}
use Rattle.schedule.specs.declared.refusal.Fault.{Fault}
use Rattle.schedule.specs.declared.refusal.Fault.TheVariants.{Malformed, BadNumber}
use Rattle.schedule.specs.declared.refusal.ScheduleRefusal.{ScheduleRefusal}
use Rattle.schedule.specs.declared.refusal.ScheduleRefusal.TheVariants.{At, NoMemory}

-- the line's words, separated by single spaces, are the letter of a verb that the schedule may have, and these words
pub record HasWords (kind : ViewKind) (line : List ℕ) (verb : Verb) (words : List (List ℕ)) : Type 0 where
  pub known : IsKnown kind verb
  pub split : split_on 32 line ≡ (letter verb ∷ []) ∷ words

-- the line is the command's one spelling
pub record Says (kind : ViewKind) (line : List ℕ) (command : Command) : Type 0 where
  pub words : HasWords kind line (verb_of command) (arguments command)
  pub proper : IsProper command

-- ---- faults

-- that many words, none empty
pub record AreFilled (count : ℕ) (words : List (List ℕ)) : Type 0 where
  pub counted : length words ≡ count
  pub filled : AllByRecursion IsFilled words

-- a word that is spelled like a name, and other words, none empty
abbrev pub HasName : List (List ℕ) → Type 0
HasName [] = ⊥
HasName (name ∷ words) = IsWord name × AllByRecursion IsFilled words

-- the words that a verb needs after its letter, whatever is in the place of a number
abbrev pub IsFormed : Verb → List (List ℕ) → Type 0
IsFormed verb.Feed words = HasName words
IsFormed verb.Seal words = HasName words × (length words ≡ 1)
IsFormed verb.Close words = HasName words × (length words ≡ 1)
IsFormed verb.Take words = AreFilled 2 words
IsFormed verb.Commit words = AreFilled 1 words
IsFormed verb.Deliver words = AreFilled 2 words
IsFormed verb.Print words = AreFilled 1 words
IsFormed verb.Apply words = AreFilled 2 words

-- the words are these numbers of 32 bits, each in its one spelling
abbrev pub AreCounts : List (List ℕ) → List ℕ → Type 0
AreCounts [] [] = Unit {0}
AreCounts [] (n ∷ ns) = ⊥
AreCounts (word ∷ words) [] = ⊥
AreCounts (word ∷ words) (n ∷ ns) = ((n < 2 ^ 32) × (word ≡ decimal n)) × AreCounts words ns

-- the words after the first are not all signed 64-bit numbers
abbrev pub HasBadField : List (List ℕ) → Type 0
HasBadField [] = ⊥
HasBadField (name ∷ words) = (zs : List ℤ) → AreNumbers words zs → ⊥

-- where numbers are needed, there are other words
abbrev pub HasBadNumber : Verb → List (List ℕ) → Type 0
HasBadNumber verb.Feed words = HasBadField words
HasBadNumber verb.Seal words = ⊥
HasBadNumber verb.Close words = ⊥
HasBadNumber verb.Take words = (ns : List ℕ) → AreCounts words ns → ⊥
HasBadNumber verb.Commit words = (ns : List ℕ) → AreCounts words ns → ⊥
HasBadNumber verb.Deliver words = (ns : List ℕ) → AreCounts words ns → ⊥
HasBadNumber verb.Print words = (ns : List ℕ) → AreCounts words ns → ⊥
HasBadNumber verb.Apply words = (ns : List ℕ) → AreCounts words ns → ⊥

-- The fault of a line, the first in this order: it doesn't have its verb's form; one of its numbers isn't a number.
abbrev pub IsFault : ViewKind → List ℕ → Fault → Type 0
IsFault kind line Malformed = (v : Verb) (words : List (List ℕ)) → HasWords kind line v words → IsFormed v words → ⊥
IsFault kind line BadNumber = (v : Verb) × (words : List (List ℕ)) × HasWords kind line v words × IsFormed v words × HasBadNumber v words

-- the code of a fault, the same as in an input
abbrev pub code_of : Fault → ℕ
code_of BadNumber = BAD_NUMBER
code_of Malformed = MALFORMED

-- ---- the text

-- the lines say these commands, one each
abbrev pub SayAll : ViewKind → List (List ℕ) → List Command → Type 0
SayAll kind [] [] = Unit {0}
SayAll kind [] (command ∷ commands) = ⊥
SayAll kind (line ∷ lines) [] = ⊥
SayAll kind (line ∷ lines) (command ∷ commands) = Says kind line command × SayAll kind lines commands

-- the text is these commands, each on a line that a line feed ends
pub record IsScheduleText (kind : ViewKind) (text : List ℕ) (commands : List Command) : Type 0 where
  pub lines : List (List ℕ)
  pub parts : split_on 10 text ≡ lines ++ [] ∷ []
  pub said : SayAll kind lines commands

-- A refusal names the first faulty line, counted from 1: the lines before it say commands; and it has a fault, or it is the last line and has no line
-- feed.
abbrev pub IsRefused : ViewKind → List ℕ → ScheduleRefusal → Type 0
IsRefused kind text NoMemory = Unit {0}
IsRefused kind text (At code number) =
    (before : List (List ℕ)) × (commands : List Command) × SayAll kind before commands × (number ≡ length before + 1)
    × (line : List ℕ) × (rest : List (List ℕ)) × (split_on 10 text ≡ before ++ line ∷ rest)
    × (((code ≡ NO_LINE_FEED) × (0 < length line) × (rest ≡ [])) ⊎ ((fault : Fault) × (code ≡ code_of fault) × (0 < length rest) × IsFault kind line fault))
