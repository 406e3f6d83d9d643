-- The epochs of a CSV text: consecutive records with the same cell in one column.
use Rattle.std.specs.Prelude.{◌≡◌, ◌≢◌, ◌<◌, ◌+◌, ◌-◌, ◌^◌, ◌++◌, ◌==◌, ◌⊎◌, ℕ, Bool, true, false, min, List, [], ◌∷◌, Option, Some, None, ⊤, All, count_by, length, option_map}
use Rattle.csv.specs.Reading.{strip_bom}
use Rattle.csv_strict.specs.Strict.{IsRefused, IsStrict, run}
use Rattle.csv_strict.specs.declared.checking.Refusal.{Refusal}
use Rattle.csv_strict.specs.declared.state.State.TheVariants.{Record}
use Rattle.csv_epochs.specs.Cells.{cells}
use Rattle.csv_epochs.specs.declared.epoch.Epoch.{Epoch}
use Rattle.csv_epochs.specs.declared.epoch.SplitFault.{SplitFault}
use Rattle.csv_epochs.specs.declared.epoch.SplitFault.TheVariants.{NoMemory, Text}

-- these are the cells of one epoch: at least one, and each the same; a record without a cell is alone
abbrev pub AreOne : Option (List ℕ) → List (Option (List ℕ)) → Type 0
AreOne None found = found ≡ None ∷ []
AreOne (Some cell) found = (found ≢ []) × All (λ c. c ≡ Some cell) found

-- the first of these cells, if there is one, is of another epoch
abbrev pub Differs : Option (List ℕ) → List (Option (List ℕ)) → Type 0
Differs None found = ⊤
Differs (Some cell) [] = ⊤
Differs (Some cell) (next ∷ more) = next ≢ Some cell

-- whole records, the last of them ended by a line feed
abbrev pub EndsRecord : List ℕ → Type 0
EndsRecord bytes = run (Some Record) bytes ≡ Some Record

-- the header row of a text: after a byte order mark, if there is one, one whole record
pub record IsHeader (column : ℕ) (header : List ℕ) : Type 0 where
  pub ends : EndsRecord (strip_bom header)
  pub name : Option (List ℕ)
  pub one : cells column (strip_bom header) ≡ name ∷ []

-- the number of line feeds
abbrev pub lines : List ℕ → ℕ
lines bytes = count_by (λ b. b == 10) bytes

-- a count of lines stops at the largest number
abbrev pub plus : ℕ → ℕ → ℕ
plus a b = min (a + b) (2 ^ 64 - 1)

-- the cell of an epoch
abbrev pub cell_of : Epoch → Option (List ℕ)
cell_of epoch = option_map (λ v. v.items) epoch.cell

-- an epoch with these records, behind a header row and so many lines of earlier epochs
pub record IsEpoch (column : ℕ) (header : List ℕ) (before : ℕ) (body : List ℕ) (epoch : Epoch) : Type 0 where
  pub text : epoch.text.items ≡ header ++ body
  pub strict : IsStrict body
  pub one : AreOne (cell_of epoch) (cells column body)
  pub header_lines : epoch.header_lines ≡ lines header
  pub first_line : epoch.first_line ≡ plus before (lines header + 1)

-- the epochs of all bytes behind a header row and the records of earlier epochs, which have so many lines
abbrev pub AreEpochs : (column : ℕ) (header : List ℕ) (before : ℕ) (bytes : List ℕ) → List Epoch → Type 0
AreEpochs column header before bytes [] = bytes ≡ []
AreEpochs column header before bytes (epoch ∷ more) =
    (body behind : List ℕ) × (bytes ≡ body ++ behind) × IsEpoch column header before body epoch × (EndsRecord body ⊎ (behind ≡ []))
    × Differs (cell_of epoch) (cells column behind) × AreEpochs column header (plus before (lines body)) behind more

-- what a splitter has taken and not handed out: the header row, or its beginning; the bytes behind it; the number of lines that were handed out. After a
-- fault it has failed.
pub record Held : Type 0 where
  pub column : ℕ
  pub has_header : Bool
  pub header : List ℕ
  pub bytes : List ℕ
  pub before : ℕ
  pub failed : Bool

-- the header row and the bytes behind it
abbrev pub text_of : Held → List ℕ
text_of held = held.header ++ held.bytes

-- the splitter is split on, by the same column
abbrev pub GoesOn : (old new : Held) → Type 0
GoesOn old new = (new.column ≡ old.column) × (old.failed ≡ false) × (new.failed ≡ false)

-- a header row that has come whole stays
abbrev pub KeepsHeader : (old new : Held) → Type 0
KeepsHeader old new = old.has_header ≡ true → (new.has_header ≡ true) × (new.header ≡ old.header)

-- the whole piece is taken
pub record Takes (old new : Held) (piece : List ℕ) : Type 0 where
  pub goes_on : GoesOn old new
  pub header : KeepsHeader old new
  pub all : text_of new ≡ text_of old ++ piece
  pub before : new.before ≡ old.before

-- an epoch is handed out, and `behind` is left of the piece: the record behind the epoch, with another cell, is held
pub record HandsOut (old new : Held) (piece : List ℕ) (epoch : Epoch) (behind : List ℕ) : Type 0 where
  pub goes_on : GoesOn old new
  pub shorter : length behind < length piece
  pub has_header : new.has_header ≡ true
  pub header : KeepsHeader old new
  pub is_header : IsHeader new.column new.header
  pub body : List ℕ
  pub all : text_of old ++ piece ≡ new.header ++ (body ++ (new.bytes ++ behind))
  pub is_epoch : IsEpoch new.column new.header old.before body epoch
  pub ends : EndsRecord body
  pub next : Option (List ℕ)
  pub next_ends : EndsRecord new.bytes
  pub next_is : cells new.column new.bytes ≡ next ∷ []
  pub differs : Differs (cell_of epoch) (next ∷ [])
  pub before : new.before ≡ plus old.before (lines body)

-- what is handed out of a piece
abbrev pub TakesOf : (old new : Held) (piece : List ℕ) → Option Epoch → List ℕ → Type 0
TakesOf old new piece None behind = Takes old new piece × (behind ≡ [])
TakesOf old new piece (Some epoch) behind = HandsOut old new piece epoch behind

-- the first fault of a text, behind so many lines
pub record IsRefusedBehind (before : ℕ) (text : List ℕ) (refusal : Refusal) : Type 0 where
  pub found : Refusal
  pub is_refused : IsRefused (strip_bom text) found
  pub fault : refusal.fault ≡ found.fault
  pub line : refusal.line ≡ plus before found.line

-- a refusal is of the text; no text that goes on so is strict
abbrev pub IsStuck : ℕ → List ℕ → SplitFault → Type 0
IsStuck before text NoMemory = ⊤
IsStuck before text (Text refusal) = IsRefusedBehind before text refusal × (run (Some Record) (strip_bom text) ≡ None)

-- a refusal is of the whole text
abbrev pub IsFaulty : ℕ → List ℕ → SplitFault → Type 0
IsFaulty before text NoMemory = ⊤
IsFaulty before text (Text refusal) = IsRefusedBehind before text refusal
