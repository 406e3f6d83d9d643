-- A text of CSV, byte by byte: what was read of a record before a byte decides which bytes may come.
use Rattle.std.specs.Prelude.{◌≡◌, ◌≤◌, ◌+◌, ℕ, Bool, true, false, List, [], ◌∷◌, Option, Some, None, ◌==◌, ◌||◌, if◌then◌else◌, take, slice_get, count_by}
use Rattle.csv_strict.specs.declared.state.State.{State}
use Rattle.csv_strict.specs.declared.state.State.TheVariants.{Record, Field, Bare, Quoted, Quote, Return}
use Rattle.csv_strict.specs.declared.checking.Fault.{Fault}
use Rattle.csv_strict.specs.declared.checking.Fault.TheVariants.{EmptyLine, QuoteInside, AfterQuote, BareReturn, Unclosed}
use Rattle.csv_strict.specs.declared.checking.Refusal.{Refusal}

-- in a field without quotes: no quote; a comma, a CR or an LF ends the field
abbrev pub bare : ℕ → Option State
bare b = if b == 34 then None else if b == 44 then Some Field else if b == 13 then Some Return else if b == 10 then Some Record else Some Bare

-- at the start of a field
abbrev pub start : ℕ → Option State
start b = if b == 34 then Some Quoted else bare b

-- after the quote that ends a field: a comma, a CR or an LF
abbrev pub ended : ℕ → Option State
ended b = if b == 44 then Some Field else if b == 13 then Some Return else if b == 10 then Some Record else None

-- the state after a byte, if the byte may come; no line is empty, and after a CR comes an LF
abbrev pub next_state : State → ℕ → Option State
next_state Record b = if (b == 13) || (b == 10) then None else start b
next_state Field b = start b
next_state Bare b = bare b
next_state Quoted b = if b == 34 then Some Quote else Some Quoted
next_state Quote b = if b == 34 then Some Quoted else ended b
next_state Return b = if b == 10 then Some Record else None

-- a text may end here: not between quotes, nor after a CR
abbrev pub ends_text : State → Bool
ends_text Record = true
ends_text Field = true
ends_text Bare = true
ends_text Quoted = false
ends_text Quote = true
ends_text Return = false

-- the state after these bytes, if each may come
unfoldable pub run : Option State → List ℕ → Option State
run None [] = None
run None (b ∷ bs) = None
run (Some s) [] = Some s
run (Some s) (b ∷ bs) = run (next_state s b) bs

-- the state after a text, and after as many of its first bytes
abbrev pub state_at : List ℕ → ℕ → Option State
state_at text place = run (Some Record) (take place text)

-- each byte may come where it does, and the text may end
abbrev pub IsStrict : List ℕ → Type 0
IsStrict text = (s : State) × (run (Some Record) text ≡ Some s) × (ends_text s ≡ true)

-- what is wrong where a text can't go on after a state
abbrev pub fault_of : State → Fault
fault_of Record = EmptyLine
fault_of Field = EmptyLine
fault_of Bare = QuoteInside
fault_of Quoted = Unclosed
fault_of Quote = AfterQuote
fault_of Return = BareReturn

-- the line of a place, from 1
abbrev pub line_of : List ℕ → ℕ → ℕ
line_of text place = count_by (λ b. b == 10) (take place text) + 1

-- the byte at the place may not come there, or it is the end, and may not be
abbrev pub Stops : State → Option ℕ → Type 0
Stops s (Some b) = next_state s b ≡ None
Stops s None = ends_text s ≡ false

-- the place of a fault: where the text stops, and of a quote that is never closed one before that
abbrev pub IsPlace : Fault → (stop place : ℕ) → Type 0
IsPlace EmptyLine stop place = place ≡ stop
IsPlace QuoteInside stop place = place ≡ stop
IsPlace AfterQuote stop place = place ≡ stop
IsPlace BareReturn stop place = place ≡ stop
IsPlace Unclosed stop place = place ≤ stop

-- the text stops after its longest part that may come, and the fault is the one there
pub record IsRefused (text : List ℕ) (r : Refusal) : Type 0 where
  pub stop : ℕ
  pub state : State
  pub before : state_at text stop ≡ Some state
  pub stops : Stops state (slice_get text stop)
  pub told : r.fault ≡ fault_of state
  pub place : ℕ
  pub is_place : IsPlace r.fault stop place
  pub on_line : r.line ≡ line_of text place
