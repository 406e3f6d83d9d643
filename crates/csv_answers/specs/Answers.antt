-- An answer as a CSV file.
use Rattle.std.specs.Prelude.{◌≡◌, ◌≢◌, ◌<◌, ◌+◌, ◌^◌, ◌⊎◌, ◌↔◌, ◌&&◌, ◌||◌, IsTrue, ◌==◌, ℕ, ℤ, List, [], ◌∷◌, ◌++◌, Bool, true, false, Option, Some, None, codes, decimal, length, ⊤}
use Rattle.std.specs.List.{list_any}
use Rattle.std.specs.Fmt.{signed_decimal}
use Rattle.csv_cells.specs.Cells.{Spells}
use Rattle.csv_cells.specs.declared.column.Column.{Column}
use Rattle.schema.specs.Text.{names_of}
use Rattle.schema.specs.declared.tables.Table.{Table}
use Rattle.csv_answers.specs.declared.decoding.Place.{Place}
use Rattle.csv_answers.specs.declared.refusal.Fault.TheVariants.{Answer}
use Rattle.csv_answers.specs.declared.refusal.TableRefusal.{TableRefusal}
use Rattle.csv_answers.specs.declared.refusal.TableRefusal.TheVariants.{At, NoMemory}
use Rattle.csv_answers.specs.Files.{csv_text, labelled}

-- a line feed ends each line, and stands in none
unfoldable pub AreLines : (text : List ℕ) → (lines : List (List ℕ)) → Type 0
AreLines text [] = text ≡ []
AreLines text (line ∷ lines) = (rest : List ℕ) × (text ≡ line ++ 10 ∷ rest) × (list_any (λ b. b == 10) line ≡ false) × AreLines rest lines

-- the numbers of a record, each after one space but the first
unfoldable pub words_text : List ℤ → List ℕ
words_text [] = []
words_text (z ∷ []) = signed_decimal z
words_text (z ∷ y ∷ zs) = signed_decimal z ++ 32 ∷ words_text (y ∷ zs)

-- where a line stands: the number of its epoch, as a text, and whether its output is the one that is asked for; whether a line of the epoch named an
-- output, and whether the epoch has the one that is asked for
pub record Where : Type 0 where
  pub label : List ℕ
  pub asked : Bool
  pub named : Bool
  pub found : Bool

abbrev pub where_of : Place → Where
where_of place = record { label = place.epoch.now; asked = place.is_asked; named = place.is_named; found = place.is_found }

-- before the first epoch
abbrev pub outside : Where
outside = record { label = []; asked = false; named = false; found = false }

-- the epoch, if one has begun, has the output that is asked for
abbrev pub IsWhole : Where → Type 0
IsWhole w = (w.label ≡ []) ⊎ IsTrue w.found

-- an epoch may begin: the first, or another after a whole one, where epochs are told apart
abbrev pub MayBegin : (with_epochs : Bool) → Where → Type 0
MayBegin with_epochs w = (w.label ≡ []) ⊎ (IsTrue w.found × IsTrue with_epochs)

-- a line `epoch E`, of an epoch's number
abbrev pub IsEpoch : (line label : List ℕ) → Type 0
IsEpoch line label = (line ≡ codes "epoch " ++ label) × ((n : ℕ) × (n < 2 ^ 64) × (label ≡ decimal n))

-- a line `output NAME`
abbrev pub IsOutput : (line name : List ℕ) → Type 0
IsOutput line name = line ≡ codes "output " ++ name

-- the line begins an epoch, which is of the only output `out` unless a line names one
abbrev pub BeginsEpoch : (name : List ℕ) → (with_epochs : Bool) → (line : List ℕ) → (old new : Where) → Type 0
BeginsEpoch name with_epochs line old new = IsEpoch line new.label × MayBegin with_epochs old × (IsTrue new.asked ↔ (name ≡ codes "out"))
    × (new.named ≡ false) × (new.found ≡ new.asked)

-- the line begins an output of an epoch
abbrev pub BeginsOutput : (name line : List ℕ) → (old new : Where) → Type 0
BeginsOutput name line old new = (other : List ℕ) × IsOutput line other × (old.label ≢ []) × (new.label ≡ old.label)
    × (IsTrue new.asked ↔ (other ≡ name)) × (new.named ≡ true) × (new.found ≡ (new.asked || (old.named && old.found)))

-- the line begins an epoch or an output
abbrev pub Begins : (name : List ℕ) → (with_epochs : Bool) → (line : List ℕ) → (old new : Where) → Type 0
Begins name with_epochs line old new = BeginsEpoch name with_epochs line old new ⊎ BeginsOutput name line old new

-- the line is of a record
abbrev pub IsOfRecord : (line : List ℕ) → Type 0
IsOfRecord line = ((label : List ℕ) → ¬ IsEpoch line label) × ((name : List ℕ) → ¬ IsOutput line name)

-- the cells that the numbers of a line stand for
abbrev pub HasCells : List Column → (texts : List (List ℕ)) → (line : List ℕ) → (cells : List (List ℕ)) → Type 0
HasCells columns texts line cells = (numbers : List ℤ) × (line ≡ words_text numbers) × Spells columns texts cells numbers

-- the first cell of a row, if it is the number of the epoch
abbrev pub label_for : (with_epochs : Bool) → List ℕ → Option (List ℕ)
label_for true label = Some label
label_for false label = None

-- what a line adds to the rows: one, if it is of a record of the output that is asked for
abbrev pub Adds : Table → (with_epochs : Bool) → (texts : List (List ℕ)) → Where → (line : List ℕ) → (rows : List (List (List ℕ))) → Where → Type 0
Adds table with_epochs texts old line rows new = (Begins table.name.items with_epochs line old new × (rows ≡ []))
    ⊎ (IsOfRecord line × (old.label ≢ []) × (new ≡ old) × (((old.asked ≡ false) × (rows ≡ []))
    ⊎ ((old.asked ≡ true) × ((cells : List (List ℕ)) × HasCells table.columns.items texts line cells × (rows ≡ labelled (label_for with_epochs old.label) cells ∷ [])))))

-- the rows of lines, in their order
unfoldable pub AreRows : Table → (with_epochs : Bool) → (texts : List (List ℕ)) → Where → (lines : List (List ℕ)) → (rows : List (List (List ℕ))) → Where → Type 0
AreRows table with_epochs texts old [] rows new = (rows ≡ []) × (new ≡ old)
AreRows table with_epochs texts old (line ∷ lines) rows new = (first : List (List (List ℕ))) × (rest : List (List (List ℕ))) × (between : Where)
    × Adds table with_epochs texts old line first between × AreRows table with_epochs texts between lines rest new × (rows ≡ first ++ rest)

-- the rows of an answer's lines
pub record AreDecoded (table : Table) (with_epochs : Bool) (texts : List (List ℕ)) (answer : List ℕ) (rows : List (List (List ℕ))) : Type 0 where
  pub lines : List (List ℕ)
  pub cut : AreLines answer lines
  pub last : Where
  pub decoded : AreRows table with_epochs texts outside lines rows last
  pub whole : IsWhole last

-- the header row
abbrev pub header_of : Table → (with_epochs : Bool) → List (List ℕ)
header_of table with_epochs = labelled (label_for with_epochs (codes "epoch")) (names_of table)

-- the file of an answer: the header row, and the rows of all its lines
abbrev pub IsDecoded : Table → (with_epochs : Bool) → (texts : List (List ℕ)) → (answer file : List ℕ) → Type 0
IsDecoded table with_epochs texts answer file = (rows : List (List (List ℕ))) × AreDecoded table with_epochs texts answer rows × (file ≡ csv_text (header_of table with_epochs ∷ rows))

-- the text ends where an epoch lacks the output, or has a byte, and begins with no line that adds rows
abbrev pub IsFaultyFrom : Table → (with_epochs : Bool) → (texts : List (List ℕ)) → Where → (text : List ℕ) → Type 0
IsFaultyFrom table with_epochs texts here text = ((text ≡ []) × ¬ IsWhole here) ⊎ ((text ≢ []) × ((line rest : List ℕ) (rows : List (List (List ℕ))) (next : Where)
    → text ≡ line ++ 10 ∷ rest → list_any (λ b. b == 10) line ≡ false → ¬ Adds table with_epochs texts here line rows next))

-- each line before that one adds its rows, and what comes then is faulty
pub record IsFirstFault (table : Table) (with_epochs : Bool) (texts : List (List ℕ)) (answer : List ℕ) (line : ℕ) : Type 0 where
  pub front : List ℕ
  pub rest : List ℕ
  pub cut : answer ≡ front ++ rest
  pub lines : List (List ℕ)
  pub before : AreLines front lines
  pub rows : List (List (List ℕ))
  pub here : Where
  pub decoded : AreRows table with_epochs texts outside lines rows here
  pub counted : line ≡ length lines + 1
  pub faulty : IsFaultyFrom table with_epochs texts here rest

-- why an answer has no file
abbrev pub IsRefusedAnswer : Table → (with_epochs : Bool) → (texts : List (List ℕ)) → (answer : List ℕ) → TableRefusal → Type 0
IsRefusedAnswer table with_epochs texts answer (At fault line) = (fault ≡ Answer) × IsFirstFault table with_epochs texts answer line
IsRefusedAnswer table with_epochs texts answer NoMemory = ⊤
