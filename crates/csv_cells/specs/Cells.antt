-- What a number stands for in a column, and which numbers a row of cells has.
use Rattle.std.specs.Prelude.{◌≡◌, ◌≢◌, ◌<◌, ◌⊎◌, ℕ, ℤ, pos, Bool, true, false, List, [], ◌++◌, length, get_or, Option, Some, None, FitsSigned, ⊤}
use Rattle.std.specs.Int.{w64}
use Rattle.std.specs.Fmt.{signed_decimal}
use Rattle.text_dictionary.specs.Texts.{text_at}
use Rattle.scalar_texts.specs.Numbers.{IsDateText, decimal_text, time_text}
use Rattle.csv_cells.specs.declared.column.Kind.{Kind}
use Rattle.csv_cells.specs.declared.column.Kind.TheVariants.{Int, Decimal, Date, Time, Text}
use Rattle.csv_cells.specs.declared.column.Empty.{Empty}
use Rattle.csv_cells.specs.declared.column.Empty.TheVariants.{Refused, Kept, Number}
use Rattle.csv_cells.specs.declared.column.Column.{Column}
use Rattle.csv_cells.specs.declared.row.RowFault.{RowFault}
use Rattle.csv_cells.specs.declared.row.RowFault.TheVariants.{Length, Cell, NoMemory}

-- by its kind, the number stands for the text
abbrev pub Stands : Kind → (texts : List (List ℕ)) → (number : ℤ) → (text : List ℕ) → Type 0
Stands Int texts z text = text ≡ signed_decimal z
Stands (Decimal places) texts z text = decimal_text places z ≡ text
Stands Date texts z text = IsDateText z text
Stands Time texts z text = time_text z ≡ Some text
Stands Text texts z text = text_at texts z ≡ Some text

-- the same, and the empty cell by what it is in that column
abbrev pub StandsWith : Empty → Kind → (texts : List (List ℕ)) → (number : ℤ) → (cell : List ℕ) → Type 0
StandsWith Refused kind texts z cell = (cell ≢ []) × Stands kind texts z cell
StandsWith Kept kind texts z cell = Stands kind texts z cell
StandsWith (Number n) kind texts z cell = ((z ≡ n) × (cell ≡ [])) ⊎ ((z ≢ n) × (cell ≢ []) × Stands kind texts z cell)

abbrev pub StandsAs : Column → (texts : List (List ℕ)) → (number : ℤ) → (cell : List ℕ) → Type 0
StandsAs column texts z cell = StandsWith column.empty column.kind texts z cell

-- the number, of 64 bits, that stands for the cell is this one, if there is one
abbrev pub IsOnly : Column → (texts : List (List ℕ)) → (cell : List ℕ) → Option ℤ → Type 0
IsOnly column texts cell found = (z : ℤ) → FitsSigned w64 z → StandsAs column texts z cell → found ≡ Some z

-- in a column of texts the cell has a number of its own
abbrev pub IsNumbered : Kind → (texts : List (List ℕ)) → (cell : List ℕ) → Type 0
IsNumbered Int texts cell = ⊤
IsNumbered (Decimal places) texts cell = ⊤
IsNumbered Date texts cell = ⊤
IsNumbered Time texts cell = ⊤
IsNumbered Text texts cell = (z : ℤ) × FitsSigned w64 z × (text_at texts z ≡ Some cell)

-- no number stands for the cell, and not for want of one in the dictionary
abbrev pub IsNoCell : Column → (texts : List (List ℕ)) → (cell : List ℕ) → Type 0
IsNoCell column texts cell = IsOnly column texts cell None × (IsNumbered column.kind texts cell ⊎ ((cell ≡ []) × (column.empty ≡ Refused)))

-- what the number stands for was written, or it stands for nothing
abbrev pub WritesKind : Kind → (texts : List (List ℕ)) → (number : ℤ) → (old new : List ℕ) → Bool → Type 0
WritesKind kind texts z old new true = (text : List ℕ) × Stands kind texts z text × (new ≡ old ++ text)
WritesKind kind texts z old new false = (text : List ℕ) → ¬ Stands kind texts z text

abbrev pub WritesCell : Column → (texts : List (List ℕ)) → (number : ℤ) → (old new : List ℕ) → Bool → Type 0
WritesCell column texts z old new true = (cell : List ℕ) × StandsAs column texts z cell × (new ≡ old ++ cell)
WritesCell column texts z old new false = (cell : List ℕ) → ¬ StandsAs column texts z cell

-- a column of whole numbers with no empty cell
abbrev pub plain : Column
plain = record { kind = Int; empty = Refused }

-- the numbers, of 64 bits, stand for these cells, one for each column
pub record Spells (columns : List Column) (texts : List (List ℕ)) (cells : List (List ℕ)) (numbers : List ℤ) : Type 0 where
  pub counted : length numbers ≡ length columns
  pub wide : length cells ≡ length columns
  pub fit : (i : ℕ) → i < length columns → FitsSigned w64 (get_or numbers i (pos 0))
  pub stands : (i : ℕ) → i < length columns → StandsAs (get_or columns i plain) texts (get_or numbers i (pos 0)) (get_or cells i [])

-- why a record has no numbers: for the cell in that column none stands, and for each before it one does
abbrev pub IsRefusedRow : List Column → (texts : List (List ℕ)) → (cells : List (List ℕ)) → RowFault → Type 0
IsRefusedRow columns texts cells Length = length cells ≢ length columns
IsRefusedRow columns texts cells (Cell i) = (length cells ≡ length columns) × (i < length columns) × IsNoCell (get_or columns i plain) texts (get_or cells i [])
    × ((j : ℕ) → j < i → (z : ℤ) × StandsAs (get_or columns j plain) texts z (get_or cells j []))
IsRefusedRow columns texts cells NoMemory = ⊤
