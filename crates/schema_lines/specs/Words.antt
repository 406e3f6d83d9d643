-- The words of a schema's lines: names, kinds, what an empty cell stands for, and columns.
use Rattle.std.specs.Prelude.{◌≡◌, ◌≢◌, ◌≤◌, ◌+◌, ◌==◌, ◌||◌, cond, not, Bool, false, ℕ, List, [], ◌∷◌, ◌++◌, codes, decimal, length, FitsSigned, IsTrue, ⊤}
use Rattle.std.specs.Int.{w64}
use Rattle.std.specs.List.{AllByRecursion, list_all}
use Rattle.std.specs.Char.{is_ascii_digit, is_ascii_lowercase}
use Rattle.std.specs.Str.{bytes_eq}
use Rattle.csv_cells.specs.Cells.{StandsAs}
use Rattle.csv_cells.specs.declared.column.Kind.{Kind}
use Rattle.csv_cells.specs.declared.column.Kind.TheVariants.{Int, Decimal, Date, Time, Text}
use Rattle.csv_cells.specs.declared.column.Empty.{Empty}
use Rattle.csv_cells.specs.declared.column.Empty.TheVariants.{Refused, Kept, Number}
use Rattle.csv_cells.specs.declared.column.Column.{Column}

-- no byte of the text is this one
abbrev pub Lacks : ℕ → List ℕ → Type 0
Lacks byte text = AllByRecursion (λ b. b ≢ byte) text

-- lower-case letters, digits and `_`, at most 32 of them, with no digit first
abbrev pub is_name_byte : ℕ → Bool
is_name_byte b = is_ascii_lowercase b || is_ascii_digit b || (b == 95)

abbrev pub begins_name : List ℕ → Bool
begins_name [] = false
begins_name (b ∷ bs) = not (is_ascii_digit b)

abbrev pub IsName : List ℕ → Type 0
IsName name = IsTrue (begins_name name) × IsTrue (list_all is_name_byte name) × (length name ≤ 32)

-- the name of a column: it isn't empty, has no line feed, and doesn't end as if the cell came that an empty one stands for
abbrev pub IsHeader : List ℕ → Type 0
IsHeader name = (name ≢ []) × Lacks 10 name × ((front : List ℕ) → name ≢ front ++ codes " or")

abbrev pub IsKind : Kind → Type 0
IsKind Int = ⊤
IsKind (Decimal places) = (1 ≤ places) × (places ≤ 18)
IsKind Date = ⊤
IsKind Time = ⊤
IsKind Text = ⊤

-- an empty cell may be kept as a text, or stand for a number of a cell
abbrev pub IsEmptyOf : Kind → Empty → Type 0
IsEmptyOf kind Refused = ⊤
IsEmptyOf kind Kept = kind ≡ Text
IsEmptyOf kind (Number n) = FitsSigned w64 n × ((cell : List ℕ) × StandsAs (record { kind = kind; empty = Refused }) [] n cell)

abbrev pub IsColumn : Column → Type 0
IsColumn column = IsKind column.kind × IsEmptyOf column.kind column.empty

-- the word for a kind
abbrev pub kind_text : Kind → List ℕ
kind_text Int = codes "int"
kind_text (Decimal places) = codes "decimal(" ++ (decimal places ++ codes ")")
kind_text Date = codes "date"
kind_text Time = codes "time"
kind_text Text = codes "text"

-- ` or `, and the cell that an empty one stands for; only a text may be empty itself
abbrev pub IsEmptyText : Empty → Kind → List ℕ → Type 0
IsEmptyText Refused kind text = text ≡ []
IsEmptyText Kept kind text = (kind ≡ Text) × (text ≡ codes " or \"\"")
IsEmptyText (Number n) kind text = (cell : List ℕ) × StandsAs (record { kind = kind; empty = Refused }) [] n cell × (text ≡ codes " or " ++ cell)

-- a column's line: two spaces, its name, a space, and the word for its kind
abbrev pub IsColumnText : List ℕ → Column → List ℕ → Type 0
IsColumnText name column text =
    (rest : List ℕ) × IsEmptyText column.empty column.kind rest
    × (text ≡ codes "  " ++ (name ++ (codes " " ++ (kind_text column.kind ++ (rest ++ codes "\n")))))

-- the place of a column by its name
abbrev pub place_in : List ℕ → List (List ℕ) → ℕ
place_in name [] = 0
place_in name (n ∷ ns) = cond (bytes_eq n name) 0 (place_in name ns + 1)
