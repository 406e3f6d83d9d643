-- The text of a CSV file by RFC 4180, section 2, as a grammar over bytes.
use Rattle.std.specs.Prelude.{◌≡◌, ℕ, List, [], ◌∷◌, ◌++◌, Bool, false, ◌||◌, ◌==◌, if◌then◌else◌, ◌⊎◌, ◌<◌, length}
use Rattle.std.specs.List.{list_any}

-- a byte that stands in a field only between quotes: comma, quote, CR, LF
abbrev pub is_special : ℕ → Bool
is_special b = (b == 44) || (b == 34) || (b == 13) || (b == 10)

-- what stands between the quotes of a field: the field, with each quote twice
unfoldable pub doubled : List ℕ → List ℕ
doubled [] = []
doubled (b ∷ bs) = if b == 34 then 34 ∷ 34 ∷ doubled bs else b ∷ doubled bs

-- field = escaped / non-escaped
abbrev pub IsFieldText : List ℕ → List ℕ → Type 0
IsFieldText text field = ((text ≡ field) × (list_any is_special field ≡ false)) ⊎ (text ≡ 34 ∷ (doubled field ++ 34 ∷ []))

-- record = field *(COMMA field)
unfoldable pub IsRecordText : List ℕ → List (List ℕ) → Type 0
IsRecordText text [] = ⊥
IsRecordText text (f ∷ []) = IsFieldText text f
IsRecordText text (f ∷ g ∷ fs) = (first : List ℕ) × (rest : List ℕ) × (text ≡ first ++ 44 ∷ rest) × IsFieldText first f × IsRecordText rest (g ∷ fs)

-- a line's end: CRLF, or LF alone, which the RFC does not have and files do
abbrev pub IsLineEnd : List ℕ → Type 0
IsLineEnd end = (end ≡ 13 ∷ 10 ∷ []) ⊎ (end ≡ 10 ∷ [])

-- file = record *(CRLF record) [CRLF], where a line with no byte is no record (a record of one empty field is written `""`); an empty text has no record
unfoldable pub IsRowsText : List ℕ → List (List (List ℕ)) → Type 0
IsRowsText text [] = text ≡ []
IsRowsText text (row ∷ rows) =
    (line : List ℕ) × (end : List ℕ) × (rest : List ℕ) × (text ≡ line ++ (end ++ rest)) × (0 < length line) × IsRecordText line row
    × (IsLineEnd end ⊎ ((end ≡ []) × (rest ≡ []))) × IsRowsText rest rows
