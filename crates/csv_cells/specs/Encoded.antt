-- A CSV text as lines of an input text.
use Rattle.std.specs.Prelude.{◌≡◌, ℕ, ℤ, List, [], ◌∷◌, ◌++◌, ⊤}
use Rattle.std.specs.Fmt.{signed_decimal}
use Rattle.csv.specs.Reading.{AreRecords, default_config, strip_bom}
use Rattle.csv.specs.declared.parser.State.TheVariants as st
use Rattle.csv_cells.specs.Cells.{Spells}
use Rattle.csv_cells.specs.declared.column.Column.{Column}

-- a record's line: the input's name, and the numbers, each after one space
unfoldable pub numbers_text : List ℤ → List ℕ
numbers_text [] = 10 ∷ []
numbers_text (z ∷ zs) = 32 ∷ (signed_decimal z ++ numbers_text zs)

abbrev pub line_text : List ℕ → List ℤ → List ℕ
line_text name zs = name ++ numbers_text zs

-- the lines of several records
unfoldable pub lines_text : List ℕ → List (List ℤ) → List ℕ
lines_text name [] = []
lines_text name (zs ∷ rest) = line_text name zs ++ lines_text name rest

-- row by row
unfoldable pub SpellsAll : List Column → List (List ℕ) → List (List (List ℕ)) → List (List ℤ) → Type 0
SpellsAll columns texts [] [] = ⊤
SpellsAll columns texts [] (zs ∷ numbers) = ⊥
SpellsAll columns texts (row ∷ rows) [] = ⊥
SpellsAll columns texts (row ∷ rows) (zs ∷ numbers) = Spells columns texts row zs × SpellsAll columns texts rows numbers

-- the lines are of the numbers of the records that the text reads as
pub record EncodedAs (columns : List Column) (name source : List ℕ) (texts : List (List ℕ)) (lines : List ℕ) : Type 0 where
  pub rows : List (List (List ℕ))
  pub numbers : List (List ℤ)
  pub read : AreRecords default_config st.StartRecord (strip_bom source) rows
  pub spelled : SpellsAll columns texts rows numbers
  pub written : lines ≡ lines_text name numbers
