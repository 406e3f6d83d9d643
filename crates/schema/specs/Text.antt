-- The text of a schema, line by line.
use Rattle.std.specs.Prelude.{◌≡◌, ℕ, List, [], ◌∷◌, ◌++◌, codes, get_or, map}
use Rattle.csv_cells.specs.declared.column.Column.{Column}
pub use Rattle.schema_lines.specs.Words.{IsColumnText, IsEmptyText, kind_text}
use Rattle.schema.specs.declared.tables.Epochs.{Epochs}
use Rattle.schema.specs.declared.tables.Epochs.TheVariants.{One, By, Every}
use Rattle.schema.specs.declared.tables.Table.{Table}
use Rattle.schema.specs.declared.tables.Constant.{Constant}
use Rattle.schema.specs.declared.tables.Schema.{Schema}

-- the lines of columns, each with its name
unfoldable pub AreColumnsText : List (List ℕ) → List Column → List ℕ → Type 0
AreColumnsText [] [] text = text ≡ []
AreColumnsText [] (column ∷ columns) text = ⊥
AreColumnsText (name ∷ names) [] text = ⊥
AreColumnsText (name ∷ names) (column ∷ columns) text =
    (line : List ℕ) × (lines : List ℕ) × IsColumnText name column line × AreColumnsText names columns lines × (text ≡ line ++ lines)

-- the names in the header row
abbrev pub names_of : Table → List (List ℕ)
names_of table = map (λ v. v.items) table.headers.items

-- in which epochs the rows are, as the line that begins a table says it
abbrev pub epochs_text : Epochs → List (List ℕ) → List ℕ
epochs_text One names = []
epochs_text Every names = codes " every epoch"
epochs_text (By place) names = codes " by " ++ get_or names place []

-- the line that begins a table
abbrev pub head_text : List ℕ → Table → List ℕ
head_text word table = word ++ (table.name.items ++ (epochs_text table.epochs (names_of table) ++ codes "\n"))

-- a table: the line that begins it, and those of its columns
abbrev pub IsTableText : List ℕ → Table → List ℕ → Type 0
IsTableText word table text = (lines : List ℕ) × AreColumnsText (names_of table) table.columns.items lines × (text ≡ head_text word table ++ lines)

unfoldable pub AreTablesText : List ℕ → List Table → List ℕ → Type 0
AreTablesText word [] text = text ≡ []
AreTablesText word (table ∷ tables) text =
    (first : List ℕ) × (rest : List ℕ) × IsTableText word table first × AreTablesText word tables rest × (text ≡ first ++ rest)

abbrev pub constant_text : Constant → List ℕ
constant_text constant = codes "constant " ++ (constant.name.items ++ (codes " = \"" ++ (constant.text.items ++ codes "\"\n")))

unfoldable pub constants_text : List Constant → List ℕ
constants_text [] = []
constants_text (constant ∷ constants) = constant_text constant ++ constants_text constants

-- the text of a schema: the inputs, the outputs, and the constants
abbrev pub IsSchemaText : Schema → List ℕ → Type 0
IsSchemaText schema text = (inputs : List ℕ) × (outputs : List ℕ)
    × AreTablesText (codes "input ") schema.inputs.items inputs × AreTablesText (codes "output ") schema.outputs.items outputs
    × (text ≡ inputs ++ (outputs ++ constants_text schema.constants.items))
