-- What is read of the texts of a command.
use Rattle.std.specs.Prelude.{◌≡◌, ◌⊎◌, ℕ, List, [], ◌∷◌, ◌++◌, Bool, true, false, Contains, Option}
use Rattle.schema.specs.Text.{IsSchemaText}
use Rattle.schema.specs.declared.tables.Constant.{Constant}
use Rattle.schema.specs.declared.tables.Schema.{Schema}
use Rattle.schema.specs.declared.tables.Table.{Table}
use Rattle.tables.specs.Tables.{IsReadDictionary}
use Rattle.tables.specs.Inputs.{AreInPlace}
pub use Rattle.tables.specs.Inputs.{IsKnownAs}

-- these are the bytes of the texts of these names
unfoldable pub AreTexts : (known : List ℕ → Option (List ℕ)) → (names texts : List (List ℕ)) → Type 0
AreTexts known [] texts = texts ≡ []
AreTexts known (name ∷ names) [] = ⊥
AreTexts known (name ∷ names) (text ∷ texts) = IsKnownAs (known name) text × AreTexts known names texts

-- this is the schema of a text
abbrev pub IsReadSchema : (known : Option (List ℕ)) → Schema → Type 0
IsReadSchema known schema = (text : List ℕ) × IsKnownAs known text × IsSchemaText schema text

-- these are the texts of a dictionary's file
abbrev pub IsDictionaryOf : (known : Option (List ℕ)) → (texts : List (List ℕ)) → Type 0
IsDictionaryOf known texts = (file : List ℕ) × IsKnownAs known file × IsReadDictionary file texts

-- the same; or none, where a dictionary may begin
abbrev pub IsOpenedAs : (may_begin : Bool) → (known : Option (List ℕ)) → (texts : List (List ℕ)) → Type 0
IsOpenedAs false known texts = IsDictionaryOf known texts
IsOpenedAs true known texts = IsDictionaryOf known texts ⊎ (texts ≡ [])

-- the same where one may begin; it begins with the constants, as far as it goes
abbrev pub BeginsFor : (known : Option (List ℕ)) → List Constant → (texts : List (List ℕ)) → Type 0
BeginsFor known constants texts = IsOpenedAs true known texts × AreInPlace constants texts 0

-- each table's file is that of a word `NAME=FILE`
unfoldable pub AreNamed : (tables : List Table) → (words paths : List (List ℕ)) → Type 0
AreNamed [] words paths = paths ≡ []
AreNamed (table ∷ tables) words [] = ⊥
AreNamed (table ∷ tables) words (path ∷ paths) = Contains words (table.name.items ++ 61 ∷ path) × AreNamed tables words paths
