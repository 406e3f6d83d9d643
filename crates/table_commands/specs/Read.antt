-- What is read of the texts of a command, by a schema.
use Rattle.std.specs.Prelude.{◌≡◌, ℕ, List, [], ◌∷◌, Contains, Option, Some, None}
use Rattle.schema.specs.declared.tables.Schema.{Schema}
use Rattle.schema.specs.declared.tables.Table.{Table}
pub use Rattle.table_files.specs.Read.{AreNamed, AreTexts, BeginsFor, IsDictionaryOf, IsKnownAs, IsOpenedAs, IsReadSchema}
use Rattle.tables.specs.Inputs.{IsInput}

-- the output that is asked for: the one of that name, or the only one
abbrev pub IsOutput : (outputs : List Table) → (name : Option (List ℕ)) → Table → Type 0
IsOutput outputs (Some name) table = Contains outputs table × (table.name.items ≡ name)
IsOutput outputs None table = outputs ≡ table ∷ []

-- the input text of the files of these names, by a schema and the texts of a dictionary
abbrev pub IsInputOf : (known : List ℕ → Option (List ℕ)) → Schema → (names : List (List ℕ)) → (texts : List (List ℕ)) → (out : List ℕ) → Type 0
IsInputOf known schema names texts out = (files : List (List ℕ)) × AreTexts known names files × IsInput schema files texts out
