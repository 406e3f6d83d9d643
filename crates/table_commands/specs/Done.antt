-- What `encode`, `decode` and `kinds` write.
use Rattle.std.specs.Prelude.{◌≡◌, ◌++◌, ℕ, List, [], Option, Some, None, Bool, map, option_map, true, false}
use Rattle.std.specs.List.{list_any}
use Rattle.std.specs.Io.KnownBytes.{Appends}
use Rattle.collector.specs.Mark.{end_mark}
pub use Rattle.query_answers.specs.Runs.{Known}
use Rattle.query_kinds.specs.Listed.{IsListed}
use Rattle.schema.specs.declared.tables.Schema.{Schema}
use Rattle.schema.specs.declared.tables.Table.{Table}
use Rattle.table_commands.specs.Read.{AreNamed, BeginsFor, IsDictionaryOf, IsInputOf, IsKnownAs, IsOutput, IsReadSchema}
use Rattle.table_commands.specs.Streamed.{StaysUnmarked}
use Rattle.table_words.specs.declared.line.Asked.{Asked}
use Rattle.table_words.specs.declared.line.Asked.TheVariants.{Encode, Decode, Kinds}
use Rattle.tables.specs.Answers.{IsDecoded}
use Rattle.tables.specs.Inputs.{AreNumbered, has_own}

-- the texts that a command which may add to them begins with: those of the dictionary that is named, or none
abbrev pub BeginsWith : Known → Schema → (dictionary : Option (List ℕ)) → (texts : List (List ℕ)) → Type 0
BeginsWith known schema None texts = texts ≡ []
BeginsWith known schema (Some name) texts = BeginsFor (known name) schema.constants.items texts

-- an input text, and behind it the end mark if it is to have one
abbrev pub marked : (has_mark : Bool) → (text : List ℕ) → List ℕ
marked false text = text
marked true text = text ++ end_mark

-- the input text of the files: by the dictionary's texts, with those of the schema's constants and of the files added in this order
pub record IsEncodedBy (known : Known) (schema : Schema) (paths : List (List ℕ)) (dictionary : Option (List ℕ)) (has_mark : Bool) (out : List ℕ) : Type 0 where
  pub old : List (List ℕ)
  pub new : List (List ℕ)
  pub text : List ℕ
  pub begins : BeginsWith known schema dictionary old
  pub numbered : AreNumbered schema.constants.items old new
  pub encoded : IsInputOf known schema paths new text
  pub ended : out ≡ marked has_mark text

-- the input text of the files by a dictionary's texts: its beginning was written, and this is the rest
abbrev pub IsBegunBy : Known → Schema → (paths texts : List (List ℕ)) → (has_mark : Bool) → (old new : Option (List ℕ)) → (rest : List ℕ) → Type 0
IsBegunBy known schema paths texts has_mark old new rest =
    (text : List ℕ) × (begun : List ℕ) × IsInputOf known schema paths texts text × Appends old new begun × (begun ++ rest ≡ marked has_mark text)

-- the same of the text that `encode` writes
abbrev pub IsEncodedOnto : Known → Schema → (paths : List (List ℕ)) → (dictionary : Option (List ℕ)) → (has_mark : Bool) → (old new : Option (List ℕ)) → (rest : List ℕ) → Type 0
IsEncodedOnto known schema paths dictionary has_mark old new rest =
    (begun : List ℕ) × Appends old new begun × IsEncodedBy known schema paths dictionary has_mark (begun ++ rest)

-- that text was written
abbrev pub WritesInput : Known → Schema → (paths : List (List ℕ)) → (dictionary : Option (List ℕ)) → (has_mark : Bool) → Option (List ℕ) → Option (List ℕ) → Type 0
WritesInput known schema paths dictionary has_mark old new =
    (out : List ℕ) × IsEncodedBy known schema paths dictionary has_mark out × Appends old new out

-- `encode`: it was written of the files that the words name, by the schema of that name
pub record HasEncoded (known : Known) (name : List ℕ) (words : List (List ℕ)) (dictionary : Option (List ℕ)) (has_mark : Bool) (old new : Option (List ℕ)) : Type 0 where
  pub schema : Schema
  pub paths : List (List ℕ)
  pub read : IsReadSchema (known name) schema
  pub named : AreNamed schema.inputs.items words paths
  pub written : WritesInput known schema paths dictionary has_mark old new

-- the texts of the dictionary, if one is named
abbrev pub AreKnownBy : Known → (dictionary : Option (List ℕ)) → (texts : List (List ℕ)) → Type 0
AreKnownBy known None texts = texts ≡ []
AreKnownBy known (Some name) texts = IsDictionaryOf (known name) texts

-- the CSV file of an answer at the output that is asked for, by the dictionary's texts
pub record IsDecodedBy (known : Known) (schema : Schema) (answer : List ℕ) (dictionary output : Option (List ℕ)) (file : List ℕ) : Type 0 where
  pub table : Table
  pub texts : List (List ℕ)
  pub text : List ℕ
  pub asked : IsOutput schema.outputs.items output table
  pub numbered : AreKnownBy known dictionary texts
  pub read : IsKnownAs (known answer) text
  pub decoded : IsDecoded table (list_any (λ t. has_own t.epochs) schema.inputs.items) texts text file

-- `decode`: that file was written, by the schema of that name
pub record HasDecoded (known : Known) (name answer : List ℕ) (dictionary output : Option (List ℕ)) (old new : Option (List ℕ)) : Type 0 where
  pub schema : Schema
  pub file : List ℕ
  pub read : IsReadSchema (known name) schema
  pub decoded : IsDecodedBy known schema answer dictionary output file
  pub written : Appends old new file

-- `kinds`: what the fields of the query stand for was written, by the schema of that name
pub record HasListedKinds (known : Known) (name query : List ℕ) (old new : Option (List ℕ)) : Type 0 where
  pub schema : Schema
  pub text : List ℕ
  pub listing : List ℕ
  pub schema_read : IsReadSchema (known name) schema
  pub read : IsKnownAs (known query) text
  pub listed : IsListed text schema listing
  pub written : Appends old new listing

-- what was asked for was done
abbrev pub IsDone : Known → Asked → (old new : Option (List ℕ)) → Type 0
IsDone known (Encode schema files dictionary end_mark) old new =
    HasEncoded known schema.now (map (λ s. s.now) files.items) (option_map (λ s. s.now) dictionary) end_mark old new
IsDone known (Decode asked) old new = HasDecoded known asked.schema.now asked.answer.now (option_map (λ s. s.now) asked.dictionary) (option_map (λ s. s.now) asked.output) old new
IsDone known (Kinds asked) old new = HasListedKinds known asked.schema.now asked.query.now old new

-- what is known where it wasn't done: nothing was written, or, of an input text that is to have an end mark, a beginning without it
abbrev pub IsQuiet : Asked → (old new : Option (List ℕ)) → Type 0
IsQuiet (Encode schema files dictionary end_mark) old new = StaysUnmarked end_mark old new
IsQuiet (Decode asked) old new = new ≡ old
IsQuiet (Kinds asked) old new = new ≡ old
