-- The input text of a schema's tables.
use Rattle.std.specs.Prelude.{◌≡◌, ◌≢◌, ◌⊎◌, ℕ, suc, List, [], ◌∷◌, ◌++◌, Bool, true, false, IfSome, Option, Some, codes, get_or, slice_get, ⊤}
use Rattle.std.specs.List.{list_any}
use Rattle.csv.specs.Reading.{strip_bom}
use Rattle.csv_cells.specs.Texts.{Grows, HasText, IsAdded}
use Rattle.csv_strict.specs.Strict.{IsStrict}
use Rattle.schema.specs.Text.{names_of}
use Rattle.schema.specs.declared.tables.Epochs.{Epochs}
use Rattle.schema.specs.declared.tables.Epochs.TheVariants.{One, By, Every}
use Rattle.schema.specs.declared.tables.Constant.{Constant}
use Rattle.schema.specs.declared.tables.Schema.{Schema}
use Rattle.schema.specs.declared.tables.Table.{Table}
use Rattle.tables.specs.Tables.{AreEncoded, AreRefused, IsRefusedText}
use Rattle.tables.specs.declared.refusal.EncodeFault.{EncodeFault}
use Rattle.tables.specs.declared.refusal.EncodeRefusal.{EncodeRefusal}
use Rattle.tables.specs.declared.refusal.FileFault.{FileFault}
use Rattle.tables.specs.declared.refusal.FileFault.TheVariants.{Refused, Read, Count, Stopped}
use Rattle.tables.specs.declared.refusal.RecordFault.TheVariants.{Fault as InRecord}
use Rattle.csv_answers.specs.declared.refusal.TableRefusal.{TableRefusal}
use Rattle.csv_answers.specs.declared.refusal.TableRefusal.TheVariants.{At, NoMemory}
use Rattle.tables.specs.declared.records.Target.{Target}

-- whether a table has an epoch for each value of a column
abbrev pub has_own : Epochs → Bool
has_own One = false
has_own Every = false
has_own (By place) = true

-- the lines of a table's file, which may begin with a byte order mark
pub record IsEncodedFile (table : Table) (shared file : List ℕ) (texts : List (List ℕ)) (lines : List ℕ) : Type 0 where
  pub strict : IsStrict (strip_bom file)
  pub target : Target
  pub epochs : target.epochs ≡ table.epochs
  pub named : target.name.now ≡ table.name.items
  pub joined : target.shared.now ≡ shared
  pub encoded : AreEncoded (names_of table) table.columns.items target file texts lines

-- the lines of a table, if it is one of those with epochs of their own, or of the others
abbrev pub IsPart : (own : Bool) → Table → (shared file : List ℕ) → (texts : List (List ℕ)) → (lines : List ℕ) → Type 0
IsPart own table shared file texts lines = ((has_own table.epochs ≡ own) × IsEncodedFile table shared file texts lines) ⊎ ((has_own table.epochs ≢ own) × (lines ≡ []))

-- the lines of those tables, in the order of the tables; the file of the first is at that place
unfoldable pub AreJoined : (own : Bool) → (shared : List ℕ) → (files texts : List (List ℕ)) → (place : ℕ) → List Table → (lines : List ℕ) → Type 0
AreJoined own shared files texts place [] lines = lines ≡ []
AreJoined own shared files texts place (table ∷ tables) lines = (first : List ℕ) × (rest : List ℕ) × IsPart own table shared (get_or files place []) texts first
    × AreJoined own shared files texts (suc place) tables rest × (lines ≡ first ++ rest)

-- the input text: one epoch of all tables, or the epochs of those that have their own, with the lines of the others in each
abbrev pub IsInput : Schema → (files texts : List (List ℕ)) → (out : List ℕ) → Type 0
IsInput schema files texts out = (shared : List ℕ) × AreJoined false [] files texts 0 schema.inputs.items shared
    × (((list_any (λ table. has_own table.epochs) schema.inputs.items ≡ true) × AreJoined true shared files texts 0 schema.inputs.items out)
    ⊎ ((list_any (λ table. has_own table.epochs) schema.inputs.items ≡ false) × (out ≡ codes "epoch" ++ 10 ∷ shared)))

-- why a table's file is refused: its text isn't strict, or has no lines
abbrev pub IsRefusedFile : Table → (file : List ℕ) → (texts : List (List ℕ)) → TableRefusal → Type 0
IsRefusedFile table file texts (At fault line) = IsRefusedText (strip_bom file) fault line
    ⊎ (IsStrict (strip_bom file) × AreRefused (names_of table) table.columns.items table.epochs file texts (InRecord fault))
IsRefusedFile table file texts NoMemory = ⊤

-- these are the bytes of a text, where they are known
abbrev pub IsKnownAs : (known : Option (List ℕ)) → (bytes : List ℕ) → Type 0
IsKnownAs known bytes = IfSome known (λ b. bytes ≡ b)

-- the bytes of files in memory are known; one that isn't there is empty
abbrev pub held : (files : List (List ℕ)) → (place : ℕ) → Option (List ℕ)
held files place = Some (get_or files place [])

-- these are the files of the tables, from that place on
unfoldable pub AreFiles : (known : ℕ → Option (List ℕ)) → (files : List (List ℕ)) → (place : ℕ) → List Table → Type 0
AreFiles known files place [] = ⊤
AreFiles known files place (table ∷ tables) = IsKnownAs (known place) (get_or files place []) × AreFiles known files (suc place) tables

-- the files of those tables are in the places of others
unfoldable pub Completes : (own : Bool) → (known : ℕ → Option (List ℕ)) → (old new : List (List ℕ)) → (place : ℕ) → List Table → Type 0
Completes own known old new place [] = ⊤
Completes own known old new place (table ∷ tables) =
    (((has_own table.epochs ≡ own) × IsKnownAs (known place) (get_or new place [])) ⊎ ((has_own table.epochs ≢ own) × (get_or new place [] ≡ get_or old place [])))
    × Completes own known old new (suc place) tables

-- why a file whose bytes may be known has no lines: it is refused, or can't be read to its end, or what takes the lines stopped
abbrev pub IsFileFault : Table → (known : Option (List ℕ)) → (texts : List (List ℕ)) → FileFault → Type 0
IsFileFault table known texts (Refused refusal) = (file : List ℕ) × IsKnownAs known file × IsRefusedFile table file texts refusal
IsFileFault table known texts Read = ⊤
IsFileFault table known texts Count = ⊤
IsFileFault table known texts Stopped = ⊤

-- the fault is of no file
abbrev pub NeedsNoFile : FileFault → Type 0
NeedsNoFile (Refused NoMemory) = ⊤
NeedsNoFile (Refused (At fault line)) = ⊥
NeedsNoFile Read = ⊥
NeedsNoFile Count = ⊥
NeedsNoFile Stopped = ⊤

-- why there is no input text: the file of one table has no lines, or memory lacks, or what takes the lines stopped
abbrev pub IsInputFault : List Table → (known : ℕ → Option (List ℕ)) → (texts : List (List ℕ)) → EncodeFault → Type 0
IsInputFault tables known texts f = ((table : Table) × (slice_get tables f.file ≡ Some table) × IsFileFault table (known f.file) texts f.fault) ⊎ NeedsNoFile f.fault

-- the same of files in memory: the file of one table is refused, or memory lacks
abbrev pub IsRefusedInput : List Table → (files texts : List (List ℕ)) → EncodeRefusal → Type 0
IsRefusedInput tables files texts r =
    ((table : Table) × (slice_get tables r.file ≡ Some table) × IsRefusedFile table (get_or files r.file []) texts r.refusal) ⊎ (r.refusal ≡ NoMemory)

-- the constants' texts, one after another: each is there, or comes to the end
unfoldable pub AreAdded : List Constant → (old new : List (List ℕ)) → Type 0
AreAdded [] old new = new ≡ old
AreAdded (constant ∷ constants) old new = (next : List (List ℕ)) × IsAdded constant.text.items old next × AreAdded constants next new

-- the constants are numbered before any cell
abbrev pub AreNumbered : List Constant → (old new : List (List ℕ)) → Type 0
AreNumbered constants old new = (next : List (List ℕ)) × AreAdded constants old next × Grows next new

-- each constant's text differs from these and from those of the constants before it
unfoldable pub AreNew : (texts : List (List ℕ)) → List Constant → Type 0
AreNew texts [] = ⊤
AreNew texts (constant ∷ constants) = (¬ HasText constant.text.items texts) × AreNew (texts ++ constant.text.items ∷ []) constants

-- the texts from a place on are those of the constants, as far as both go
abbrev pub AreInPlace : List Constant → (texts : List (List ℕ)) → (place : ℕ) → Type 0
AreInPlace [] texts place = ⊤
AreInPlace (constant ∷ constants) texts place = IfSome (slice_get texts place) (λ text. text ≡ constant.text.items) × AreInPlace constants texts (suc place)
