-- How a file is read to its end.
use Rattle.std.specs.Prelude.{◌≡◌, ◌⊎◌, ◌<◌, ◌++◌, ℕ, Bool, true, false, List, [], Option, length}
use Rattle.std.specs.Io.KnownBytes.{IsAtEnd}
use Rattle.csv.specs.Reading.{strip_bom}
use Rattle.csv_blocks.specs.Blocks.{IsFaultOf, IsStuck}
use Rattle.csv_blocks.specs.Texts.{AreWhole}
use Rattle.csv_blocks.specs.declared.fault.BlockFault.{BlockFault}
use Rattle.csv_strict.specs.Strict.{IsStrict}
use Rattle.schema.specs.Text.{names_of}
use Rattle.schema.specs.declared.tables.Table.{Table}
use Rattle.tables.specs.Tables.{AreRefused}
use Rattle.tables.specs.declared.refusal.RecordFault.{RecordFault}

-- a fault is of a text of which these bytes were read, and these are left, where they are known
abbrev pub IsFaultIn : (left : Option (List ℕ)) → (text : List ℕ) → BlockFault → Type 0
IsFaultIn left text fault = IsStuck text fault ⊎ (IsAtEnd left × IsFaultOf (strip_bom text) fault)

-- what comes behind a block: nothing, if it is the last; else the block is whole records
abbrev pub MayFollow : (last : Bool) → (block tail : List ℕ) → Type 0
MayFollow false block tail = AreWhole block × (0 < length block)
MayFollow true block tail = IsStrict block × (tail ≡ [])

-- a text that begins so was read to its end
pub record IsReadOut (last : Bool) (front text : List ℕ) : Type 0 where
  pub tail : List ℕ
  pub all : strip_bom text ≡ front ++ tail
  pub none : last ≡ true → tail ≡ []
  pub strict : IsStrict (strip_bom text)

-- a file that begins with these bytes, and then this block, is refused, whatever comes behind
abbrev pub IsRefusedBehind : Table → (texts : List (List ℕ)) → (last : Bool) → (done block : List ℕ) → RecordFault → Type 0
IsRefusedBehind table texts last done block fault = (tail file : List ℕ) → MayFollow last block tail → strip_bom file ≡ (done ++ block) ++ tail
    → AreRefused (names_of table) table.columns.items table.epochs file texts fault
