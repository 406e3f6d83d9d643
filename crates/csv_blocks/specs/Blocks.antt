-- A text that is handed out in blocks.
use Rattle.std.specs.Prelude.{◌≡◌, ◌<◌, ◌≤◌, ◌+◌, ◌^◌, ◌↔◌, ◌++◌, ℕ, Bool, true, false, List, [], ⊤, drop, length}
use Rattle.csv.specs.Reading.{strip_bom}
use Rattle.csv_strict.specs.Strict.{IsRefused, IsStrict}
use Rattle.csv_blocks.specs.Texts.{AreWhole, lines}
use Rattle.csv_blocks.specs.declared.blocks.Blocks.{Blocks}
use Rattle.csv_blocks.specs.declared.fault.BlockFault.{BlockFault}
use Rattle.csv_blocks.specs.declared.fault.BlockFault.TheVariants.{NoMemory, Read, Count, Text}

-- the block
abbrev pub block_of : Blocks → List ℕ
block_of b = drop 1 b.block.items

-- what is held behind it
abbrev pub rest_of : Blocks → List ℕ
rest_of b = b.rest.items

-- of a text without a mark `done` was handed out before the block, and the rest comes behind it; both `done` and the block are whole records
pub record Holds (done : List ℕ) (b : Blocks) (text : List ℕ) : Type 0 where
  pub all : text ≡ done ++ (block_of b ++ rest_of b)
  pub before : AreWhole done
  pub whole : AreWhole (block_of b)
  pub lines : b.lines ≡ lines done

-- the same of a text that may begin with a mark, which is looked for once three bytes have come
pub record IsAt (done : List ℕ) (b : Blocks) (text : List ℕ) : Type 0 where
  pub holds : Holds done b (strip_bom text)
  pub begun : (b.begun ≡ true) ↔ (3 ≤ length text)
  pub none : b.begun ≡ false → done ++ block_of b ≡ []

-- a block that has bytes, with more of the text behind it or none
pub record IsNext (done : List ℕ) (b : Blocks) (text : List ℕ) : Type 0 where
  pub is_at : IsAt done b text
  pub some : 0 < length (block_of b)
  pub more : (tail : List ℕ) → strip_bom (text ++ tail) ≡ strip_bom text ++ tail

-- the last block, which is all that is left of the text
pub record IsLast (done : List ℕ) (b : Blocks) (text : List ℕ) : Type 0 where
  pub all : strip_bom text ≡ done ++ block_of b
  pub none : rest_of b ≡ []
  pub before : AreWhole done
  pub lines : b.lines ≡ lines done
  pub strict : IsStrict (strip_bom text)

-- a block, which is the last one or not
abbrev pub IsFilled : (last : Bool) → (done : List ℕ) → Blocks → (text : List ℕ) → Type 0
IsFilled false done b text = IsNext done b text
IsFilled true done b text = IsLast done b text

-- a fault is of this text: its lines and one more can't be counted, or it is refused so
abbrev pub IsFaultOf : (text : List ℕ) → BlockFault → Type 0
IsFaultOf text NoMemory = ⊤
IsFaultOf text Read = ⊤
IsFaultOf text Count = 2 ^ 64 ≤ lines text + 1
IsFaultOf text (Text refusal) = IsRefused text refusal

-- however the text goes on, a fault is of it
abbrev pub IsStuck : (text : List ℕ) → BlockFault → Type 0
IsStuck text fault = (tail : List ℕ) → IsFaultOf (strip_bom (text ++ tail)) fault
