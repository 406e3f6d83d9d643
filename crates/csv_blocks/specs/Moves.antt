-- What is done to a block and what is held behind it.
use Rattle.std.specs.Prelude.{◌≡◌, ◌+◌, ◌++◌, ℕ, true, List, [], cond, length}
use Rattle.csv_strict.specs.Strict.{ends_text}
use Rattle.csv_strict.specs.declared.state.State.TheVariants.{Record}
use Rattle.csv_blocks.specs.Blocks.{block_of, rest_of}
use Rattle.csv_blocks.specs.Texts.{AreWhole}
use Rattle.csv_blocks.specs.declared.blocks.Blocks.{Blocks}

-- the number of bytes that are held; those of the mark, which may be left out, are counted as soon as it was looked for
abbrev pub size_of : Blocks → ℕ
size_of b = length (block_of b ++ rest_of b) + cond b.begun 3 0

-- the rest and these bytes are put to the block
pub record Keeps (old new : Blocks) (ends : List ℕ) : Type 0 where
  pub block : block_of new ≡ block_of old ++ (rest_of old ++ ends)
  pub rest : rest_of new ≡ []
  pub state : new.state ≡ Record
  pub begun : new.begun ≡ old.begun
  pub lines : new.lines ≡ old.lines

-- the mark was looked for, and the rest is now this one; whole records of it may be put to the block
pub record Moves (old new : Blocks) (rest : List ℕ) : Type 0 where
  pub all : block_of new ++ rest_of new ≡ block_of old ++ rest
  pub whole : AreWhole (block_of old) → AreWhole (block_of new)
  pub begun : new.begun ≡ true
  pub lines : new.lines ≡ old.lines

-- the rest is put to the block, and the text may end with it
pub record Ends (old new : Blocks) : Type 0 where
  pub all : block_of new ≡ block_of old ++ rest_of old
  pub none : rest_of new ≡ []
  pub ends : ends_text old.state ≡ true
  pub lines : new.lines ≡ old.lines
