-- What an input text's lines become that are written as they come.
use Rattle.std.specs.Prelude.{◌≡◌, ◌≢◌, ◌⊎◌, ◌++◌, ℕ, List, Bool, true, false, Option}
use Rattle.std.specs.Io.KnownBytes.{Appends}
use Rattle.collector.specs.Mark.{end_mark}
use Rattle.collector.specs.Watching.{inner_of}
use Rattle.table_commands.specs.declared.input_writer.InputWriter.{InputWriter}

-- a text was written, if any, that doesn't end with the end mark
abbrev pub IsUnmarked : (old new : Option (List ℕ)) → Type 0
IsUnmarked old new = (text : List ℕ) × Appends old new text × ((front : List ℕ) → text ≢ front ++ end_mark)

-- what is known at a fault: nothing was written, or, of a text that is to have an end mark, a beginning without it
abbrev pub StaysUnmarked : (has_mark : Bool) → (old new : Option (List ℕ)) → Type 0
StaysUnmarked false old new = new ≡ old
StaysUnmarked true old new = IsUnmarked old new

module _ {W : Type 0} (contents : W → Option (List ℕ)) where
  -- since the first, these lines were written, but for those that are left
  abbrev pub HasWritten : (first now : InputWriter W) → (lines : List ℕ) → Type 0
  HasWritten first now lines = (now.out.ghost_name ≡ first.out.ghost_name)
      × (given : List ℕ) × Appends (contents (inner_of first.out.now)) (contents (inner_of now.out.now)) given × (first.lines.items ++ lines ≡ given ++ now.lines.items)

  -- since the first, nothing that ends with the end mark was written, unless the writer failed
  abbrev pub WritesNoMark : (first now : InputWriter W) → Type 0
  WritesNoMark first now = (now.out.ghost_name ≡ first.out.ghost_name)
      × ((now.broken ≡ true) ⊎ IsUnmarked (contents (inner_of first.out.now)) (contents (inner_of now.out.now)))
