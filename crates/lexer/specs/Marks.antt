-- How marks are spelled.
use Rattle.std.specs.Prelude.{◌≡◌, ◌<◌, ℕ, List, length, take, codes}
use Rattle.lexer.specs.declared.mark.Mark.{Mark}
use Rattle.lexer.specs.declared.mark.Mark.TheVariants as mark

-- the spelling of a mark
abbrev pub mark_text : Mark → List ℕ
mark_text mark.NotEqual = codes "!="
mark_text mark.AtMost = codes "<="
mark_text mark.AtLeast = codes ">="
mark_text mark.Slash = codes "/"
mark_text mark.Semicolon = codes ";"
mark_text mark.Comma = codes ","
mark_text mark.OpenRound = codes "("
mark_text mark.CloseRound = codes ")"
mark_text mark.OpenSquare = codes "["
mark_text mark.CloseSquare = codes "]"
mark_text mark.Equal = codes "="
mark_text mark.Below = codes "<"
mark_text mark.Above = codes ">"
mark_text mark.Plus = codes "+"
mark_text mark.Minus = codes "-"
mark_text mark.Star = codes "*"

-- the mark is at the front of the bytes
abbrev pub BeginsWith : List ℕ → Mark → Type 0
BeginsWith bytes m = take (length (mark_text m)) bytes ≡ mark_text m

-- the mark is at the front, and no longer one is
pub record IsLongestMark (bytes : List ℕ) (m : Mark) : Type 0 where
  pub begins : BeginsWith bytes m
  pub longest : (n : Mark) → length (mark_text m) < length (mark_text n) → BeginsWith bytes n → ⊥
