-- Bytes that look like one token.
use Rattle.std.specs.Prelude.{◌≡◌, ℕ, ◌<◌, ◌≤◌, Bool, ◌==◌, ◌||◌, if◌then◌else◌, IsTrue, List, [], ◌∷◌, length, take}
use Rattle.std.specs.List.{list_all}
use Rattle.record_core.specs.Names.{is_letter, is_digit, is_name_byte}
use Rattle.lexer.specs.declared.mark.Mark.{Mark}
use Rattle.lexer.specs.declared.lexeme.Shape.{Shape}
use Rattle.lexer.specs.declared.lexeme.Shape.TheVariants.{Word, Numeral, Reference, Sign}
use Rattle.lexer.specs.declared.lexeme.Class.{Class}
use Rattle.lexer.specs.declared.lexeme.Class.TheVariants.{Space, Digit, NameByte}
use Rattle.lexer.specs.Marks.{mark_text}

-- space, tab, line feed, carriage return
abbrev pub is_space : ℕ → Bool
is_space b = (b == 32) || (b == 9) || (b == 10) || (b == 13)

-- the byte is of the class
abbrev pub passes : Class → ℕ → Bool
passes Space b = is_space b
passes Digit b = is_digit b
passes NameByte b = is_name_byte b

-- what begins with a byte: a name or keyword, a number, a column, or a mark
abbrev pub shape_of : ℕ → Shape
shape_of b = if is_letter b then Word else if is_digit b then Numeral else if b == 35 then Reference else Sign

-- what may follow the first byte: name bytes, digits, one digit or more after a `#`, the rest of a mark
abbrev pub HasShape : Shape → ℕ → List ℕ → Type 0
HasShape Word b bs = IsTrue (list_all is_name_byte bs)
HasShape Numeral b bs = IsTrue (list_all is_digit bs)
HasShape Reference b bs = (0 < length bs) × IsTrue (list_all is_digit bs)
HasShape Sign b bs = (m : Mark) × (b ∷ bs ≡ mark_text m)

-- The bytes look like one token. A number may have leading zeros and any size here, and a name any length.
abbrev pub IsLexeme : List ℕ → Type 0
IsLexeme [] = ⊥
IsLexeme (b ∷ bs) = HasShape (shape_of b) b bs

-- the first n bytes are a lexeme, and no longer front is one
pub record IsLongest (bytes : List ℕ) (n : ℕ) : Type 0 where
  pub within : n ≤ length bytes
  pub lexeme : IsLexeme (take n bytes)
  pub longest : (k : ℕ) → n < k → k ≤ length bytes → IsLexeme (take k bytes) → ⊥
