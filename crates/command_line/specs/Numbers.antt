-- Numbers as words of a command line.
use Rattle.std.specs.Prelude.{◌≡◌, ℕ, List}
use Rattle.std.specs.Str.Parse.{IsNumeral, digits_value, without_leading_plus}

-- the word is digits, or a plus and digits, and they write the number; zeros may come before it
abbrev pub Spells : List ℕ → ℕ → Type 0
Spells word n = IsNumeral 10 (without_leading_plus word) × (digits_value 10 (without_leading_plus word) ≡ n)
