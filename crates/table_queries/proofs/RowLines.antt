-- The line of a record, as the writer of lines and the reader of input texts define it.
use Rattle.std.proofs.Common.{◌≡◌, ◌∙◌, ℕ, ℤ, List, [], ◌∷◌, ◌++◌, refl, sym, ap, append_assoc}
use Rattle.std.specs.Fmt.{signed_decimal}
use Rattle.std.specs.List.{flat_map}
use Rattle.csv_cells.specs.Encoded.{line_text, numbers_text}
use Rattle.collector.specs.OutputText.{spaced}
use Rattle.collector.specs.Piecewise.{row_line}

numbers_are : (zs : List ℤ) → flat_map spaced zs ++ 10 ∷ [] ≡ numbers_text zs
unfolding numbers_text
numbers_are [] = refl
numbers_are (z ∷ zs) = append_assoc (spaced z) (flat_map spaced zs) (10 ∷ []) ∙ ap (λ (t : List ℕ). spaced z ++ t) (numbers_are zs)

pub line_is : (name : List ℕ) (zs : List ℤ) → row_line name zs ≡ line_text name zs
line_is name zs = append_assoc name (flat_map spaced zs) (10 ∷ []) ∙ ap (λ (t : List ℕ). name ++ t) (numbers_are zs)
