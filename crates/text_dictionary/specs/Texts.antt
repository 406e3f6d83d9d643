-- The texts of a dictionary.
use Rattle.std.specs.Prelude.{◌≡◌, ◌⊎◌, ℕ, ℤ, pos, negsuc, List, [], ◌∷◌, ◌++◌, map, slice_get, Option, None, Some}
use Rattle.text_dictionary.specs.declared.dictionary.Dictionary.{Dictionary}

-- the texts of a dictionary, each at its number
abbrev pub texts_of : Dictionary → List (List ℕ)
texts_of d = map (λ v. v.items) d.texts.keys

-- the text of that number
abbrev pub text_at : List (List ℕ) → ℤ → Option (List ℕ)
text_at texts (pos n) = slice_get texts n
text_at texts (negsuc n) = None

-- texts may come to the end, and no text moves
abbrev pub Grows : List (List ℕ) → List (List ℕ) → Type 0
Grows old new = (more : List (List ℕ)) × (new ≡ old ++ more)

-- a number stands for the text
abbrev pub HasText : List ℕ → List (List ℕ) → Type 0
HasText text texts = (z : ℤ) × (text_at texts z ≡ Some text)

-- the text was there, or comes to the end
abbrev pub IsAdded : List ℕ → (old new : List (List ℕ)) → Type 0
IsAdded text old new = (HasText text old × (new ≡ old)) ⊎ ((¬ HasText text old) × (new ≡ old ++ text ∷ []))
