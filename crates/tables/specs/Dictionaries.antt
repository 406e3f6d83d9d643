-- The file of a dictionary.
use Rattle.std.specs.Prelude.{◌≡◌, ℕ, List, [], ◌∷◌, codes, map}
use Rattle.csv_answers.specs.Files.{csv_text}

-- the records of a dictionary's file: the header, and then each text by itself
abbrev pub dictionary_rows : (texts : List (List ℕ)) → List (List (List ℕ))
dictionary_rows texts = (codes "text" ∷ []) ∷ map (λ text. text ∷ []) texts

-- a dictionary's file
abbrev pub IsDictionaryFile : (texts : List (List ℕ)) → (file : List ℕ) → Type 0
IsDictionaryFile texts file = file ≡ csv_text (dictionary_rows texts)
