-- Lists of parts.
use Rattle.std.proofs.Common.{List, [], ◌∷◌, Result, Ok, map}
use Rattle.std.specs.Prelude.{IfOk}
use Rattle.std.specs.List.{AllZip}

-- what was made of each item, where all of it was made
pub all_made : {A B : Type 0} (E : Type 0) (P : A → B → Type 0) (xs : List A) (ys : List B) → AllZip (λ x (r : Result B E). IfOk r (P x)) xs (map Ok ys) → AllZip P xs ys
all_made E P [] [] h = tt
all_made E P [] (y ∷ ys) h = absurd h
all_made E P (x ∷ xs) [] h = absurd h
all_made E P (x ∷ xs) (y ∷ ys) h = (h.0, all_made E P xs ys h.1)

-- the same of what each item shows
pub all_shown : {A B C : Type 0} (P : C → B → Type 0) (shown : A → C) (xs : List A) (ys : List B) → AllZip (λ x y. P (shown x) y) xs ys → AllZip P (map shown xs) ys
all_shown P shown [] [] h = tt
all_shown P shown [] (y ∷ ys) h = absurd h
all_shown P shown (x ∷ xs) [] h = absurd h
all_shown P shown (x ∷ xs) (y ∷ ys) h = (h.0, all_shown P shown xs ys h.1)
