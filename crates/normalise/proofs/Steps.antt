-- A loop that writes each element of a list in turn.
use Rattle.std.proofs.Common.{◌≡◌, ℕ, zero, suc, ◌+◌, ◌<◌, List, [], ◌∷◌, ◌++◌, map, length, take, drop, get_or, refl, ap, arith, add-one}
use Rattle.std.proofs.Math.ListN.{set}

not_ended : {A : Type 0} (xs : List A) (i : ℕ) → i < length xs → drop i xs ≡ [] → ⊥
not_ended [] i l e = absurd (omega arith)
not_ended (x ∷ xs) zero l e = cc
not_ended (x ∷ xs) (suc i) l e = not_ended xs i (omega arith) e

-- what was written so far, with x at the number i
taken_set : {A B : Type 0} (f : A → B) (xs : List A) (i : ℕ) (x : A) → i < length xs → map f (take (suc i) (set xs i x)) ≡ map f (take i xs) ++ f x ∷ []
taken_set f [] i x l = absurd (omega arith)
taken_set f (y ∷ ys) zero x l = refl
taken_set f (y ∷ ys) (suc i) x l = ap (λ zs. f y ∷ zs) (taken_set f ys i x (omega arith))

-- what was there so far, where the rest is as it was and y is next
taken_next : {A B : Type 0} (f : A → B) (xs ys : List A) (i : ℕ) (y : A) → i < length xs → drop i xs ≡ drop i ys → y ≡ get_or xs i y → map f (take (suc i) ys) ≡ map f (take i ys) ++ f y ∷ []
taken_next f [] ys i y l e h = absurd (omega arith)
taken_next f (x ∷ xs) [] zero y l e h = cc
taken_next f (x ∷ xs) (w ∷ ws) zero y l e h = ap (λ v. f v ∷ []) next
  where
    next : w ≡ y
    next = cc
taken_next f (x ∷ xs) [] (suc i) y l e h = absurd (not_ended xs i (omega arith) e)
taken_next f (x ∷ xs) (w ∷ ws) (suc i) y l e h = ap (λ zs. f w ∷ zs) (taken_next f xs ws i y (omega arith) e h)

dropped_next : {A : Type 0} (xs ys : List A) (i : ℕ) (x : A) → i < length xs → drop i xs ≡ drop i ys → drop (suc i) (set xs i x) ≡ drop (suc i) ys
dropped_next [] ys i x l e = absurd (omega arith)
dropped_next (z ∷ zs) [] zero x l e = cc
dropped_next (z ∷ zs) (w ∷ ws) zero x l e = cc
dropped_next (z ∷ zs) [] (suc i) x l e = absurd (not_ended zs i (omega arith) e)
dropped_next (z ∷ zs) (w ∷ ws) (suc i) x l e = dropped_next zs ws i x (omega arith) e

-- ---- as the code counts

pub taken-set : {A B : Type 0} (f : A → B) (xs : List A) (i : ℕ) (x : A) → i < length xs → map f (take (i + 1) (set xs i x)) ≡ map f (take i xs) ++ f x ∷ []
taken-set f xs i x l = rw add-one (taken_set f xs i x l)

pub taken-next : {A B : Type 0} (f : A → B) (xs ys : List A) (i : ℕ) (y : A) → i < length xs → drop i xs ≡ drop i ys → y ≡ get_or xs i y → map f (take (i + 1) ys) ≡ map f (take i ys) ++ f y ∷ []
taken-next f xs ys i y l e h = rw add-one (taken_next f xs ys i y l e h)

pub dropped-next : {A : Type 0} (xs ys : List A) (i : ℕ) (x : A) → i < length xs → drop i xs ≡ drop i ys → drop (i + 1) (set xs i x) ≡ drop (i + 1) ys
dropped-next xs ys i x l e = rw add-one (dropped_next xs ys i x l e)
