-- Lists and functions by place.
use Rattle.std.proofs.Common.{◌≡◌, ◌≢◌, ℕ, zero, suc, ◌<◌, ◌==◌, true, false, cond, List, [], ◌∷◌, length, refl, sym, ap, ◌∙◌, arith, slice_get, slice_set, slice_index_or, Some, ◌⊎◌, inl, inr}
use Rattle.std.proofs.lemmas.Bool.Decides.{eqb_tells}
use Rattle.machine.specs.Step.{put}

-- an element that exists doesn't depend on the default
pub index_any : {X : Type 0} (xs : List X) (i : ℕ) (d x : X) → i < length xs → x ≡ slice_index_or xs i x → x ≡ slice_index_or xs i d
index_any [] i d x l e = absurd (omega arith)
index_any (y ∷ ys) zero d x l e = e
index_any (y ∷ ys) (suc i) d x l e = index_any ys i d x (omega arith) e

pub index_set_here : {X : Type 0} (xs : List X) (i : ℕ) (x d : X) → i < length xs → slice_index_or (slice_set xs i x) i d ≡ x
index_set_here [] i x d l = absurd (omega arith)
index_set_here (y ∷ ys) zero x d l = refl
index_set_here (y ∷ ys) (suc i) x d l = index_set_here ys i x d (omega arith)

pub index_set_other : {X : Type 0} (xs : List X) (i j : ℕ) (x d : X) → j ≢ i → slice_index_or (slice_set xs i x) j d ≡ slice_index_or xs j d
index_set_other [] i j x d ne = refl
index_set_other (y ∷ ys) zero zero x d ne = absurd (ne refl)
index_set_other (y ∷ ys) zero (suc j) x d ne = refl
index_set_other (y ∷ ys) (suc i) zero x d ne = refl
index_set_other (y ∷ ys) (suc i) (suc j) x d ne = index_set_other ys i j x d (λ e. ne (ap suc e))

pub get_index : {X : Type 0} (xs : List X) (i : ℕ) (d x : X) → slice_get xs i ≡ Some x → (i < length xs) × (slice_index_or xs i d ≡ x)
get_index [] i d x e = absurd cc
get_index (y ∷ ys) zero d x e = (omega arith, cc)
get_index (y ∷ ys) (suc i) d x e = let r = get_index ys i d x e in (omega (arith, r.0), r.1)

pub index_get : {X : Type 0} (xs : List X) (i : ℕ) (d : X) → i < length xs → slice_get xs i ≡ Some (slice_index_or xs i d)
index_get [] i d l = absurd (omega arith)
index_get (y ∷ ys) zero d l = refl
index_get (y ∷ ys) (suc i) d l = index_get ys i d (omega arith)

-- a function and a list that agree still do after one place is set in both
pub put_set : {X Y : Type 0} (f : ℕ → Y) (g : X → Y) (xs : List X) (d : X) (i : ℕ) (x : X) (y : Y) → i < length xs → g x ≡ y
    → ((j : ℕ) → f j ≡ g (slice_index_or xs j d)) → (j : ℕ) → put f i y j ≡ g (slice_index_or (slice_set xs i x) j d)
put_set f g xs d i x y l e same j = go (eqb_tells j i)
  where
    go : ((j == i) ≡ true) × (j ≡ i) ⊎ ((j == i) ≡ false) × (j ≢ i) → put f i y j ≡ g (slice_index_or (slice_set xs i x) j d)
    go (inl (t, q)) = ap (λ b. cond b y (f j)) t ∙ sym e ∙ ap g (sym (ap (λ k. slice_index_or (slice_set xs i x) k d) q ∙ index_set_here xs i x d l))
    go (inr (t, q)) = ap (λ b. cond b y (f j)) t ∙ same j ∙ ap g (sym (index_set_other xs i j x d q))

-- the same for the places below n only
pub put_set_below : {X Y : Type 0} (n : ℕ) (f : ℕ → Y) (g : X → Y) (xs : List X) (d : X) (i : ℕ) (x : X) (y : Y) → i < length xs → g x ≡ y
    → ((j : ℕ) → j < n → f j ≡ g (slice_index_or xs j d)) → (j : ℕ) → j < n → put f i y j ≡ g (slice_index_or (slice_set xs i x) j d)
put_set_below n f g xs d i x y l e same j lj = go (eqb_tells j i)
  where
    go : ((j == i) ≡ true) × (j ≡ i) ⊎ ((j == i) ≡ false) × (j ≢ i) → put f i y j ≡ g (slice_index_or (slice_set xs i x) j d)
    go (inl (t, q)) = ap (λ b. cond b y (f j)) t ∙ sym e ∙ ap g (sym (ap (λ k. slice_index_or (slice_set xs i x) k d) q ∙ index_set_here xs i x d l))
    go (inr (t, q)) = ap (λ b. cond b y (f j)) t ∙ same j lj ∙ ap g (sym (index_set_other xs i j x d q))

-- a function that stays agrees with a list whose part stays
pub same_set : {X Y : Type 0} (n : ℕ) (f : ℕ → Y) (g : X → Y) (xs : List X) (d : X) (i : ℕ) (x : X) → i < length xs → g x ≡ g (slice_index_or xs i d)
    → ((j : ℕ) → j < n → f j ≡ g (slice_index_or xs j d)) → (j : ℕ) → j < n → f j ≡ g (slice_index_or (slice_set xs i x) j d)
same_set n f g xs d i x l e same j lj = go (eqb_tells j i)
  where
    go : ((j == i) ≡ true) × (j ≡ i) ⊎ ((j == i) ≡ false) × (j ≢ i) → f j ≡ g (slice_index_or (slice_set xs i x) j d)
    go (inl (t, q)) = same j lj ∙ ap (λ k. g (slice_index_or xs k d)) q ∙ sym e ∙ ap g (sym (ap (λ k. slice_index_or (slice_set xs i x) k d) q ∙ index_set_here xs i x d l))
    go (inr (t, q)) = same j lj ∙ ap g (sym (index_set_other xs i j x d q))
