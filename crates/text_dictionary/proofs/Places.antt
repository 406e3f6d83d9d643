-- A text has one place in a dictionary.
use Rattle.std.proofs.Common.{◌≡◌, ℕ, ℤ, pos, negsuc, zero, suc, List, [], ◌∷◌, ◌++◌, map, length, Some, refl, sym, ◌∙◌, ap, arith, slice_get, ◌<◌, Bool, true, false, inl, inr, if◌then◌else◌, Result, Ok, Err, OnOk}
use Rattle.std.proofs.lemmas.List.{map-append}
use Rattle.std.proofs.lemmas.Option.{slice_get_within}
use Rattle.std.specs.List.{IsDistinct, AllByRecursion}
use Rattle.text_dictionary.specs.Texts.{IsAdded, text_at}

get-left : {X : Type 0} (fs gs : List X) (j : ℕ) → j < length fs → slice_get (fs ++ gs) j ≡ slice_get fs j
get-left [] gs j h = absurd (omega arith)
get-left (f ∷ fs) gs zero h = refl
get-left (f ∷ fs) gs (suc j) h = get-left fs gs j (omega arith)

get-last : {X : Type 0} (fs : List X) (f : X) → slice_get (fs ++ f ∷ []) (length fs) ≡ Some f
get-last [] f = refl
get-last (g ∷ fs) f = get-last fs f

-- a place that has a text keeps it
pub get-kept : {X : Type 0} (fs gs : List X) (j : ℕ) (f : X) → slice_get fs j ≡ Some f → slice_get (fs ++ gs) j ≡ Some f
get-kept fs gs j f h = get-left fs gs j (slice_get_within fs j f h) ∙ h

some-once : (f g : List ℕ) → Some f ≡ Some g → f ≡ g
some-once f g e = cc e

apart : {K : Type 0} (e : K → K → Bool) (v : K → List ℕ) → ((a b : K) → v a ≡ v b → e a b ≡ true) → (k : K) (ks : List K) (j : ℕ) (t : List ℕ)
    → AllByRecursion (λ y. e k y ≡ false) ks → v k ≡ t → slice_get (map v ks) j ≡ Some t → ⊥
apart e v same k [] j t all at h = cc h
apart e v same k (y ∷ ks) zero t all at h =
    let equal : e k y ≡ true = same k y (at ∙ sym (some-once _ _ h)) in
    cc (equal, all.0)
apart e v same k (y ∷ ks) (suc j) t all at h = apart e v same k ks j t all.1 at h

pub distinct-place : {K : Type 0} (e : K → K → Bool) (v : K → List ℕ) → ((a b : K) → v a ≡ v b → e a b ≡ true) → (ks : List K) (i j : ℕ) (t : List ℕ)
    → IsDistinct e ks → slice_get (map v ks) i ≡ Some t → slice_get (map v ks) j ≡ Some t → j ≡ i
unfolding IsDistinct
distinct-place e v same [] i j t d hi hj = cc hi
distinct-place e v same (k ∷ ks) zero zero t d hi hj = refl
distinct-place e v same (k ∷ ks) zero (suc j) t d hi hj = absurd (apart e v same k ks j t d.0 (some-once _ _ hi) hj)
distinct-place e v same (k ∷ ks) (suc i) zero t d hi hj = absurd (apart e v same k ks i t d.0 (some-once _ _ hj) hi)
distinct-place e v same (k ∷ ks) (suc i) (suc j) t d hi hj = ap suc (distinct-place e v same ks i j t d.1 hi hj)

pub distinct-number : {K : Type 0} (e : K → K → Bool) (v : K → List ℕ) → ((a b : K) → v a ≡ v b → e a b ≡ true) → (ks : List K) (i : ℕ) (y : ℤ) (t : List ℕ)
    → IsDistinct e ks → slice_get (map v ks) i ≡ Some t → text_at (map v ks) y ≡ Some t → y ≡ pos i
distinct-number e v same ks i (pos j) t d hi hj = ap pos (distinct-place e v same ks i j t d hi hj)
distinct-number e v same ks i (negsuc j) t d hi hj = cc hj

pos-once : (a b : ℕ) → pos a ≡ pos b → a ≡ b
pos-once a b e = cc e

new-text : (old new : List (List ℕ)) (t : List ℕ) (i : ℕ) → new ≡ old ++ t ∷ [] → ((y : ℤ) → text_at new y ≡ Some t → y ≡ pos i) → (y : ℤ) → text_at old y ≡ Some t → ⊥
new-text old new t i e only (pos n) h =
    let here : text_at new (pos n) ≡ Some t = rw e (get-kept old (t ∷ []) n t h) in
    let last : text_at new (pos (length old)) ≡ Some t = rw e (get-last old t) in
    let a = pos-once _ _ (only (pos n) here) in
    let b = pos-once _ _ (only (pos (length old)) last) in
    let under = slice_get_within old n t h in
    omega (arith, a, b, under)
new-text old new t i e only (negsuc n) h = cc h

-- a key that is there, or goes last
pub added : {K : Type 0} (b : Bool) (v : K → List ℕ) (ks new : List K) (k : K) (text : List ℕ) (i : ℕ) → v k ≡ text → new ≡ (if b then ks else ks ++ k ∷ [])
    → slice_get (map v new) i ≡ Some text → ((y : ℤ) → text_at (map v new) y ≡ Some text → y ≡ pos i) → IsAdded text (map v ks) (map v new)
added true v ks new k text i same e there only =
    let whole : map v new ≡ map v ks = ap (map v) e in
    inl ((pos i, rw whole at there), whole)
added false v ks new k text i same e there only =
    let whole : map v new ≡ map v ks ++ text ∷ [] = ap (map v) e ∙ map-append v ks (k ∷ []) ∙ ap (λ t. map v ks ++ t ∷ []) same in
    inr ((λ has. new-text (map v ks) (map v new) text i whole only has.0 has.1), whole)

pub on-any : {A E : Type 0} (r : Result A E) (X : Type 0) → X → OnOk r X
on-any (Ok a) X x = x
on-any (Err e) X x = tt
