-- The least field of records is at most each field, and is one of them; likewise the greatest. So each depends only on the multiset.
use Rattle.std.proofs.Common.{◌≡◌, ℕ, ◌+◌, ◌<◌, Bool, true, false, List, [], ◌∷◌, map, refl, sym, ap, subst, ◌∙◌, arith, inl, inr, ◌⊎◌, ℤ, ◌≤ℤ◌}
use Rattle.std.proofs.lemmas.Int.{ints, clamps, by_lt_z}
use Rattle.std.specs.Int.{int_min, int_max}
use Rattle.semantics.specs.Multiset.{Record, same, one_if, count, ◌≈◌}
use Rattle.semantics.specs.Meaning.{field, reduced}
use Rattle.semantics.proofs.MultisetSums.{Decides-same, count_here, empty_from_same, ≈-sym}

-- f takes one of two numbers, the one that comes before the other
module _ (c : ℕ) (f : ℤ → ℤ → ℤ) (Before : ℤ → ℤ → Type 0) (self : (a : ℤ) → Before a a) (left : (a b : ℤ) → Before (f a b) a) (right : (a b d : ℤ) → Before b d → Before (f a b) d) (one_of : (a b : ℤ) → (f a b ≡ a) ⊎ (f a b ≡ b)) (both : (a b : ℤ) → Before a b → Before b a → a ≡ b) where
  abbrev chosen : List Record → ℤ
  chosen xs = reduced f (map (field c) xs)

  pub before_each : (x : Record) (xs : List Record) (y : Record) → 0 < count y (x ∷ xs) → Before (chosen (x ∷ xs)) (field c y)
  before_each x [] y h = go (same x y) refl
    where
      go : (b : Bool) → same x y ≡ b → Before (field c x) (field c y)
      go true e = subst (λ z. Before (field c x) (field c z)) ((Decides-same x y).0 e) (self (field c x))
      go false e = absurd (let k : 0 < one_if false + count y (let none : List Record = [] in none) = subst (λ b. 0 < one_if b + count y (let none : List Record = [] in none)) e h in omega arith)
  before_each x (z ∷ zs) y h = go (same x y) refl (before_each z zs y)
    where
      go : (b : Bool) → same x y ≡ b → (0 < count y (z ∷ zs) → Before (chosen (z ∷ zs)) (field c y)) → Before (f (field c x) (chosen (z ∷ zs))) (field c y)
      go true e ih = subst (λ w. Before (f (field c x) (chosen (z ∷ zs))) (field c w)) ((Decides-same x y).0 e) (left (field c x) (chosen (z ∷ zs)))
      go false e ih = right (field c x) (chosen (z ∷ zs)) (field c y) (ih (let k : 0 < one_if false + count y (z ∷ zs) = subst (λ b. 0 < one_if b + count y (z ∷ zs)) e h in omega arith))

  pub is_one : (x : Record) (xs : List Record) → (y : Record) × (0 < count y (x ∷ xs)) × (chosen (x ∷ xs) ≡ field c y)
  is_one x [] = (x, count_here x [], refl)
  is_one x (z ∷ zs) = go (one_of (field c x) (chosen (z ∷ zs))) (is_one z zs)
    where
      go : (chosen (x ∷ z ∷ zs) ≡ field c x) ⊎ (chosen (x ∷ z ∷ zs) ≡ chosen (z ∷ zs)) → (y : Record) × (0 < count y (z ∷ zs)) × (chosen (z ∷ zs) ≡ field c y) → (y : Record) × (0 < count y (x ∷ z ∷ zs)) × (chosen (x ∷ z ∷ zs) ≡ field c y)
      go (inl e) r = (x, count_here x (z ∷ zs), e)
      go (inr e) r = (r.0, (let k = r.1 in more r.0 k), e ∙ r.2)
        where
          more : (y : Record) → 0 < count y (z ∷ zs) → 0 < count y (x ∷ z ∷ zs)
          more y k = omega arith

  pub chosen_same : (xs ys : List Record) → xs ≈ ys → chosen xs ≡ chosen ys
  chosen_same [] ys h = ap chosen (sym (empty_from_same ys (≈-sym h)))
  chosen_same (x ∷ xs) [] h = ap chosen (empty_from_same (x ∷ xs) h)
  chosen_same (x ∷ xs) (y ∷ ys) h =
      let a = is_one x xs in
      let b = is_one y ys in
      both (chosen (x ∷ xs)) (chosen (y ∷ ys))
      (subst (Before (chosen (x ∷ xs))) (sym b.2) (before_each x xs b.0 (subst (λ n. 0 < n) (sym (h.counts b.0)) b.1)))
      (subst (Before (chosen (y ∷ ys))) (sym a.2) (before_each y ys a.0 (subst (λ n. 0 < n) (h.counts a.0) a.1)))

-- ---- the least

min_left : (a b : ℤ) → int_min a b ≤ℤ a
min_left a b = omega (arith, ints, clamps)

min_right : (a b c : ℤ) → b ≤ℤ c → int_min a b ≤ℤ c
min_right a b c h = omega (arith, ints, clamps)

min_cases : (a b : ℤ) → (int_min a b ≡ a) ⊎ (int_min a b ≡ b)
min_cases a b = by_lt_z a b (λ h. inl (omega (arith, ints, clamps))) (λ h. inr (omega (arith, ints, clamps)))

self_at_most : (a : ℤ) → a ≤ℤ a
self_at_most a = omega (arith, ints)

one_number : (a b : ℤ) → a ≤ℤ b → b ≤ℤ a → a ≡ b
one_number a b h k = omega (arith, ints)

pub least_same : (c : ℕ) (xs ys : List Record) → xs ≈ ys → reduced int_min (map (field c) xs) ≡ reduced int_min (map (field c) ys)
least_same c = chosen_same c int_min (λ a b. a ≤ℤ b) self_at_most min_left min_right min_cases one_number

pub least_below : (c : ℕ) (x : Record) (xs : List Record) (y : Record) → 0 < count y (x ∷ xs) → reduced int_min (map (field c) (x ∷ xs)) ≤ℤ field c y
least_below c = before_each c int_min (λ a b. a ≤ℤ b) self_at_most min_left min_right min_cases one_number

-- ---- the greatest

max_left : (a b : ℤ) → a ≤ℤ int_max a b
max_left a b = omega (arith, ints, clamps)

max_right : (a b c : ℤ) → c ≤ℤ b → c ≤ℤ int_max a b
max_right a b c h = omega (arith, ints, clamps)

max_cases : (a b : ℤ) → (int_max a b ≡ a) ⊎ (int_max a b ≡ b)
max_cases a b = by_lt_z a b (λ h. inr (omega (arith, ints, clamps))) (λ h. inl (omega (arith, ints, clamps)))

pub greatest_same : (c : ℕ) (xs ys : List Record) → xs ≈ ys → reduced int_max (map (field c) xs) ≡ reduced int_max (map (field c) ys)
greatest_same c = chosen_same c int_max (λ a b. b ≤ℤ a) self_at_most max_left max_right max_cases (λ a b h k. one_number a b k h)

pub greatest_above : (c : ℕ) (x : Record) (xs : List Record) (y : Record) → 0 < count y (x ∷ xs) → field c y ≤ℤ reduced int_max (map (field c) (x ∷ xs))
greatest_above c = before_each c int_max (λ a b. b ≤ℤ a) self_at_most max_left max_right max_cases (λ a b h k. one_number a b k h)

-- each is a field of some record
pub least_present : (c : ℕ) (x : Record) (xs : List Record) → (y : Record) × (0 < count y (x ∷ xs)) × (reduced int_min (map (field c) (x ∷ xs)) ≡ field c y)
least_present c = is_one c int_min (λ a b. a ≤ℤ b) self_at_most min_left min_right min_cases one_number

pub greatest_present : (c : ℕ) (x : Record) (xs : List Record) → (y : Record) × (0 < count y (x ∷ xs)) × (reduced int_max (map (field c) (x ∷ xs)) ≡ field c y)
greatest_present c = is_one c int_max (λ a b. b ≤ℤ a) self_at_most max_left max_right max_cases (λ a b h k. one_number a b k h)
