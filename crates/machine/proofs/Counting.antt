-- Sums and counts.
use Rattle.std.proofs.Common.{◌≡◌, ◌≢◌, ◌≤◌, ◌<◌, ℕ, zero, suc, ◌+◌, Bool, true, false, eqb, List, [], ◌∷◌, ◌++◌, ◌⊎◌, inl, inr, refl, sym, ap, ◌∙◌, arith, slice_get, remove, Some}
use Rattle.std.proofs.lemmas.Bool.Decides.{eqb_tells, nat_tests}
use Rattle.semantics.specs.Multiset.{total, same, Record, count, end_to_end}
use Rattle.semantics.specs.Time.{same_counters}
use Rattle.semantics.proofs.MultisetSums.{Decides-same}
use Rattle.machine.specs.Active.{sum_below}

-- the test of two lists, with what it shows
pub same_list_tells : (xs ys : List ℕ) → ((same_counters xs ys ≡ true) × (xs ≡ ys)) ⊎ ((same_counters xs ys ≡ false) × (xs ≢ ys))
same_list_tells [] [] = inl (refl, refl)
same_list_tells [] (y ∷ ys) = inr (refl, λ e. cc)
same_list_tells (x ∷ xs) [] = inr (refl, λ e. cc)
same_list_tells (x ∷ xs) (y ∷ ys) = go (eqb_tells x y) (same_list_tells xs ys)
  where
    go : ((eqb x y ≡ true) × (x ≡ y)) ⊎ ((eqb x y ≡ false) × (x ≢ y)) → ((same_counters xs ys ≡ true) × (xs ≡ ys)) ⊎ ((same_counters xs ys ≡ false) × (xs ≢ ys)) → ((same_counters (x ∷ xs) (y ∷ ys) ≡ true) × (x ∷ xs ≡ y ∷ ys)) ⊎ ((same_counters (x ∷ xs) (y ∷ ys) ≡ false) × (x ∷ xs ≢ y ∷ ys))
    go (inl (a, b)) (inl (c, d)) = inl (rw a c, cc)
    go (inl (a, b)) (inr (c, d)) = inr (rw a c, λ e. d cc)
    go (inr (a, b)) s = inr (rw a refl, λ e. b cc)

-- the test of two records, with what it shows
pub same_tells : (x r : Record) → ((same x r ≡ true) × (x ≡ r)) ⊎ ((same x r ≡ false) × (x ≢ r))
same_tells x r = go (same x r) refl
  where
    go : (b : Bool) → same x r ≡ b → ((same x r ≡ true) × (x ≡ r)) ⊎ ((same x r ≡ false) × (x ≢ r))
    go true e = inl (e, (Decides-same x r).0 e)
    go false e = inr (e, λ q. let z : true ≡ false = sym ((Decides-same x r).1 q) ∙ e in cc)

pub eqb_self : (n : ℕ) → eqb n n ≡ true
eqb_self n = grind (arith, nat_tests)

pub same_list_self : (xs : List ℕ) → same_counters xs xs ≡ true
same_list_self [] = refl
same_list_self (x ∷ xs) = rw (eqb_self x) (same_list_self xs)

pub count-append : (r : Record) (xs ys : List Record) → count r (xs ++ ys) ≡ count r xs + count r ys
count-append r [] ys = omega arith
count-append r (x ∷ xs) ys = omega (arith, count-append r xs ys)

-- a record of two lists end to end is in one of them
pub count_either : (r : Record) (xs ys : List Record) → 0 < count r (xs ++ ys) → (0 < count r xs) ⊎ (0 < count r ys)
count_either r xs ys l = go (count r ys) refl
  where
    go : (n : ℕ) → count r ys ≡ n → (0 < count r xs) ⊎ (0 < count r ys)
    go zero e = inl (let a = count-append r xs ys in omega arith)
    go (suc n) e = inr (omega arith)

pub below_same : (n : ℕ) (f f' : ℕ → ℕ) → ((k : ℕ) → k < n → f k ≡ f' k) → sum_below n f ≡ sum_below n f'
below_same zero f f' h = refl
below_same (suc n) f f' h = omega (arith, below_same n f f' (λ k l. h k (omega arith)), h n (omega arith))

pub below_more : (n : ℕ) (f f' : ℕ → ℕ) → ((k : ℕ) → k < n → f k ≤ f' k) → sum_below n f ≤ sum_below n f'
below_more zero f f' h = omega arith
below_more (suc n) f f' h = omega (arith, below_more n f f' (λ k l. h k (omega arith)), h n (omega arith))

pub below_zero : (n : ℕ) (f : ℕ → ℕ) → ((k : ℕ) → k < n → f k ≡ 0) → sum_below n f ≡ 0
below_zero zero f h = refl
below_zero (suc n) f h = omega (arith, below_zero n f (λ k l. h k (omega arith)), h n (omega arith))

pub below_add : (n : ℕ) (f f' : ℕ → ℕ) → sum_below n (λ k. f k + f' k) ≡ sum_below n f + sum_below n f'
below_add zero f f' = refl
below_add (suc n) f f' = omega (arith, below_add n f f')

-- one term is at most the sum
pub below_one : (n k : ℕ) (f : ℕ → ℕ) → k < n → f k ≤ sum_below n f
below_one zero k f l = absurd (omega arith)
below_one (suc n) k f l = go (eqb_tells k n) (below_one n k f)
  where
    go : ((eqb k n ≡ true) × (k ≡ n)) ⊎ ((eqb k n ≡ false) × (k ≢ n)) → (k < n → f k ≤ sum_below n f) → f k ≤ sum_below (suc n) f
    go (inl (a, e)) ih = let s : f k ≡ f n = ap f e in omega arith
    go (inr (a, ne)) ih = let s : f k ≤ sum_below n f = ih (omega arith) in omega arith

-- two sums that differ at one place
pub below_changed : (n k : ℕ) (f f' : ℕ → ℕ) → k < n → ((j : ℕ) → j < n → j ≢ k → f' j ≡ f j) → sum_below n f' + f k ≡ sum_below n f + f' k
below_changed zero k f f' l h = absurd (omega arith)
below_changed (suc n) k f f' l h = go (eqb_tells k n) (below_changed n k f f')
  where
    go : ((eqb k n ≡ true) × (k ≡ n)) ⊎ ((eqb k n ≡ false) × (k ≢ n)) → (k < n → ((j : ℕ) → j < n → j ≢ k → f' j ≡ f j) → sum_below n f' + f k ≡ sum_below n f + f' k) → sum_below (suc n) f' + f k ≡ sum_below (suc n) f + f' k
    go (inl (a, e)) ih =
        let s : f k ≡ f n = ap f e in
        let s' : f' k ≡ f' n = ap f' e in
        let b : sum_below n f' ≡ sum_below n f = below_same n f' f (λ j lj. h j (omega arith) (λ ej. absurd (omega arith))) in
        omega arith
    go (inr (a, ne)) ih =
        let b : sum_below n f' + f k ≡ sum_below n f + f' k = ih (omega arith) (λ j lj. h j (omega arith)) in
        let c : f' n ≡ f n = h n (omega arith) (λ e. ne (sym e)) in
        omega arith

pub total_same : {X : Type 0} (f f' : X → ℕ) (xs : List X) → ((x : X) → f x ≡ f' x) → total f xs ≡ total f' xs
total_same f f' [] h = refl
total_same f f' (x ∷ xs) h = omega (arith, total_same f f' xs h, h x)

-- one element taken out of a list
pub total-remove : {X : Type 0} (f : X → ℕ) (xs : List X) (at : ℕ) (x : X) → slice_get xs at ≡ Some x → total f (remove xs at) + f x ≡ total f xs
total-remove f [] at x e = absurd cc
total-remove f (y ∷ ys) zero x e = let s : f y ≡ f x = cc in omega arith
total-remove f (y ∷ ys) (suc at) x e = omega (arith, total-remove f ys at x e)

pub total_one : {X : Type 0} (f : X → ℕ) (xs : List X) (at : ℕ) (x : X) → slice_get xs at ≡ Some x → f x ≤ total f xs
total_one f xs at x e = omega (arith, total-remove f xs at x e)

-- if a record has a count in the lists end to end, one of them has it
pub counted-end_to_end : (f : ℕ → List Record) (n : ℕ) (r : Record) → count r (end_to_end f n) ≡ sum_below n (λ k. count r (f k))
counted-end_to_end f zero r = refl
counted-end_to_end f (suc n) r = omega (arith, count-append r (end_to_end f n) (f n), counted-end_to_end f n r)
