-- Multisets in terms of std's permutations.
use Rattle.std.proofs.Common.{◌≡◌, ℕ, ◌+◌, ◌<◌, Bool, true, false, cond, List, [], ◌∷◌, refl, sym, ap, subst, ◌∙◌, arith, sum_by, IsPermutation}
use Rattle.std.proofs.lemmas.List.Sums.{sum_by-cons}
use Rattle.std.proofs.lemmas.List.Sorted.{IsPermutation-refl, IsPermutation-sym, IsPermutation-cons, IsPermutation-trans, IsPermutation-middle, sum_by-IsPermutation}
use Rattle.semantics.specs.Multiset.{Record, same, one_if, total, count, ◌≈◌, without}
use Rattle.semantics.proofs.MultisetSums.{Decides-same, total-without, count_here, empty_from_same, ≈-sym}

pub sum_by-total : (f : Record → ℕ) (xs : List Record) → sum_by f xs ≡ total f xs
sum_by-total f [] = refl
sum_by-total f (x ∷ xs) = sum_by-cons f x xs ∙ ap (λ n. f x + n) (sum_by-total f xs)

pub same_from_permutation : (xs ys : List Record) → IsPermutation xs ys → xs ≈ ys
same_from_permutation xs ys h = record {
  counts = λ r.
      sym (sum_by-total (λ x. one_if (same x r)) xs) ∙ sym (sum_by-IsPermutation (λ x. one_if (same x r)) xs ys h) ∙ sum_by-total (λ x. one_if (same x r)) ys;
}

pub permutation-without : (y : Record) (xs : List Record) → 0 < count y xs → IsPermutation xs (y ∷ without y xs)
permutation-without y [] h = absurd (omega arith)
permutation-without y (x ∷ xs) h = go (same x y) refl (permutation-without y xs)
  where
    go : (b : Bool) → same x y ≡ b → (0 < count y xs → IsPermutation xs (y ∷ without y xs)) → IsPermutation (x ∷ xs) (y ∷ cond b xs (x ∷ without y xs))
    go true e ih = subst (λ z. IsPermutation (x ∷ xs) (z ∷ xs)) ((Decides-same x y).0 e) (IsPermutation-refl (x ∷ xs))
    go false e ih =
        let k : 0 < one_if false + count y xs = subst (λ b. 0 < one_if b + count y xs) e h in
        IsPermutation-trans (x ∷ xs) (x ∷ y ∷ without y xs) (y ∷ x ∷ without y xs)
        (IsPermutation-cons x xs (y ∷ without y xs) (ih (omega arith)))
        (IsPermutation-middle (x ∷ []) y (without y xs))

pub permutation_from_same : (xs ys : List Record) → xs ≈ ys → IsPermutation xs ys
permutation_from_same [] ys h = subst (λ l. IsPermutation [] l) (sym (empty_from_same ys (≈-sym h))) (IsPermutation-refl [])
permutation_from_same (x ∷ xs) ys h =
    let here : 0 < count x ys = omega (arith, h.counts x, count_here x xs) in
    let rest : xs ≈ without x ys = record { counts = λ r. omega (arith, h.counts r, total-without (λ z. one_if (same z r)) x ys here) } in
    IsPermutation-trans (x ∷ xs) (x ∷ without x ys) ys (IsPermutation-cons x xs (without x ys) (permutation_from_same xs (without x ys) rest))
    (IsPermutation-sym ys (x ∷ without x ys) (permutation-without x ys here))
