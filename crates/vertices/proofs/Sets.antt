-- Records taken into a set.
use Rattle.std.proofs.Common.{◌≡◌, ℕ, ◌+◌, ◌<◌, nat_lt, Bool, true, false, not, cond, ◌||◌, List, [], ◌∷◌, ◌++◌, take, length, slice_index_or, refl, sym, ap, subst, ◌∙◌, arith, if◌then◌else◌, lt-ltb}
use Rattle.std.specs.List.{list_any}
use Rattle.semantics.specs.Multiset.{Record, same, one_if, count, ◌≈◌, each_once}
use Rattle.semantics.proofs.MultisetSums.{Decides-same, total-append}
use Rattle.semantics.proofs.DistinctAndGroups.{count-distinct}

-- a record is found exactly where it lies
pub found_counts : (x : Record) (ys : List Record) → list_any (λ r. same r x) ys ≡ nat_lt 0 (count x ys)
found_counts x [] = refl
found_counts x (y ∷ ys) = go (same y x) (found_counts x ys)
  where
    go : (b : Bool) → list_any (λ r. same r x) ys ≡ nat_lt 0 (count x ys) → b || list_any (λ r. same r x) ys ≡ nat_lt 0 (one_if b + count x ys)
    go true e = sym (lt-ltb 0 (1 + count x ys) (omega arith))
    go false e = e ∙ ap (nat_lt 0) (omega arith)

-- a set that has x, or takes it in
pub admitted : (x : Record) (old new xs : List Record) (n : Bool) → n ≡ not (list_any (λ r. same r x) old) → new ≡ (if n then old ++ x ∷ [] else old) → old ≈ each_once xs → new ≈ each_once (xs ++ x ∷ [])
admitted x old new xs n e f h = record {
  counts = λ r. ap (count r) f ∙ ap (λ b. count r (cond b (old ++ x ∷ []) old)) (e ∙ ap not (found_counts x old))
      ∙ go r (nat_lt 0 (count x old)) (same x r) refl refl
      ∙ ap (λ k. one_if (nat_lt 0 k)) (sym (total-append (λ z. one_if (same z r)) xs (x ∷ [])))
      ∙ sym (count-distinct r (xs ++ x ∷ []));
}
  where
    before : (r : Record) → count r old ≡ one_if (nat_lt 0 (count r xs))
    before r = h.counts r ∙ count-distinct r xs

    present : (k : ℕ) → nat_lt 0 (one_if (nat_lt 0 k)) ≡ true → one_if (nat_lt 0 k) ≡ one_if (nat_lt 0 (k + (1 + 0)))
    present k s = grind arith

    absent : (k : ℕ) → nat_lt 0 (one_if (nat_lt 0 k)) ≡ false → one_if (nat_lt 0 k) + (1 + 0) ≡ one_if (nat_lt 0 (k + (1 + 0)))
    absent k s = grind arith

    go : (r : Record) (b t : Bool) → nat_lt 0 (count x old) ≡ b → same x r ≡ t → count r (cond (not b) (old ++ x ∷ []) old) ≡ one_if (nat_lt 0 (count r xs + (one_if t + 0)))
    go r true true s k = before r ∙ present (count r xs) (ap (nat_lt 0) (sym (before r)) ∙ subst (λ z. nat_lt 0 (count z old) ≡ true) ((Decides-same x r).0 k) s)
    go r true false s k = before r ∙ ap (λ z. one_if (nat_lt 0 z)) (omega arith)
    go r false true s k = total-append (λ z. one_if (same z r)) old (x ∷ []) ∙ ap (λ b. count r old + (one_if b + 0)) k ∙ ap (λ z. z + (1 + 0)) (before r)
        ∙ absent (count r xs) (ap (nat_lt 0) (sym (before r)) ∙ subst (λ z. nat_lt 0 (count z old) ≡ false) ((Decides-same x r).0 k) s)
    go r false false s k = total-append (λ z. one_if (same z r)) old (x ∷ []) ∙ ap (λ b. count r old + (one_if b + 0)) k ∙ (let z : count r old + (0 + 0) ≡ count r old = omega arith in z) ∙ before r ∙ ap (λ z. one_if (nat_lt 0 z)) (omega arith)

-- one after the other
pub sent_on : (old mid new sent sends more : List Record) → (sends ++ old) ≈ (sent ++ mid) → (more ++ mid) ≈ (sends ++ new) → (more ++ old) ≈ (sent ++ new)
sent_on old mid new sent sends more e f = record {
  counts = λ r.
      let g = λ (z : Record). one_if (same z r) in
      omega (arith, e.counts r, f.counts r, total-append g sends old, total-append g sent mid, total-append g more mid, total-append g sends new, total-append g more old, total-append g sent new);
}

-- the first k + 1 of a list
pub take_one : (b : List Record) (k : ℕ) → k < length b → take (k + 1) b ≡ take k b ++ slice_index_or b k [] ∷ []
take_one b k h = Rattle.std.proofs.lemmas.List.take_more b k [] h
