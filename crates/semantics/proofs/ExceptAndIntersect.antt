-- What only one side has, and what both have: counts, equal multisets, parts, and inputs that are cut by the whole record.
use Rattle.std.proofs.Common.{◌≡◌, ℕ, zero, suc, ◌+◌, ◌≤◌, ◌<◌, nat_lt, Bool, true, false, cond, not, ◌&&◌, List, ◌++◌, filter, refl, sym, ap, ap₂, ◌∙◌, arith, ltb-true, lt-ltb}
use Rattle.semantics.specs.Multiset.{Record, same, one_if, count, is_present, each_once, ◌≈◌, IsPartOf}
use Rattle.semantics.specs.Meaning.{only_left, in_both}
use Rattle.semantics.specs.Op.{HasNoCommonKey}
use Rattle.semantics.proofs.MultisetSums.{total-append}
use Rattle.semantics.proofs.DistinctAndGroups.{count-distinct}
use Rattle.semantics.proofs.KeyedParts.{apart_records}
use Rattle.semantics.proofs.CountsOfForms.{count-filter}

-- ---- both forms at once: each record of xs, once, chosen by whether it is in ys

abbrev chosen : (Bool → Bool) → List Record → List Record → List Record
chosen p xs ys = each_once (filter (λ r. p (is_present r ys)) xs)

abbrev chosen_count : (Bool → Bool) → ℕ → ℕ → ℕ
chosen_count p m n = one_if (nat_lt 0 m && p (nat_lt 0 n))

and_true : (b : Bool) → b && true ≡ b
and_true true = refl
and_true false = refl

and_false : (b : Bool) → b && false ≡ false
and_false true = refl
and_false false = refl

count-chosen : (p : Bool → Bool) (xs ys : List Record) (r : Record) → count r (chosen p xs ys) ≡ chosen_count p (count r xs) (count r ys)
count-chosen p xs ys r =
    count-distinct r (filter (λ z. p (is_present z ys)) xs)
    ∙ ap (λ n. one_if (nat_lt 0 n)) (count-filter (λ z. p (is_present z ys)) xs r)
    ∙ go (count r xs) (p (is_present r ys))
  where
    go : (n : ℕ) (b : Bool) → one_if (nat_lt 0 (cond b n 0)) ≡ one_if (nat_lt 0 n && b)
    go n true = sym (ap one_if (and_true (nat_lt 0 n)))
    go n false = sym (ap one_if (and_false (nat_lt 0 n)))

chosen_same : (p : Bool → Bool) (xs xs' ys ys' : List Record) → xs ≈ xs' → ys ≈ ys' → chosen p xs ys ≈ chosen p xs' ys'
chosen_same p xs xs' ys ys' h k = record {
  counts = λ r. count-chosen p xs ys r ∙ ap₂ (chosen_count p) (h.counts r) (k.counts r) ∙ sym (count-chosen p xs' ys' r);
}

-- if no record is in two of the parts that go together
apart_counts : (p : Bool → Bool) (m m' n n' : ℕ) → (0 < m → 0 < m' → ⊥) → (0 < m → 0 < n' → ⊥) → (0 < m' → 0 < n → ⊥) → chosen_count p (m + m') (n + n') ≡ chosen_count p m n + chosen_count p m' n'
apart_counts p zero zero n n' h k l = refl
apart_counts p (suc m) (suc m') n n' h k l = absurd (h (omega arith) (omega arith))
apart_counts p (suc m) zero n (suc n') h k l = absurd (k (omega arith) (omega arith))
apart_counts p (suc m) zero n zero h k l = ap₂ (chosen_count p) (let z : suc m + 0 ≡ suc m = omega arith in z) (let z : n + 0 ≡ n = omega arith in z) ∙ (let z : chosen_count p (suc m) n ≡ chosen_count p (suc m) n + 0 = omega arith in z)
apart_counts p zero (suc m') (suc n) n' h k l = absurd (l (omega arith) (omega arith))
apart_counts p zero (suc m') zero n' h k l = ap₂ (chosen_count p) (let z : 0 + suc m' ≡ suc m' = omega arith in z) (let z : 0 + n' ≡ n' = omega arith in z) ∙ (let z : chosen_count p (suc m') n' ≡ 0 + chosen_count p (suc m') n' = omega arith in z)

chosen_cut : (p : Bool → Bool) (xs xs' ys ys' : List Record) → HasNoCommonKey (λ x. x) (λ x. x) xs xs' → HasNoCommonKey (λ x. x) (λ x. x) xs ys' → HasNoCommonKey (λ x. x) (λ x. x) xs' ys
    → chosen p (xs ++ xs') (ys ++ ys') ≈ (chosen p xs ys ++ chosen p xs' ys')
chosen_cut p xs xs' ys ys' h k l = record {
  counts = λ r.
      count-chosen p (xs ++ xs') (ys ++ ys') r
      ∙ ap₂ (chosen_count p) (total-append (λ x. one_if (same x r)) xs xs') (total-append (λ x. one_if (same x r)) ys ys')
      ∙ apart_counts p (count r xs) (count r xs') (count r ys) (count r ys') (apart_records xs xs' h r) (apart_records xs ys' k r) (apart_records xs' ys l r)
      ∙ sym (total-append (λ x. one_if (same x r)) (chosen p xs ys) (chosen p xs' ys') ∙ ap₂ (λ m n. m + n) (count-chosen p xs ys r) (count-chosen p xs' ys' r));
}

-- ---- except

pub count-except : (xs ys : List Record) (r : Record) → count r (only_left xs ys) ≡ one_if (is_present r xs && not (is_present r ys))
count-except xs ys r = count-chosen not xs ys r

pub only_left_same : (xs xs' ys ys' : List Record) → xs ≈ xs' → ys ≈ ys' → only_left xs ys ≈ only_left xs' ys'
only_left_same xs xs' ys ys' h k = chosen_same not xs xs' ys ys' h k

pub only_left_cut : (xs xs' ys ys' : List Record) → HasNoCommonKey (λ x. x) (λ x. x) xs xs' → HasNoCommonKey (λ x. x) (λ x. x) xs ys' → HasNoCommonKey (λ x. x) (λ x. x) xs' ys
    → only_left (xs ++ xs') (ys ++ ys') ≈ (only_left xs ys ++ only_left xs' ys')
only_left_cut xs xs' ys ys' h k l = chosen_cut not xs xs' ys ys' h k l

-- ---- intersect

pub count-intersect : (xs ys : List Record) (r : Record) → count r (in_both xs ys) ≡ one_if (is_present r xs && is_present r ys)
count-intersect xs ys r = count-chosen (λ b. b) xs ys r

pub in_both_same : (xs xs' ys ys' : List Record) → xs ≈ xs' → ys ≈ ys' → in_both xs ys ≈ in_both xs' ys'
in_both_same xs xs' ys ys' h k = chosen_same (λ b. b) xs xs' ys ys' h k

pub in_both_cut : (xs xs' ys ys' : List Record) → HasNoCommonKey (λ x. x) (λ x. x) xs xs' → HasNoCommonKey (λ x. x) (λ x. x) xs ys' → HasNoCommonKey (λ x. x) (λ x. x) xs' ys
    → in_both (xs ++ xs') (ys ++ ys') ≈ (in_both xs ys ++ in_both xs' ys')
in_both_cut xs xs' ys ys' h k l = chosen_cut (λ b. b) xs xs' ys ys' h k l

-- more on either side gives more on both
pub in_both_part : (xs xs' ys ys' : List Record) → IsPartOf xs xs' → IsPartOf ys ys' → IsPartOf (in_both xs ys) (in_both xs' ys')
in_both_part xs xs' ys ys' h k = record { within = λ r. let a = count-intersect xs ys r in let b = count-intersect xs' ys' r in let c = go r (is_present r xs) (is_present r ys) refl refl in omega arith }
  where
    go : (r : Record) (s t : Bool) → is_present r xs ≡ s → is_present r ys ≡ t → one_if (is_present r xs && is_present r ys) ≤ one_if (is_present r xs' && is_present r ys')
    go r true true e f =
        let p : 0 < count r xs = ltb-true 0 (count r xs) e in
        let q : 0 < count r ys = ltb-true 0 (count r ys) f in
        let p' : is_present r xs' ≡ true = lt-ltb 0 (count r xs') (omega (arith, h.within r)) in
        let q' : is_present r ys' ≡ true = lt-ltb 0 (count r ys') (omega (arith, k.within r)) in
        rw (e, f, p', q') (omega arith)
    go r true false e f = rw (e, f) (omega arith)
    go r false t e f = rw e (omega arith)

-- ---- by sets

chosen_of_set : (p : Bool → Bool) (xs ys : List Record) → chosen p xs ys ≈ filter (λ r. p (is_present r ys)) (each_once xs)
chosen_of_set p xs ys = record {
  counts = λ r.
      count-chosen p xs ys r
      ∙ go (is_present r xs) (p (is_present r ys))
      ∙ sym (count-filter (λ z. p (is_present z ys)) (each_once xs) r ∙ ap (λ n. cond (p (is_present r ys)) n 0) (count-distinct r xs));
}
  where
    go : (a b : Bool) → one_if (a && b) ≡ cond b (one_if a) 0
    go true true = refl
    go true false = refl
    go false true = refl
    go false false = refl

pub except_of_set : (xs ys : List Record) → only_left xs ys ≈ filter (λ r. not (is_present r ys)) (each_once xs)
except_of_set xs ys = chosen_of_set not xs ys

pub intersect_of_set : (xs ys : List Record) → in_both xs ys ≈ filter (λ r. is_present r ys) (each_once xs)
intersect_of_set xs ys = chosen_of_set (λ b. b) xs ys

pub present_in_set : (r : Record) (xs : List Record) → is_present r (each_once xs) ≡ is_present r xs
present_in_set r xs = ap (nat_lt 0) (count-distinct r xs) ∙ go (is_present r xs)
  where
    go : (b : Bool) → nat_lt 0 (one_if b) ≡ b
    go true = refl
    go false = refl
