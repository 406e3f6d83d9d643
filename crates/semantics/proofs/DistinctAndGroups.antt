-- The laws of distinct records and of groups.
use Rattle.std.proofs.Common.{◌≡◌, ℕ, ◌+◌, ◌≤◌, ◌<◌, nat_lt, Bool, true, false, cond, List, [], ◌∷◌, ◌++◌, map, filter, ℤ, pos, ◌+ℤ◌, refl, sym, ap, subst, ◌∙◌, arith, ltb-true, ltb-false, lt-ltb, le-ltb}
use mathlib.Core.Path.{fun_ext}
use Rattle.std.proofs.lemmas.Int.{ints}
use Rattle.std.specs.Int.{int_wrap}
use mir.Syntax.{w64}
use Rattle.semantics.specs.Multiset.{Record, same, one_if, total, count, ◌≈◌, IsPartOf, each_once}
use Rattle.semantics.specs.Meaning.{field, aggregate, project, with_key, grouped}
use Rattle.semantics.specs.Query.{Agg}
use Rattle.semantics.proofs.LeastAndGreatest.{least_same, greatest_same}
use Rattle.semantics.proofs.MultisetSums.{Decides-same, total-same, same_from_parts, part_left, part_right, total-map, linear_same, map_linear, filter_linear, gather-same}

-- ---- each_once

pub present_yes : (n : ℕ) → 0 < n → one_if (nat_lt 0 n) ≡ 1
present_yes n h = ap one_if (lt-ltb 0 n h)

pub present_no : (n : ℕ) → n ≡ 0 → one_if (nat_lt 0 n) ≡ 0
present_no n h = ap one_if (le-ltb 0 n (omega arith))

pub count-distinct : (r : Record) (xs : List Record) → count r (each_once xs) ≡ one_if (nat_lt 0 (count r xs))
count-distinct r [] = refl
count-distinct r (x ∷ xs) = go (nat_lt 0 (count x xs)) (same x r) refl refl (count-distinct r xs)
  where
    go : (b t : Bool) → nat_lt 0 (count x xs) ≡ b → same x r ≡ t → count r (each_once xs) ≡ one_if (nat_lt 0 (count r xs)) → count r (cond b (each_once xs) (x ∷ each_once xs)) ≡ one_if (nat_lt 0 (one_if (same x r) + count r xs))
    go true true e k ih =
        let h : 0 < count x xs = ltb-true 0 (count x xs) e in
        let h' : 0 < count r xs = subst (λ z. 0 < count z xs) ((Decides-same x r).0 k) h in
        ih ∙ present_yes (count r xs) h' ∙ sym (present_yes (one_if (same x r) + count r xs) (omega arith))
    go true false e k ih = ih ∙ sym (rw k (ap (λ n. one_if (nat_lt 0 n)) (omega arith)))
    go false true e k ih =
        let h : count x xs ≤ 0 = ltb-false 0 (count x xs) e in
        let h' : count r xs ≤ 0 = subst (λ z. count z xs ≤ 0) ((Decides-same x r).0 k) h in
        let none : one_if (nat_lt 0 (count r xs)) ≡ 0 = present_no (count r xs) (omega arith) in
        rw k (omega (arith, ih, none, present_yes (1 + count r xs) (omega arith)))
    go false false e k ih = rw k (omega arith ∙ ih ∙ ap (λ n. one_if (nat_lt 0 n)) (omega arith))

pub distinct_part : (xs ys : List Record) → IsPartOf xs ys → IsPartOf (each_once xs) (each_once ys)
distinct_part xs ys p = record { within = λ r. go r (nat_lt 0 (count r xs)) refl }
  where
    go : (r : Record) (b : Bool) → nat_lt 0 (count r xs) ≡ b → count r (each_once xs) ≤ count r (each_once ys)
    go r true e =
        let h : 0 < count r xs = ltb-true 0 (count r xs) e in
        let m = count-distinct r xs in
        let n = count-distinct r ys in
        omega (arith, p.within r, m, n, present_yes (count r xs) h, present_yes (count r ys) (omega (arith, p.within r)))
    go r false e =
        let h : count r xs ≤ 0 = ltb-false 0 (count r xs) e in
        let m = count-distinct r xs in
        omega (arith, m, present_no (count r xs) (omega arith))

pub distinct_same : (xs ys : List Record) → xs ≈ ys → each_once xs ≈ each_once ys
distinct_same xs ys h = same_from_parts (distinct_part xs ys (part_left h)) (distinct_part ys xs (part_right h))

-- ---- aggregates and groups

plus_swaps : (a b c : ℤ) → a +ℤ (b +ℤ c) ≡ b +ℤ (a +ℤ c)
plus_swaps a b c = omega (arith, ints)

pub aggregate-same : (a : Agg) (xs ys : List Record) → xs ≈ ys → aggregate a xs ≡ aggregate a ys
aggregate-same Agg.count xs ys h = ap (λ n. int_wrap w64 (pos n)) (total-same (λ r. 1) xs ys h)
aggregate-same (Agg.sum c) xs ys h = ap (int_wrap w64) (gather-same (λ r n. field c r +ℤ n) (pos 0) (λ x y n. plus_swaps (field c x) (field c y) n) xs ys h)
aggregate-same (Agg.min c) xs ys h = least_same c xs ys h
aggregate-same (Agg.max c) xs ys h = greatest_same c xs ys h

-- the record of one key
abbrev pub row : List ℕ → List Agg → List Record → Record → Record
row ks as' xs k = k ++ map (λ a. aggregate a (with_key ks k xs)) as'

pub row-same : (ks : List ℕ) (as' : List Agg) (xs ys : List Record) (k : Record) → with_key ks k xs ≈ with_key ks k ys → row ks as' xs k ≡ row ks as' ys k
row-same ks as' xs ys k h = ap (λ g. k ++ map g as') (fun_ext (λ a. aggregate-same a (with_key ks k xs) (with_key ks k ys) h))

pub count-grouped : (ks : List ℕ) (as' : List Agg) (xs : List Record) (r : Record) → count r (grouped ks as' xs) ≡ total (λ k. one_if (same (row ks as' xs k) r)) (each_once (map (project ks) xs))
count-grouped ks as' xs r = total-map (λ x. one_if (same x r)) (row ks as' xs) (each_once (map (project ks) xs))

pub grouped_same : (ks : List ℕ) (as' : List Agg) (xs ys : List Record) → xs ≈ ys → grouped ks as' xs ≈ grouped ks as' ys
grouped_same ks as' xs ys h = record {
  counts = λ r.
      count-grouped ks as' xs r
      ∙ ap (λ f. total (λ k. one_if (same (f k) r)) (each_once (map (project ks) xs))) (fun_ext (λ k. row-same ks as' xs ys k (linear_same (filter (λ x. same (project ks x) k)) (filter_linear (λ x. same (project ks x) k)) xs ys h)))
      ∙ total-same (λ k. one_if (same (row ks as' ys k) r)) (each_once (map (project ks) xs)) (each_once (map (project ks) ys)) (distinct_same (map (project ks) xs) (map (project ks) ys) (linear_same (map (project ks)) (map_linear (project ks)) xs ys h))
      ∙ sym (count-grouped ks as' ys r);
}
