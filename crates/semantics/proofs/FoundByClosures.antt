-- The laws of closures.
use Rattle.std.proofs.Common.{◌≡◌, ℕ, zero, suc, ◌+◌, ◌≤◌, ◌<◌, nat_lt, Bool, true, false, ◌&&◌, ◌||◌, not, List, [], ◌∷◌, ◌++◌, refl, sym, ap, ap₂, ◌∙◌, arith, append-nil, lt-ltb}
use Rattle.semantics.specs.Multiset.{Record, same, one_if, count, ◌≈◌, is_present, each_once}
use Rattle.semantics.specs.Meaning.{only_left, repeated, Found, found_first, found_next, after_turns}
use Rattle.semantics.specs.Query.{Loop}
use Rattle.semantics.proofs.MultisetSums.{total-append}
use Rattle.semantics.proofs.DistinctAndGroups.{count-distinct}
use Rattle.semantics.proofs.ExceptAndIntersect.{count-except, present_in_set}

-- ---- each record once

one_of_both : (a b : Bool) → one_if a + one_if (b && not a) ≡ one_if (a || b)
one_of_both true true = refl
one_of_both true false = refl
one_of_both false true = refl
one_of_both false false = refl

at_most_one : (b : Bool) → one_if b ≤ 1
at_most_one true = omega arith
at_most_one false = omega arith

or_twice : (a b : Bool) → nat_lt 0 (one_if (a || b)) ≡ a || b
or_twice true b = refl
or_twice false true = refl
or_twice false false = refl

-- what was found is a set: its count is 1 where it is present, else 0
pub record IsSetOf (xs : List Record) : Type 0 where
  pub once : (r : Record) → count r xs ≡ one_if (is_present r xs)

count-found : (f : List Record → List Record) (s : Found) → IsSetOf s.all → (r : Record) → count r (found_next f s).all ≡ one_if (is_present r s.all || is_present r (f s.latest))
count-found f s set r =
    total-append _ s.all (only_left (f s.latest) s.all)
    ∙ ap₂ (λ m n. m + n) (set.once r) (count-except (f s.latest) s.all r)
    ∙ one_of_both (is_present r s.all) (is_present r (f s.latest))

abbrev pub found : (List Record → List Record) → List Record → ℕ → Found
found f xs n = repeated (found_next f) n (found_first xs)

pub found_set : (f : List Record → List Record) (xs : List Record) (n : ℕ) → IsSetOf (found f xs n).all
found_set f xs zero = record { once = λ r. count-distinct r xs ∙ ap one_if (sym (present_in_set r xs)) }
found_set f xs (suc n) = record {
  once = λ r.
      let c = count-found f (found f xs n) (found_set f xs n) r in
      c ∙ sym (ap (λ m. one_if (nat_lt 0 m)) c ∙ ap one_if (or_twice (is_present r (found f xs n).all) (is_present r (f (found f xs n).latest))));
}

pub present_next : (f : List Record → List Record) (xs : List Record) (n : ℕ) (r : Record) → is_present r (found f xs (suc n)).all ≡ is_present r (found f xs n).all || is_present r (f (found f xs n).latest)
present_next f xs n r = ap (nat_lt 0) (count-found f (found f xs n) (found_set f xs n) r) ∙ or_twice (is_present r (found f xs n).all) (is_present r (f (found f xs n).latest))

pub closure_once : (f : List Record → List Record) (n : ℕ) (xs : List Record) (r : Record) → count r (after_turns Loop.closure f n xs) ≤ 1
closure_once f n xs r = let a = (found_set f xs n).once r in let b = at_most_one (is_present r (found f xs n).all) in omega arith

-- ---- more turns keep what was found

pub closure_more : (f : List Record → List Record) (n : ℕ) (xs : List Record) (r : Record) → count r (after_turns Loop.closure f n xs) ≤ count r (after_turns Loop.closure f (suc n) xs)
closure_more f n xs r = let s : Found = found f xs n in let a = total-append (λ x. one_if (same x r)) s.all (only_left (f s.latest) s.all) in omega arith

-- ---- a turn that finds nothing is the last, if a turn makes nothing of nothing

still : (f : List Record → List Record) → f [] ≡ [] → (s : Found) → s.latest ≡ [] → found_next f s ≡ s
still f e s n =
    let z : f s.latest ≡ [] = ap f n ∙ e in
    let x : only_left (f s.latest) s.all ≡ [] = ap (λ ys. only_left ys s.all) z in
    ap₂ (λ ys zs. of (s.all ++ ys) zs) x (x ∙ sym n) ∙ ap (λ ys. of ys s.latest) (append-nil s.all)
  where
    of : List Record → List Record → Found
    of xs ys = record { all = xs; latest = ys }

found_still : (f : List Record → List Record) → f [] ≡ [] → (xs : List Record) (k : ℕ) → (found f xs k).latest ≡ [] → (m : ℕ) → repeated (found_next f) m (found f xs k) ≡ found f xs k
found_still f e xs k n zero = refl
found_still f e xs k n (suc m) = ap (found_next f) (found_still f e xs k n m) ∙ still f e (found f xs k) n

repeated_sum : {A : Type 0} (h : A → A) (m k : ℕ) (a : A) → repeated h (m + k) a ≡ repeated h m (repeated h k a)
repeated_sum h zero k a = let z : 0 + k ≡ k = omega arith in ap (λ n. repeated h n a) z
repeated_sum h (suc m) k a = let z : suc m + k ≡ suc (m + k) = omega arith in ap (λ n. repeated h n a) z ∙ ap h (repeated_sum h m k a)

pub closure_ends : (f : List Record → List Record) → f [] ≡ [] → (xs : List Record) (k m : ℕ) → (found f xs k).latest ≡ [] → after_turns Loop.closure f (m + k) xs ≡ after_turns Loop.closure f k xs
closure_ends f e xs k m n = ap (λ (s : Found). s.all) (repeated_sum (found_next f) m k (found_first xs) ∙ found_still f e xs k n m)

-- ---- of a turn that makes of a sum the sum of what it makes: the same as distinct(concat(x, step)) each turn

abbrev whole : (List Record → List Record) → List Record → List Record
whole f xs = each_once (xs ++ f xs)

present_sum : (m n : ℕ) → nat_lt 0 (m + n) ≡ nat_lt 0 m || nat_lt 0 n
present_sum zero n = let z : 0 + n ≡ n = omega arith in ap (nat_lt 0) z
present_sum (suc m) n = lt-ltb 0 (suc m + n) (omega arith) ∙ sym (ap (λ b. b || nat_lt 0 n) (lt-ltb 0 (suc m) (omega arith)))

pub present-append : (r : Record) (xs ys : List Record) → is_present r (xs ++ ys) ≡ is_present r xs || is_present r ys
present-append r xs ys = ap (nat_lt 0) (total-append _ xs ys) ∙ present_sum (count r xs) (count r ys)

present-whole : (f : List Record → List Record) (ys : List Record) (r : Record) → is_present r (whole f ys) ≡ is_present r ys || is_present r (f ys)
present-whole f ys r = present_in_set r (ys ++ f ys) ∙ present-append r ys (f ys)

module _ (f : List Record → List Record) (sums : (xs ys : List Record) (r : Record) → is_present r (f (xs ++ ys)) ≡ is_present r (f xs) || is_present r (f ys))
    (sets : (xs ys : List Record) → ((r : Record) → is_present r xs ≡ is_present r ys) → (r : Record) → is_present r (f xs) ≡ is_present r (f ys)) where
  -- what a turn makes of all that was found was found, or is what it makes of the latest
  made_found : (xs : List Record) (n : ℕ) (r : Record) → is_present r (found f xs n).all || is_present r (f (found f xs n).all) ≡ is_present r (found f xs n).all || is_present r (f (found f xs n).latest)
  made_found xs zero r = refl
  made_found xs (suc n) r =
      let s : Found = found f xs n in
      let t : Found = found f xs (suc n) in
      let a : is_present r (f t.all) ≡ is_present r (f s.all) || is_present r (f t.latest) = sums s.all t.latest r in
      let b = made_found xs n r in
      let c = present_next f xs n r in
      bools (is_present r t.all) (is_present r (f t.all)) (is_present r s.all) (is_present r (f s.all)) (is_present r (f s.latest)) (is_present r (f t.latest)) a b c
    where
      bools : (ta fta sa fsa fsl ftl : Bool) → fta ≡ fsa || ftl → sa || fsa ≡ sa || fsl → ta ≡ sa || fsl → ta || fta ≡ ta || ftl
      bools true fta sa fsa fsl ftl a b c = refl
      bools false fta true fsa fsl ftl a b c = absurd cc
      bools false fta false fsa true ftl a b c = absurd cc
      bools false fta false true false ftl a b c = absurd cc
      bools false fta false false false ftl a b c = a

  linear_present : (xs : List Record) (n : ℕ) (r : Record) → is_present r (found f xs n).all ≡ is_present r (repeated (whole f) n (each_once xs))
  linear_present xs zero r = refl
  linear_present xs (suc n) r =
      let s : Found = found f xs n in
      let ys : List Record = repeated (whole f) n (each_once xs) in
      present_next f xs n r ∙ sym (made_found xs n r)
      ∙ ap₂ (λ a b. a || b) (linear_present xs n r) (sets s.all ys (linear_present xs n) r)
      ∙ sym (present-whole f ys r)

  whole_set : (xs : List Record) (n : ℕ) (r : Record) → count r (repeated (whole f) n (each_once xs)) ≡ one_if (is_present r (repeated (whole f) n (each_once xs)))
  whole_set xs zero r = count-distinct r xs ∙ ap one_if (sym (present_in_set r xs))
  whole_set xs (suc n) r =
      let ys : List Record = repeated (whole f) n (each_once xs) in
      count-distinct r (ys ++ f ys) ∙ ap one_if (sym (present_in_set r (ys ++ f ys)))

  pub closure_of_linear : (n : ℕ) (xs : List Record) → after_turns Loop.closure f n xs ≈ after_turns Loop.iterate (λ ys. each_once (ys ++ f ys)) n (each_once xs)
  closure_of_linear n xs = record { counts = λ r. (found_set f xs n).once r ∙ ap one_if (linear_present xs n r) ∙ sym (whole_set xs n r) }
