-- What comes to each turn of a loop, and what its gate lets into the turn: sums over turns.
use Rattle.std.proofs.Common.{◌≡◌, ℕ, zero, suc, ◌+◌, ◌≤◌, ◌<◌, nat_lt, Bool, true, false, cond, ◌&&◌, not, List, [], ◌∷◌, ◌++◌, flat_map, refl, sym, ap, ap₂, ◌∙◌, arith, append-nil, lt-ltb}
use Rattle.std.proofs.lemmas.List.Concat.{flat_map-append}
use Rattle.semantics.specs.Multiset.{Record, one_if, count, ◌≈◌, is_present, each_once}
use Rattle.semantics.specs.Meaning.{only_left, repeated, Found, found_first, found_next}
use Rattle.semantics.specs.Query.{Loop}
use Rattle.semantics.specs.Time.{below}
use Rattle.semantics.proofs.MultisetSums.{≈-refl, ≈-trans, ≈-from, append_same, total-append}
use Rattle.semantics.proofs.DistinctAndGroups.{count-distinct}
use Rattle.semantics.proofs.ExceptAndIntersect.{count-except, present_in_set}

-- ---- sums over the turns below n

pub flat_push : (h : ℕ → List Record) (n : ℕ) → flat_map h (below (suc n)) ≡ flat_map h (below n) ++ h n
flat_push h n = flat_map-append h (below n) (n ∷ []) ∙ ap (λ z. flat_map h (below n) ++ z) (append-nil (h n))

pub flat_below_same : (f h : ℕ → List Record) (n : ℕ) → ((j : ℕ) → j < n → f j ≈ h j) → flat_map f (below n) ≈ flat_map h (below n)
flat_below_same f h zero e = ≈-refl []
flat_below_same f h (suc n) e =
    ≈-trans (≈-from (flat_push f n))
    (≈-trans (append_same _ _ _ _ (flat_below_same f h n (λ j l. e j (omega arith))) (e n (omega arith)))
    (≈-from (sym (flat_push h n))))

-- turns from m on that have nothing add nothing
pub flat_until : (h : ℕ → List Record) (m k : ℕ) → ((j : ℕ) → m ≤ j → h j ≈ []) → flat_map h (below (k + m)) ≈ flat_map h (below m)
flat_until h m zero e = let z : 0 + m ≡ m = omega arith in ≈-from (ap (λ j. flat_map h (below j)) z)
flat_until h m (suc k) e =
    let z : suc k + m ≡ suc (k + m) = omega arith in
    ≈-trans (≈-from (ap (λ j. flat_map h (below j)) z ∙ flat_push h (k + m)))
    (≈-trans (append_same _ _ _ [] (flat_until h m k e) (e (k + m) (omega arith)))
    (≈-from (append-nil (flat_map h (below m)))))

-- ---- what comes, and what is let in

-- what the gate lets into turn c, by what one turn makes of a multiset
abbrev pub let_in : Loop → (List Record → List Record) → List Record → ℕ → List Record
let_in Loop.iterate f xs c = repeated f c xs
let_in Loop.closure f xs c = (repeated (found_next f) c (found_first xs)).latest

-- what comes to the gate at turn c
abbrev pub comes : Loop → (List Record → List Record) → List Record → ℕ → List Record
comes l f xs zero = xs
comes l f xs (suc c) = f (let_in l f xs c)

pub comes_in : (f : List Record → List Record) (xs : List Record) (c : ℕ) → comes Loop.iterate f xs c ≡ repeated f c xs
comes_in f xs zero = refl
comes_in f xs (suc c) = refl

-- ---- a closure

abbrev or_else : Bool → Bool → Bool
or_else a b = cond a true b

present_sum : (m n : ℕ) → nat_lt 0 (m + n) ≡ or_else (nat_lt 0 m) (nat_lt 0 n)
present_sum zero n = let z : 0 + n ≡ n = omega arith in ap (nat_lt 0) z
present_sum (suc m) n = lt-ltb 0 (suc m + n) (omega arith) ∙ sym (ap (λ b. or_else b (nat_lt 0 n)) (lt-ltb 0 (suc m) (omega arith)))

present-append : (r : Record) (xs ys : List Record) → is_present r (xs ++ ys) ≡ or_else (is_present r xs) (is_present r ys)
present-append r xs ys = ap (nat_lt 0) (total-append _ xs ys) ∙ present_sum (count r xs) (count r ys)

present-left : (r : Record) (xs ys : List Record) → is_present r (only_left xs ys) ≡ is_present r xs && not (is_present r ys)
present-left r xs ys = ap (nat_lt 0) (count-except xs ys r) ∙ one (is_present r xs && not (is_present r ys))
  where
    one : (b : Bool) → nat_lt 0 (one_if b) ≡ b
    one true = refl
    one false = refl

present-both : (r : Record) (xs ys : List Record) → is_present r (ys ++ only_left xs ys) ≡ or_else (is_present r ys) (is_present r xs)
present-both r xs ys = present-append r ys (only_left xs ys) ∙ ap (or_else (is_present r ys)) (present-left r xs ys) ∙ either (is_present r xs) (is_present r ys)
  where
    either : (a b : Bool) → or_else b (a && not b) ≡ or_else b a
    either true true = refl
    either true false = refl
    either false true = refl
    either false false = refl

-- found so far is what came so far
pub all_present : (f : List Record → List Record) (xs : List Record) (c : ℕ) (r : Record) → is_present r (repeated (found_next f) c (found_first xs)).all ≡ is_present r (flat_map (comes Loop.closure f xs) (below (suc c)))
all_present f xs zero r = present_in_set r xs ∙ ap (is_present r) (sym (append-nil xs))
all_present f xs (suc c) r =
    let s : Found = repeated (found_next f) c (found_first xs) in
    present-both r (f s.latest) s.all
    ∙ ap (λ b. or_else b (is_present r (f s.latest))) (all_present f xs c r)
    ∙ sym (ap (is_present r) (flat_push (comes Loop.closure f xs) (suc c)) ∙ present-append r (flat_map (comes Loop.closure f xs) (below (suc c))) (f s.latest))

left_of_none : (xs : List Record) → only_left xs [] ≈ each_once xs
left_of_none xs = record { counts = λ r. count-except xs [] r ∙ ap one_if (both (is_present r xs)) ∙ sym (count-distinct r xs) }
  where
    both : (b : Bool) → b && true ≡ b
    both true = refl
    both false = refl

left_of_present : (xs ys zs : List Record) → ((r : Record) → is_present r ys ≡ is_present r zs) → only_left xs ys ≈ only_left xs zs
left_of_present xs ys zs e = record { counts = λ r. count-except xs ys r ∙ ap (λ b. one_if (is_present r xs && not b)) (e r) ∙ sym (count-except xs zs r) }

-- the latest records are those that come at this turn, and came at none before
pub latest_is : (f : List Record → List Record) (xs : List Record) (c : ℕ) → only_left (comes Loop.closure f xs c) (flat_map (comes Loop.closure f xs) (below c)) ≈ let_in Loop.closure f xs c
latest_is f xs zero = left_of_none xs
latest_is f xs (suc c) =
    let s : Found = repeated (found_next f) c (found_first xs) in
    left_of_present (f s.latest) (flat_map (comes Loop.closure f xs) (below (suc c))) s.all (λ r. sym (all_present f xs c r))

-- and what is found is the sum of the latest records of all turns
pub all_is : (f : List Record → List Record) (xs : List Record) (c : ℕ) → flat_map (let_in Loop.closure f xs) (below (suc c)) ≈ (repeated (found_next f) c (found_first xs)).all
all_is f xs zero = ≈-from (append-nil (each_once xs))
all_is f xs (suc c) =
    let s : Found = repeated (found_next f) c (found_first xs) in
    ≈-trans (≈-from (flat_push (let_in Loop.closure f xs) (suc c)))
    (append_same _ s.all _ (only_left (f s.latest) s.all) (all_is f xs c) (≈-refl (only_left (f s.latest) s.all)))
