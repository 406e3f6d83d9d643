-- Lists of counters: their last, and Rust's `<=` on them.
use Rattle.std.proofs.Common.{◌≡◌, ◌⊎◌, ℕ, Bool, true, false, nat_lt, nat_eq, ◌&&◌, ◌||◌, ◌-◌, List, [], ◌∷◌, ◌++◌, length, slice_index_or, refl, sym, ap, ◌∙◌, inl, inr, arith, IsTrue}
use Rattle.std.proofs.lemmas.Bool.{true≢false}
use Rattle.std.proofs.lemmas.Bool.Decides.{nat_tests}
use Rattle.std.proofs.lemmas.Cmp.{same_from_slice_cmp_tested}
use Rattle.std.specs.Ordering.{nat_cmp, is_le, is_some_and}
use Rattle.std.specs.Cmp.Lexicographic.{slice_partial_cmp}
use Rattle.std.specs.Prelude.{Some}
use Rattle.semantics.specs.Time.{last, last_from, front, front_from, is_before}

last_from_append : (d : ℕ) (cs : List ℕ) (c : ℕ) → last_from d (cs ++ (c ∷ [])) ≡ c
last_from_append d [] c = refl
last_from_append d (x ∷ cs) c = last_from_append x cs c

-- what was appended is the last
pub last_append : (cs : List ℕ) (c : ℕ) → last (cs ++ (c ∷ [])) ≡ c
last_append cs c = last_from_append 0 cs c

front_from_append : (d : ℕ) (cs : List ℕ) (c : ℕ) → front_from d (cs ++ (c ∷ [])) ≡ d ∷ cs
front_from_append d [] c = refl
front_from_append d (x ∷ cs) c = ap (λ l. d ∷ l) (front_from_append x cs c)

-- what was there before something was appended is all but the last
pub front_append : (cs : List ℕ) (c : ℕ) → front (cs ++ (c ∷ [])) ≡ cs
front_append [] c = refl
front_append (x ∷ cs) c = front_from_append x cs c

last_from_index : (d : ℕ) (cs : List ℕ) → last_from d cs ≡ slice_index_or (d ∷ cs) (length cs) 0
last_from_index d [] = refl
last_from_index d (x ∷ cs) = last_from_index x cs

-- the last is at the greatest index
pub last_index : (cs : List ℕ) → slice_index_or cs (length cs - 1) 0 ≡ last cs
last_index [] = refl
last_index (x ∷ cs) =
    let i : length (x ∷ cs) - 1 ≡ length cs = omega arith in
    ap (λ k. slice_index_or (x ∷ cs) k 0) i ∙ sym (last_from_index x cs)

-- `<=` on slices, by recursion
abbrev pub is_at_most : List ℕ → List ℕ → Bool
is_at_most [] ys = true
is_at_most (x ∷ xs) [] = false
is_at_most (x ∷ xs) (y ∷ ys) = nat_lt x y || (nat_eq x y && is_at_most xs ys)

by_slices : (xs ys : List ℕ) (r : Bool) → r ≡ is_some_and is_le (slice_partial_cmp (λ x y. Some (nat_cmp x y)) xs ys) → r ≡ is_at_most xs ys
by_slices = same_from_slice_cmp_tested nat_cmp is_le is_at_most refl (λ _ _. refl) (λ _ _. refl) (λ x y xs ys o h. grind (arith, nat_tests))

-- by cases of the first counters
first_at_most : (x y : ℕ) (xs ys : List ℕ) (b c : Bool) → (b ≡ true → (xs ≡ ys) ⊎ (c ≡ true)) → (nat_lt x y || (nat_eq x y && b)) ≡ true → (x ∷ xs ≡ y ∷ ys) ⊎ ((nat_lt x y || (nat_eq x y && c)) ≡ true)
first_at_most x y xs ys b c k h = grind (arith, nat_tests)

first_in_order : (x y : ℕ) (xs ys : List ℕ) (b c : Bool) → ((xs ≡ ys) ⊎ (c ≡ true) → b ≡ true) → (x ∷ xs ≡ y ∷ ys) ⊎ ((nat_lt x y || (nat_eq x y && c)) ≡ true) → (nat_lt x y || (nat_eq x y && b)) ≡ true
first_in_order x y xs ys b c k h = grind (arith, nat_tests)

in_order : (xs ys : List ℕ) → is_at_most xs ys ≡ true → (xs ≡ ys) ⊎ (is_before xs ys ≡ true)
in_order [] [] h = inl refl
in_order [] (y ∷ ys) h = inr refl
in_order (x ∷ xs) [] h = absurd (true≢false (sym h))
in_order (x ∷ xs) (y ∷ ys) h = first_at_most x y xs ys (is_at_most xs ys) (is_before xs ys) (in_order xs ys) h

at_most : (xs ys : List ℕ) → (xs ≡ ys) ⊎ (is_before xs ys ≡ true) → is_at_most xs ys ≡ true
at_most [] ys h = refl
at_most (x ∷ xs) [] h = grind (arith, nat_tests)
at_most (x ∷ xs) (y ∷ ys) h = first_in_order x y xs ys (is_at_most xs ys) (is_before xs ys) (at_most xs ys) h

-- `<=` on slices is the definition's order
pub order_from_slices : (xs ys : List ℕ) (r : Bool) → r ≡ is_some_and is_le (slice_partial_cmp (λ x y. Some (nat_cmp x y)) xs ys) → IsTrue r → (xs ≡ ys) ⊎ (is_before xs ys ≡ true)
order_from_slices xs ys r e t =
    let b : r ≡ is_at_most xs ys = by_slices xs ys r e in
    in_order xs ys (grind (arith, nat_tests))

pub slices_from_order : (xs ys : List ℕ) (r : Bool) → r ≡ is_some_and is_le (slice_partial_cmp (λ x y. Some (nat_cmp x y)) xs ys) → (xs ≡ ys) ⊎ (is_before xs ys ≡ true) → IsTrue r
slices_from_order xs ys r e h =
    let b : r ≡ is_at_most xs ys = by_slices xs ys r e in
    let g : is_at_most xs ys ≡ true = at_most xs ys h in
    grind (arith, nat_tests)
