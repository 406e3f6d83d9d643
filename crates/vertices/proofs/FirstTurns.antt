-- A row is noted at a turn: it is new, or its turn becomes less, or nothing changes.
use Rattle.std.proofs.Common.{◌≡◌, ℕ, zero, suc, ◌+◌, ◌≤◌, ◌<◌, ◌==◌, nat_lt, Bool, true, false, not, cond, ◌&&◌, ◌||◌, List, [], ◌∷◌, ◌++◌, length, slice_index_or, slice_set, take, refl, sym, ap, ap₂, subst, ◌∙◌, arith, append-nil, append_assoc, length-append}
use mathlib.Core.Path.{fun_ext}
use Rattle.std.proofs.lemmas.Bool.{true≢false}
use Rattle.std.proofs.lemmas.List.{get_or_append_left, get_or-set_same, get_or-set_other, take_all, take_more}
use Rattle.semantics.proofs.FoundByClosures.{present-append}
use Rattle.std.proofs.Math.Seq.{get_or-append_seam}
use Rattle.std.proofs.Math.ListN.{length-set}
use Rattle.std.specs.List.{AllByRecursion, list_any}
use Rattle.rows.specs.Indexes.{AreDifferent, with_row}
use Rattle.rows.proofs.Keeping.{once_where_different}
use Rattle.semantics.specs.Multiset.{Record, count, is_present, one_if, same}
use Rattle.semantics.proofs.MultisetSums.{Decides-same, total-append}
use Rattle.vertices.specs.FirstTurns.{AreFirstTurns, is_first_below, rows_first_at, with_places}
use Rattle.vertices.proofs.Sets.{found_counts}

same-refl : (r : Record) → same r r ≡ true
same-refl r = (Decides-same r r).1 refl

-- ---- truth values

or_false : (b : Bool) → b || false ≡ b
or_false true = refl
or_false false = refl

or_assoc : (a b c : Bool) → a || (b || c) ≡ (a || b) || c
or_assoc true b c = refl
or_assoc false b c = refl

or_comm : (a b : Bool) → a || b ≡ b || a
or_comm true true = refl
or_comm true false = refl
or_comm false true = refl
or_comm false false = refl

-- what says less adds nothing
or_more : (a b : Bool) → (a ≡ true → b ≡ true) → a || b ≡ b
or_more true b h = sym (h refl)
or_more false b h = refl

or_less : (a b : Bool) → (b ≡ true → a ≡ true) → a || b ≡ a
or_less a b h = or_comm a b ∙ or_more b a h

and_true : (a b : Bool) → a && b ≡ true → (a ≡ true) × (b ≡ true)
and_true true b h = (refl, h)
and_true false b h = absurd (true≢false (sym h))

lt_true : (m n : ℕ) → nat_lt m n ≡ true → m < n
lt_true m n e = grind (arith, e)

lt_holds : (m n : ℕ) → m < n → nat_lt m n ≡ true
lt_holds m n h = grind (arith, h)

-- ---- rows that are or aren't among others

module _ (x : Record) where
  count_at : (rows : List Record) (p : ℕ) → p < length rows → slice_index_or rows p [] ≡ x → 0 < count x rows
  count_at [] p h e = absurd (omega (arith, h))
  count_at (y ∷ rows) zero h e = let one : one_if (same y x) ≡ 1 = ap one_if (ap (λ z. same z x) e ∙ same-refl x) in omega (arith, one)
  count_at (y ∷ rows) (suc p) h e = let rest = count_at rows p (omega (arith, h)) e in omega (arith, rest)

  -- a row that isn't there was first at no turn
  first_of_none : (rows : List Record) (turns : List ℕ) (n : ℕ) → count x rows ≡ 0 → is_first_below rows turns x n ≡ false
  first_of_none [] ts n e = refl
  first_of_none (y ∷ rows) [] n e = refl
  first_of_none (y ∷ rows) (t ∷ ts) n e = go (first_of_none rows ts n) (same y x) refl
    where
      go : (count x rows ≡ 0 → is_first_below rows ts x n ≡ false) → (b : Bool) → same y x ≡ b → (same y x && nat_lt t n) || is_first_below rows ts x n ≡ false
      go rest true f = absurd (let one = ap one_if f in omega (arith, one, e))
      go rest false f = ap (λ b. (b && nat_lt t n) || is_first_below rows ts x n) f ∙ rest (let none = ap one_if f in omega (arith, none, e))

  -- the turn of a row
  first_at : (rows : List Record) (turns : List ℕ) (p n : ℕ) → length turns ≡ length rows → count x rows ≤ 1 → p < length rows → slice_index_or rows p [] ≡ x → is_first_below rows turns x n ≡ nat_lt (slice_index_or turns p 0) n
  first_at [] ts p n l once h e = absurd (omega (arith, h))
  first_at (y ∷ rows) [] p n l once h e = absurd (omega (arith, l))
  first_at (y ∷ rows) (t ∷ ts) zero n l once h e =
      let there : same y x ≡ true = ap (λ z. same z x) e ∙ same-refl x in
      (λ j. (there j && nat_lt t n) || first_of_none rows ts n (let one = ap one_if there in omega (arith, one, once)) j) ∙ or_false (nat_lt t n)
  first_at (y ∷ rows) (t ∷ ts) (suc p) n l once h e = go (λ fewer. first_at rows ts p n (omega (arith, l)) fewer (omega (arith, h)) e) (same y x) refl
    where
      go : (count x rows ≤ 1 → is_first_below rows ts x n ≡ nat_lt (slice_index_or ts p 0) n) → (b : Bool) → same y x ≡ b → (same y x && nat_lt t n) || is_first_below rows ts x n ≡ nat_lt (slice_index_or ts p 0) n
      go rest true f = absurd (let one = ap one_if f in let rest = count_at rows p (omega (arith, h)) e in omega (arith, one, rest, once))
      go rest false f = ap (λ b. (b && nat_lt t n) || is_first_below rows ts x n) f ∙ rest (let none = ap one_if f in omega (arith, none, once))

-- ---- what a noted row changes

-- a row at the end
first_more : (x r : Record) (k n : ℕ) (rows : List Record) (turns : List ℕ) → length turns ≡ length rows → is_first_below (rows ++ (x ∷ [])) (turns ++ (k ∷ [])) r n ≡ is_first_below rows turns r n || (same x r && nat_lt k n)
first_more x r k n [] [] l = or_false (same x r && nat_lt k n)
first_more x r k n [] (t ∷ ts) l = absurd (omega (arith, l))
first_more x r k n (y ∷ rows) [] l = absurd (omega (arith, l))
first_more x r k n (y ∷ rows) (t ∷ ts) l =
    ap (λ b. (same y r && nat_lt t n) || b) (first_more x r k n rows ts (omega (arith, l)))
    ∙ or_assoc (same y r && nat_lt t n) (is_first_below rows ts r n) (same x r && nat_lt k n)

-- a lesser turn
first_less : (x r : Record) (k n : ℕ) (rows : List Record) (turns : List ℕ) (p : ℕ) → length turns ≡ length rows → p < length rows → slice_index_or rows p [] ≡ x → k < slice_index_or turns p 0 → is_first_below rows (slice_set turns p k) r n ≡ is_first_below rows turns r n || (same x r && nat_lt k n)
first_less x r k n [] ts p l h e m = absurd (omega (arith, h))
first_less x r k n (y ∷ rows) [] p l h e m = absurd (omega (arith, l))
first_less x r k n (y ∷ rows) (t ∷ ts) zero l h e m =
    ap (λ b. b || is_first_below rows ts r n) (sym (or_more (same y r && nat_lt t n) (same y r && nat_lt k n) (λ f. let both = and_true (same y r) (nat_lt t n) f in (λ j. both.0 j && lt_holds k n (let less = lt_true t n both.1 in omega (arith, less, m)) j))))
    ∙ turned (same y r && nat_lt t n) (same y r && nat_lt k n) (is_first_below rows ts r n)
    ∙ ap (λ z. ((same y r && nat_lt t n) || is_first_below rows ts r n) || (same z r && nat_lt k n)) e
  where
    turned : (a b c : Bool) → (a || b) || c ≡ (a || c) || b
    turned true b c = refl
    turned false b c = or_comm b c
first_less x r k n (y ∷ rows) (t ∷ ts) (suc p) l h e m =
    ap (λ b. (same y r && nat_lt t n) || b) (first_less x r k n rows ts p (omega (arith, l)) (omega (arith, h)) e m)
    ∙ or_assoc (same y r && nat_lt t n) (is_first_below rows ts r n) (same x r && nat_lt k n)

-- a turn that isn't less
first_kept : (x r : Record) (k n : ℕ) (rows : List Record) (turns : List ℕ) (p : ℕ) → length turns ≡ length rows → p < length rows → slice_index_or rows p [] ≡ x → slice_index_or turns p 0 ≤ k → is_first_below rows turns r n ≡ is_first_below rows turns r n || (same x r && nat_lt k n)
first_kept x r k n [] ts p l h e m = absurd (omega (arith, h))
first_kept x r k n (y ∷ rows) [] p l h e m = absurd (omega (arith, l))
first_kept x r k n (y ∷ rows) (t ∷ ts) zero l h e m =
    sym (or_less ((same y r && nat_lt t n) || is_first_below rows ts r n) (same x r && nat_lt k n)
    (λ f. let both = and_true (same x r) (nat_lt k n) f in
    (λ j. (ap (λ z. same z r) e ∙ both.0) j && lt_holds t n (let less = lt_true k n both.1 in omega (arith, less, m)) j || is_first_below rows ts r n)))
first_kept x r k n (y ∷ rows) (t ∷ ts) (suc p) l h e m =
    ap (λ b. (same y r && nat_lt t n) || b) (first_kept x r k n rows ts p (omega (arith, l)) (omega (arith, h)) e m)
    ∙ or_assoc (same y r && nat_lt t n) (is_first_below rows ts r n) (same x r && nat_lt k n)

-- ---- what the lists of places find

-- rows and turns in which a row is noted at turn k: it had a later turn if it was there, and nothing else changes
record IsNoted (x : Record) (k : ℕ) (rows rows' : List Record) (turns turns' : List ℕ) : Type 0 where
  kept : (q : ℕ) → q < length rows → slice_index_or rows' q [] ≡ slice_index_or rows q []
  turn_kept : (q : ℕ) → q < length rows → same (slice_index_or rows q []) x ≡ false → slice_index_or turns' q 0 ≡ slice_index_or turns q 0
  turn_less : (q : ℕ) → q < length rows → same (slice_index_or rows q []) x ≡ true → (slice_index_or turns' q 0 ≡ k) × (k < slice_index_or turns q 0)

nothing : (b : Bool) → cond b zero zero ≡ zero
nothing true = refl
nothing false = refl

module _ (x : Record) (k : ℕ) (rows rows' : List Record) (turns turns' : List ℕ) (noted : IsNoted x k rows rows' turns turns') where
  -- by the lists as they were: each other row as before, and the noted row no more
  found_before : (r : Record) (j : ℕ) (ps : List ℕ) → AllByRecursion (λ p. (p < length rows) × (slice_index_or turns p 0 ≤ j)) ps
      → count r (rows_first_at rows' turns' j ps) ≡ cond (same x r) 0 (count r (rows_first_at rows turns j ps))
  found_before r j [] h = sym (nothing (same x r))
  found_before r j (p ∷ ps) h =
      total-append (λ z. one_if (same z r)) (cond (slice_index_or turns' p 0 == j) (slice_index_or rows' p [] ∷ []) []) (rows_first_at rows' turns' j ps)
      ∙ ap₂ (λ m n. m + n) (here (same (slice_index_or rows p []) x) refl (same x r) refl) (found_before r j ps h.1)
      ∙ both (same x r) (count r (cond (slice_index_or turns p 0 == j) (slice_index_or rows p [] ∷ []) [])) (count r (rows_first_at rows turns j ps))
      ∙ sym (ap (cond (same x r) 0) (total-append (λ z. one_if (same z r)) (cond (slice_index_or turns p 0 == j) (slice_index_or rows p [] ∷ []) []) (rows_first_at rows turns j ps)))
    where
      both : (b : Bool) (m n : ℕ) → cond b 0 m + cond b 0 n ≡ cond b 0 (m + n)
      both true m n = refl
      both false m n = refl

      none : (b c : Bool) → c ≡ false → count r (cond b (slice_index_or rows p [] ∷ []) []) ≡ 0 → cond c 0 (count r (cond b (slice_index_or rows p [] ∷ []) [])) ≡ 0
      none b true e f = refl
      none b false e f = f

      -- one row counted, or none
      one : (z : Record) (b c : Bool) → same z r ≡ c → count r (cond b (z ∷ []) []) ≡ cond b (one_if c) 0
      one z true c e = ap (λ d. one_if d + 0) e ∙ plain c
        where
          plain : (c : Bool) → one_if c + 0 ≡ one_if c
          plain true = refl
          plain false = refl
      one z false c e = refl

      not_equal : (m : ℕ) → m < slice_index_or turns p 0 → m ≡ j → ⊥
      not_equal m l e = omega (arith, l, e, h.0.1)

      differs : (m : ℕ) → (m ≡ j → ⊥) → (m == j) ≡ false
      differs m l = grind (arith, l)

      here : (b : Bool) → same (slice_index_or rows p []) x ≡ b → (c : Bool) → same x r ≡ c
          → count r (cond (slice_index_or turns' p 0 == j) (slice_index_or rows' p [] ∷ []) []) ≡ cond (same x r) 0 (count r (cond (slice_index_or turns p 0 == j) (slice_index_or rows p [] ∷ []) []))
      -- the noted row: not at its place by this turn any more
      here true e c f =
          let less = noted.turn_less p h.0.0 e in
          (λ i. count r (cond ((ap (λ m. m == j) less.0 ∙ differs k (not_equal k less.1)) i) (slice_index_or rows' p [] ∷ []) []))
          ∙ sym (was c f)
        where
          is : slice_index_or rows p [] ≡ x
          is = (Decides-same (slice_index_or rows p []) x).0 e

          was : (c : Bool) → same x r ≡ c → cond (same x r) 0 (count r (cond (slice_index_or turns p 0 == j) (slice_index_or rows p [] ∷ []) [])) ≡ 0
          was true f = ap (λ b. cond b 0 (count r (cond (slice_index_or turns p 0 == j) (slice_index_or rows p [] ∷ []) []))) f
          was false f =
              ap (λ b. cond b 0 (count r (cond (slice_index_or turns p 0 == j) (slice_index_or rows p [] ∷ []) []))) f
              ∙ one (slice_index_or rows p []) (slice_index_or turns p 0 == j) false (ap (λ z. same z r) is ∙ f) ∙ nothing (slice_index_or turns p 0 == j)
      -- another row
      here false e true f =
          (λ i. count r (cond (noted.turn_kept p h.0.0 e i == j) (noted.kept p h.0.0 i ∷ []) []))
          ∙ one (slice_index_or rows p []) (slice_index_or turns p 0 == j) false (ap (same (slice_index_or rows p [])) (sym ((Decides-same x r).0 f)) ∙ e)
          ∙ nothing (slice_index_or turns p 0 == j)
          ∙ sym (ap (λ b. cond b 0 (count r (cond (slice_index_or turns p 0 == j) (slice_index_or rows p [] ∷ []) []))) f)
      here false e false f =
          (λ i. count r (cond (noted.turn_kept p h.0.0 e i == j) (noted.kept p h.0.0 i ∷ []) []))
          ∙ sym (ap (λ b. cond b 0 (count r (cond (slice_index_or turns p 0 == j) (slice_index_or rows p [] ∷ []) []))) f)

  -- the bounds of the lists as they were
  bounds_before : (j : ℕ) (ps : List ℕ) → length rows ≤ length rows' → AllByRecursion (λ p. (p < length rows) × (slice_index_or turns p 0 ≤ j)) ps → AllByRecursion (λ p. (p < length rows') × (slice_index_or turns' p 0 ≤ j)) ps
  bounds_before j [] l h = tt
  bounds_before j (p ∷ ps) l h = ((omega (arith, l, h.0.0), go (same (slice_index_or rows p []) x) refl), bounds_before j ps l h.1)
    where
      go : (b : Bool) → same (slice_index_or rows p []) x ≡ b → slice_index_or turns' p 0 ≤ j
      go true e = let less = noted.turn_less p h.0.0 e in omega (arith, less.0, less.1, h.0.1)
      go false e = let kept = noted.turn_kept p h.0.0 e in omega (arith, kept, h.0.1)

all_append : {X : Type 0} (P : X → Type 0) (xs ys : List X) → AllByRecursion P xs → AllByRecursion P ys → AllByRecursion P (xs ++ ys)
all_append P [] ys h k = k
all_append P (x ∷ xs) ys h k = (h.0, all_append P xs ys h.1 k)

found_append : (r : Record) (rows : List Record) (turns : List ℕ) (j : ℕ) (ps qs : List ℕ) → count r (rows_first_at rows turns j (ps ++ qs)) ≡ count r (rows_first_at rows turns j ps) + count r (rows_first_at rows turns j qs)
found_append r rows turns j [] qs = omega arith
found_append r rows turns j (p ∷ ps) qs =
    let t = λ (z : Record). one_if (same z r) in
    let row = cond (slice_index_or turns p 0 == j) (slice_index_or rows p [] ∷ []) [] in
    omega (arith, total-append t row (rows_first_at rows turns j (ps ++ qs)), total-append t row (rows_first_at rows turns j ps), found_append r rows turns j ps qs)

-- the lists with the place of the noted row in that of its turn
noted_lists : (x : Record) (k p : ℕ) (rows rows' : List Record) (turns turns' : List ℕ) (places : ℕ → List ℕ) → IsNoted x k rows rows' turns turns'
    → ((r : Record) (n : ℕ) → is_first_below rows' turns' r n ≡ is_first_below rows turns r n || (same x r && nat_lt k n))
    → ((n : ℕ) → is_first_below rows turns x n ≡ true → nat_lt k n ≡ true)
    → length rows ≤ length rows' → length turns' ≡ length rows' → p < length rows' → slice_index_or rows' p [] ≡ x → slice_index_or turns' p 0 ≡ k
    → AreFirstTurns rows turns places → AreFirstTurns rows' turns' (with_places places k (p ∷ []))
noted_lists x k p rows rows' turns turns' places noted first late grown many h e f old = record {
  as_many = many;
  bounded = λ j. all_append _ (places j) (cond (k == j) (p ∷ []) []) (bounds_before x k rows rows' turns turns' noted j (places j) grown (old.bounded j)) (at_end j (k == j) refl);
  listed = λ j r.
      found_append r rows' turns' j (places j) (cond (k == j) (p ∷ []) [])
      ∙ ap₂ (λ m n. m + n) (found_before x k rows rows' turns turns' noted r j (places j) (old.bounded j) ∙ ap (cond (same x r) 0) (old.listed j r)) (last j r (k == j) refl)
      ∙ sums j r (same x r) refl
      ∙ (λ i. one_if (sym (first r (suc j)) i && not (sym (first r j) i)));
}
  where
    equal : (j : ℕ) → (k == j) ≡ true → k ≡ j
    equal j g = grind (arith, g)

    at_end : (j : ℕ) (b : Bool) → (k == j) ≡ b → AllByRecursion (λ q. (q < length rows') × (slice_index_or turns' q 0 ≤ j)) (cond b (p ∷ []) [])
    at_end j true g = ((h, let k_is = equal j g in omega (arith, f, k_is)), tt)
    at_end j false g = tt

    last : (j : ℕ) (r : Record) (b : Bool) → (k == j) ≡ b → count r (rows_first_at rows' turns' j (cond (k == j) (p ∷ []) [])) ≡ cond b (one_if (same x r)) 0
    last j r true g =
        ap (λ b. count r (rows_first_at rows' turns' j (cond b (p ∷ []) []))) g
        ∙ (λ i. count r (cond ((ap (λ m. m == j) f ∙ g) i) (e i ∷ []) [] ++ []))
        ∙ plain (same x r)
      where
        plain : (b : Bool) → one_if b + 0 ≡ one_if b
        plain true = refl
        plain false = refl
    last j r false g = ap (λ b. count r (rows_first_at rows' turns' j (cond b (p ∷ []) []))) g

    -- at this turn, and not before
    then : (j : ℕ) → nat_lt k (suc j) && not (nat_lt k j) ≡ (k == j)
    then j = grind arith

    sums : (j : ℕ) (r : Record) (b : Bool) → same x r ≡ b
        → cond (same x r) 0 (one_if (is_first_below rows turns r (suc j) && not (is_first_below rows turns r j))) + cond (k == j) (one_if (same x r)) 0
        ≡ one_if ((is_first_below rows turns r (suc j) || (same x r && nat_lt k (suc j))) && not (is_first_below rows turns r j || (same x r && nat_lt k j)))
    sums j r true g =
        (λ i. cond (g i) 0 (one_if (is_first_below rows turns r (suc j) && not (is_first_below rows turns r j))) + cond (k == j) (one_if (g i)) 0)
        ∙ shown (k == j)
        ∙ sym (ap one_if ((λ i. (is_first_below rows turns r (suc j) || (g i && nat_lt k (suc j))) && not (is_first_below rows turns r j || (g i && nat_lt k j))) ∙ (λ i. later (suc j) i && not (later j i)) ∙ then j))
      where
        is : x ≡ r
        is = (Decides-same x r).0 g

        later : (n : ℕ) → is_first_below rows turns r n || nat_lt k n ≡ nat_lt k n
        later n = or_more (is_first_below rows turns r n) (nat_lt k n) (subst (λ (z : Record). is_first_below rows turns z n ≡ true → nat_lt k n ≡ true) is (late n))

        shown : (b : Bool) → 0 + cond b 1 0 ≡ one_if b
        shown true = refl
        shown false = refl
    sums j r false g =
        (λ i. cond (g i) 0 (one_if (is_first_below rows turns r (suc j) && not (is_first_below rows turns r j))) + cond (k == j) (one_if (g i)) 0)
        ∙ plus_nothing (one_if (is_first_below rows turns r (suc j) && not (is_first_below rows turns r j))) (k == j)
        ∙ sym (ap one_if ((λ i. (is_first_below rows turns r (suc j) || (g i && nat_lt k (suc j))) && not (is_first_below rows turns r j || (g i && nat_lt k j))) ∙ (λ i. or_false (is_first_below rows turns r (suc j)) i && not (or_false (is_first_below rows turns r j) i))))
      where
        plus_nothing : (m : ℕ) (b : Bool) → m + cond b 0 0 ≡ m
        plus_nothing m true = omega arith
        plus_nothing m false = omega arith

-- ---- the three cases of a row that is noted

-- what noting a row at a turn gives: its place is new in the list of the turn
pub record IsNotedAt (x : Record) (k p : ℕ) (rows rows' : List Record) (turns turns' : List ℕ) : Type 0 where
  pub as_many : length turns' ≡ length rows'
  pub first : (r : Record) (n : ℕ) → is_first_below rows' turns' r n ≡ is_first_below rows turns r n || (same x r && nat_lt k n)
  pub lists : (places : ℕ → List ℕ) → AreFirstTurns rows turns places → AreFirstTurns rows' turns' (with_places places k (p ∷ []))

module _ (x : Record) (k p : ℕ) (rows rows' : List Record) (turns : List ℕ) (many : length turns ≡ length rows) (is : rows' ≡ with_row rows x) (within : p < length rows') (there : slice_index_or rows' p [] ≡ x) where
  -- a row that is put at the end is new
  at_end : p ≡ length turns → (rows' ≡ rows ++ (x ∷ [])) × (count x rows ≡ 0)
  at_end e = go (list_any (λ r. same r x) rows) refl is
    where
      go : (b : Bool) → list_any (λ r. same r x) rows ≡ b → rows' ≡ cond b rows (rows ++ (x ∷ [])) → (rows' ≡ rows ++ (x ∷ [])) × (count x rows ≡ 0)
      go true f g = absurd (let l = ap length g in omega (arith, l, within, e, many))
      go false f g = (g, let none : nat_lt 0 (count x rows) ≡ false = sym (found_counts x rows) ∙ f in grind (arith, none))

  -- a row at another place was there
  pub was_there : (p ≡ length turns → ⊥) → (p < length rows) × (rows' ≡ rows)
  was_there d = go (list_any (λ r. same r x) rows) refl is
    where
      go : (b : Bool) → list_any (λ r. same r x) rows ≡ b → rows' ≡ cond b rows (rows ++ (x ∷ [])) → (p < length rows) × (rows' ≡ rows)
      go true f g = (let l = ap length g in omega (arith, l, within), g)
      go false f g = absurd (contra (let l = ap length g ∙ length-append rows (x ∷ []) in below l))
        where
          below : length rows' ≡ length rows + 1 → p < length rows
          below l = at (λ e. d (e ∙ sym many)) l
            where
              at : (p ≡ length rows → ⊥) → length rows' ≡ length rows + 1 → p < length rows
              at n l = omega (arith, n, l, within)

          contra : p < length rows → ⊥
          contra l =
              let found : 0 < count x rows = count_at x rows p l (sym (get_or_append_left rows (x ∷ []) [] p l) ∙ ap (λ l. slice_index_or l p []) (sym g) ∙ there) in
              let none : nat_lt 0 (count x rows) ≡ false = sym (found_counts x rows) ∙ f in
              true≢false (sym (lt_holds 0 (count x rows) found) ∙ none)

  pub note_new : p ≡ length turns → IsNotedAt x k p rows rows' turns (turns ++ (k ∷ []))
  note_new e =
      let new = at_end e in
      let first : (r : Record) (n : ℕ) → is_first_below rows' (turns ++ (k ∷ [])) r n ≡ is_first_below rows turns r n || (same x r && nat_lt k n) = λ r n. ap (λ l. is_first_below l (turns ++ (k ∷ [])) r n) new.0 ∙ first_more x r k n rows turns many in
      let as_many : length (turns ++ (k ∷ [])) ≡ length rows' = (let l = ap length new.0 ∙ length-append rows (x ∷ []) in omega (arith, l, many, length-append turns (k ∷ []))) in
      record {
        as_many = as_many;
        first = first;
        lists = λ places. noted_lists x k p rows rows' turns (turns ++ (k ∷ [])) places (noted new) first (λ n f. absurd (true≢false (sym f ∙ first_of_none x rows turns n new.1)))
            (let l = ap length new.0 ∙ length-append rows (x ∷ []) in omega (arith, l)) as_many within there (ap (λ q. slice_index_or (turns ++ (k ∷ [])) q 0) e ∙ get_or-append_seam turns k [] 0);
      }
    where
      noted : (rows' ≡ rows ++ (x ∷ [])) × (count x rows ≡ 0) → IsNoted x k rows rows' turns (turns ++ (k ∷ []))
      noted new = record {
        kept = λ q l. ap (λ r. slice_index_or r q []) new.0 ∙ get_or_append_left rows (x ∷ []) [] q l;
        turn_kept = λ q l f. get_or_append_left turns (k ∷ []) 0 q (omega (arith, l, many));
        turn_less = λ q l f. absurd (let found = count_at x rows q l ((Decides-same (slice_index_or rows q []) x).0 f) in omega (arith, found, new.1));
      }

  pub note_less : AreDifferent rows → (p ≡ length turns → ⊥) → k < slice_index_or turns p 0 → IsNotedAt x k p rows rows' turns (slice_set turns p k)
  note_less different d less =
      let old = was_there d in
      let here : slice_index_or rows p [] ≡ x = ap (λ r. slice_index_or r p []) (sym old.1) ∙ there in
      let first : (r : Record) (n : ℕ) → is_first_below rows' (slice_set turns p k) r n ≡ is_first_below rows turns r n || (same x r && nat_lt k n) = λ r n. ap (λ l. is_first_below l (slice_set turns p k) r n) old.1 ∙ first_less x r k n rows turns p many old.0 here less in
      let as_many : length (slice_set turns p k) ≡ length rows' = length-set turns p k ∙ many ∙ ap length (sym old.1) in
      record {
        as_many = as_many;
        first = first;
        lists = λ places. noted_lists x k p rows rows' turns (slice_set turns p k) places (noted old here) first
            (λ n f. lt_holds k n (let later = lt_true (slice_index_or turns p 0) n (sym (first_at x rows turns p n many (once_where_different rows different x) old.0 here) ∙ f) in omega (arith, later, less)))
            (let l = ap length old.1 in omega (arith, l)) as_many within there (get_or-set_same turns p k 0 (omega (arith, old.0, many)));
      }
    where
      noted : (p < length rows) × (rows' ≡ rows) → slice_index_or rows p [] ≡ x → IsNoted x k rows rows' turns (slice_set turns p k)
      noted old here = record {
        kept = λ q l. ap (λ r. slice_index_or r q []) old.1;
        turn_kept = λ q l f. get_or-set_other turns p q k 0 (λ e. true≢false (sym (ap (λ z. same (slice_index_or rows z []) x) e ∙ ap (λ z. same z x) here ∙ same-refl x) ∙ f));
        turn_less = λ q l f.
            let at : q ≡ p = different q p l old.0 ((Decides-same (slice_index_or rows q []) x).0 f ∙ sym here) in
            (ap (λ z. slice_index_or (slice_set turns p k) z 0) at ∙ get_or-set_same turns p k 0 (omega (arith, old.0, many)), subst (λ (z : ℕ). k < slice_index_or turns z 0) (sym at) less);
      }

  -- nothing changes
  pub note_kept : (p ≡ length turns → ⊥) → slice_index_or turns p 0 ≤ k → (r : Record) (n : ℕ) → is_first_below rows' turns r n ≡ is_first_below rows turns r n || (same x r && nat_lt k n)
  note_kept d least r n =
      let old = was_there d in
      ap (λ l. is_first_below l turns r n) old.1 ∙ first_kept x r k n rows turns p many old.0 (ap (λ r. slice_index_or r p []) (sym old.1) ∙ there) least

-- ---- one place after another

pub places_more : (places : ℕ → List ℕ) (k p : ℕ) (more : List ℕ) → with_places (with_places places k more) k (p ∷ []) ≡ with_places places k (more ++ (p ∷ []))
places_more places k p more = fun_ext (λ j. go j (k == j))
  where
    go : (j : ℕ) (b : Bool) → (places j ++ cond b more []) ++ cond b (p ∷ []) [] ≡ places j ++ cond b (more ++ (p ∷ [])) []
    go j true = append_assoc (places j) more (p ∷ [])
    go j false = append-nil (places j ++ [])

pub no_places : (places : ℕ → List ℕ) (k : ℕ) → with_places places k [] ≡ places
no_places places k = fun_ext (λ j. go j (k == j))
  where
    go : (j : ℕ) (b : Bool) → places j ++ cond b [] [] ≡ places j
    go j true = append-nil (places j)
    go j false = append-nil (places j)

-- rows that are noted one after another
pub noted_more : (before b c t now : Bool) → now ≡ (before || (b && t)) || (c && t) → now ≡ before || ((b || c) && t)
noted_more before b c t now e = e ∙ sym (or_assoc before (b && t) (c && t)) ∙ ap (λ z. before || z) (go b c t)
  where
    go : (b c t : Bool) → (b && t) || (c && t) ≡ (b || c) && t
    go true true true = refl
    go true true false = refl
    go true false true = refl
    go true false false = refl
    go false true true = refl
    go false true false = refl
    go false false true = refl
    go false false false = refl

-- ---- no row, and rows as far as they are taken

pub no_turns : (rows : List Record) (turns : List ℕ) (places : ℕ → List ℕ) → rows ≡ [] → turns ≡ [] → ((k : ℕ) → places k ≡ []) → AreFirstTurns rows turns places
no_turns rows turns places e f g = record {
  as_many = ap length f ∙ sym (ap length e);
  bounded = λ k. subst (AllByRecursion (λ p. (p < length rows) × (slice_index_or turns p 0 ≤ k))) (sym (g k)) tt;
  listed = λ k r.
      ap (λ (ps : List ℕ). count r (rows_first_at rows turns k ps)) (g k)
      ∙ sym (ap (λ (rs : List Record). one_if (is_first_below rs turns r (suc k) && not (is_first_below rs turns r k))) e);
}

pub present_take : (r : Record) (rows : List Record) (i : ℕ) → i < length rows → is_present r (take (i + 1) rows) ≡ is_present r (take i rows) || same (slice_index_or rows i []) r
present_take r rows i h =
    ap (is_present r) (take_more rows i [] h) ∙ present-append r (take i rows) (slice_index_or rows i [] ∷ []) ∙ ap (λ b. is_present r (take i rows) || b) (alone (same (slice_index_or rows i []) r))
  where
    alone : (b : Bool) → nat_lt 0 (one_if b + 0) ≡ b
    alone true = refl
    alone false = refl

found_by : (rows : List Record) (turns : List ℕ) (k : ℕ) (ps : List ℕ) (p : ℕ) → rows_first_at rows turns k (ps ++ (p ∷ [])) ≡ rows_first_at rows turns k ps ++ cond (slice_index_or turns p 0 == k) (slice_index_or rows p [] ∷ []) []
found_by rows turns k [] p = append-nil (cond (slice_index_or turns p 0 == k) (slice_index_or rows p [] ∷ []) [])
found_by rows turns k (q ∷ ps) p =
    ap (λ l. cond (slice_index_or turns q 0 == k) (slice_index_or rows q [] ∷ []) [] ++ l) (found_by rows turns k ps p)
    ∙ sym (append_assoc (cond (slice_index_or turns q 0 == k) (slice_index_or rows q [] ∷ []) []) (rows_first_at rows turns k ps) (cond (slice_index_or turns p 0 == k) (slice_index_or rows p [] ∷ []) []))

pub found_take : (rows : List Record) (turns : List ℕ) (k : ℕ) (ps : List ℕ) (i : ℕ) (old new : List Record) → i < length ps → old ≡ rows_first_at rows turns k (take i ps)
    → new ≡ old ++ cond (slice_index_or turns (slice_index_or ps i 0) 0 == k) (slice_index_or rows (slice_index_or ps i 0) [] ∷ []) [] → new ≡ rows_first_at rows turns k (take (i + 1) ps)
found_take rows turns k ps i old new h e f =
    f ∙ ap (λ l. l ++ cond (slice_index_or turns (slice_index_or ps i 0) 0 == k) (slice_index_or rows (slice_index_or ps i 0) [] ∷ []) []) e
    ∙ sym (ap (rows_first_at rows turns k) (take_more ps i 0 h) ∙ found_by rows turns k (take i ps) (slice_index_or ps i 0))

pub found_all : (rows : List Record) (turns : List ℕ) (k : ℕ) (ps : List ℕ) (i : ℕ) (found : List Record) → length ps ≤ i → found ≡ rows_first_at rows turns k (take i ps) → found ≡ rows_first_at rows turns k ps
found_all rows turns k ps i found h e = e ∙ ap (rows_first_at rows turns k) (take_all i ps h)

pub within_all : {X : Type 0} (P : X → Type 0) (d : X) (xs : List X) (i : ℕ) → i < length xs → AllByRecursion P xs → P (slice_index_or xs i d)
within_all P d [] i l h = absurd (omega (arith, l))
within_all P d (x ∷ xs) zero l h = h.0
within_all P d (x ∷ xs) (suc i) l h = within_all P d xs i (omega (arith, l)) h.1

-- a turn that is read, whatever stands for none
pub read_at : (xs : List ℕ) (p v : ℕ) → p < length xs → v ≡ slice_index_or xs p v → slice_index_or xs p 0 ≡ v
read_at [] p v h e = absurd (omega (arith, h))
read_at (x ∷ xs) zero v h e = sym e
read_at (x ∷ xs) (suc p) v h e = read_at xs p v (omega (arith, h)) e
