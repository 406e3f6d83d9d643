-- The first row of each bucket, and the rows that differ from it.
use Rattle.std.proofs.Common.{◌≡◌, ℕ, zero, suc, ◌+◌, ◌-◌, ◌<◌, ◌≤◌, ◌==◌, Bool, true, false, List, [], ◌∷◌, ◌++◌, take, length, refl, sym, ap, ◌∙◌, arith, true≢false}
use Rattle.std.specs.Prelude.{slice_index_or, slice_set}
use Rattle.std.proofs.Math.Numerals.{add-one}
use Rattle.std.proofs.lemmas.List.{get_or-set_same, get_or-set_other, length-set, take_more, take_all}
use Rattle.semantics.specs.Multiset.{Record, same, one_if, count}
use Rattle.semantics.proofs.MultisetSums.{Decides-same, total-append}
use Rattle.rows.specs.Indexes.{AreDifferent, bucket, mixed}
use Rattle.rows.proofs.Keeping.{one_le, once_where_different, different_where_once}
use Rattle.rows.proofs.Walks.{eq_of, to_eq}

-- one more than the place of the first row of a row's bucket, or 0
abbrev pub owner_of : List ℕ → Record → ℕ
owner_of owners r = slice_index_or owners (bucket (mixed r) (length owners)) 0

-- a row is the first of its bucket
abbrev pub owns : List Record → List ℕ → Record → Bool
owns rows owners r = same (slice_index_or ([] ∷ rows) (owner_of owners r) []) r

-- of the first n rows, the first of a bucket occurs once, and the others are in doubt
pub record AreOwned (rows : List Record) (n : ℕ) (owners : List ℕ) (doubtful : List Record) : Type 0 where
  pub places : (b : ℕ) → slice_index_or owners b 0 ≤ n
  pub owned : (r : Record) → 1 ≤ count r (take n rows) → 1 ≤ owner_of owners r
  pub once : (r : Record) → owns rows owners r ≡ true → count r (take n rows) ≤ 1
  pub others : (r : Record) → owns rows owners r ≡ false → count r (take n rows) ≤ count r doubtful
  pub part : (r : Record) → count r doubtful ≤ count r (take n rows)

-- one row more, which is x
module _ (rows : List Record) (n : ℕ) (x : Record) (there : n < length rows) (x_is : x ≡ slice_index_or rows n []) where
  count_more : (r : Record) → count r (take (n + 1) rows) ≡ count r (take n rows) + one_if (same x r)
  count_more r =
      let taken : take (n + 1) rows ≡ take n rows ++ x ∷ [] = take_more rows n [] there ∙ ap (λ y. take n rows ++ y ∷ []) (sym x_is) in
      let z = total-append (λ y. one_if (same y r)) (take n rows) (x ∷ []) in
      let t = ap (count r) taken in
      omega (arith, z, t)

  -- it is the first of its bucket
  module _ (owners : List ℕ) (doubtful : List Record) (b v : ℕ) (b_is : b ≡ bucket (mixed x) (length owners)) (within : b < length owners) (free : slice_index_or owners b 0 ≡ 0) (v_is : v ≡ n + 1) (old : AreOwned rows n owners doubtful) where
    abbrev at : Record → ℕ
    at r = bucket (mixed r) (length owners)

    abbrev new : List ℕ
    new = slice_set owners b v

    new_here : (k : ℕ) → (k == b) ≡ true → slice_index_or new k 0 ≡ n + 1
    new_here k f = ap (λ j. slice_index_or new j 0) (eq_of k b f) ∙ get_or-set_same owners b v 0 within ∙ v_is

    new_there : (k : ℕ) → (k == b) ≡ false → slice_index_or new k 0 ≡ slice_index_or owners k 0
    new_there k f = get_or-set_other owners b k v 0 (λ i. true≢false (sym (to_eq k b i) ∙ f))

    kept : (r : Record) → owner_of new r ≡ slice_index_or new (at r) 0
    kept r = ap (λ m. slice_index_or new (bucket (mixed r) m) 0) (length-set owners b v)

    -- no row before it has its bucket
    none : (r : Record) → (at r == b) ≡ true → count r (take n rows) ≡ 0
    none r f = zero_or (count r (take n rows)) (λ h. (let z = old.owned r h in let e = ap (λ j. slice_index_or owners j 0) (eq_of (at r) b f) in omega (arith, z, e, free)))
      where
        zero_or : (m : ℕ) → (1 ≤ m → ⊥) → m ≡ 0
        zero_or zero g = refl
        zero_or (suc m) g = absurd (g (omega arith))

    other : (r : Record) → (at r == b) ≡ false → (s : Bool) → same x r ≡ s → s ≡ false
    other r f true g = absurd (true≢false (sym (to_eq (at r) b (ap at (sym ((Decides-same x r).0 g)) ∙ sym b_is)) ∙ f))
    other r f false g = refl

    same_count : (r : Record) → (at r == b) ≡ false → count r (take (n + 1) rows) ≡ count r (take n rows)
    same_count r f = let c = count_more r in let o = ap one_if (other r f (same x r) refl) in omega (arith, c, o)

    owns_here : (r : Record) → (at r == b) ≡ true → owns rows new r ≡ same x r
    owns_here r f = ap (λ j. same (slice_index_or ([] ∷ rows) j []) r) (kept r ∙ new_here (at r) f ∙ add-one n) ∙ ap (λ y. same y r) (sym x_is)

    owns_there : (r : Record) → (at r == b) ≡ false → owns rows new r ≡ owns rows owners r
    owns_there r f = ap (λ j. same (slice_index_or ([] ∷ rows) j []) r) (kept r ∙ new_there (at r) f)

    pub owned_first : AreOwned rows (n + 1) new doubtful
    owned_first = record {
      places = λ k. bound k (k == b) refl;
      owned = λ r h. has r (at r == b) refl h;
      once = λ r h. first r (at r == b) refl h;
      others = λ r h. rest r (at r == b) refl h;
      part = λ r. (let c = count_more r in let p = old.part r in omega (arith, c, p));
    }
      where
        bound : (k : ℕ) (t : Bool) → (k == b) ≡ t → slice_index_or new k 0 ≤ n + 1
        bound k true f = let z = new_here k f in omega (arith, z)
        bound k false f = let z = new_there k f in let p = old.places k in omega (arith, z, p)

        has : (r : Record) (t : Bool) → (at r == b) ≡ t → 1 ≤ count r (take (n + 1) rows) → 1 ≤ owner_of new r
        has r true f h = let z = kept r ∙ new_here (at r) f in omega (arith, z)
        has r false f h = let z = kept r ∙ new_there (at r) f in let o = old.owned r (omega (arith, h, same_count r f)) in omega (arith, z, o)

        first : (r : Record) (t : Bool) → (at r == b) ≡ t → owns rows new r ≡ true → count r (take (n + 1) rows) ≤ 1
        first r true f h = let c = count_more r in let z = none r f in let o = one_le (same x r) in omega (arith, c, z, o)
        first r false f h = let z = old.once r (sym (owns_there r f) ∙ h) in omega (arith, z, same_count r f)

        rest : (r : Record) (t : Bool) → (at r == b) ≡ t → owns rows new r ≡ false → count r (take (n + 1) rows) ≤ count r doubtful
        rest r true f h = let c = count_more r in let z = none r f in let o = ap one_if (sym (owns_here r f) ∙ h) in omega (arith, c, z, o)
        rest r false f h = let z = old.others r (sym (owns_there r f) ∙ h) in omega (arith, z, same_count r f)

  -- it differs from the first of its bucket
  pub owned_other : (owners : List ℕ) (doubtful : List Record) (b p : ℕ) → b ≡ bucket (mixed x) (length owners) → p ≡ slice_index_or owners b 0 → 1 ≤ p → same (slice_index_or rows (p - 1) []) x ≡ false → AreOwned rows n owners doubtful → AreOwned rows (n + 1) owners (doubtful ++ x ∷ [])
  owned_other owners doubtful b p b_is p_here l differs old = record {
    places = λ k. (let z = old.places k in omega (arith, z));
    owned = λ r h. has r (same x r) refl h;
    once = λ r h. first r (same x r) refl h;
    others = λ r h. (let c = count_more r in let d = added r in let z = old.others r h in omega (arith, c, d, z));
    part = λ r. (let c = count_more r in let d = added r in let z = old.part r in omega (arith, c, d, z));
  }
    where
      p_is : p ≡ owner_of owners x
      p_is = p_here ∙ ap (λ k. slice_index_or owners k 0) b_is

      added : (r : Record) → count r (doubtful ++ x ∷ []) ≡ count r doubtful + one_if (same x r)
      added r = let z = total-append (λ y. one_if (same y r)) doubtful (x ∷ []) in omega (arith, z)

      not_first : owns rows owners x ≡ false
      not_first = ap (λ j. same (slice_index_or ([] ∷ rows) j []) x) (sym p_is ∙ before p l) ∙ differs
        where
          before : (m : ℕ) → 1 ≤ m → m ≡ suc (m - 1)
          before m h = omega (arith, h)

      has : (r : Record) (s : Bool) → same x r ≡ s → 1 ≤ count r (take (n + 1) rows) → 1 ≤ owner_of owners r
      has r true g h = let z = p_is ∙ ap (owner_of owners) ((Decides-same x r).0 g) in omega (arith, z, l)
      has r false g h = old.owned r (let c = count_more r in let o = ap one_if g in omega (arith, c, o, h))

      first : (r : Record) (s : Bool) → same x r ≡ s → owns rows owners r ≡ true → count r (take (n + 1) rows) ≤ 1
      first r true g h = absurd (true≢false (sym h ∙ ap (owns rows owners) (sym ((Decides-same x r).0 g)) ∙ not_first))
      first r false g h = let c = count_more r in let o = ap one_if g in let z = old.once r h in omega (arith, c, o, z)

-- where those in doubt are different, all are
pub owned_different : (rows : List Record) (n : ℕ) (owners : List ℕ) (doubtful : List Record) → length rows ≤ n → AreOwned rows n owners doubtful → AreDifferent doubtful → AreDifferent rows
owned_different rows n owners doubtful all old d = different_where_once rows (λ r. at r (owns rows owners r) refl)
  where
    at : (r : Record) (t : Bool) → owns rows owners r ≡ t → count r rows ≤ 1
    at r true e = let z = old.once r e in let c = ap (count r) (take_all n rows all) in omega (arith, z, c)
    at r false e = let z = old.others r e in let c = ap (count r) (take_all n rows all) in let o = once_where_different doubtful d r in omega (arith, z, c, o)
