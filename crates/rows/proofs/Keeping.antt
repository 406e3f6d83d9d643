-- Runs that are kept, and runs of computed rows.
use Rattle.std.proofs.Common.{◌≡◌, ℕ, zero, suc, ◌+◌, ◌≤◌, ◌<◌, Bool, true, false, cond, List, [], ◌∷◌, ◌++◌, length, map, filter, refl, sym, ap, ◌∙◌, arith}
use Rattle.std.specs.Prelude.{slice_index_or}
use Rattle.semantics.specs.Multiset.{Record, same, one_if, count}
use Rattle.semantics.proofs.MultisetSums.{Decides-same, same-refl, total-filter, total-le}
use Rattle.rows.specs.Counts.{Run, repeated, expanded, rows_of}
use Rattle.rows.specs.Indexes.{AreDifferent}

pub one_le : (b : Bool) → one_if b ≤ 1
one_le true = omega arith
one_le false = omega arith

filter_repeated : (p : Record → Bool) (n : ℕ) (r : Record) (xs : List Record) → filter p (repeated n r ++ xs) ≡ cond (p r) (repeated n r) [] ++ filter p xs
filter_repeated p zero r xs = go (p r)
  where
    go : (b : Bool) → filter p xs ≡ cond b [] [] ++ filter p xs
    go true = refl
    go false = refl
filter_repeated p (suc n) r xs = go (p r) (filter_repeated p n r xs)
  where
    go : (b : Bool) → filter p (repeated n r ++ xs) ≡ cond b (repeated n r) [] ++ filter p xs → cond b (r ∷ filter p (repeated n r ++ xs)) (filter p (repeated n r ++ xs)) ≡ cond b (r ∷ repeated n r) [] ++ filter p xs
    go true e = ap (λ l. r ∷ l) e
    go false e = e

pub expanded_filter : (p : Record → Bool) (cs : List Run) → expanded (filter (λ c. p c.row) cs) ≡ filter p (expanded cs)
expanded_filter p [] = refl
expanded_filter p (c ∷ cs) = go (p c.row) (expanded_filter p cs) ∙ sym (filter_repeated p c.count c.row (expanded cs))
  where
    go : (b : Bool) → expanded (filter (λ c. p c.row) cs) ≡ filter p (expanded cs) → expanded (cond b (c ∷ filter (λ c. p c.row) cs) (filter (λ c. p c.row) cs)) ≡ cond b (repeated c.count c.row) [] ++ filter p (expanded cs)
    go true e = ap (λ l. repeated c.count c.row ++ l) e
    go false e = e

pub row_kept : (p : Record → Bool) (cs : List Run) → rows_of (filter (λ c. p c.row) cs) ≡ filter p (rows_of cs)
row_kept p [] = refl
row_kept p (c ∷ cs) = go (p c.row) (row_kept p cs)
  where
    go : (b : Bool) → rows_of (filter (λ c. p c.row) cs) ≡ filter p (rows_of cs) → rows_of (cond b (c ∷ filter (λ c. p c.row) cs) (filter (λ c. p c.row) cs)) ≡ cond b (c.row ∷ filter p (rows_of cs)) (filter p (rows_of cs))
    go true e = ap (λ l. c.row ∷ l) e
    go false e = e

nowhere : (r : Record) (rows : List Record) → ((k : ℕ) → k < length rows → slice_index_or rows k [] ≡ r → ⊥) → count r rows ≡ 0
nowhere r [] h = refl
nowhere r (x ∷ rows) h = go (same x r) refl (nowhere r rows (λ k l e. h (suc k) (omega (arith, l)) e))
  where
    go : (b : Bool) → same x r ≡ b → count r rows ≡ 0 → one_if (same x r) + count r rows ≡ 0
    go true e i = absurd (h 0 (omega arith) ((Decides-same x r).0 e))
    go false e i = let z = ap one_if e in omega (arith, z, i)

stands_there : (rows : List Record) (k : ℕ) → k < length rows → 1 ≤ count (slice_index_or rows k []) rows
stands_there [] k h = absurd (omega (arith, h))
stands_there (x ∷ rows) zero h = let z = ap one_if (same-refl x) in omega (arith, z)
stands_there (x ∷ rows) (suc k) h = let z = stands_there rows k (omega (arith, h)) in omega (arith, z)

-- rows that lie at one place at most
pub once_where_different : (rows : List Record) → AreDifferent rows → (r : Record) → count r rows ≤ 1
once_where_different [] d r = omega arith
once_where_different (x ∷ rows) d r = go (same x r) refl (once_where_different rows (λ j k l m e. (let z : suc j ≡ suc k = d (suc j) (suc k) (omega (arith, l)) (omega (arith, m)) e in omega (arith, z))) r)
  where
    go : (b : Bool) → same x r ≡ b → count r rows ≤ 1 → one_if (same x r) + count r rows ≤ 1
    go false e i = let z = ap one_if e in omega (arith, z, i)
    go true e i =
        let none : count r rows ≡ 0 = nowhere r rows (λ k l f. (let z : 0 ≡ suc k = d 0 (suc k) (omega arith) (omega (arith, l)) ((Decides-same x r).0 e ∙ sym f) in omega (arith, z))) in
        let z = ap one_if e in omega (arith, z, none)

-- and the other way round
pub different_where_once : (rows : List Record) → ((r : Record) → count r rows ≤ 1) → AreDifferent rows
different_where_once [] h j k l m e = absurd (omega (arith, l))
different_where_once (x ∷ rows) h zero zero l m e = refl
different_where_once (x ∷ rows) h zero (suc k) l m e =
    absurd (let a = stands_there rows k (omega (arith, m)) in
    let b = ap (λ r. count r rows) (sym e) in
    let c = h x in
    let d = ap one_if (same-refl x) in
    omega (arith, a, b, c, d))
different_where_once (x ∷ rows) h (suc j) zero l m e =
    absurd (let a = stands_there rows j (omega (arith, l)) in
    let b = ap (λ r. count r rows) e in
    let c = h x in
    let d = ap one_if (same-refl x) in
    omega (arith, a, b, c, d))
different_where_once (x ∷ rows) h (suc j) (suc k) l m e = ap suc (different_where_once rows (λ r. (let z = h r in omega (arith, z))) j k (omega (arith, l)) (omega (arith, m)) e)

pub different_kept : (p : Record → Bool) (rows : List Record) → AreDifferent rows → AreDifferent (filter p rows)
different_kept p rows d = different_where_once (filter p rows) (λ r.
    let a = once_where_different rows d r in
    let b = total-filter (λ x. one_if (same x r)) p rows in
    let c = total-le (λ x. cond (p x) (one_if (same x r)) 0) (λ x. one_if (same x r)) (λ x. less (p x) (same x r)) rows in
    omega (arith, a, b, c))
  where
    less : (b s : Bool) → cond b (one_if s) 0 ≤ one_if s
    less true s = omega arith
    less false s = omega arith

-- ---- computed rows

abbrev pub changed : (Record → Record) → Run → Run
changed f c = record { row = f c.row; count = c.count }

map_repeated : (f : Record → Record) (n : ℕ) (r : Record) (xs : List Record) → map f (repeated n r ++ xs) ≡ repeated n (f r) ++ map f xs
map_repeated f zero r xs = refl
map_repeated f (suc n) r xs = ap (λ l. f r ∷ l) (map_repeated f n r xs)

pub expanded_map : (f : Record → Record) (cs : List Run) → expanded (map (changed f) cs) ≡ map f (expanded cs)
expanded_map f [] = refl
expanded_map f (c ∷ cs) = ap (λ l. repeated c.count (f c.row) ++ l) (expanded_map f cs) ∙ sym (map_repeated f c.count c.row (expanded cs))
