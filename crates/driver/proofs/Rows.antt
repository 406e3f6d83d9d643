-- Rows of counters.
use Rattle.std.proofs.Common.{◌≡◌, ◌≢◌, ◌+◌, ◌<◌, ◌≤◌, ◌==◌, ◌∙◌, IsSome, ℕ, zero, suc, true, false, cond, ◌⊎◌, inl, inr, List, [], ◌∷◌, ◌++◌, length, refl, sym, ap, subst, arith, Some, None, length-set}
use Rattle.std.specs.Prelude.{option_map, slice_get, slice_index_or, slice_set}
use Rattle.std.proofs.lemmas.Bool.Decides.{eqb_tells}
use Rattle.std.proofs.lemmas.List.{get_or-set_other, get_or-set_same, get_or_default, get_or_past}
use Rattle.std.proofs.lemmas.Option.{slice_get_cases, slice_get_past}
use Rattle.board.proofs.PostedBatches.{get_set_else, get_set_here}
use Rattle.board.specs.declared.sent.Sent.{Sent}
use Rattle.driver.specs.declared.tally.Counts.{Counts}
use Rattle.driver.specs.Tallies.{AreZero, Covers, CoversAll, IsZero, Raises, RaisesIn, Rows, at, raised}

pub zero_push : (row : List Counts) → IsZero row → IsZero (row ++ record { events = 0; received = 0; sent = 0 } ∷ [])
zero_push [] z zero c e = cc
zero_push [] z (suc k) c e = absurd cc
zero_push (x ∷ row) z zero c e = z 0 c e
zero_push (x ∷ row) z (suc k) c e = zero_push row (λ j d f. z (suc j) d f) k c e

pub rows_push : (rows : Rows) (row : List Counts) → AreZero rows → IsZero row → AreZero (rows ++ row ∷ [])
rows_push [] row z y zero = y
rows_push [] row z y (suc v) = λ k c e. absurd cc
rows_push (x ∷ rows) row z y zero = z 0
rows_push (x ∷ rows) row z y (suc v) = rows_push rows row (λ w. z (suc w)) y v

pub none_zero : AreZero []
none_zero v k c e = absurd cc

-- with one more at the end, one more is covered
pub covers_push : (row : List Counts) (c : Counts) (n : ℕ) → n ≡ length row → Covers row n → Covers (row ++ c ∷ []) (n + 1)
covers_push row c n e h k l = go row n k e h l
  where
    go : (row : List Counts) (n k : ℕ) → n ≡ length row → Covers row n → k < n + 1 → IsSome (slice_get (row ++ c ∷ []) k)
    go [] n zero e h l = refl
    go [] n (suc k) e h l = absurd (omega (arith, e, l))
    go (x ∷ row) n zero e h l = refl
    go (x ∷ row) n (suc k) e h l = go row (length row) k refl (λ j m. h (suc j) (omega (arith, e, m))) (omega (arith, e, l))

pub covers_all_push : (rows : Rows) (row : List Counts) (n m : ℕ) → n ≡ length rows → CoversAll rows n m → Covers row m → CoversAll (rows ++ row ∷ []) (n + 1) m
covers_all_push [] row n m e h c zero l = c
covers_all_push [] row n m e h c (suc v) l = absurd (omega (arith, e, l))
covers_all_push (x ∷ rows) row n m e h c zero l = h 0 (omega (arith, e))
covers_all_push (x ∷ rows) row n m e h c (suc v) l = covers_all_push rows row (length rows) m refl (λ w k. h (suc w) (omega (arith, e, k))) c v (omega (arith, e, l))

-- the choice at an equal number, and at another
at_same : {X : Type 0} (i j : ℕ) (x y : X) → (i == j) ≡ true → cond (i == j) x y ≡ x
at_same i j x y t = ap (λ b. cond b x y) t

at_other : {X : Type 0} (i j : ℕ) (x y : X) → (i == j) ≡ false → cond (i == j) x y ≡ y
at_other i j x y t = ap (λ b. cond b x y) t

-- the worker has no counters
pub raises_nobody : (row : List Counts) (sent : Sent) → length row ≤ sent.worker → RaisesIn row sent row
raises_nobody row sent over k = go (eqb_tells k sent.worker)
  where
    go : ((k == sent.worker) ≡ true) × (k ≡ sent.worker) ⊎ ((k == sent.worker) ≡ false) × (k ≢ sent.worker) → slice_get row k ≡ cond (k == sent.worker) (option_map (raised sent) (slice_get row k)) (slice_get row k)
    go (inl (t, q)) =
        let none : slice_get row k ≡ None = slice_get_past row k (omega (arith, over, q)) in
        none ∙ sym (at_same k sent.worker (option_map (raised sent) (slice_get row k)) (slice_get row k) t ∙ ap (option_map (raised sent)) none)
    go (inr (t, q)) = sym (at_other k sent.worker (option_map (raised sent) (slice_get row k)) (slice_get row k) t)

read_there : (row : List Counts) (k : ℕ) (old : Counts) → k < length row → old ≡ slice_index_or row k old → slice_get row k ≡ Some old
read_there row k old l e = go (slice_get_cases row k).1
  where
    go : ((x : Counts) × (k < length row) × (slice_get row k ≡ Some x) × (slice_index_or row k x ≡ x)) ⊎ ((length row ≤ k) × (slice_get row k ≡ None)) → slice_get row k ≡ Some old
    go (inl (x, m, s, g)) = s ∙ ap Some (sym g ∙ get_or_default row k x old l ∙ sym e)
    go (inr (m, s)) = absurd (omega (arith, m, l))

pub raises_one : (row : List Counts) (sent : Sent) (k : ℕ) (old : Counts) → k ≡ sent.worker → k < length row → old ≡ slice_index_or row k old → RaisesIn row sent (slice_set row k (raised sent old))
raises_one row sent k old is l e j = go (eqb_tells j sent.worker)
  where
    go : ((j == sent.worker) ≡ true) × (j ≡ sent.worker) ⊎ ((j == sent.worker) ≡ false) × (j ≢ sent.worker)
        → slice_get (slice_set row k (raised sent old)) j ≡ cond (j == sent.worker) (option_map (raised sent) (slice_get row j)) (slice_get row j)
    go (inl (t, q)) =
        let same : j ≡ k = q ∙ sym is in
        let new : slice_get (slice_set row k (raised sent old)) j ≡ Some (raised sent old) = ap (slice_get (slice_set row k (raised sent old))) same ∙ get_set_here row k (raised sent old) l in
        let before : option_map (raised sent) (slice_get row j) ≡ Some (raised sent old) = ap (option_map (raised sent)) (ap (slice_get row) same ∙ read_there row k old l e) in
        new ∙ sym before ∙ sym (at_same j sent.worker (option_map (raised sent) (slice_get row j)) (slice_get row j) t)
    go (inr (t, q)) =
        get_set_else row k j (raised sent old) (λ f. q (f ∙ is)) ∙ sym (at_other j sent.worker (option_map (raised sent) (slice_get row j)) (slice_get row j) t)

-- the vertex has no counters
pub raises_nothing : (rows : Rows) (sent : Sent) → length rows ≤ sent.vertex → Raises rows sent rows
raises_nothing rows sent over = record { many = refl; each = λ v k. go v k (eqb_tells v sent.vertex) }
  where
    go : (v k : ℕ) → ((v == sent.vertex) ≡ true) × (v ≡ sent.vertex) ⊎ ((v == sent.vertex) ≡ false) × (v ≢ sent.vertex)
        → at rows v k ≡ cond (v == sent.vertex) (cond (k == sent.worker) (option_map (raised sent) (at rows v k)) (at rows v k)) (at rows v k)
    go v k (inl (t, q)) =
        let empty : slice_index_or rows v [] ≡ [] = get_or_past rows v [] (omega (arith, over, q)) in
        let one = raises_nobody [] sent (omega arith) k in
        let P : List Counts → Type 0 = λ row. slice_get row k ≡ cond (k == sent.worker) (option_map (raised sent) (slice_get row k)) (slice_get row k) in
        subst P (sym empty) one ∙ sym (at_same v sent.vertex (cond (k == sent.worker) (option_map (raised sent) (at rows v k)) (at rows v k)) (at rows v k) t)
    go v k (inr (t, q)) = sym (at_other v sent.vertex (cond (k == sent.worker) (option_map (raised sent) (at rows v k)) (at rows v k)) (at rows v k) t)

pub raises_row : (rows : Rows) (sent : Sent) (i : ℕ) (old new : List Counts) → i ≡ sent.vertex → i < length rows → old ≡ slice_index_or rows i [] → RaisesIn old sent new → Raises rows sent (slice_set rows i new)
raises_row rows sent i old new is l e raises = record { many = length-set rows i new; each = λ v k. go v k (eqb_tells v sent.vertex) }
  where
    go : (v k : ℕ) → ((v == sent.vertex) ≡ true) × (v ≡ sent.vertex) ⊎ ((v == sent.vertex) ≡ false) × (v ≢ sent.vertex)
        → at (slice_set rows i new) v k ≡ cond (v == sent.vertex) (cond (k == sent.worker) (option_map (raised sent) (at rows v k)) (at rows v k)) (at rows v k)
    go v k (inl (t, q)) =
        let same : v ≡ i = q ∙ sym is in
        let here : slice_index_or (slice_set rows i new) v [] ≡ new = ap (λ u. slice_index_or (slice_set rows i new) u []) same ∙ get_or-set_same rows i new [] l in
        let there : slice_index_or rows v [] ≡ old = ap (λ u. slice_index_or rows u []) same ∙ sym e in
        let P : List Counts → Type 0 = λ row. slice_get new k ≡ cond (k == sent.worker) (option_map (raised sent) (slice_get row k)) (slice_get row k) in
        ap (λ row. slice_get row k) here ∙ subst P (sym there) (raises k) ∙ sym (at_same v sent.vertex (cond (k == sent.worker) (option_map (raised sent) (at rows v k)) (at rows v k)) (at rows v k) t)
    go v k (inr (t, q)) =
        ap (λ row. slice_get row k) (get_or-set_other rows i v new [] (λ f. q (f ∙ is))) ∙ sym (at_other v sent.vertex (cond (k == sent.worker) (option_map (raised sent) (at rows v k)) (at rows v k)) (at rows v k) t)
