-- Runs counted in.
use Rattle.std.proofs.Common.{◌≡◌, ℕ, zero, suc, ◌+◌, ◌≤◌, ◌<◌, Bool, true, false, cond, List, [], ◌∷◌, ◌++◌, length, take, length-append, refl, sym, ap, ◌∙◌, arith, append_assoc}
use Rattle.std.specs.Prelude.{slice_index_or, Option, Some, None, MatchOption}
use Rattle.semantics.specs.Multiset.{Record, same, one_if, count, ◌≈◌}
use Rattle.semantics.proofs.MultisetSums.{same-refl, total-append, ≈-from, ≈-trans, ≈-refl, append_same, empty_from_same, ≈-sym}
use Rattle.rows.specs.Counts.{most, Run, repeated, expanded, no_run, AreRunCounts, AllFit, IsOver}
use Rattle.rows.proofs.Runs.{count_expanded, expanded_more}
use Rattle.rows.proofs.Weighing.{length_repeated}
use Rattle.rows.specs.FlatRows.{arity_of}

pub take_run : (cs : List Run) (k : ℕ) → k < length cs → take (k + 1) cs ≡ take k cs ++ slice_index_or cs k no_run ∷ []
take_run cs k h = Rattle.std.proofs.lemmas.List.take_more cs k no_run h

-- the records of the first k + 1 runs
pub firsts_more : (cs : List Run) (k : ℕ) → k < length cs → expanded (take (k + 1) cs) ≡ expanded (take k cs) ++ repeated (slice_index_or cs k no_run).count (slice_index_or cs k no_run).row
firsts_more cs k h = ap expanded (take_run cs k h) ∙ expanded_more (take k cs) (slice_index_or cs k no_run)

-- one run more
pub merged_more : (old now new : List Record) (cs : List Run) (k : ℕ) (row : Record) (n : ℕ) → k < length cs → row ≡ (slice_index_or cs k no_run).row → n ≡ (slice_index_or cs k no_run).count →
    new ≈ (now ++ repeated n row) → now ≈ (old ++ expanded (take k cs)) → new ≈ (old ++ expanded (take (k + 1) cs))
merged_more old now new cs k row n h e f g i =
    ≈-trans g (≈-trans (append_same now (old ++ expanded (take k cs)) (repeated n row) (repeated n row) i (≈-refl (repeated n row)))
    (≈-from (append_assoc old (expanded (take k cs)) (repeated n row) ∙ ap (λ l. old ++ l) ((λ j. expanded (take k cs) ++ repeated (f j) (e j)) ∙ sym (firsts_more cs k h)))))

-- the first runs, and the next one
first_part : (r : Record) (cs : List Run) (k : ℕ) → k < length cs → count r (expanded (take k cs)) + cond (same (slice_index_or cs k no_run).row r) (slice_index_or cs k no_run).count 0 ≤ count r (expanded cs)
first_part r [] k h = absurd (omega (arith, h))
first_part r (c ∷ cs) zero h = let z = count_expanded r c cs in omega (arith, z)
first_part r (c ∷ cs) (suc k) h =
    let i = first_part r cs k (omega (arith, h)) in
    let a = count_expanded r c cs in
    let b = count_expanded r c (take k cs) in
    omega (arith, i, a, b)

-- one that would occur too often
pub over_in : (old now : List Record) (cs : List Run) (k : ℕ) (row : Record) (n : ℕ) → k < length cs → row ≡ (slice_index_or cs k no_run).row → n ≡ (slice_index_or cs k no_run).count →
    now ≈ (old ++ expanded (take k cs)) → most < count row now + n → IsOver (old ++ expanded cs)
over_in old now cs k row n h e f i over =
    let a = i.counts row in
    let b = total-append (λ x. one_if (same x row)) old (expanded (take k cs)) in
    let c = total-append (λ x. one_if (same x row)) old (expanded cs) in
    let d = first_part row cs k h in
    let g = ap (λ x. cond (same x row) (slice_index_or cs k no_run).count 0) (sym e) ∙ ap (λ t. cond t (slice_index_or cs k no_run).count 0) (same-refl row) in
    (row, omega (arith, a, b, c, d, g, f, over))

pub fit_alike : (xs ys : List Record) → xs ≈ ys → AllFit xs → AllFit ys
fit_alike xs ys e h r = let z = e.counts r in omega (arith, z, h r)

no_run_left : (cs : List Run) → AreRunCounts cs → expanded cs ≡ [] → cs ≡ []
no_run_left [] h e = refl
no_run_left (c ∷ cs) h e = absurd (let z = ap length e in let l = (h 0).0 in omega (arith, z, l, length-append (repeated c.count c.row) (expanded cs), length_repeated c.count c.row))

-- a batch of what was taken together
pub merged_some : (o : Option (List Record)) (cs ds : List Run) (a b : ℕ) → MatchOption o (cs ≡ []) (λ x. arity_of x ≡ a) → a ≡ b → expanded cs ≈ expanded ds → AreRunCounts ds → MatchOption o (ds ≡ []) (λ x. arity_of x ≡ b)
merged_some None cs ds a b m e s h = no_run_left ds h (empty_from_same (expanded ds) (≈-trans (≈-sym s) (≈-from (ap expanded m))))
merged_some (Some x) cs ds a b m e s h = m ∙ e

pub count_le : (r : Record) (xs : List Record) → count r xs ≤ length xs
count_le r [] = omega arith
count_le r (x ∷ xs) = go (same x r) (count_le r xs)
  where
    go : (b : Bool) → count r xs ≤ length xs → one_if b + count r xs ≤ suc (length xs)
    go true e = omega (arith, e)
    go false e = omega (arith, e)

-- so few rows have no count that is too great
pub few_fit : (xs : List Record) → length xs ≤ most → AllFit xs
few_fit xs l r = let z = count_le r xs in omega (arith, z, l)

pub never_over : (xs ys : List Record) → xs ≡ ys → length ys ≤ most → IsOver xs → ⊥
never_over xs ys e l o = (let z = count_le o.0 xs in let t = o.1 in let f = ap length e in omega (arith, z, t, f, l))
