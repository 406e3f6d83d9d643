-- How many rows there are, with their repeats.
use Rattle.std.proofs.Common.{◌≡◌, ℕ, zero, suc, ◌+◌, ◌≤◌, ◌<◌, ◌-◌, List, [], ◌∷◌, ◌++◌, length, take, refl, ap, ◌∙◌, arith, length-append, get_or}
use Rattle.std.specs.List.{sum}
use Rattle.std.proofs.lemmas.List.{take_all, take_more}
use Rattle.std.proofs.lemmas.List.Sums.{sum_by-append}
use Rattle.semantics.specs.Multiset.{Record}
use Rattle.rows.specs.Counts.{repeated, expanded, runs, with_counts}

pub length_repeated : (n : ℕ) (r : Record) → length (repeated n r) ≡ n
length_repeated zero r = refl
length_repeated (suc n) r = ap suc (length_repeated n r)

-- records have runs
pub some_records : (batch : List Record) → 0 < length (runs batch) → 0 < length batch
some_records [] h = absurd (omega (arith, h))
some_records (r ∷ batch) h = omega arith

alone : (n : ℕ) → 0 + n ≡ n
alone n = omega arith

sum_first : (n : ℕ) (ns : List ℕ) → sum (n ∷ ns) ≡ n + sum ns
sum_first n ns = sum_by-append (λ x. x) (n ∷ []) ns ∙ ap (λ m. m + sum ns) (alone n)

-- the rows that occur once, and the counts
pub weight_of : (rs : List Record) (ns : List ℕ) → length ns ≤ length rs → length (expanded (with_counts rs ns)) + length ns ≡ length rs + sum ns
weight_of [] [] h = refl
weight_of [] (n ∷ ns) h = absurd (omega (arith, h))
weight_of (r ∷ rs) [] h = let z = weight_of rs [] (omega arith) in omega (arith, z)
weight_of (r ∷ rs) (n ∷ ns) h =
    let z = weight_of rs ns (omega (arith, h)) in
    let a : length (expanded (with_counts (r ∷ rs) (n ∷ ns))) ≡ n + length (expanded (with_counts rs ns)) = length-append (repeated n r) (expanded (with_counts rs ns)) ∙ ap (λ m. m + length (expanded (with_counts rs ns))) (length_repeated n r) in
    omega (arith, z, a, sum_first n ns)

sum_end : (ns : List ℕ) (n : ℕ) → sum (ns ++ n ∷ []) ≡ sum ns + n
sum_end ns n = sum_by-append (λ x. x) ns (n ∷ []) ∙ ap (λ m. sum ns + m) (alone n)

pub sum_more : (ns : List ℕ) (k : ℕ) → k < length ns → sum (take (k + 1) ns) ≡ sum (take k ns) + get_or ns k 0
sum_more ns k h = ap sum (take_more ns k 0 h) ∙ sum_end (take k ns) (get_or ns k 0)

-- all of them
pub all_weighed : (rs : List Record) (ns : List ℕ) (k : ℕ) → length ns ≤ length rs → length ns ≤ k → length (expanded (with_counts rs ns)) ≡ (length rs - length ns) + sum (take k ns)
all_weighed rs ns k h l = let a = weight_of rs ns h in let b = ap sum (take_all k ns l) in omega (arith, a, b, h)
