-- Fusing two selects makes no tree larger.
use Rattle.std.proofs.Common.{◌≡◌, ℕ, zero, suc, ◌+◌, ◌*◌, ◌≤◌, false, nat_eq, List, [], ◌∷◌, ◌++◌, map, length, slice_index_or, refl, ap, ◌∙◌, arith, pos, length-append}
use Rattle.std.proofs.lemmas.Bool.Decides.{nat_tests}
use Rattle.semantics.specs.Multiset.{one_if}
use Rattle.semantics.specs.Query.{Scalar, Rel}
use Rattle.semantics.specs.Size.{scalar_size, scalars_size, rel_size}
use Rattle.semantics.specs.Normal.{replaced, uses, uses_all, use_count, UsesOnce}

-- the total size of the scalars that replace these columns
abbrev weights : List Scalar → List ℕ → ℕ
weights ss [] = 0
weights ss (c ∷ cs) = scalar_size (slice_index_or ss c (Scalar.literal (pos 0))) + weights ss cs

weights-append : (ss : List Scalar) (cs ds : List ℕ) → weights ss (cs ++ ds) ≡ weights ss cs + weights ss ds
weights-append ss [] ds = omega arith
weights-append ss (c ∷ cs) ds = omega (arith, weights-append ss cs ds)

size-replaced : (ss : List Scalar) (t : Scalar) → scalar_size (replaced ss t) + length (uses t) ≡ scalar_size t + weights ss (uses t)
size-replaced ss (Scalar.column c) = omega arith
size-replaced ss (Scalar.literal z) = refl
size-replaced ss (Scalar.plus s t) = omega (arith, size-replaced ss s, size-replaced ss t, weights-append ss (uses s) (uses t), length-append (uses s) (uses t))
size-replaced ss (Scalar.minus s t) = omega (arith, size-replaced ss s, size-replaced ss t, weights-append ss (uses s) (uses t), length-append (uses s) (uses t))
size-replaced ss (Scalar.times s t) = omega (arith, size-replaced ss s, size-replaced ss t, weights-append ss (uses s) (uses t), length-append (uses s) (uses t))
size-replaced ss (Scalar.negation s) = omega (arith, size-replaced ss s)

size-replaced_all : (ss ts : List Scalar) → scalars_size (map (replaced ss) ts) + length (uses_all ts) ≡ scalars_size ts + weights ss (uses_all ts)
size-replaced_all ss [] = refl
size-replaced_all ss (t ∷ ts) = omega (arith, size-replaced ss t, size-replaced_all ss ts, weights-append ss (uses t) (uses_all ts), length-append (uses t) (uses_all ts))

-- each number lowered by one, and the zeros left out
abbrev preds : List ℕ → List ℕ
preds [] = []
preds (zero ∷ cs) = preds cs
preds (suc c ∷ cs) = c ∷ preds cs

same_suc : (c d : ℕ) → nat_eq (suc c) (suc d) ≡ nat_eq c d
same_suc c d = grind (arith, nat_tests)

times-preds : (c : ℕ) (cs : List ℕ) → use_count c (preds cs) ≡ use_count (suc c) cs
times-preds c [] = refl
times-preds c (zero ∷ cs) = grind (arith, nat_tests, times-preds c cs)
times-preds c (suc d ∷ cs) = omega (arith, ap one_if (same_suc c d), times-preds c cs)

weights-preds : (s : Scalar) (ss : List Scalar) (cs : List ℕ) → weights (s ∷ ss) cs + length (preds cs) ≡ use_count 0 cs * scalar_size s + weights ss (preds cs) + length (preds cs)
weights-preds s ss [] = omega arith
weights-preds s ss (zero ∷ cs) = omega (arith, weights-preds s ss cs)
weights-preds s ss (suc d ∷ cs) =
    let e : use_count 0 (suc d ∷ cs) ≡ use_count 0 cs = ap (λ b. one_if b + use_count 0 cs) (no d) ∙ omega arith in
    omega (arith, weights-preds s ss cs, ap (λ n. n * scalar_size s) e)
  where
    no : (d : ℕ) → nat_eq 0 (suc d) ≡ false
    no d = grind (arith, nat_tests)

length-preds : (cs : List ℕ) → length (preds cs) ≤ length cs
length-preds [] = omega arith
length-preds (zero ∷ cs) = omega (arith, length-preds cs)
length-preds (suc c ∷ cs) = omega (arith, length-preds cs)

at_most_once : (n m : ℕ) → n ≤ 1 → n * m ≤ m
at_most_once n m h = grind arith

weights_le : (ss : List Scalar) (cs : List ℕ) → ((c : ℕ) → use_count c cs ≤ 1) → weights ss cs ≤ scalars_size ss + length cs
weights_le [] [] h = omega arith
weights_le [] (c ∷ cs) h = omega (arith, weights_le [] cs (λ d. omega (arith, h d)))
weights_le (s ∷ ss) cs h =
    omega (arith, weights-preds s ss cs, weights_le ss (preds cs) (λ c. omega (arith, times-preds c cs, h (suc c))), length-preds cs, at_most_once (use_count 0 cs) (scalar_size s) (h 0))

pub size-select_select : (r : Rel) (ss ts : List Scalar) → UsesOnce ts → rel_size (Rel.select r (map (replaced ss) ts)) ≤ rel_size (Rel.select (Rel.select r ss) ts)
size-select_select r ss ts h = omega (arith, size-replaced_all ss ts, weights_le ss (uses_all ts) h)
