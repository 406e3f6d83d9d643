-- What one more record adds.
use Rattle.std.proofs.Common.{◌≡◌, ℕ, suc, ◌+◌, ◌<◌, ◌≤◌, Bool, true, false, cond, List, [], ◌∷◌, ◌++◌, map, filter, take, length, slice_index_or, refl, sym, ap, subst, ◌∙◌, if◌then◌else◌}
use Rattle.std.proofs.lemmas.List.{take_all, take_more, map-append}
use Rattle.rows.specs.Counts.{Run, expanded, no_run, rows_of, AreRuns}
use Rattle.rows.specs.Indexes.{AreDifferent}
use Rattle.rows.proofs.Keeping.{expanded_filter, expanded_map, changed, row_kept, different_kept}
use Rattle.semantics.specs.Multiset.{Record}
use Rattle.semantics.specs.Query.{Scalar, Cond}
use Rattle.semantics.specs.Meaning.{selected, kept, value, holds}

pub length_of_map : {A B : Type 0} (f : A → B) (xs : List A) → length (map f xs) ≡ length xs
length_of_map f [] = refl
length_of_map f (x ∷ xs) = ap suc (length_of_map f xs)

-- a record at which the condition may hold
pub kept_more : (c : Cond) (cs old new : List Run) (k : ℕ) → k < length cs → old ≡ filter (λ d. holds c d.row) (take k cs) → new ≡ old ++ (if holds c (slice_index_or cs k no_run).row then slice_index_or cs k no_run ∷ [] else []) →
    new ≡ filter (λ d. holds c d.row) (take (k + 1) cs)
kept_more c cs old new k h e f =
    f ∙ ap (λ l. l ++ (if holds c (slice_index_or cs k no_run).row then slice_index_or cs k no_run ∷ [] else [])) e ∙ sym (ap (filter (λ d. holds c d.row)) (take_more cs k no_run h) ∙ both (take k cs) (slice_index_or cs k no_run))
  where
    both : (xs : List Run) (d : Run) → filter (λ e. holds c e.row) (xs ++ d ∷ []) ≡ filter (λ e. holds c e.row) xs ++ cond (holds c d.row) (d ∷ []) []
    both [] d = refl
    both (x ∷ xs) d = go (holds c x.row) (both xs d)
      where
        go : (b : Bool) → filter (λ e. holds c e.row) (xs ++ d ∷ []) ≡ filter (λ e. holds c e.row) xs ++ cond (holds c d.row) (d ∷ []) [] →
            cond b (x ∷ filter (λ e. holds c e.row) (xs ++ d ∷ [])) (filter (λ e. holds c e.row) (xs ++ d ∷ [])) ≡ cond b (x ∷ filter (λ e. holds c e.row) xs) (filter (λ e. holds c e.row) xs) ++ cond (holds c d.row) (d ∷ []) []
        go true e = ap (λ l. x ∷ l) e
        go false e = e

pub all_kept : (c : Cond) (b : List Record) (cs new : List Run) (k : ℕ) → expanded cs ≡ b → length cs ≤ k → new ≡ filter (λ d. holds c d.row) (take k cs) → expanded new ≡ kept c b
all_kept c b cs new k e h f = ap expanded (f ∙ ap (filter (λ d. holds c d.row)) (take_all k cs h)) ∙ expanded_filter (holds c) cs ∙ ap (kept c) e

pub kept_different : (c : Cond) (cs new : List Run) (k : ℕ) → AreRuns cs → length cs ≤ k → new ≡ filter (λ d. holds c d.row) (take k cs) → AreDifferent (rows_of new)
kept_different c cs new k d h f =
    subst AreDifferent (sym (ap rows_of (f ∙ ap (filter (λ d. holds c d.row)) (take_all k cs h)) ∙ row_kept (holds c) cs)) (different_kept (holds c) (rows_of cs) d.different)

abbrev pub values_of : List Scalar → Record → Record
values_of ss r = map (λ s. value s r) ss

-- a record of values
pub values_more : (ss : List Scalar) (cs old new : List Run) (k : ℕ) → k < length cs → old ≡ map (changed (values_of ss)) (take k cs) →
    new ≡ old ++ record { row = map (λ s. value s (slice_index_or cs k no_run).row) ss; count = (slice_index_or cs k no_run).count } ∷ [] → new ≡ map (changed (values_of ss)) (take (k + 1) cs)
values_more ss cs old new k h e f =
    f ∙ ap (λ l. l ++ changed (values_of ss) (slice_index_or cs k no_run) ∷ []) e ∙ sym (ap (map (changed (values_of ss))) (take_more cs k no_run h) ∙ map-append (changed (values_of ss)) (take k cs) (slice_index_or cs k no_run ∷ []))

pub all_values : (ss : List Scalar) (b : List Record) (cs new : List Run) (k : ℕ) → expanded cs ≡ b → length cs ≤ k → new ≡ map (changed (values_of ss)) (take k cs) → expanded new ≡ selected ss b
all_values ss b cs new k e h f = ap expanded (f ∙ ap (map (changed (values_of ss))) (take_all k cs h)) ∙ expanded_map (values_of ss) cs ∙ ap (selected ss) e
