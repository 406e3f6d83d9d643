-- Columns that are determined, in selected records.
use Rattle.std.proofs.Common.{◌≡◌, ℕ, zero, suc, ◌≤◌, ◌<◌, List, [], ◌∷◌, map, take, length, get_or, pos, refl, sym, ap, subst, ◌∙◌, inl, inr, arith}
use Rattle.std.specs.Prelude.{slice_index_or}
use Rattle.std.proofs.lemmas.List.{take_all, ext_get_or}
use Rattle.rows.specs.FlatRows.{AllHave}
use Rattle.rows.specs.Counts.{Run, no_run, rows_of, AreRuns}
use Rattle.rows.proofs.Keeping.{changed}
use Rattle.rows.proofs.Runs.{row_at, length_rows}
use Rattle.semantics.specs.Multiset.{Record}
use Rattle.semantics.specs.Query.{Scalar}
use Rattle.semantics.specs.Meaning.{value}
use Rattle.operators.specs.Columns.{IsDetermined, AllDetermined, IsInRange}
use Rattle.operators.proofs.Steps.{values_of}

abbrev others : Record → Record
others [] = []
others (z ∷ zs) = zs

-- records with the same values have the same value of a column that is determined
column_back : (c : ℕ) (ss : List Scalar) (r q : Record) → IsDetermined c ss → values_of ss r ≡ values_of ss q → value (Scalar.column c) r ≡ value (Scalar.column c) q
column_back c [] r q h e = absurd h
column_back c (s ∷ ss) r q (inl t) e = t r q (ap (λ l. get_or l 0 (pos 0)) e)
column_back c (s ∷ ss) r q (inr h) e = column_back c ss r q h (ap others e)

-- each column can be read back, so the records are equal
same_record : (n : ℕ) (ss : List Scalar) (r q : Record) → length r ≡ n → length q ≡ n → AllDetermined n ss → IsInRange r → IsInRange q → values_of ss r ≡ values_of ss q → r ≡ q
same_record n ss r q l m determined a b e =
    ext_get_or (pos 0) r q (l ∙ sym m) (λ c k. sym (a c k) ∙ column_back c ss r q (determined c (omega (arith, k, l))) e ∙ b c (omega (arith, k, l, m)))

row_changed : (f : Record → Record) (cs : List Run) (j : ℕ) → j < length cs → slice_index_or (rows_of (map (changed f) cs)) j [] ≡ f (slice_index_or cs j no_run).row
row_changed f [] j l = absurd (omega (arith, l))
row_changed f (c ∷ cs) zero l = refl
row_changed f (c ∷ cs) (suc j) l = row_changed f cs j (omega (arith, l))

count_changed : (f : Record → Record) (cs : List Run) (j : ℕ) → (slice_index_or cs j no_run).count ≡ (slice_index_or (map (changed f) cs) j no_run).count
count_changed f [] zero = refl
count_changed f [] (suc j) = refl
count_changed f (c ∷ cs) zero = refl
count_changed f (c ∷ cs) (suc j) = count_changed f cs j

length_changed : (f : Record → Record) (cs : List Run) → length (rows_of (map (changed f) cs)) ≡ length cs
length_changed f [] = refl
length_changed f (c ∷ cs) = ap suc (length_changed f cs)

-- runs with different rows keep them different if each column is determined
runs_kept : (n : ℕ) (ss : List Scalar) (cs : List Run) → AreRuns cs → AllHave n (rows_of cs) → ((j : ℕ) → j < length cs → IsInRange (slice_index_or cs j no_run).row) →
    AllDetermined n ss → AreRuns (map (changed (values_of ss)) cs)
runs_kept n ss cs runs each range determined = record {
  different = λ j k l m e. (
      let before : j < length cs = omega (arith, l, length_changed (values_of ss) cs) in
      let behind : k < length cs = omega (arith, m, length_changed (values_of ss) cs) in
      let alike : (slice_index_or cs j no_run).row ≡ (slice_index_or cs k no_run).row = same_record n ss (slice_index_or cs j no_run).row (slice_index_or cs k no_run).row (arity j before) (arity k behind) determined (range j before) (range k behind)
      (sym (row_changed (values_of ss) cs j before) ∙ e ∙ row_changed (values_of ss) cs k behind) in
      runs.different j k (omega (arith, before, length_rows cs)) (omega (arith, behind, length_rows cs)) (row_at cs j ∙ alike ∙ sym (row_at cs k)));
  counts = λ k. subst (λ n. (1 ≤ n) × (n ≤ 9223372036854775807)) (count_changed (values_of ss) cs k) (runs.counts k);
}
  where
    arity : (j : ℕ) → j < length cs → length (slice_index_or cs j no_run).row ≡ n
    arity j l = ap length (sym (row_at cs j)) ∙ each j [] (omega (arith, l, length_rows cs))

pub kept_runs : (n : ℕ) (ss : List Scalar) (cs new : List Run) (k : ℕ) → AreRuns cs → AllHave n (rows_of cs) → length cs ≤ k → new ≡ map (changed (values_of ss)) (take k cs) →
    ((j : ℕ) → j < k → IsInRange (slice_index_or cs j no_run).row) → AllDetermined n ss → AreRuns new
kept_runs n ss cs new k runs each l e range determined =
    subst AreRuns (sym (e ∙ ap (map (changed (values_of ss))) (take_all k cs l))) (runs_kept n ss cs runs each (λ j m. range j (omega (arith, m, l))) determined)
