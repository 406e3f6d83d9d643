-- Entries and their lines.
use Rattle.std.proofs.Common.{◌≡◌, ◌≢◌, ◌<◌, ◌≤◌, ◌+◌, ◌∙◌, ℕ, zero, suc, Bool, true, false, List, [], ◌∷◌, ◌++◌, length, map, take, drop, cond, refl, sym, ap, append_assoc, arith, inl, inr, slice_index_or}
use Rattle.std.specs.Prelude.{◌==◌}
use Rattle.std.specs.List.{flat_map}
use Rattle.std.proofs.lemmas.Bool.Decides.{eqb_tells}
use Rattle.std.proofs.lemmas.List.{append-nil, take-append-drop, take_all, take_more}
use Rattle.rows.specs.Counts.{Run, expanded, no_run, repeated}
use Rattle.rows.proofs.Joined.{joined_append, joined_behind}
use Rattle.rows.proofs.Merging.{firsts_more}
use Rattle.rows.specs.FlatRows.{joined}
use Rattle.semantics.specs.Multiset.{Record}
use Rattle.semantics.specs.Query.{Name}
use Rattle.collector.specs.OutputText.{is_plain, label_of}
use Rattle.follow.specs.Entries.{AreAt, Entry, entry_line, records_of, row_line}

-- records of one output
abbrev pub entries_at : (output : ℕ) → List Record → List Entry
entries_at k rows = map (λ (r : Record). (k, r)) rows

pub lines_at : (names : List Name) (epoch k : ℕ) (rows : List Record) → flat_map (entry_line names epoch) (entries_at k rows) ≡ flat_map (row_line epoch (label_of (is_plain names) (slice_index_or names k []))) rows
lines_at names epoch k [] = refl
lines_at names epoch k (r ∷ rows) = ap (λ (xs : List ℕ). row_line epoch (label_of (is_plain names) (slice_index_or names k [])) r ++ xs) (lines_at names epoch k rows)

pub lines_append : (f : Entry → List ℕ) (xs ys : List Entry) → flat_map f (xs ++ ys) ≡ flat_map f xs ++ flat_map f ys
lines_append f [] ys = refl
lines_append f (x ∷ xs) ys = ap (λ (zs : List ℕ). f x ++ zs) (lines_append f xs ys) ∙ sym (append_assoc (f x) (flat_map f xs) (flat_map f ys))

pub at_append : (n : ℕ) (xs ys : List Entry) → AreAt n xs → AreAt n ys → AreAt n (xs ++ ys)
at_append n [] ys p q = q
at_append n (x ∷ xs) ys p q = (p.0, at_append n xs ys p.1 q)

pub at_place : (n k : ℕ) (rows : List Record) → k < n → AreAt n (entries_at k rows)
at_place n k [] lt = tt
at_place n k (r ∷ rows) lt = (lt, at_place n k rows lt)

of_cond : (t : Bool) (r : Record) (xs ys zs : List Record) → zs ≡ xs ++ ys → cond t (r ∷ zs) zs ≡ cond t (r ∷ xs) xs ++ ys
of_cond true r xs ys zs e = ap (λ (rs : List Record). r ∷ rs) e
of_cond false r xs ys zs e = e

pub of_append : (k : ℕ) (xs ys : List Entry) → records_of k (xs ++ ys) ≡ records_of k xs ++ records_of k ys
of_append k [] ys = refl
of_append k (x ∷ xs) ys = of_cond (x.0 == k) x.1 (records_of k xs) (records_of k ys) (records_of k (xs ++ ys)) (of_append k xs ys)

pub of_same : (k : ℕ) (rows : List Record) → records_of k (entries_at k rows) ≡ rows
of_same k [] = refl
of_same k (r ∷ rows) = elim (eqb_tells k k) [
  | inl same ↦ ap (λ (t : Bool). cond t (r ∷ records_of k (entries_at k rows)) (records_of k (entries_at k rows))) same.0 ∙ ap (λ (rs : List Record). r ∷ rs) (of_same k rows)
  | inr other ↦ absurd (other.1 refl)
]

pub of_other : (j k : ℕ) (rows : List Record) → j ≢ k → records_of j (entries_at k rows) ≡ []
of_other j k [] other = refl
of_other j k (r ∷ rows) other = elim (eqb_tells k j) [
  | inl same ↦ absurd (other (sym same.1))
  | inr no_way ↦ ap (λ (t : Bool). cond t (r ∷ records_of j (entries_at k rows)) (records_of j (entries_at k rows))) no_way.0 ∙ of_other j k rows other
]

pub rows_append : (f : Record → List ℕ) (xs ys : List Record) → flat_map f (xs ++ ys) ≡ flat_map f xs ++ flat_map f ys
rows_append f [] ys = refl
rows_append f (x ∷ xs) ys = ap (λ (zs : List ℕ). f x ++ zs) (rows_append f xs ys) ∙ sym (append_assoc (f x) (flat_map f xs) (flat_map f ys))

-- one more repeat of a row
pub times_more : (f : Record → List ℕ) (row : Record) (n : ℕ) (start out new : List ℕ) → out ≡ start ++ flat_map f (repeated n row) → new ≡ out ++ f row → new ≡ start ++ flat_map f (repeated (n + 1) row)
times_more f row n start out new h e =
    e ∙ ap (λ (xs : List ℕ). xs ++ f row) h ∙ append_assoc start (flat_map f (repeated n row)) (f row) ∙ ap (λ (xs : List ℕ). start ++ xs) (again n ∙ ap (λ (m : ℕ). flat_map f (repeated m row)) (let e : suc n ≡ n + 1 = omega arith in e))
  where
    again : (n : ℕ) → flat_map f (repeated n row) ++ f row ≡ flat_map f (repeated (suc n) row)
    again zero = sym (append-nil (f row))
    again (suc n) = append_assoc (f row) (flat_map f (repeated n row)) (f row) ∙ ap (λ (xs : List ℕ). f row ++ xs) (again n)

-- one more of the distinct records of a batch
pub runs_more : (f : Record → List ℕ) (cs : List Run) (k : ℕ) (row : Record) (n : ℕ) (start out new : List ℕ) → k < length cs → row ≡ (slice_index_or cs k no_run).row → n ≡ (slice_index_or cs k no_run).count → out ≡ start ++ flat_map f (expanded (take k cs))
    → new ≡ out ++ flat_map f (repeated n row) → new ≡ start ++ flat_map f (expanded (take (k + 1) cs))
runs_more f cs k row n start out new lt r c h e =
    let x : Run = slice_index_or cs k no_run in
    let same : repeated n row ≡ repeated x.count x.row = λ i. repeated (c i) (r i) in
    let all : flat_map f (expanded (take (k + 1) cs)) ≡ flat_map f (expanded (take k cs)) ++ flat_map f (repeated n row) =
    ap (flat_map f) (firsts_more cs k lt) ∙ rows_append f (expanded (take k cs)) (repeated x.count x.row) ∙ ap (λ (rows : List Record). flat_map f (expanded (take k cs)) ++ flat_map f rows) (sym same) in
    e ∙ ap (λ (xs : List ℕ). xs ++ flat_map f (repeated n row)) h ∙ append_assoc start (flat_map f (expanded (take k cs))) (flat_map f (repeated n row)) ∙ ap (λ (xs : List ℕ). start ++ xs) (sym all)

-- all of them
pub runs_done : (f : Record → List ℕ) (cs : List Run) (k : ℕ) (all : List Record) (start out : List ℕ) → length cs ≤ k → expanded cs ≡ all → out ≡ start ++ flat_map f (expanded (take k cs)) → out ≡ start ++ flat_map f all
runs_done f cs k all start out le is h = h ∙ ap (λ (ds : List Run). start ++ flat_map f (expanded ds)) (take_all k cs le) ∙ ap (λ (rows : List Record). start ++ flat_map f rows) is

pub joined_more : (batches : List (List Record)) (i : ℕ) (batch : List Record) → i < length batches → batch ≡ slice_index_or batches i batch → joined (take (i + 1) batches) ≡ joined (take i batches) ++ batch
joined_more batches i batch lt is = ap joined (take_more batches i batch lt) ∙ joined_behind (take i batches) (slice_index_or batches i batch) ∙ ap (λ (x : List Record). joined (take i batches) ++ x) (sym is)

-- one more batch
pub batches_more : (f : Record → List ℕ) (batches : List (List Record)) (i : ℕ) (batch : List Record) (start out new : List ℕ) → i < length batches → batch ≡ slice_index_or batches i batch → out ≡ start ++ flat_map f (joined (take i batches)) → new ≡ out ++ flat_map f batch
    → new ≡ start ++ flat_map f (joined (take (i + 1) batches))
batches_more f batches i batch start out new lt is e more =
    let before = joined (take i batches) in
    let both : flat_map f (joined (take (i + 1) batches)) ≡ flat_map f before ++ flat_map f batch = ap (flat_map f) (joined_more batches i batch lt is) ∙ rows_append f before batch in
    more ∙ ap (λ (xs : List ℕ). xs ++ flat_map f batch) e ∙ append_assoc start (flat_map f before) (flat_map f batch) ∙ ap (λ (xs : List ℕ). start ++ xs) (sym both)

-- the first batches, and the rest
pub joined_parts : (n : ℕ) (batches : List (List Record)) → joined (take n batches) ++ joined (drop n batches) ≡ joined batches
joined_parts n batches = sym (joined_append (take n batches) (drop n batches)) ∙ ap joined (take-append-drop n batches)
