-- Rows with counts, and the records that they stand for.
use Rattle.std.proofs.Common.{◌≡◌, ℕ, zero, suc, ◌+◌, ◌≤◌, ◌<◌, Bool, true, false, cond, List, [], ◌∷◌, ◌++◌, length, refl, sym, ap, subst, ◌∙◌, arith, append_assoc, append-nil, ◌↔◌}
use Rattle.std.specs.Prelude.{slice_index_or}
use Rattle.semantics.specs.Multiset.{Record, same, one_if, count}
use Rattle.semantics.proofs.MultisetSums.{Decides-same, same-refl, total-append}
use Rattle.rows.specs.FlatRows.{AllHave, arity_of}
use Rattle.rows.specs.Indexes.{AreDifferent}
use Rattle.rows.specs.Counts.{most, Run, repeated, expanded, before_runs, runs, no_run, rows_of, with_counts, AreCounts, AreRunCounts, AreRuns, RunList, AllFit}

-- ---- runs of what they stand for

-- a run of another row, or none, comes next
abbrev pub Begins : Record → List Run → Type 0
Begins x [] = Unit {0}
Begins x (c ∷ cs) = same x c.row ≡ false

one_before : (x : Record) (cs : List Run) → Begins x cs → before_runs x cs ≡ record { row = x; count = 1 } ∷ cs
one_before x [] h = refl
one_before x (c ∷ cs) h = ap (λ b. cond b (record { row = c.row; count = suc c.count } ∷ cs) (record { row = x; count = 1 } ∷ c ∷ cs)) h

run_before : (n : ℕ) (x : Record) (ys : List Record) → Begins x (runs ys) → runs (repeated (suc n) x ++ ys) ≡ record { row = x; count = suc n } ∷ runs ys
run_before zero x ys h = one_before x (runs ys) h
run_before (suc n) x ys h =
    ap (before_runs x) (run_before n x ys h)
    ∙ ap (λ b. cond b (record { row = x; count = suc (suc n) } ∷ runs ys) (record { row = x; count = 1 } ∷ record { row = x; count = suc n } ∷ runs ys)) (same-refl x)

-- each run differs from the next, and has a count
abbrev pub AreSeparate : List Run → Type 0
AreSeparate [] = Unit {0}
AreSeparate (c ∷ cs) = Begins c.row cs × (1 ≤ c.count) × AreSeparate cs

pub runs_expanded : (cs : List Run) → AreSeparate cs → runs (expanded cs) ≡ cs
runs_expanded [] h = refl
runs_expanded (c ∷ cs) h = go (runs_expanded cs h.2) c.count refl h.1
  where
    go : runs (expanded cs) ≡ cs → (n : ℕ) → n ≡ c.count → 1 ≤ n → runs (repeated c.count c.row ++ expanded cs) ≡ c ∷ cs
    go rest zero e l = absurd (omega (arith, l))
    go rest (suc n) e l =
        ap (λ m. runs (repeated m c.row ++ expanded cs)) (sym e)
        ∙ run_before n c.row (expanded cs) (subst (Begins c.row) (sym rest) h.0)
        ∙ (λ i. record { row = c.row; count = e i } ∷ rest i)

apart : (c : Run) (ds : List Run) → AreRuns (c ∷ ds) → Begins c.row ds
apart c [] g = tt
apart c (d ∷ ds) g = no (same c.row d.row) refl
  where
    no : (b : Bool) → same c.row d.row ≡ b → same c.row d.row ≡ false
    no true e = absurd (let z : 0 ≡ 1 = g.different 0 1 (omega arith) (omega arith) ((Decides-same c.row d.row).0 e) in omega (arith, z))
    no false e = e

other_runs : (c : Run) (ds : List Run) → AreRuns (c ∷ ds) → AreRuns ds
other_runs c ds g = record {
  different = λ j k l m e. (let z : suc j ≡ suc k = g.different (suc j) (suc k) (omega (arith, l)) (omega (arith, m)) e in omega (arith, z));
  counts = λ k. g.counts (suc k);
}

pub separate : (cs : List Run) → AreRuns cs → AreSeparate cs
separate [] h = tt
separate (c ∷ cs) h = (apart c cs h, (h.counts 0).0, separate cs (other_runs c cs h))

pub runs_are : (cs : List Run) → AreRuns cs → runs (expanded cs) ≡ cs
runs_are cs h = runs_expanded cs (separate cs h)

-- ---- rows with counts

pub length_runs : (rs : List Record) (ns : List ℕ) → length (with_counts rs ns) ≡ length rs
length_runs [] ns = refl
length_runs (r ∷ rs) [] = ap suc (length_runs rs [])
length_runs (r ∷ rs) (n ∷ ns) = ap suc (length_runs rs ns)

-- what no count says
pub one_beyond : (k : ℕ) → slice_index_or {A = ℕ} [] k 1 ≡ 1
one_beyond zero = refl
one_beyond (suc k) = refl

pub run_at : (rs : List Record) (ns : List ℕ) (k : ℕ) → k < length rs → slice_index_or (with_counts rs ns) k no_run ≡ record { row = slice_index_or rs k []; count = slice_index_or ns k 1 }
run_at [] ns k h = absurd (omega (arith, h))
run_at (r ∷ rs) [] zero h = refl
run_at (r ∷ rs) (n ∷ ns) zero h = refl
run_at (r ∷ rs) [] (suc k) h = run_at rs [] k (omega (arith, h)) ∙ ap (λ m. record { row = slice_index_or rs k []; count = m }) (one_beyond k)
run_at (r ∷ rs) (n ∷ ns) (suc k) h = run_at rs ns k (omega (arith, h))

-- one more row, which occurs once
pub more_once : (rs : List Record) (ns : List ℕ) (r : Record) → length ns ≤ length rs → with_counts (rs ++ r ∷ []) ns ≡ with_counts rs ns ++ record { row = r; count = 1 } ∷ []
more_once [] [] r h = refl
more_once [] (n ∷ ns) r h = absurd (omega (arith, h))
more_once (x ∷ rs) [] r h = ap (λ l. record { row = x; count = 1 } ∷ l) (more_once rs [] r (omega arith))
more_once (x ∷ rs) (n ∷ ns) r h = ap (λ l. record { row = x; count = n } ∷ l) (more_once rs ns r (omega (arith, h)))

-- a row more, with its count
pub more_often : (rs : List Record) (ns : List ℕ) (r : Record) (n : ℕ) → length ns ≡ length rs → with_counts (rs ++ r ∷ []) (ns ++ n ∷ []) ≡ with_counts rs ns ++ record { row = r; count = n } ∷ []
more_often [] [] r n h = refl
more_often [] (m ∷ ns) r n h = absurd (omega (arith, h))
more_often (x ∷ rs) [] r n h = absurd (omega (arith, h))
more_often (x ∷ rs) (m ∷ ns) r n h = ap (λ l. record { row = x; count = m } ∷ l) (more_often rs ns r n (omega (arith, h)))

-- more rows, which occur once each
pub more_ones : (rs ss : List Record) (ns ms : List ℕ) → length ns ≤ length rs → length ms ≡ 0 → with_counts (rs ++ ss) ns ≡ with_counts rs ns ++ with_counts ss ms
more_ones [] ss [] [] h e = refl
more_ones [] ss (n ∷ ns) ms h e = absurd (omega (arith, h))
more_ones rs ss ns (m ∷ ms) h e = absurd (omega (arith, e))
more_ones (r ∷ rs) ss [] [] h e = ap (λ l. record { row = r; count = 1 } ∷ l) (more_ones rs ss [] [] (omega arith) refl)
more_ones (r ∷ rs) ss (n ∷ ns) [] h e = ap (λ l. record { row = r; count = n } ∷ l) (more_ones rs ss ns [] (omega (arith, h)) refl)

-- rows more, with their counts
pub more_runs : (rs ss : List Record) (ns ms : List ℕ) → length ns ≡ length rs → with_counts (rs ++ ss) (ns ++ ms) ≡ with_counts rs ns ++ with_counts ss ms
more_runs [] ss [] ms h = refl
more_runs [] ss (n ∷ ns) ms h = absurd (omega (arith, h))
more_runs (r ∷ rs) ss [] ms h = absurd (omega (arith, h))
more_runs (r ∷ rs) ss (n ∷ ns) ms h = ap (λ l. record { row = r; count = n } ∷ l) (more_runs rs ss ns ms (omega (arith, h)))

-- one of the counts that are left out
pub fill_one : (rs : List Record) (ns : List ℕ) → length ns < length rs → with_counts rs (ns ++ 1 ∷ []) ≡ with_counts rs ns
fill_one [] ns h = absurd (omega (arith, h))
fill_one (x ∷ rs) [] h = refl
fill_one (x ∷ rs) (n ∷ ns) h = ap (λ l. record { row = x; count = n } ∷ l) (fill_one rs ns (omega (arith, h)))

pub rows_are : (rs : List Record) (ns : List ℕ) → rows_of (with_counts rs ns) ≡ rs
rows_are [] ns = refl
rows_are (r ∷ rs) [] = ap (λ l. r ∷ l) (rows_are rs [])
rows_are (r ∷ rs) (n ∷ ns) = ap (λ l. r ∷ l) (rows_are rs ns)

beside_end : (ns : List ℕ) (n k : ℕ) → (1 ≤ n) × (n ≤ most) → ((k : ℕ) → (1 ≤ slice_index_or ns k 1) × (slice_index_or ns k 1 ≤ most)) → (1 ≤ slice_index_or (ns ++ n ∷ []) k 1) × (slice_index_or (ns ++ n ∷ []) k 1 ≤ most)
beside_end [] n zero h old = h
beside_end [] n (suc zero) h old = (omega arith, omega arith)
beside_end [] n (suc (suc k)) h old = (omega arith, omega arith)
beside_end (m ∷ ns) n zero h old = old 0
beside_end (m ∷ ns) n (suc k) h old = beside_end ns n k h (λ j. old (suc j))

-- one count more
pub counts_more : (ns : List ℕ) (n : ℕ) → 1 ≤ n → n ≤ most → AreCounts ns → AreCounts (ns ++ n ∷ [])
counts_more ns n l m old k = beside_end ns n k (l, m) old

-- counts more
pub counts_joined : (ns ms : List ℕ) → AreCounts ns → AreCounts ms → AreCounts (ns ++ ms)
counts_joined [] ms g h k = h k
counts_joined (n ∷ ns) ms g h zero = g 0
counts_joined (n ∷ ns) ms g h (suc k) = counts_joined ns ms (λ j. g (suc j)) h k

-- what is kept as counts is so of the runs
pub fitting_runs : (rs : List Record) (ns : List ℕ) → AreCounts ns → (k : ℕ) → (1 ≤ (slice_index_or (with_counts rs ns) k no_run).count) × ((slice_index_or (with_counts rs ns) k no_run).count ≤ most)
fitting_runs [] ns h zero = (omega arith, omega arith)
fitting_runs [] ns h (suc k) = (omega arith, omega arith)
fitting_runs (r ∷ rs) [] h zero = (omega arith, omega arith)
fitting_runs (r ∷ rs) [] h (suc k) = fitting_runs rs [] (λ j. h (suc j)) k
fitting_runs (r ∷ rs) (n ∷ ns) h zero = h 0
fitting_runs (r ∷ rs) (n ∷ ns) h (suc k) = fitting_runs rs ns (λ j. h (suc j)) k

-- ---- how often a record occurs

pub count_repeated : (r : Record) (n : ℕ) (x : Record) → count r (repeated n x) ≡ cond (same x r) n 0
count_repeated r n x = go (same x r) n refl
  where
    go : (b : Bool) (n : ℕ) → same x r ≡ b → count r (repeated n x) ≡ cond b n 0
    go true zero e = refl
    go false zero e = refl
    go true (suc n) e = ap (λ b. one_if b + count r (repeated n x)) e ∙ (let z = go true n e in omega (arith, z))
    go false (suc n) e = ap (λ b. one_if b + count r (repeated n x)) e ∙ (let z = go false n e in omega (arith, z))

pub count_expanded : (r : Record) (c : Run) (cs : List Run) → count r (expanded (c ∷ cs)) ≡ cond (same c.row r) c.count 0 + count r (expanded cs)
count_expanded r c cs = total-append (λ x. one_if (same x r)) (repeated c.count c.row) (expanded cs) ∙ ap (λ n. n + count r (expanded cs)) (count_repeated r c.count c.row)

pub expanded_more : (cs : List Run) (c : Run) → expanded (cs ++ c ∷ []) ≡ expanded cs ++ repeated c.count c.row
expanded_more [] c = append-nil (repeated c.count c.row)
expanded_more (d ∷ cs) c = ap (λ l. repeated d.count d.row ++ l) (expanded_more cs c) ∙ sym (append_assoc (repeated d.count d.row) (expanded cs) (repeated c.count c.row))

pub expanded_append : (cs ds : List Run) → expanded (cs ++ ds) ≡ expanded cs ++ expanded ds
expanded_append [] ds = refl
expanded_append (c ∷ cs) ds = ap (λ l. repeated c.count c.row ++ l) (expanded_append cs ds) ∙ sym (append_assoc (repeated c.count c.row) (expanded cs) (expanded ds))

-- a row that lies nowhere isn't counted
none_there : (r : Record) (cs : List Run) → ((k : ℕ) → k < length cs → (slice_index_or cs k no_run).row ≡ r → ⊥) → count r (expanded cs) ≡ 0
none_there r [] h = refl
none_there r (c ∷ cs) h = go (same c.row r) refl (none_there r cs (λ k l e. h (suc k) (omega (arith, l)) e))
  where
    go : (b : Bool) → same c.row r ≡ b → count r (expanded cs) ≡ 0 → count r (expanded (c ∷ cs)) ≡ 0
    go true e i = absurd (h 0 (omega arith) ((Decides-same c.row r).0 e))
    go false e i = let z = count_expanded r c cs ∙ ap (λ b. cond b c.count 0 + count r (expanded cs)) e in omega (arith, z, i)

pub row_at : (cs : List Run) (k : ℕ) → slice_index_or (rows_of cs) k [] ≡ (slice_index_or cs k no_run).row
row_at [] zero = refl
row_at [] (suc k) = refl
row_at (c ∷ cs) zero = refl
row_at (c ∷ cs) (suc k) = row_at cs k

pub length_rows : (cs : List Run) → length (rows_of cs) ≡ length cs
length_rows [] = refl
length_rows (c ∷ cs) = ap suc (length_rows cs)

-- a row that lies at a place is counted there alone
pub count_at : (cs : List Run) (k : ℕ) → AreDifferent (rows_of cs) → k < length cs → count (slice_index_or cs k no_run).row (expanded cs) ≡ (slice_index_or cs k no_run).count
count_at [] k h l = absurd (omega (arith, l))
count_at (c ∷ cs) zero h l =
    count_expanded c.row c cs ∙ ap (λ b. cond b c.count 0 + count c.row (expanded cs)) (same-refl c.row)
    ∙ ap (λ n. c.count + n) (none_there c.row cs (λ k m e. (let z : suc k ≡ 0 = h (suc k) 0 (omega (arith, m, length_rows cs)) (omega arith) (row_at cs k ∙ e) in omega (arith, z)))) ∙ none c.count
  where
    none : (n : ℕ) → n + 0 ≡ n
    none n = omega arith
count_at (c ∷ cs) (suc k) h l = go (same c.row (slice_index_or cs k no_run).row) refl (count_at cs k (λ i j p q e. (let z : suc i ≡ suc j = h (suc i) (suc j) (omega (arith, p)) (omega (arith, q)) e in omega (arith, z))) (omega (arith, l)))
  where
    go : (b : Bool) → same c.row (slice_index_or cs k no_run).row ≡ b → count (slice_index_or cs k no_run).row (expanded cs) ≡ (slice_index_or cs k no_run).count → count (slice_index_or cs k no_run).row (expanded (c ∷ cs)) ≡ (slice_index_or cs k no_run).count
    go true e i = absurd (let z : 0 ≡ suc k = h 0 (suc k) (omega arith) (omega (arith, l, length_rows cs)) ((Decides-same c.row (slice_index_or cs k no_run).row).0 e ∙ sym (row_at cs k)) in omega (arith, z))
    go false e i = let z = count_expanded (slice_index_or cs k no_run).row c cs ∙ ap (λ b. cond b c.count 0 + count (slice_index_or cs k no_run).row (expanded cs)) e in omega (arith, z, i)

-- no record occurs among runs more often than a count may be
pub all_fit : (cs : List Run) → AreRuns cs → AllFit (expanded cs)
all_fit [] h r = omega arith
all_fit (c ∷ cs) h r = go (same c.row r) refl (all_fit cs (other_runs c cs h) r)
  where
    go : (b : Bool) → same c.row r ≡ b → count r (expanded cs) ≤ most → count r (expanded (c ∷ cs)) ≤ most
    go true e i =
        let here : count r (expanded (c ∷ cs)) ≡ c.count = ap (λ x. count x (expanded (c ∷ cs))) (sym ((Decides-same c.row r).0 e)) ∙ count_at (c ∷ cs) 0 h.different (omega arith) in
        omega (arith, here, (h.counts 0).1)
    go false e i = let z = count_expanded r c cs ∙ ap (λ b. cond b c.count 0 + count r (expanded cs)) e in omega (arith, z, i)

pub no_runs : (rs : List Record) (ns : List ℕ) → (rs ≡ []) ↔ (with_counts rs ns ≡ [])
no_runs [] ns = (λ e. refl, λ e. refl)
no_runs (r ∷ rs) ns = (λ e. absurd (let z = ap length e in omega (arith, z)), λ e. absurd (let z = sym (length_runs (r ∷ rs) ns) ∙ ap length e in omega (arith, z)))

pub once_each : (rs : List Record) → expanded (with_counts rs []) ≡ rs
once_each [] = refl
once_each (r ∷ rs) = ap (λ l. r ∷ l) (once_each rs)

-- the arity of runs
pub arity_of_runs : (a : ℕ) (cs : List Run) → 0 < length cs → AreRunCounts cs → AllHave a (rows_of cs) → arity_of (expanded cs) ≡ a
arity_of_runs a [] l h each = absurd (omega (arith, l))
arity_of_runs a (c ∷ cs) l h each = go c.count refl (h 0).0
  where
    go : (n : ℕ) → c.count ≡ n → 1 ≤ n → arity_of (repeated c.count c.row ++ expanded cs) ≡ a
    go zero e k = absurd (omega (arith, k))
    go (suc n) e k = ap (λ m. arity_of (repeated m c.row ++ expanded cs)) e ∙ each 0 [] (omega arith)

-- an invariant of a batch
pub are_runs : (cs : List Run) → AreDifferent (rows_of cs) → AreRunCounts cs → AreRuns cs
are_runs cs d h = record { different = d; counts = h }

-- what a batch shows
pub shown_runs : (cs : List Run) (b : List Record) → expanded cs ≡ b → AreRuns cs → runs b ≡ cs
shown_runs cs b e h = ap runs (sym e) ∙ runs_are cs h

-- runs taken together are what they were taken from
expanded_before : (x : Record) (cs : List Run) → expanded (before_runs x cs) ≡ x ∷ expanded cs
expanded_before x [] = refl
expanded_before x (c ∷ cs) = go (same x c.row) refl
  where
    go : (b : Bool) → same x c.row ≡ b → expanded (cond b (record { row = c.row; count = suc c.count } ∷ cs) (record { row = x; count = 1 } ∷ c ∷ cs)) ≡ x ∷ expanded (c ∷ cs)
    go true e = ap (λ y. y ∷ repeated c.count c.row ++ expanded cs) (sym ((Decides-same x c.row).0 e))
    go false e = refl

pub expanded_runs : (xs : List Record) → expanded (runs xs) ≡ xs
expanded_runs [] = refl
expanded_runs (x ∷ xs) = expanded_before x (runs xs) ∙ ap (λ l. x ∷ l) (expanded_runs xs)

pub batch_holds : (rows held : RunList) → held ≡ rows → 0 < length rows.runs → AreDifferent (rows_of rows.runs) → AreRunCounts rows.runs → AllHave rows.arity (rows_of rows.runs) →
    (0 < length held.runs) × AreRuns held.runs × (arity_of (expanded held.runs) ≡ held.arity)
batch_holds rows held e l d h each =
    subst (λ (v : RunList). (0 < length v.runs) × AreRuns v.runs × (arity_of (expanded v.runs) ≡ v.arity)) (sym e) (l, are_runs rows.runs d h, arity_of_runs rows.arity rows.runs l h each)

pub tally_runs : (rs : List Record) (ns : List ℕ) → AreDifferent rs → AreCounts ns → AreRuns (with_counts rs ns)
tally_runs rs ns d h = record { different = subst AreDifferent (sym (rows_are rs ns)) d; counts = fitting_runs rs ns h }

-- what is shown determines the rows with their counts
pub shown_alike : (c d : RunList) (a b : List Record) → expanded c.runs ≡ a → expanded d.runs ≡ b → AreRuns c.runs → AreRuns d.runs → arity_of (expanded c.runs) ≡ c.arity → arity_of (expanded d.runs) ≡ d.arity → a ≡ b → c ≡ d
shown_alike c d a b e f g h i j s =
    let arity : c.arity ≡ d.arity = sym i ∙ ap arity_of (e ∙ s ∙ sym f) ∙ j in
    let all : c.runs ≡ d.runs = sym (shown_runs c.runs a e g) ∙ ap runs s ∙ shown_runs d.runs b f h in
    (λ k. record { arity = arity k; runs = all k })
