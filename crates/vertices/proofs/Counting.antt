-- Records counted in.
use Rattle.std.proofs.Common.{◌≡◌, ℕ, suc, ◌+◌, ◌<◌, ◌≤◌, nat_lt, Bool, true, false, cond, List, [], ◌∷◌, ◌++◌, take, length, slice_index_or, refl, sym, ap, subst, ◌∙◌, arith, append_assoc, length-append, lt-ltb}
use Rattle.std.proofs.lemmas.List.{take_all}
use Rattle.rows.specs.Counts.{AllFit, AreRuns, IsOver, Run, expanded, most, no_run, rows_of}
use Rattle.rows.specs.Indexes.{AreDifferent}
use Rattle.rows.proofs.Runs.{count_expanded}
use Rattle.rows.proofs.Keeping.{once_where_different, different_where_once}
use Rattle.rows.proofs.Merging.{fit_alike, over_in}
use Rattle.semantics.specs.Kinds.{Role}
use Rattle.semantics.specs.Shard.{asks}
use Rattle.semantics.specs.Multiset.{Record, same, one_if, count, ◌≈◌, each_once}
use Rattle.semantics.proofs.DistinctAndGroups.{count-distinct, distinct_same}
use Rattle.semantics.proofs.MultisetSums.{total-append, ≈-refl, ≈-sym, ≈-trans, ≈-from, append_same, append_comm}

-- a row that is new is sent
pub sent_more : (old new sent sends : List Record) (row : Record) (b : Bool) → new ≡ cond b (old ++ row ∷ []) old → sends ≡ cond b (sent ++ row ∷ []) sent → (before : List Record) → old ≡ before ++ sent → new ≡ before ++ sends
sent_more old new sent sends row true e f before h = e ∙ ap (λ l. l ++ row ∷ []) h ∙ append_assoc before sent (row ∷ []) ∙ ap (λ l. before ++ l) (sym f)
sent_more old new sent sends row false e f before h = e ∙ h ∙ ap (λ l. before ++ l) (sym f)

-- all of a batch
pub all_counted : (old new b : List Record) (cs : List Run) (k : ℕ) → expanded cs ≡ b → length cs ≤ k → new ≈ (old ++ expanded (take k cs)) → new ≈ (old ++ b)
all_counted old new b cs k e h i = ≈-trans i (≈-from (ap (λ l. old ++ l) (ap expanded (take_all k cs h) ∙ e)))

pub over_batch : (old now b : List Record) (cs : List Run) (k : ℕ) (row : Record) (n : ℕ) → expanded cs ≡ b → k < length cs → row ≡ (slice_index_or cs k no_run).row → n ≡ (slice_index_or cs k no_run).count →
    now ≈ (old ++ expanded (take k cs)) → most < count row now + n → IsOver (old ++ b)
over_batch old now b cs k row n all h e f i over = subst (λ l. IsOver (old ++ l)) all (over_in old now cs k row n h e f i over)

-- the rows of runs are their records, each once
pub rows_once : (cs : List Run) → AreRuns cs → rows_of cs ≈ each_once (expanded cs)
rows_once cs h = record { counts = λ r. at r cs (once_where_different (rows_of cs) h.different r) (λ k. (h.counts k).0) ∙ sym (count-distinct r (expanded cs)) }
  where
    at : (r : Record) (cs : List Run) → count r (rows_of cs) ≤ 1 → ((k : ℕ) → 1 ≤ (slice_index_or cs k no_run).count) → count r (rows_of cs) ≡ one_if (nat_lt 0 (count r (expanded cs)))
    at r [] l h = refl
    at r (c ∷ cs) l h = go (same c.row r) refl (at r cs)
      where
        go : (b : Bool) → same c.row r ≡ b → (count r (rows_of cs) ≤ 1 → ((k : ℕ) → 1 ≤ (slice_index_or cs k no_run).count) → count r (rows_of cs) ≡ one_if (nat_lt 0 (count r (expanded cs)))) →
            count r (rows_of (c ∷ cs)) ≡ one_if (nat_lt 0 (count r (expanded (c ∷ cs))))
        go true e i =
            let one = ap one_if e in
            let more = count_expanded r c cs ∙ ap (λ b. cond b c.count 0 + count r (expanded cs)) e in
            let some : 0 < count r (expanded (c ∷ cs)) = omega (arith, more, h 0) in
            let yes = ap one_if (lt-ltb 0 (count r (expanded (c ∷ cs))) some) in
            omega (arith, one, yes, l)
        go false e i =
            let one = ap one_if e in
            let more : count r (expanded (c ∷ cs)) ≡ count r (expanded cs) = (let z = count_expanded r c cs ∙ ap (λ b. cond b c.count 0 + count r (expanded cs)) e in omega (arith, z)) in
            let rest = i (omega (arith, l, one)) (λ k. h (suc k)) in
            let yes = ap (λ n. one_if (nat_lt 0 n)) more in
            omega (arith, one, yes, rest)

-- what is sent is what is gained
pub gained : (old new : List Run) (sends xs b : List Record) → AreRuns old → AreRuns new → rows_of new ≡ rows_of old ++ sends → expanded old ≈ xs → expanded new ≈ (expanded old ++ b) → (sends ++ each_once xs) ≈ each_once (xs ++ b)
gained old new sends xs b h g e f i =
    let before : rows_of old ≈ each_once xs = ≈-trans (rows_once old h) (distinct_same (expanded old) xs f) in
    let now : rows_of new ≈ each_once (xs ++ b) = ≈-trans (rows_once new g) (distinct_same (expanded new) (xs ++ b) (≈-trans i (append_same (expanded old) xs b b f (≈-refl b)))) in
    ≈-trans (append_same sends sends (each_once xs) (rows_of old) (≈-refl sends) (≈-sym before)) (≈-trans (append_comm sends (rows_of old)) (≈-trans (≈-from (sym e)) now))

-- and different
pub sent_different : (old new : List Run) (sends : List Record) → AreRuns new → rows_of new ≡ rows_of old ++ sends → AreDifferent sends
sent_different old new sends g e = different_where_once sends (λ r.
    let a = once_where_different (rows_of new) g.different r in
    let b = ap (count r) e in
    let c = total-append (λ x. one_if (same x r)) (rows_of old) sends in
    omega (arith, a, b, c))

pub fitting : (old new xs b : List Record) → AllFit new → old ≈ xs → new ≈ (old ++ b) → AllFit (xs ++ b)
fitting old new xs b h f i = fit_alike new (xs ++ b) (≈-trans i (append_same old xs b b f (≈-refl b))) h

pub too_often : (old xs b : List Record) → old ≈ xs → IsOver (old ++ b) → IsOver (xs ++ b)
too_often old xs b f over = (over.0, let z = (append_same old xs b b f (≈-refl b)).counts over.0 in omega (arith, z, over.1))

pub some_behind : (xs b : List Record) → 0 < length b → 0 < length (xs ++ b)
some_behind xs b h = omega (arith, h, length-append xs b)

pub asked_before : (xs : List Record) → 0 < length xs → false ≡ asks Role.notified xs
asked_before [] h = absurd (omega (arith, h))
asked_before (x ∷ xs) h = refl

pub asked_first : (xs : List Record) → xs ≡ [] → true ≡ asks Role.notified xs
asked_first xs e = ap (asks Role.notified) (sym e)
