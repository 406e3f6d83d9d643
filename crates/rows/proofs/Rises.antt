-- Counts that grow.
use Rattle.std.proofs.Common.{◌≡◌, ◌≢◌, ℕ, zero, suc, ◌+◌, ◌≤◌, ◌<◌, Bool, true, false, not, cond, List, [], ◌∷◌, ◌++◌, length, refl, sym, ap, subst, ◌∙◌, arith, length-append}
use Rattle.std.specs.Prelude.{slice_index_or}
use Rattle.std.specs.List.{list_any}
use Rattle.semantics.specs.Multiset.{Record, same, one_if, count, ◌≈◌}
use Rattle.semantics.proofs.MultisetSums.{total-append, ≈-from, ≈-trans}
use Rattle.rows.specs.Indexes.{AreDifferent}
use Rattle.rows.specs.Counts.{most, Run, repeated, expanded, rows_of, with_counts}
use Rattle.rows.proofs.Runs.{count_expanded, count_repeated, count_at, expanded_more, more_once, more_often, more_runs, length_runs, one_beyond, run_at, rows_are}

-- by each place the count there
abbrev pub sum_at : Record → List Record → (ℕ → ℕ) → ℕ
sum_at r [] f = 0
sum_at r (x ∷ rs) f = cond (same x r) (f 0) 0 + sum_at r rs (λ k. f (suc k))

sum_alike : (r : Record) (rs : List Record) (f g : ℕ → ℕ) → ((k : ℕ) → f k ≡ g k) → sum_at r rs f ≡ sum_at r rs g
sum_alike r [] f g e = refl
sum_alike r (x ∷ rs) f g e = (λ i. cond (same x r) (e 0 i) 0 + sum_alike r rs (λ k. f (suc k)) (λ k. g (suc k)) (λ k. e (suc k)) i)

count_with : (r : Record) (rs : List Record) (ns : List ℕ) → count r (expanded (with_counts rs ns)) ≡ sum_at r rs (λ k. slice_index_or ns k 1)
count_with r [] ns = refl
count_with r (x ∷ rs) [] =
    count_expanded r (record { row = x; count = 1 }) (with_counts rs []) ∙ ap (λ n. cond (same x r) 1 0 + n) (count_with r rs [] ∙ sum_alike r rs (λ k. slice_index_or [] k 1) (λ k. slice_index_or [] (suc k) 1) (λ k. one_beyond k))
count_with r (x ∷ rs) (n ∷ ns) = count_expanded r (record { row = x; count = n }) (with_counts rs ns) ∙ ap (λ m. cond (same x r) n 0 + m) (count_with r rs ns)

raised_at : (r : Record) (rs : List Record) (p n : ℕ) (f g : ℕ → ℕ) → p < length rs → g p ≡ f p + n → ((k : ℕ) → k ≢ p → g k ≡ f k) → sum_at r rs g ≡ sum_at r rs f + cond (same (slice_index_or rs p []) r) n 0
raised_at r [] p n f g h e o = absurd (omega (arith, h))
raised_at r (x ∷ rs) zero n f g h e o = go (same x r) (sum_alike r rs (λ k. g (suc k)) (λ k. f (suc k)) (λ k. o (suc k) (other k)))
  where
    other : (k : ℕ) → suc k ≢ 0
    other k z = omega (arith, z)

    go : (b : Bool) → sum_at r rs (λ k. g (suc k)) ≡ sum_at r rs (λ k. f (suc k)) → cond b (g 0) 0 + sum_at r rs (λ k. g (suc k)) ≡ cond b (f 0) 0 + sum_at r rs (λ k. f (suc k)) + cond b n 0
    go true i = omega (arith, i, e)
    go false i = omega (arith, i)
raised_at r (x ∷ rs) (suc p) n f g h e o = go (same x r) (raised_at r rs p n (λ k. f (suc k)) (λ k. g (suc k)) (omega (arith, h)) e (λ k q. o (suc k) (λ z. q (less k z))))
  where
    less : (k : ℕ) → suc k ≡ suc p → k ≡ p
    less k z = omega (arith, z)

    first : g 0 ≡ f 0
    first = o 0 (λ z. omega (arith, z))

    go : (b : Bool) → sum_at r rs (λ k. g (suc k)) ≡ sum_at r rs (λ k. f (suc k)) + cond (same (slice_index_or rs p []) r) n 0 →
        cond b (g 0) 0 + sum_at r rs (λ k. g (suc k)) ≡ cond b (f 0) 0 + sum_at r rs (λ k. f (suc k)) + cond (same (slice_index_or rs p []) r) n 0
    go true i = omega (arith, i, first)
    go false i = omega (arith, i)

-- a count raised by n is n times the row more
pub raised : (rs : List Record) (old new : List ℕ) (p n : ℕ) (row : Record) → p < length rs → slice_index_or rs p [] ≡ row → slice_index_or new p 1 ≡ slice_index_or old p 1 + n → ((k : ℕ) → k ≢ p → slice_index_or new k 1 ≡ slice_index_or old k 1) →
    expanded (with_counts rs new) ≈ (expanded (with_counts rs old) ++ repeated n row)
raised rs old new p n row h w e o = record {
  counts = λ r.
      let a = count_with r rs new in
      let b = count_with r rs old in
      let c = raised_at r rs p n (λ k. slice_index_or old k 1) (λ k. slice_index_or new k 1) h e o in
      let d = count_repeated r n row in
      let f = total-append (λ x. one_if (same x r)) (expanded (with_counts rs old)) (repeated n row) in
      let g = ap (λ x. cond (same x r) n 0) w in
      omega (arith, a, b, c, d, f, g);
}

-- how often a row occurs whose place is known
pub stands : (rs : List Record) (ns : List ℕ) (p : ℕ) (row : Record) → AreDifferent rs → p < length rs → slice_index_or rs p [] ≡ row → count row (expanded (with_counts rs ns)) ≡ slice_index_or ns p 1
stands rs ns p row d h w =
    let at = run_at rs ns p h in
    let row_is = ap (λ (c : Run). c.row) at ∙ w in
    ap (λ x. count x (expanded (with_counts rs ns))) (sym row_is) ∙ count_at (with_counts rs ns) p (subst AreDifferent (sym (rows_are rs ns)) d) (subst (λ n. p < n) (sym (length_runs rs ns)) h) ∙ ap (λ (c : Run). c.count) at

-- ---- counts filled up

pub filled_at : (ns : List ℕ) (k : ℕ) → slice_index_or (ns ++ 1 ∷ []) k 1 ≡ slice_index_or ns k 1
filled_at [] zero = refl
filled_at [] (suc k) = one_beyond k
filled_at (m ∷ ns) zero = refl
filled_at (m ∷ ns) (suc k) = filled_at ns k

-- one step of filling
pub filled_more : (n : ℕ) (old now new : List ℕ) → length now < n → new ≡ now ++ 1 ∷ [] →
    ((rows : ℕ) → n ≤ rows → length old ≤ rows → length now ≤ rows) × ((k : ℕ) → slice_index_or now k 1 ≡ slice_index_or old k 1) →
    ((rows : ℕ) → n ≤ rows → length old ≤ rows → length new ≤ rows) × ((k : ℕ) → slice_index_or new k 1 ≡ slice_index_or old k 1)
filled_more n old now new l e i = (
  λ rows h g. omega (arith, l, h, ap length e, length-append now (1 ∷ [])),
  λ k. ap (λ (ns : List ℕ). slice_index_or ns k 1) e ∙ filled_at now k ∙ i.1 k,
)

-- rows with counts that read the same
pub read_alike : (rs : List Record) (ns ms : List ℕ) → ((k : ℕ) → slice_index_or ms k 1 ≡ slice_index_or ns k 1) → with_counts rs ms ≡ with_counts rs ns
read_alike [] ns ms e = refl
read_alike (r ∷ rs) [] [] e = refl
read_alike (r ∷ rs) [] (m ∷ ms) e = (λ i. record { row = r; count = e 0 i } ∷ read_alike rs [] ms (λ k. e (suc k) ∙ one_beyond (suc k) ∙ sym (one_beyond k)) i)
read_alike (r ∷ rs) (n ∷ ns) [] e = (λ i. record { row = r; count = e 0 i } ∷ read_alike rs ns [] (λ k. one_beyond k ∙ sym (one_beyond (suc k)) ∙ e (suc k)) i)
read_alike (r ∷ rs) (n ∷ ns) (m ∷ ms) e = (λ i. record { row = r; count = e 0 i } ∷ read_alike rs ns ms (λ k. e (suc k)) i)

-- a row pushed with its count, behind counts that were filled up
pub pushed_often : (rs rows : List Record) (old full new : List ℕ) (r : Record) (n : ℕ) → rows ≡ rs ++ r ∷ [] → new ≡ full ++ n ∷ [] → length old ≤ length rs → length rs ≤ length full →
    ((len : ℕ) → length rs ≤ len → length old ≤ len → length full ≤ len) → ((k : ℕ) → slice_index_or full k 1 ≡ slice_index_or old k 1) → with_counts rows new ≡ with_counts rs old ++ record { row = r; count = n } ∷ []
pushed_often rs rows old full new r n e f short filled above same =
    let exact : length full ≡ length rs = (let z = above (length rs) (omega arith) short in omega (arith, z, filled)) in
    (λ i. with_counts (e i) (f i)) ∙ more_often rs full r n exact ∙ ap (λ cs. cs ++ record { row = r; count = n } ∷ []) (read_alike rs old full same)

-- rows put at the end with their counts, behind counts that were filled up
pub extended_often : (rs ss rows : List Record) (old full new more : List ℕ) → rows ≡ rs ++ ss → new ≡ full ++ more → length old ≤ length rs → length rs ≤ length full →
    ((len : ℕ) → length rs ≤ len → length old ≤ len → length full ≤ len) → ((k : ℕ) → slice_index_or full k 1 ≡ slice_index_or old k 1) → with_counts rows new ≡ with_counts rs old ++ with_counts ss more
extended_often rs ss rows old full new more e f short filled above same =
    let exact : length full ≡ length rs = (let z = above (length rs) (omega arith) short in omega (arith, z, filled)) in
    (λ i. with_counts (e i) (f i)) ∙ more_runs rs ss full more exact ∙ ap (λ cs. cs ++ with_counts ss more) (read_alike rs old full same)

-- ---- a tally of one row more

module _ (rs : List Record) (ns : List ℕ) (cs : List Run) (shown : with_counts rs ns ≡ cs) (row : Record) where
  pub rows_shown : rs ≡ rows_of cs
  rows_shown = sym (rows_are rs ns) ∙ ap rows_of shown

  pub new_told : (b v : Bool) → b ≡ not (list_any (λ r. same r row) rs) → b ≡ v → v ≡ not (list_any (λ r. same r row) (rows_of cs))
  new_told b v e f = sym f ∙ e ∙ ap (λ l. not (list_any (λ r. same r row) l)) rows_shown

  pub rows_with : (rows : List Record) (ms : List ℕ) → rows ≡ rs ++ row ∷ [] → rows_of (with_counts rows ms) ≡ rows_of cs ++ row ∷ []
  rows_with rows ms e = rows_are rows ms ∙ e ∙ ap (λ l. l ++ row ∷ []) rows_shown

  pub rows_kept : (rows : List Record) (ms : List ℕ) → rows ≡ rs → rows_of (with_counts rows ms) ≡ rows_of cs
  rows_kept rows ms e = rows_are rows ms ∙ e ∙ rows_shown

  pub added_often : (rows : List Record) (full new : List ℕ) (n : ℕ) → rows ≡ rs ++ row ∷ [] → new ≡ full ++ n ∷ [] → length ns ≤ length rs → length rs ≤ length full →
      ((len : ℕ) → length rs ≤ len → length ns ≤ len → length full ≤ len) → ((k : ℕ) → slice_index_or full k 1 ≡ slice_index_or ns k 1) → expanded (with_counts rows new) ≈ (expanded cs ++ repeated n row)
  added_often rows full new n e f short filled above same =
      ≈-from (ap expanded (pushed_often rs rows ns full new row n e f short filled above same ∙ ap (λ l. l ++ record { row = row; count = n } ∷ []) shown) ∙ expanded_more cs (record { row = row; count = n }))

  pub added_once : (rows : List Record) (n : ℕ) → n ≡ 1 → rows ≡ rs ++ row ∷ [] → length ns ≤ length rs → expanded (with_counts rows ns) ≈ (expanded cs ++ repeated n row)
  added_once rows n one e short =
      ≈-from (ap (λ l. expanded (with_counts l ns)) e ∙ ap expanded (more_once rs ns row short ∙ ap (λ l. l ++ record { row = row; count = 1 } ∷ []) shown) ∙ expanded_more cs (record { row = row; count = 1 }) ∙ ap (λ m. expanded cs ++ repeated m row) (sym one))

  pub added_again : (rows : List Record) (new : List ℕ) (p n : ℕ) → rows ≡ rs → p < length rows → slice_index_or rows p [] ≡ row → slice_index_or new p 1 ≡ slice_index_or ns p 1 + n → ((k : ℕ) → k ≢ p → slice_index_or new k 1 ≡ slice_index_or ns k 1) →
      expanded (with_counts rows new) ≈ (expanded cs ++ repeated n row)
  added_again rows new p n e h w raise beside =
      ≈-trans (raised rows ns new p n row h w raise beside) (≈-from (ap (λ l. expanded l ++ repeated n row) (ap (λ l. with_counts l ns) e ∙ shown)))

  pub over_told : (rows : List Record) (p n : ℕ) → rows ≡ rs → AreDifferent rows → p < length rows → slice_index_or rows p [] ≡ row → most < slice_index_or ns p 1 + n → most < count row (expanded cs) + n
  over_told rows p n e d h w over =
      let z = ap (λ l. count row (expanded l)) (sym (ap (λ l. with_counts l ns) e ∙ shown)) ∙ stands rows ns p row d h w in omega (arith, z, over)
