-- Records taken into the sets of two ports.
use Rattle.std.proofs.Common.{◌≡◌, ℕ, zero, suc, ◌+◌, ◌≤◌, ◌<◌, ◌==◌, nat_lt, Bool, true, false, not, cond, ◌&&◌, List, [], ◌∷◌, ◌++◌, filter, take, length, slice_index_or, if◌then◌else◌, refl, sym, ap, subst, ◌∙◌, arith, length-append}
use Rattle.std.proofs.lemmas.List.{take_all}
use Rattle.std.proofs.lemmas.List.Elements.{filter_more}
use Rattle.std.specs.List.{list_any}
use Rattle.rows.specs.Counts.{AreRuns, Run, expanded, no_run, rows_of}
use Rattle.rows.specs.Indexes.{AreDifferent}
use Rattle.rows.proofs.Keeping.{different_where_once, one_le}
use Rattle.rows.proofs.Runs.{length_rows, row_at}
use Rattle.semantics.specs.Meaning.{only_left, in_both}
use Rattle.semantics.specs.Multiset.{Record, same, one_if, count, is_present, ◌≈◌, each_once}
use Rattle.semantics.proofs.CountsOfForms.{count-filter}
use Rattle.semantics.proofs.DistinctAndGroups.{count-distinct, distinct_same}
use Rattle.semantics.proofs.ExceptAndIntersect.{count-except, count-intersect, present_in_set}
use Rattle.semantics.proofs.MultisetSums.{Decides-same, total-append, append_same, ≈-refl, ≈-trans}
use Rattle.vertices.proofs.Counting.{rows_once}
use Rattle.vertices.proofs.Sets.{found_counts}

-- a set has what the list has
pub as_present : (set xs : List Record) → set ≈ each_once xs → (r : Record) → is_present r set ≡ is_present r xs
as_present set xs h r = ap (nat_lt 0) (h.counts r) ∙ present_in_set r xs

-- the rows of records that are counted are the records, each once
pub rows_once_of : (cs : List Run) (xs : List Record) → AreRuns cs → expanded cs ≈ xs → rows_of cs ≈ each_once xs
rows_once_of cs xs h e = ≈-trans (rows_once cs h) (distinct_same (expanded cs) xs e)

-- records counted in, by what was there
pub counted_from : (old new xs b : List Record) → old ≈ xs → new ≈ (old ++ b) → new ≈ (xs ++ b)
counted_from old new xs b e f = ≈-trans f (append_same old xs b b e (≈-refl b))

-- ---- what both have

-- what both have of the sets is what both have
common_of_sets : (left right xs ys : List Record) → left ≈ each_once xs → right ≈ each_once ys → in_both left right ≈ in_both xs ys
common_of_sets left right xs ys h k = record {
  counts = λ r. count-intersect left right r ∙ (λ j. one_if (as_present left xs h r j && as_present right ys k r j)) ∙ sym (count-intersect xs ys r);
}

-- on either side
common_turned : (xs ys : List Record) → in_both xs ys ≈ in_both ys xs
common_turned xs ys = record {
  counts = λ r. count-intersect xs ys r ∙ ap one_if (go (is_present r xs) (is_present r ys)) ∙ sym (count-intersect ys xs r);
}
  where
    go : (a b : Bool) → a && b ≡ b && a
    go true true = refl
    go true false = refl
    go false true = refl
    go false false = refl

-- a new record, which the other side doesn't have
pub common_alone : (x : Record) (old new other sent : List Record) → list_any (λ r. same r x) other ≡ false → new ≡ old ++ x ∷ [] → (sent ++ in_both old other) ≈ (sent ++ in_both new other)
common_alone x old new other sent e f = record {
  counts = λ r.
      let t = λ (z : Record). one_if (same z r) in
      let same_count : count r (in_both old other) ≡ count r (in_both new other) =
      count-intersect old other r ∙ go r (same x r) refl ∙ sym (count-intersect new other r ∙ ap (λ l. one_if (is_present r l && is_present r other)) f ∙ ap (λ n. one_if (nat_lt 0 n && is_present r other)) (total-append t old (x ∷ []))) in
      omega (arith, same_count, total-append t sent (in_both old other), total-append t sent (in_both new other));
}
  where
    nowhere : (a b c : Bool) → c ≡ false → one_if (a && c) ≡ one_if (b && c)
    nowhere true true c k = refl
    nowhere true false c k = ap one_if k
    nowhere false true c k = ap one_if (sym k)
    nowhere false false c k = refl

    go : (r : Record) (b : Bool) → same x r ≡ b → one_if (is_present r old && is_present r other) ≡ one_if (nat_lt 0 (count r old + (one_if b + 0)) && is_present r other)
    go r true k =
        nowhere (is_present r old) (nat_lt 0 (count r old + (1 + 0))) (is_present r other)
        (subst (λ z. is_present z other ≡ false) ((Decides-same x r).0 k) (sym (found_counts x other) ∙ e))
    go r false k = ap (λ n. one_if (nat_lt 0 n && is_present r other)) (omega arith)

-- a new record, which the other side has
pub common_sent : (x : Record) (old new other sent sends : List Record) → not (list_any (λ r. same r x) old) ≡ true → list_any (λ r. same r x) other ≡ true → new ≡ old ++ x ∷ [] → sends ≡ sent ++ x ∷ [] → (sends ++ in_both old other) ≈ (sent ++ in_both new other)
common_sent x old new other sent sends d e f g = record {
  counts = λ r.
      let t = λ (z : Record). one_if (same z r) in
      let now : count r (in_both new other) ≡ one_if (nat_lt 0 (count r old + (one_if (same x r) + 0)) && is_present r other) =
      count-intersect new other r ∙ ap (λ l. one_if (is_present r l && is_present r other)) f ∙ ap (λ n. one_if (nat_lt 0 n && is_present r other)) (total-append t old (x ∷ [])) in
      let more : count r sends ≡ count r sent + (one_if (same x r) + 0) = ap (count r) g ∙ total-append t sent (x ∷ []) in
      omega (arith, now, more, count-intersect old other r, go r (same x r) refl, total-append t sends (in_both old other), total-append t sent (in_both new other));
}
  where
    absent : (b : Bool) → not b ≡ true → b ≡ false
    absent true h = sym h
    absent false h = refl

    met : (a c : Bool) (n : ℕ) → a ≡ false → c ≡ true → (1 + 0) + one_if (a && c) ≡ one_if (nat_lt 0 (n + (1 + 0)) && c)
    met a c n h k = (λ j. (1 + 0) + one_if (h j && k j)) ∙ grind arith ∙ (λ j. one_if (nat_lt 0 (n + (1 + 0)) && sym k j))

    go : (r : Record) (b : Bool) → same x r ≡ b → (one_if b + 0) + one_if (is_present r old && is_present r other) ≡ one_if (nat_lt 0 (count r old + (one_if b + 0)) && is_present r other)
    go r true k =
        met (is_present r old) (is_present r other) (count r old)
        (subst (λ z. is_present z old ≡ false) ((Decides-same x r).0 k) (sym (found_counts x old) ∙ absent (list_any (λ z. same z x) old) d))
        (subst (λ z. is_present z other ≡ true) ((Decides-same x r).0 k) (sym (found_counts x other) ∙ e))
    go r false k = (let z : (0 + 0) + one_if (is_present r old && is_present r other) ≡ one_if (is_present r old && is_present r other) = omega arith in z) ∙ ap (λ n. one_if (nat_lt 0 n && is_present r other)) (omega arith)

-- what is sent is what both have more
pub common_gained : (left right left' right' xs ys xs' ys' sent sends : List Record) → left ≈ each_once xs → right ≈ each_once ys → left' ≈ each_once xs' → right' ≈ each_once ys' → sent ≡ [] → (sends ++ in_both left right) ≈ (sent ++ in_both left' right') → (sends ++ in_both xs ys) ≈ in_both xs' ys'
common_gained left right left' right' xs ys xs' ys' sent sends h k h' k' e f = record {
  counts = λ r.
      let t = λ (z : Record). one_if (same z r) in
      omega (
        arith,
        (common_of_sets left right xs ys h k).counts r,
        (common_of_sets left' right' xs' ys' h' k').counts r,
        f.counts r,
        ap (count r) e,
        total-append t sends (in_both left right),
        total-append t sends (in_both xs ys),
        total-append t sent (in_both left' right'),
      );
}

-- the same where the batch came to the right
pub common_gained_right : (left right left' right' xs ys xs' ys' sent sends : List Record) → left ≈ each_once xs → right ≈ each_once ys → left' ≈ each_once xs' → right' ≈ each_once ys' → sent ≡ [] → (sends ++ in_both right left) ≈ (sent ++ in_both right' left') → (sends ++ in_both xs ys) ≈ in_both xs' ys'
common_gained_right left right left' right' xs ys xs' ys' sent sends h k h' k' e f = record {
  counts = λ r.
      let t = λ (z : Record). one_if (same z r) in
      let turned : (sends ++ in_both ys xs) ≈ in_both ys' xs' = common_gained right left right' left' ys xs ys' xs' sent sends k h k' h' e f in
      omega (arith, turned.counts r, (common_turned xs ys).counts r, (common_turned xs' ys').counts r, total-append t sends (in_both ys xs), total-append t sends (in_both xs ys));
}

-- what is sent is different
pub different_sends : (sends before xs ys : List Record) → (sends ++ before) ≈ in_both xs ys → AreDifferent sends
different_sends sends before xs ys e = different_where_once sends (λ r.
    let a = e.counts r in
    let b = total-append (λ x. one_if (same x r)) sends before in
    let c = count-intersect xs ys r in
    let d = one_le (is_present r xs && is_present r ys) in
    omega (arith, a, b, c, d))

pub none_different : (rows : List Record) → rows ≡ [] → AreDifferent rows
none_different rows e i j l m f = absurd (omega (arith, l, ap length e))

-- ---- what the left alone has

-- with one record more
pub alone_more : (right : List Record) (cs : List Run) (old new : List Record) (k : ℕ) → k < length cs → old ≡ filter (λ r. not (list_any (λ x. same x r) right)) (take k (rows_of cs)) → new ≡ old ++ (if list_any (λ x. same x (slice_index_or cs k no_run).row) right then [] else (slice_index_or cs k no_run).row ∷ []) → new ≡ filter (λ r. not (list_any (λ x. same x r) right)) (take (k + 1) (rows_of cs))
alone_more right cs old new k h e f =
    f
    ∙ (λ j. e j ++ cond (list_any (λ x. same x (sym (row_at cs k) j)) right) [] (sym (row_at cs k) j ∷ []))
    ∙ ap (λ l. filter (λ r. not (list_any (λ x. same x r) right)) (take k (rows_of cs)) ++ l) (go (list_any (λ x. same x (slice_index_or (rows_of cs) k [])) right))
    ∙ sym (filter_more (λ r. not (list_any (λ x. same x r) right)) (rows_of cs) k [] (omega (arith, h, length_rows cs)))
  where
    go : (t : Bool) → cond t [] (slice_index_or (rows_of cs) k [] ∷ []) ≡ cond (not t) (slice_index_or (rows_of cs) k [] ∷ []) []
    go true = refl
    go false = refl

pub all_alone : (right : List Record) (cs : List Run) (rows : List Record) (k : ℕ) → length cs ≤ k → rows ≡ filter (λ r. not (list_any (λ x. same x r) right)) (take k (rows_of cs)) → rows ≡ filter (λ r. not (list_any (λ x. same x r) right)) (rows_of cs)
all_alone right cs rows k h e = e ∙ ap (filter (λ r. not (list_any (λ x. same x r) right))) (take_all k (rows_of cs) (omega (arith, h, length_rows cs)))

pub left_alone : (left right xs ys : List Record) → left ≈ each_once xs → right ≈ each_once ys → filter (λ r. not (list_any (λ x. same x r) right)) left ≈ only_left xs ys
left_alone left right xs ys h k = record {
  counts = λ r.
      count-filter (λ z. not (list_any (λ x. same x z) right)) left r
      ∙ (λ j. cond (not ((found_counts r right ∙ as_present right ys k r) j)) ((h.counts r ∙ count-distinct r xs) j) 0)
      ∙ go (is_present r xs) (is_present r ys)
      ∙ sym (count-except xs ys r);
}
  where
    go : (a b : Bool) → cond (not b) (one_if a) 0 ≡ one_if (a && not b)
    go true true = refl
    go true false = refl
    go false true = refl
    go false false = refl

-- ---- at the ports

-- by a batch there are some records at the two ports
pub some_came : (port : ℕ) (xs ys batch : List Record) → port < 2 → 0 < length batch → 0 < length ((xs ++ cond (port == 0) batch []) ++ (ys ++ cond (port == 1) batch []))
some_came zero xs ys batch h k = omega (arith, k, length-append (xs ++ batch) (ys ++ []), length-append xs batch)
some_came (suc zero) xs ys batch h k = omega (arith, k, length-append (xs ++ []) (ys ++ batch), length-append ys batch)
some_came (suc (suc port)) xs ys batch h k = absurd (omega (arith, h))
