-- What was written, as more is emitted, said and written.
use Rattle.std.proofs.Common.{◌≡◌, ◌<◌, ◌≤◌, ◌+◌, ◌∙◌, ℕ, List, [], ◌++◌, length, take, drop, refl, sym, ap, subst, arith, append_assoc, inl, inr, slice_index_or}
use Rattle.std.specs.List.{flat_map}
use Rattle.std.proofs.lemmas.Bool.Decides.{eqb_tells}
use Rattle.std.proofs.lemmas.List.{append-nil, length-append, take-append-le, take_all}
use Rattle.semantics.specs.Multiset.{Record, IsPartOf, ◌≈◌, count}
use Rattle.semantics.specs.Query.{Program}
use Rattle.semantics.specs.Meaning.{program_meaning}
use Rattle.semantics.specs.Graph.{output_number, output_numbers}
use Rattle.semantics.proofs.LoweredDataflow.{lowered_outputs}
use Rattle.semantics.proofs.MeaningOfMultisets.{program_same}
use Rattle.semantics.proofs.MultisetSums.{≈-trans}
use Rattle.graph.specs.Shown.{GraphValue, shown_graph, shown_names}
use Rattle.rows.specs.FlatRows.{joined}
use Rattle.board.specs.Shown.{Shown, batches_at}
use Rattle.board.specs.Promises.{HasPassed, IsOutputPlace, KeepsPromise, RunsProgram, emitted_at, meant_of}
use Rattle.collector.specs.OutputText.{is_plain, label_of}
use Rattle.collector.specs.Lines.{Item}
use Rattle.follow.specs.Entries.{Entry, complete_line, entry_line, records_of, row_line}
use Rattle.follow.specs.Follows.{IsGraphOf, IsPart, IsReport, IsWhole, said_records}
use Rattle.alone.specs.Scenes.{Grows, fed_at}
use Rattle.follow.specs.Scenes.{HasReported, IsAllFed, IsWithin, batches_of, reported_count}
use Rattle.follow.specs.Steps.{CanReport, Completes, ReportsOutput, ReportsOpen, HasReportedMore, HasAnswered}
use Rattle.follow.specs.declared.reporting.Reporting.{Reporting}
use Rattle.follow.proofs.Entries.{at_place, entries_at, joined_parts, lines_at, of_append, of_other, of_same}

abbrev Records : Type 0
Records = (epoch input : ℕ) → List Record

-- ---- the records that lines say of a complete epoch stay

pub same_report : (offset : ℕ) → (g : GraphValue) (r q : Records) (done : ℕ) (entries : List Entry) (text : List ℕ) → IsReport offset g r done entries text → ((e i : ℕ) → e < done → q e i ≡ r e i) → IsReport offset g q done entries text
same_report offset g r q done entries text IsReport.reports_nothing same = IsReport.reports_nothing
same_report offset g r q done entries text (IsReport.reports_more d es more t reported at) same = IsReport.reports_more d es more t (same_report offset g r q d es t reported same) at
same_report offset g r q done entries text (IsReport.reports_whole d es t reported whole) same =
    let here : q d ≡ r d = λ k. λ i. (same d i (omega arith)) k in
    IsReport.reports_whole d es t (same_report offset g r q d es t reported (λ e i lt. same e i (omega (arith, lt)))) (subst (λ (x : ℕ → List Record). IsWhole g x es) (sym here) whole)

-- what was emitted at an output grows
emitted_more : (s t : Shown) (k e : ℕ) → Grows s t → (more : List (List Record)) × (batches_of t k e ≡ batches_of s k e ++ more)
emitted_more s t k e grows =
    let m = grows.emitted (output_number (shown_graph s.graph) k) e in
    (m.0, ap (λ (g : GraphValue). batches_at t.emitted (output_number (shown_graph g) k) e) grows.graph ∙ m.1)

pub report_later : (offset : ℕ) → (s t : Shown) (base done : ℕ) (count : ℕ → ℕ) (r q : Records) (entries : List Entry) (text : List ℕ) → HasReported offset s base done count r entries text → Grows s t → ((e i : ℕ) → e < base + done → q e i ≡ r e i)
    → HasReported offset t base done count q entries text
report_later offset s t base done count r q entries text h grows same = record {
  reported = subst (λ (g : GraphValue). IsReport offset g q (base + done) entries text) (sym grows.graph) (same_report offset s.graph r q (base + done) entries text h.reported same);
  within = λ k. let m = emitted_more s t k done grows in omega (arith, h.within k, ap length m.1, length-append (batches_of s k done) m.0);
  first = λ k. let m = emitted_more s t k done grows in h.first k ∙ sym (ap (λ (bs : List (List Record)). joined (take (count k) bs)) m.1 ∙ ap joined (take-append-le (count k) (batches_of s k done) m.0 (h.within k)));
}

-- ---- more is written at one output

more_reported : (offset : ℕ) → (g : GraphValue) (r : Records) (done k : ℕ) (label : List ℕ) (rows : List Record) (entries : List Entry) (text : List ℕ) → IsReport offset g r done entries text → k < length (shown_names g)
    → label ≡ label_of (is_plain (shown_names g)) (slice_index_or (shown_names g) k []) → IsReport offset g r done (entries ++ entries_at k rows) (text ++ flat_map (row_line (offset + done) label) rows)
more_reported offset g r done k label rows entries text reported lt is =
    let lines : flat_map (entry_line (shown_names g) (offset + done)) (entries_at k rows) ≡ flat_map (row_line (offset + done) label) rows = lines_at (shown_names g) (offset + done) k rows ∙ ap (λ (l : List ℕ). flat_map (row_line (offset + done) l) rows) (sym is) in
    subst (λ (xs : List ℕ). IsReport offset g r done (entries ++ entries_at k rows) (text ++ xs)) lines (IsReport.reports_more done entries (entries_at k rows) text reported (at_place (length (shown_names g)) k rows lt))

pub reported_one : (offset : ℕ) → (s : Shown) (base : ℕ) (t u : Reporting) (k : ℕ) (label old new : List ℕ) (r : Records) (entries : List Entry) (text : List ℕ) → HasReported offset s base t.done (reported_count t) r entries text → ReportsOutput offset s base t u k label old new → k < length (shown_names s.graph)
    → label ≡ label_of (is_plain (shown_names s.graph)) (slice_index_or (shown_names s.graph) k [])
    → HasReported offset s base t.done (reported_count u) r (entries ++ entries_at k (joined (drop (reported_count t k) (batches_of s k t.done)))) (text ++ flat_map (row_line (offset + (base + t.done)) label) (joined (drop (reported_count t k) (batches_of s k t.done))))
reported_one offset s base t u k label old new r entries text h one lt is = record {
  reported = more_reported offset s.graph r (base + t.done) k label rows entries text h.reported lt is;
  within = λ j. elim (eqb_tells j k) [
    | inl same ↦ subst (λ (i : ℕ). reported_count u i ≤ length (batches_of s i t.done)) (sym same.1) (omega (arith, one.here))
    | inr other ↦ omega (arith, one.others j other.1, h.within j)
  ];
  first = λ j. of_append j entries (entries_at k rows) ∙ elim (eqb_tells j k) [
    | inl same ↦ subst (λ (i : ℕ). records_of i entries ++ records_of i (entries_at k rows) ≡ joined (take (reported_count u i) (batches_of s i t.done))) (sym same.1) here
    | inr other ↦ ap (λ (xs : List Record). records_of j entries ++ xs) (of_other j k rows other.1) ∙ append-nil (records_of j entries) ∙ h.first j ∙ ap (λ (n : ℕ). joined (take n (batches_of s j t.done))) (sym (one.others j other.1))
  ];
}
  where
    rows : List Record
    rows = joined (drop (reported_count t k) (batches_of s k t.done))

    here : records_of k entries ++ records_of k (entries_at k rows) ≡ joined (take (reported_count u k) (batches_of s k t.done))
    here =
        ap (λ (xs : List Record). records_of k entries ++ xs) (of_same k rows) ∙ ap (λ (xs : List Record). xs ++ rows) (h.first k) ∙ joined_parts (reported_count t k) (batches_of s k t.done)
        ∙ ap joined (sym (take_all (reported_count u k) (batches_of s k t.done) (omega (arith, one.here))))

-- nothing more is written yet
pub nothing_reported : (offset : ℕ) → (s : Shown) (base : ℕ) (t : Reporting) (r : Records) (entries : List Entry) (text old : List ℕ) → HasReported offset s base t.done (reported_count t) r entries text → HasReportedMore offset s base t.done 0 t r entries text old old
nothing_reported offset s base t r entries text old h = record {
  more = [];
  lines = [];
  reported = subst (λ (es : List Entry). HasReported offset s base t.done (reported_count t) r es (text ++ [])) (sym (append-nil entries)) (subst (λ (xs : List ℕ). HasReported offset s base t.done (reported_count t) r entries xs) (sym (append-nil text)) h);
  appended = sym (append-nil old);
  all = λ k lt. absurd (omega (arith, lt));
}

-- ---- one output after another

pub more_outputs : (offset : ℕ) → (s : Shown) (base : ℕ) (t u v : Reporting) (k : ℕ) (label old mid new : List ℕ) → u.done ≡ t.done → ((r : Records) (entries : List Entry) (text : List ℕ) → HasReported offset s base t.done (reported_count t) r entries text → HasReportedMore offset s base t.done k u r entries text old mid)
    → ReportsOutput offset s base u v k label mid new → k < length (shown_names s.graph) → label ≡ label_of (is_plain (shown_names s.graph)) (slice_index_or (shown_names s.graph) k [])
    → (r : Records) (entries : List Entry) (text : List ℕ) → HasReported offset s base t.done (reported_count t) r entries text → HasReportedMore offset s base t.done (k + 1) v r entries text old new
more_outputs offset s base t u v k label old mid new same before one lt is r entries text h = record {
  more = m.more ++ entries_at k rows;
  lines = m.lines ++ flat_map (row_line (offset + (base + u.done)) label) rows;
  reported =
      subst (λ (es : List Entry). HasReported offset s base t.done (reported_count v) r es (text ++ (m.lines ++ flat_map (row_line (offset + (base + u.done)) label) rows))) (append_assoc entries m.more (entries_at k rows))
      (subst (λ (xs : List ℕ). HasReported offset s base t.done (reported_count v) r ((entries ++ m.more) ++ entries_at k rows) xs) (append_assoc text m.lines (flat_map (row_line (offset + (base + u.done)) label) rows)) (subst (λ (d : ℕ). HasReported offset s base d (reported_count v) r ((entries ++ m.more) ++ entries_at k rows) ((text ++ m.lines) ++ flat_map (row_line (offset + (base + u.done)) label) rows)) same there));
  appended = one.lines ∙ ap (λ (xs : List ℕ). xs ++ flat_map (row_line (offset + (base + u.done)) label) rows) m.appended ∙ append_assoc old m.lines (flat_map (row_line (offset + (base + u.done)) label) rows);
  all = λ j less place. ap (records_of j) (sym (append_assoc entries m.more (entries_at k rows))) ∙ of_append j (entries ++ m.more) (entries_at k rows) ∙ elim (eqb_tells j k) [
    | inl yes_way ↦ subst (λ (i : ℕ). records_of i (entries ++ m.more) ++ records_of i (entries_at k rows) ≡ emitted_at s i t.done) (sym yes_way.1) here
    | inr other ↦ ap (λ (xs : List Record). records_of j (entries ++ m.more) ++ xs) (of_other j k rows other.1) ∙ append-nil (records_of j (entries ++ m.more)) ∙ m.all j (omega (arith, less, other.1)) place
  ];
}
  where
    m : HasReportedMore offset s base t.done k u r entries text old mid
    m = before r entries text h

    rows : List Record
    rows = joined (drop (reported_count u k) (batches_of s k u.done))

    at_u : HasReported offset s base u.done (reported_count u) r (entries ++ m.more) (text ++ m.lines)
    at_u = subst (λ (d : ℕ). HasReported offset s base d (reported_count u) r (entries ++ m.more) (text ++ m.lines)) (sym same) m.reported

    there : HasReported offset s base u.done (reported_count v) r ((entries ++ m.more) ++ entries_at k rows) ((text ++ m.lines) ++ flat_map (row_line (offset + (base + u.done)) label) rows)
    there = reported_one offset s base u v k label mid new r (entries ++ m.more) (text ++ m.lines) at_u one lt is

    here : records_of k (entries ++ m.more) ++ records_of k (entries_at k rows) ≡ emitted_at s k t.done
    here =
        ap (λ (xs : List Record). records_of k (entries ++ m.more) ++ xs) (of_same k rows) ∙ ap (λ (xs : List Record). xs ++ rows) (at_u.first k) ∙ joined_parts (reported_count u k) (batches_of s k u.done) ∙ ap (λ (d : ℕ). emitted_at s k d) same

-- ---- an epoch's answer

place_of : (s : Shown) (k : ℕ) (p : Program) → IsGraphOf s.graph p → k < length p.outputs → IsOutputPlace s k
place_of s k p is lt = let n = lowered_outputs p in let m = ap (λ g. length (output_numbers g)) is.graph in omega (arith, lt, n, m)

runs_of : (s : Shown) (p : Program) → IsGraphOf s.graph p → RunsProgram p s
runs_of s p is = record { arities = is.arities; typed = is.typed; graph = is.graph }

part_of_alike : {xs ys zs : List Record} → ys ≈ zs → IsPartOf xs ys → IsPartOf xs zs
part_of_alike e h = record { within = λ r. let n = e.counts r in let m = h.within r in omega (arith, n, m) }

meant_said : (s : Shown) (base : ℕ) (items : List Item) (p : Program) (k e : ℕ) → IsAllFed s base items → meant_of p s k e ≈ program_meaning p k (said_records items (base + e))
meant_said s base items p k e fed = program_same p k (λ i. fed_at s i e) (said_records items (base + e)) (λ i. fed.fed i e)

pub whole_here : (s : Shown) (base : ℕ) (items : List Item) (done : ℕ) (entries : List Entry) → IsAllFed s base items → ((p : Program) → RunsProgram p s → KeepsPromise p s) → ((k : ℕ) → IsOutputPlace s k → records_of k entries ≡ emitted_at s k done)
    → ((k : ℕ) → IsOutputPlace s k → HasPassed s k done) → IsWhole s.graph (said_records items (base + done)) entries
whole_here s base items done entries fed promise all passed = λ p k is lt.
    let there = place_of s k p is lt in
    subst (λ (xs : List Record). xs ≈ program_meaning p k (said_records items (base + done))) (sym (all k there)) (≈-trans ((promise p (runs_of s p is) k done lt).whole (passed k there)) (meant_said s base items p k done fed))

pub part_here : (s : Shown) (base : ℕ) (items : List Item) (done : ℕ) (entries : List Entry) → IsAllFed s base items → ((p : Program) → RunsProgram p s → KeepsPromise p s) → ((k : ℕ) → IsOutputPlace s k → records_of k entries ≡ emitted_at s k done) → IsPart s.graph (said_records items (base + done)) entries
part_here s base items done entries fed promise all = λ p k is lt.
    let there = place_of s k p is lt in
    subst (λ (xs : List Record). IsPartOf xs (program_meaning p k (said_records items (base + done)))) (sym (all k there)) (part_of_alike (meant_said s base items p k done fed) (promise p (runs_of s p is) k done lt).part)

pub part_nothing : (g : GraphValue) (records : ℕ → List Record) → IsPart g records []
part_nothing g records = λ p k is lt. record { within = λ r. omega arith }

-- ---- one epoch after another

-- what was written so far
pub record HasReportedTill (offset : ℕ) (s : Shown) (base : ℕ) (t : Reporting) (items : List Item) (begun sealed : ℕ) (text old new : List ℕ) : Type 0 where
  pub entries : List Entry
  pub lines : List ℕ
  pub can : CanReport offset s base t items begun sealed entries (text ++ lines)
  pub appended : new ≡ old ++ lines

pub nothing_till : (offset : ℕ) → (s : Shown) (base : ℕ) (t : Reporting) (items : List Item) (begun sealed : ℕ) (entries : List Entry) (text old : List ℕ) → CanReport offset s base t items begun sealed entries text → HasReportedTill offset s base t items begun sealed text old old
nothing_till offset s base t items begun sealed entries text old can = record {
  entries = entries;
  lines = [];
  can = subst (CanReport offset s base t items begun sealed entries) (sym (append-nil text)) can;
  appended = sym (append-nil old);
}

pub reports_open : (offset : ℕ) → (s : Shown) (base : ℕ) (t u : Reporting) (items : List Item) (begun sealed : ℕ) (text old mid new : List ℕ) → HasReportedTill offset s base t items begun sealed text old mid → ReportsOpen offset s base t u mid new → IsAllFed s base items → ((p : Program) → RunsProgram p s → KeepsPromise p s) → t.done < begun
    → HasAnswered offset s base u items begun sealed text old new
reports_open offset s base t u items begun sealed text old mid new till reports fed promise lt =
    let to = reports.2 in
    let m = to.more (said_records items) till.entries (text ++ till.lines) till.can.reported in
    record {
      entries = till.entries ++ m.more;
      lines = till.lines ++ m.lines;
      room = to.room ∙ till.can.room;
      reported =
          subst (λ (d : ℕ). HasReported offset s base d (reported_count u) (said_records items) (till.entries ++ m.more) (text ++ (till.lines ++ m.lines))) (sym to.done)
          (subst (λ (xs : List ℕ). HasReported offset s base t.done (reported_count u) (said_records items) (till.entries ++ m.more) xs) (append_assoc text till.lines m.lines) m.reported);
      appended = m.appended ∙ ap (λ (xs : List ℕ). xs ++ m.lines) till.appended ∙ append_assoc old till.lines m.lines;
      part = subst (λ (d : ℕ). IsPart s.graph (said_records items (base + d)) (till.entries ++ m.more)) (sym to.done) (part_here s base items t.done (till.entries ++ m.more) fed promise (λ k place. m.all k (reports.1 k place) place));
      order = omega (arith, to.done, till.can.order);
      none = λ e. absurd (omega (arith, e, to.done, lt));
    }

pub reported_complete : (offset : ℕ) → (s : Shown) (base : ℕ) (t u v : Reporting) (items : List Item) (begun sealed : ℕ) (text old mid next new : List ℕ) → HasReportedTill offset s base t items begun sealed text old mid → ReportsOpen offset s base t u mid next → IsAllFed s base items → ((p : Program) → RunsProgram p s → KeepsPromise p s)
    → ((k : ℕ) → IsOutputPlace s k → HasPassed s k t.done) → t.done < sealed → new ≡ next ++ complete_line (offset + (base + t.done)) → Completes u v → HasReportedTill offset s base v items begun sealed text old new
reported_complete offset s base t u v items begun sealed text old mid next new till reports fed promise passed lt line nexts =
    let to = reports.2 in
    let m = to.more (said_records items) till.entries (text ++ till.lines) till.can.reported in
    let whole = whole_here s base items t.done (till.entries ++ m.more) fed promise (λ k place. m.all k (reports.1 k place) place) passed in
    let reported = IsReport.reports_whole (base + t.done) (till.entries ++ m.more) ((text ++ till.lines) ++ m.lines) m.reported.reported whole in
    let lines = till.lines ++ (m.lines ++ complete_line (offset + (base + t.done))) in
    let glued : ((text ++ till.lines) ++ m.lines) ++ complete_line (offset + (base + t.done)) ≡ text ++ lines = append_assoc (text ++ till.lines) m.lines (complete_line (offset + (base + t.done))) ∙ append_assoc text till.lines (m.lines ++ complete_line (offset + (base + t.done))) in
    let next_is : base + v.done ≡ base + t.done + 1 = omega (arith, nexts.done, to.done) in
    record {
      entries = [];
      lines = lines;
      can = record {
        room = nexts.room ∙ to.room ∙ till.can.room;
        reported = record {
          reported = subst (λ (d : ℕ). IsReport offset s.graph (said_records items) d [] (text ++ lines)) (sym next_is) (subst (λ (xs : List ℕ). IsReport offset s.graph (said_records items) (base + t.done + 1) [] xs) glued reported);
          within = λ k. omega (arith, nexts.none k);
          first = λ k. ap (λ (n : ℕ). joined (take n (batches_of s k v.done))) (sym (nexts.none k));
        };
        order = omega (arith, next_is, lt);
        none = λ e. refl;
      };
      appended = line ∙ ap (λ (xs : List ℕ). xs ++ complete_line (offset + (base + t.done))) (m.appended ∙ ap (λ (xs : List ℕ). xs ++ m.lines) till.appended) ∙ append_assoc (old ++ till.lines) m.lines (complete_line (offset + (base + t.done))) ∙ append_assoc old till.lines (m.lines ++ complete_line (offset + (base + t.done)));
    }

pub reported_all : (offset : ℕ) → (s : Shown) (base : ℕ) (t : Reporting) (items : List Item) (begun sealed : ℕ) (text old new : List ℕ) → HasReportedTill offset s base t items begun sealed text old new → begun ≤ t.done → sealed ≤ begun → HasAnswered offset s base t items begun sealed text old new
reported_all offset s base t items begun sealed text old new till le order =
    let none : till.entries ≡ [] = till.can.none (omega (arith, le, order, till.can.order)) in
    record {
      entries = till.entries;
      lines = till.lines;
      room = till.can.room;
      reported = till.can.reported;
      appended = till.appended;
      part = subst (IsPart s.graph (said_records items (base + t.done))) (sym none) (part_nothing s.graph (said_records items (base + t.done)));
      order = till.can.order;
      none = till.can.none;
    }

-- ---- what may be written

-- after the first outputs no more was written than was emitted
pub within_output : (offset : ℕ) → (s : Shown) (base : ℕ) (t u : Reporting) (k : ℕ) (label old new : List ℕ) → ReportsOutput offset s base t u k label old new → IsWithin s t → IsWithin s u
within_output offset s base t u k label old new one before j =
    let same = ap (λ (d : ℕ). length (batches_of s j d)) one.done in
    elim (eqb_tells j k) [
      | inl here ↦ subst (λ (i : ℕ). reported_count u i ≤ length (batches_of s i u.done)) (sym here.1) (let size = ap (λ (d : ℕ). length (batches_of s k d)) one.done in omega (arith, one.here, size))
      | inr other ↦ omega (arith, one.others j other.1, before j, same)
    ]
