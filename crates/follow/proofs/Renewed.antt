-- A new board when an epoch has just begun, and all before it are complete.
use Rattle.std.proofs.Common.{◌≡◌, ◌≤◌, ◌+◌, ◌-◌, ◌∙◌, ℕ, Bool, true, false, List, [], ◌∷◌, ◌++◌, length, map, cond, take, refl, sym, ap, subst, arith, inl, inr, eq-eqb, slice_index_or}
use Rattle.std.specs.Prelude.{◌==◌, ◌&&◌, if◌then◌else◌, Option}
use Rattle.std.proofs.lemmas.Bool.Decides.{eqb_tells}
use Rattle.std.proofs.lemmas.List.{length-append, nil_from_length}
use Rattle.semantics.specs.Multiset.{Record}
use Rattle.semantics.proofs.MultisetSums.{≈-from}
use Rattle.semantics.specs.Graph.{output_numbers}
use Rattle.graph.specs.Shown.{GraphValue, shown_graph}
use Rattle.machine.specs.World.{opening}
use Rattle.rows.specs.FlatRows.{RowList, joined}
use Rattle.board.specs.Shown.{Shown}
use Rattle.board.specs.Showing.{Shows}
use Rattle.board.specs.Promises.{IsOpening}
use Rattle.collector.specs.Lines.{Item}
use Rattle.collector.specs.InputText.{epochs_after, records_in}
use Rattle.collector.proofs.LinesRead.{epoch_push, epochs_push}
use Rattle.follow.specs.Entries.{Entry, records_of}
use Rattle.follow.specs.Follows.{IsReport, said_records}
use Rattle.alone.proofs.Moved.{opening_ready}
use Rattle.follow.specs.Scenes.{IsWritten, batches_of, declared_arities, missing, no_rows, reported_count, waiting}
use Rattle.follow.specs.Steps.{EndsInEpoch}
use Rattle.follow.specs.declared.intake.Intake.{Intake}
use Rattle.follow.specs.declared.reporting.Reporting.{Reporting}
use Rattle.follow.proofs.Fed.{nothing_waits}
use Rattle.follow.proofs.Reported.{part_nothing}

-- ---- epochs of which nothing was said

more_begin : (n : ℕ) (items : List Item) → n ≤ epochs_after n items
more_begin n [] = omega arith
more_begin n (Item.epoch ∷ items) = let l = more_begin (n + 1) items in omega (arith, l)
more_begin n (Item.row j zs ∷ items) = more_begin n items

not_here : (a b : Bool) (xs ys : List Record) → b ≡ false → (if a && b then xs else ys) ≡ ys
not_here true true xs ys e = absurd cc
not_here true false xs ys e = refl
not_here false b xs ys e = refl

unsaid : (e i n : ℕ) (items : List Item) → epochs_after n items ≤ e → records_in e i n items ≡ []
unsaid e i n [] le = refl
unsaid e i n (Item.epoch ∷ items) le = unsaid e i (n + 1) items le
unsaid e i n (Item.row j zs ∷ items) le = elim (eqb_tells (e + 1) n) [
  | inl same ↦ absurd (let l = more_begin n items in omega (arith, l, le, same.1))
  | inr other ↦ not_here (i == j) (e + 1 == n) (zs ∷ records_in e i n items) (records_in e i n items) other.0 ∙ unsaid e i n items le
]

unsaid_last : (items : List Item) (e i : ℕ) → EndsInEpoch items → epochs_after 0 items ≤ e + 1 → said_records items e i ≡ []
unsaid_last items e i ends le =
    let size = epochs_push 0 ends.0 Item.epoch in
    let same = ap (epochs_after 0) ends.1 in
    ap (λ (xs : List Item). records_in e i 0 xs) ends.1 ∙ epoch_push e i 0 ends.0 ∙ unsaid e i 0 ends.0 (omega (arith, size, same, le))

-- ---- nothing waits, and nothing was written

second_nothing : (xs ys : List Record) → xs ++ ys ≡ [] → ys ≡ []
second_nothing xs ys e = nil_from_length ys (omega (arith, ap length e, length-append xs ys))

no_entries : (entries : List Entry) → ((k : ℕ) → records_of k entries ≡ []) → entries ≡ []
no_entries [] none = refl
no_entries (entry ∷ entries) none =
    let own = eq-eqb entry.0 entry.0 refl in
    let one : entry.1 ∷ records_of entry.0 entries ≡ [] = ap (λ t. cond t (entry.1 ∷ records_of entry.0 entries) (records_of entry.0 entries)) (sym own) ∙ none entry.0 in
    absurd cc

pub renewed : (offset : ℕ) → (g : GraphValue) (workers : ℕ) (s t : Shown) (base last base2 : ℕ) (x y : Intake) (u v : Reporting) (bytes pending : List ℕ) (start now : Option (List ℕ)) → IsOpening g workers t → Shows t opening → y.begun ≡ 1 → y.line ≡ x.line → y.portion.items ≡ x.portion.items → length v.reported.items ≡ length u.reported.items → v.done ≡ 0 → ((k : ℕ) → reported_count u k ≡ 0)
    → ((k : ℕ) → reported_count v k ≡ 0) → u.done ≡ last → x.begun ≡ last + 1 → base2 ≡ base + last → (w : IsWritten offset g s base x u bytes pending start now) → EndsInEpoch w.known.items → IsWritten offset g t base2 y v bytes pending start now
renewed offset g workers s t base last base2 x y u v bytes pending start now opens shows one line portion same_room zero fresh_last fresh done begun moved w ends =
    let k = w.known in
    record {
      known = record {
        lines = k.lines;
        items = k.items;
        entries = [];
        text = k.text;
        graph = opens.graph;
        taken = record {
          fed = record {
            live = (opening, shows);
            ready = opening_ready g workers t opens;
            fits = ap (λ xs. map (λ (r : RowList). r.arity) xs) portion ∙ k.taken.fed.fits ∙ ap declared_arities (k.graph ∙ sym opens.graph);
            start = λ none. absurd (omega (arith, none, one));
            begun = omega (arith, one, begun, moved, k.taken.fed.begun);
            order = λ i e. [];
            alike = λ i e. ≈-from (sym (shows.fed i e));
            fed = λ i e. nothing_waits y i e (empty i) refl ∙ sym (unsaid_last k.items (base2 + e) i ends (omega (arith, begun, moved, k.taken.fed.begun)));
            opened = λ i lt. sym (shows.open_epoch i) ∙ (let z : 0 ≡ y.begun - 1 = omega (arith, one) in z);
            none = λ none. absurd (omega (arith, none, one));
          };
          parts = k.taken.parts;
          said = k.taken.said;
          counted = line ∙ k.taken.counted;
        };
        reported = record {
          reported = subst (λ (h : GraphValue). IsReport offset h (said_records k.items) (base2 + v.done) [] k.text) (k.graph ∙ sym opens.graph)
              (subst (λ (n : ℕ). IsReport offset s.graph (said_records k.items) n [] k.text) number (subst (λ (es : List Entry). IsReport offset s.graph (said_records k.items) (base + u.done) es k.text) nothing k.reported.reported));
          within = λ j. omega (arith, fresh j);
          first = λ j. ap (λ (n : ℕ). joined (take n (batches_of t j v.done))) (sym (fresh j));
        };
        part = part_nothing g (said_records k.items (base2 + v.done));
        room = same_room ∙ k.room ∙ ap (λ (h : GraphValue). length (output_numbers (shown_graph h))) (k.graph ∙ sym opens.graph);
        sealed = omega (arith, zero);
        none = λ e. refl;
      };
      written = w.written;
    }
  where
    number : base + u.done ≡ base2 + v.done
    number = omega (arith, done, moved, zero)

    nothing : w.known.entries ≡ []
    nothing = no_entries w.known.entries (λ j. w.known.reported.first j ∙ ap (λ (n : ℕ). joined (take n (batches_of s j u.done))) (fresh_last j))

    waits_same : (i : ℕ) → waiting y i ≡ waiting x i
    waits_same i = ap (λ xs. (slice_index_or xs i no_rows).rows) portion

    empty : (i : ℕ) → waiting y i ≡ []
    empty i =
        let none = unsaid_last w.known.items (base + last) i ends (omega (arith, begun, w.known.taken.fed.begun)) in
        let missed : missing x i last ≡ [] = second_nothing (w.known.taken.fed.order i last) (missing x i last) (w.known.taken.fed.fed i last ∙ none) in
        let here = eq-eqb (last + 1) x.begun (sym begun) in
        waits_same i ∙ ap (λ t. cond t (waiting x i) []) (sym here) ∙ missed
