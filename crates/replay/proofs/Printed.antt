-- What a question prints.
use Rattle.std.proofs.Common.{◌≡◌, ◌≢◌, ◌⊎◌, inl, inr, ◌<◌, ◌≤◌, ◌+◌, ◌==◌, ◌∙◌, ℕ, List, [], ◌∷◌, ◌++◌, length, map, take, get_or, Bool, true, false, refl, sym, ap, subst, append_assoc, arith}
use Rattle.std.specs.Prelude.{IsTrue, cond, slice_index_or, ◌↔◌}
use Rattle.std.specs.List.{flat_map}
use Rattle.std.proofs.lemmas.Bool.{cases_lt}
use Rattle.std.proofs.lemmas.Bool.Decides.{eqb_tells}
use Rattle.std.proofs.lemmas.List.Sorted.{IsPermutation-trans}
use Rattle.std.proofs.lemmas.List.{append-nil, get_or-map, length-map, length-take, take_all, take_more}
use Rattle.semantics.specs.Multiset.{Record, IsPartOf, ◌≈◌}
use Rattle.semantics.proofs.MultisetSums.{≈-sym, ≈-trans}
use Rattle.semantics.proofs.Permutations.{permutation_from_same}
use Rattle.semantics.specs.Query.{Name, Program}
use Rattle.semantics.specs.Meaning.{program_meaning}
use Rattle.semantics.specs.Graph.{output_number, output_numbers}
use Rattle.semantics.proofs.LoweredDataflow.{lowered_outputs}
use Rattle.graph.specs.Shown.{shown_graph, shown_names}
use Rattle.graph.specs.Views.{name_of_output}
use Rattle.graph.specs.declared.graph.GraphOutput.{GraphOutput}
use Rattle.machine.specs.World.{World}
use Rattle.machine.specs.Headline.{meant}
use Rattle.rows.specs.FlatRows.{joined}
use Rattle.board.specs.Shown.{Shown, emitted_by}
use Rattle.board.specs.Showing.{Shows}
use Rattle.board.specs.Lateness.{BoardShown, CallsPassed, IsUpToDate}
use Rattle.board.specs.Promises as promises
use Rattle.board.specs.Promises.{HasPassed, Headline, IsOutputPlace, RunsProgram, emitted_at, meant_of}
use Rattle.board.proofs.Promised.{part_alike}
use Rattle.collector.specs.OutputText.{AppendsSorted, IsInOrder, is_plain, label_of, record_line}
use Rattle.replay.specs.Replays.{HasWord, Setting, after_saying, heading, IsGraphOf, KeepsPromise, PrintsFrom, PrintsOutput, answer_of}
use Rattle.replay.specs.Steps.{Says, SaysOne, ShowsState, setting_of, word_of}
use Rattle.replay.specs.Waits.{State, TellsMore, Told}
use Rattle.replay.proofs.Passing.{passed_same}
use Rattle.replay.proofs.Waiting.{KnowsWaits, up_to_date}

at_output : (late : Bool) (s : Shown) (w : World) (k epoch : ℕ) → Shows s w → answer_of (setting_of late s) w k epoch ≈ emitted_at s k epoch
at_output late s w k epoch shows = shows.emitted (output_number (shown_graph s.graph) k) epoch

meant_same : (s : Shown) (w : World) (k epoch : ℕ) (p : Program) → Shows s w → meant_of p s k epoch ≡ meant p w k epoch
meant_same s w k epoch p shows = λ j. program_meaning p k (λ i. (sym (shows.fed i epoch)) j)

promise_kept : (late : Bool) (s : Shown) (w : World) (k epoch : ℕ) (p : Program) → Shows s w → Headline p s k epoch → KeepsPromise (setting_of late s) w k epoch p
promise_kept late s w k epoch p shows headline = record {
  part = part_alike (≈-sym (at_output late s w k epoch shows)) (subst (λ ys. IsPartOf (emitted_at s k epoch) ys) (meant_same s w k epoch p shows) headline.part);
  whole = λ passed. ≈-trans (at_output late s w k epoch shows) (subst (λ ys. emitted_at s k epoch ≈ ys) (meant_same s w k epoch p shows) (headline.whole (λ v sv. passed_same s w v (output_number (shown_graph s.graph) k) epoch shows sv passed)));
}

-- a list of records in order is the same for equal multisets
in_order_alike : {xs ys : List Record} (rows : List Record) → xs ≈ ys → IsInOrder ys rows → IsInOrder xs rows
in_order_alike {xs} {ys} rows e h = record { permutation = IsPermutation-trans xs ys rows (permutation_from_same xs ys e) h.permutation; ascending = h.ascending }

-- what worker 0 sees as passed has passed; and it sees all that has passed, if it sees everything that was posted
pub record IsSeenRight (b : BoardShown) (k epoch : ℕ) (seen : Bool) : Type 0 where
  pub called : IsTrue seen ↔ CallsPassed b k epoch
  pub passed : IsTrue seen → HasPassed b.shown k epoch
  pub all : IsUpToDate b 0 → HasPassed b.shown k epoch → IsTrue seen

-- the word that is printed
word_told : (late : Bool) (b : BoardShown) (x : State) (k epoch : ℕ) (seen : Bool) → KnowsWaits late b → ShowsState b x → IsSeenRight b k epoch seen → x.told k epoch ≡ seen → HasWord (setting_of late b.shown) x k epoch (word_of seen)
word_told late b x k epoch true knows shows right said = HasWord.has_passed said (right.passed refl x.world shows.world)
word_told late b x k epoch false knows shows right said =
    HasWord.is_open said (λ sees passed. let t : false ≡ true = right.all (up_to_date late b x 0 knows shows sees) (λ v sv. passed_same b.shown x.world v (output_number (shown_graph b.shown.graph) k) epoch shows.world sv passed) in absurd cc)

-- an output of the board is an output of each program that it runs
place_in : (late : Bool) (s : Shown) (k : ℕ) (p : Program) → IsOutputPlace s k → IsGraphOf (setting_of late s) p → k < length p.outputs
place_in late s k p there is = let n = lowered_outputs p in let m = ap (λ g. length (output_numbers g)) is.graph in omega (arith, there, n, m)

pub printed : (late : Bool) (b : BoardShown) (k epoch : ℕ) (seen : Bool) (label text : List ℕ) (rows : List Record) → IsOutputPlace b.shown k → KnowsWaits late b → IsSeenRight b k epoch seen → ((p : Program) → RunsProgram p b.shown → promises.KeepsPromise p b.shown)
    → IsInOrder (emitted_at b.shown k epoch) rows → text ≡ heading epoch label (word_of seen) ++ flat_map record_line rows → SaysOne late b k epoch label text
printed late b k epoch seen label text rows there knows right headline ordered lines = record { seen = seen; right = right.called; prints = prints }
  where
    prints : (x : State) → ShowsState b x → x.told k epoch ≡ seen → PrintsOutput (setting_of late b.shown) x epoch k label text
    prints x shows said = record {
      word = word_of seen;
      says = word_told late b x k epoch seen knows shows right said;
      rows = rows;
      ordered = in_order_alike rows (at_output late b.shown x.world k epoch shows.world) ordered;
      lines = lines;
      promise = λ p graph_of. promise_kept late b.shown x.world k epoch p shows.world (headline p (record { arities = graph_of.arities; typed = graph_of.typed; graph = graph_of.graph }) k epoch (place_in late b.shown k p there graph_of));
    }

-- the heading, and the records in order
pub printed_text : (late : Bool) (b : BoardShown) (k epoch : ℕ) (seen : Bool) (label out after new : List ℕ) (batches : List (List Record)) → IsOutputPlace b.shown k → KnowsWaits late b → IsSeenRight b k epoch seen
    → ((p : Program) → RunsProgram p b.shown → promises.KeepsPromise p b.shown) → after ≡ out ++ heading epoch label (word_of seen) → batches ≡ slice_index_or (emitted_by b.shown.emitted (output_number (shown_graph b.shown.graph) k)) epoch []
    → AppendsSorted after new (joined batches) → (text : List ℕ) × (new ≡ out ++ text) × SaysOne late b k epoch label text
printed_text late b k epoch seen label out after new batches there knows right headline e all sorted = (
  heading epoch label (word_of seen) ++ flat_map record_line sorted.rows,
  sorted.appended ∙ ap (λ (xs : List ℕ). xs ++ flat_map record_line sorted.rows) e ∙ append_assoc out (heading epoch label (word_of seen)) (flat_map record_line sorted.rows),
  printed late b k epoch seen label (heading epoch label (word_of seen) ++ flat_map record_line sorted.rows) sorted.rows there knows right headline (subst (λ xs. IsInOrder xs sorted.rows) (ap joined all) sorted.ordered) refl,
)

-- the texts of the outputs before a place, and of which of them it says that the epoch has passed
abbrev pub PrintedSoFar : (late : Bool) (b : BoardShown) (names : List Name) (place epoch : ℕ) (start new : List ℕ) → Type 0
PrintedSoFar late b names place epoch start new =
    (text : List ℕ) × (new ≡ start ++ text) × (seen : ℕ → Bool) × ((k : ℕ) → k < place → IsTrue (seen k) ↔ CallsPassed b k epoch)
    × ((x : State) → ShowsState b x → ((k : ℕ) → k < place → x.told k epoch ≡ seen k) → PrintsFrom (setting_of late b.shown) x epoch (take place names) 0 text)

pub nothing_printed : (late : Bool) (b : BoardShown) (names : List Name) (epoch : ℕ) (start : List ℕ) → PrintedSoFar late b names 0 epoch start start
nothing_printed late b names epoch start = ([], sym (append-nil start), (λ k. false), (λ k l. absurd (omega (arith, l))), λ x shows said. refl)

-- one more output
prints_more : (s : Setting) (x : State) (epoch : ℕ) (names : List Name) (k : ℕ) (name : Name) (text more : List ℕ) → PrintsFrom s x epoch names k text → PrintsOutput s x epoch (k + length names) (label_of (is_plain s.outputs) name) more → PrintsFrom s x epoch (names ++ name ∷ []) k (text ++ more)
prints_more s x epoch [] k name text more p q =
    let at : k + 0 ≡ k = omega arith in
    (more, [], subst (λ (n : ℕ). PrintsOutput s x epoch n (label_of (is_plain s.outputs) name) more) at q, refl, rw p (sym (append-nil more)))
prints_more s x epoch (first ∷ names) k name text more p q =
    let at : k + length (first ∷ names) ≡ k + 1 + length names = omega arith in
    let rest = prints_more s x epoch names (k + 1) name p.1 more p.3 (subst (λ (n : ℕ). PrintsOutput s x epoch n (label_of (is_plain s.outputs) name) more) at q) in
    (p.0, p.1 ++ more, p.2, rest, ap (λ (t : List ℕ). t ++ more) p.4 ∙ append_assoc p.0 p.1 more)

pub printed_more : (late : Bool) (b : BoardShown) (names : List Name) (place epoch : ℕ) (name : Name) (start so_far new : List ℕ) → names ≡ shown_names b.shown.graph → place < length names → name ≡ get_or names place name → PrintedSoFar late b names place epoch start so_far
    → (text : List ℕ) × (new ≡ so_far ++ text) × SaysOne late b place epoch (label_of (is_plain names) name) text → PrintedSoFar late b names (place + 1) epoch start new
printed_more late b names place epoch name start so_far new all lt is p q = (
  p.0 ++ q.0,
  q.1 ∙ ap (λ (t : List ℕ). t ++ q.0) p.1 ∙ append_assoc start p.0 q.0,
  seen,
  right,
  λ x shows said.
      let size : place ≡ 0 + length (take place names) = omega (arith, length-take place names) in
      let one = subst (λ (ns : List Name). PrintsOutput (setting_of late b.shown) x epoch place (label_of (is_plain ns) name) q.0) all (q.2.prints x shows (said place (omega arith) ∙ here)) in
      let both = prints_more (setting_of late b.shown) x epoch (take place names) 0 name p.0 q.0 (p.4 x shows (λ k l. said k (omega (arith, l)) ∙ before k l)) (subst (λ (n : ℕ). PrintsOutput (setting_of late b.shown) x epoch n (label_of (is_plain (shown_names b.shown.graph)) name) q.0) size one) in
      subst (λ (ns : List Name). PrintsFrom (setting_of late b.shown) x epoch ns 0 (p.0 ++ q.0)) (sym (take_more names place name lt ∙ ap (λ n. take place names ++ n ∷ []) (sym is))) both,
)
  where
    seen : ℕ → Bool
    seen k = cond (k == place) q.2.seen (p.2 k)

    here : seen place ≡ q.2.seen
    here = elim (eqb_tells place place) [
      | inl same ↦ ap (λ (t : Bool). cond t q.2.seen (p.2 place)) same.0
      | inr other ↦ absurd (other.1 refl)
    ]

    before : (k : ℕ) → k < place → seen k ≡ p.2 k
    before k l = elim (eqb_tells k place) [
      | inl same ↦ absurd (let e = same.1 in omega (arith, l, e))
      | inr other ↦ ap (λ (t : Bool). cond t q.2.seen (p.2 k)) other.0
    ]

    right : (k : ℕ) → k < place + 1 → IsTrue (seen k) ↔ CallsPassed b k epoch
    right k l = elim (eqb_tells k place) [
      | inl same ↦ subst (λ (t : Bool). IsTrue (cond t q.2.seen (p.2 k)) ↔ CallsPassed b k epoch) (sym same.0) (subst (λ (n : ℕ). IsTrue q.2.seen ↔ CallsPassed b n epoch) (sym same.1) q.2.right)
      | inr other ↦ subst (λ (t : Bool). IsTrue (cond t q.2.seen (p.2 k)) ↔ CallsPassed b k epoch) (sym other.0) (p.3 k (let ne = other.1 in omega (arith, l, ne)))
    ]

-- one more output of a graph
pub output_more : (late : Bool) (b : BoardShown) (outputs : List GraphOutput) (place epoch : ℕ) (o : GraphOutput) (plain : Bool) (start so_far new : List ℕ) → map name_of_output outputs ≡ shown_names b.shown.graph → place < length outputs → o ≡ get_or outputs place o → plain ≡ is_plain (map name_of_output outputs)
    → PrintedSoFar late b (shown_names b.shown.graph) place epoch start so_far → (text : List ℕ) × (new ≡ so_far ++ text) × SaysOne late b place epoch (label_of plain (name_of_output o)) text
    → PrintedSoFar late b (shown_names b.shown.graph) (place + 1) epoch start new
output_more late b outputs place epoch o plain start so_far new same lt is at p q =
    let there : place < length (shown_names b.shown.graph) = (let n = length-map outputs name_of_output in let m = ap length same in omega (arith, lt, n, m)) in
    let name : name_of_output o ≡ get_or (shown_names b.shown.graph) place (name_of_output o) =
    ap name_of_output is ∙ sym (get_or-map name_of_output outputs place o (name_of_output o) lt) ∙ ap (λ ns. get_or ns place (name_of_output o)) same in
    let label : plain ≡ is_plain (shown_names b.shown.graph) = at ∙ ap is_plain same in
    printed_more late b (shown_names b.shown.graph) place epoch (name_of_output o) start so_far new refl there name p
    (q.0, q.1, subst (λ (is : Bool). SaysOne late b place epoch (label_of is (name_of_output o)) q.0) label q.2)

-- ---- all outputs

by_place : {A B : Type 0} → A ⊎ B → (seen before : Bool) → Bool
by_place (inl a) seen before = seen
by_place (inr b) seen before = before

-- what is said after a question, by what its text says of the outputs before a place
module _ (b : BoardShown) (place epoch : ℕ) (seen : ℕ → Bool) (right : (k : ℕ) → k < place → IsTrue (seen k) ↔ CallsPassed b k epoch) (x : State) (shows : ShowsState b x) where
  told_at : (k e : ℕ) → (k < place) ⊎ (place ≤ k) → Bool
  told_at k e c = cond (e == epoch) (by_place c (seen k) (x.told k e)) (x.told k e)

  told_now : Told
  told_now k e = told_at k e (cases_lt k place)

  told_more : TellsMore x.told told_now
  unfolding told_at by_place told_now
  told_more k e was = go (cases_lt k place) (eqb_tells e epoch)
    where
      go : (c : (k < place) ⊎ (place ≤ k)) → ((e == epoch) ≡ true) × (e ≡ epoch) ⊎ ((e == epoch) ≡ false) × (e ≢ epoch) → told_at k e c ≡ true
      go (inl l) (inl same) = ap (λ (t : Bool). cond t (seen k) (x.told k e)) same.0 ∙ (right k l).1 (subst (λ (n : ℕ). CallsPassed b k n) same.1 (shows.told k e was))
      go (inr l) (inl same) = ap (λ (t : Bool). cond t (x.told k e) (x.told k e)) same.0 ∙ was
      go c (inr other) = ap (λ (t : Bool). cond t (by_place c (seen k) (x.told k e)) (x.told k e)) other.0 ∙ was

  told_right : (k e : ℕ) → told_now k e ≡ true → CallsPassed b k e
  unfolding told_at by_place told_now
  told_right k e now = go (cases_lt k place) (eqb_tells e epoch) now
    where
      go : (c : (k < place) ⊎ (place ≤ k)) → ((e == epoch) ≡ true) × (e ≡ epoch) ⊎ ((e == epoch) ≡ false) × (e ≢ epoch) → told_at k e c ≡ true → CallsPassed b k e
      go (inl l) (inl same) now = subst (λ (n : ℕ). CallsPassed b k n) (sym same.1) ((right k l).0 (sym (ap (λ (t : Bool). cond t (seen k) (x.told k e)) same.0) ∙ now))
      go (inr l) (inl same) now = shows.told k e (sym (ap (λ (t : Bool). cond t (x.told k e) (x.told k e)) same.0) ∙ now)
      go c (inr other) now = shows.told k e (sym (ap (λ (t : Bool). cond t (by_place c (seen k) (x.told k e)) (x.told k e)) other.0) ∙ now)

  told_here : (k : ℕ) → k < place → told_now k epoch ≡ seen k
  unfolding told_at by_place told_now
  told_here k l = go (cases_lt k place) (eqb_tells epoch epoch)
    where
      go : (c : (k < place) ⊎ (place ≤ k)) → ((epoch == epoch) ≡ true) × (epoch ≡ epoch) ⊎ ((epoch == epoch) ≡ false) × (epoch ≢ epoch) → told_at k epoch c ≡ seen k
      go (inl m) (inl same) = ap (λ (t : Bool). cond t (seen k) (x.told k epoch)) same.0
      go (inr m) s = absurd (omega (arith, l, m))
      go (inl m) (inr other) = absurd (other.1 refl)

pub all_printed : (late : Bool) (b : BoardShown) (place epoch : ℕ) (start new : List ℕ) → length (shown_names b.shown.graph) ≤ place → PrintedSoFar late b (shown_names b.shown.graph) place epoch start new
    → (text : List ℕ) × (new ≡ start ++ text) × ((x : State) → ShowsState b x → Says late b epoch text x)
all_printed late b place epoch start new end p = (p.0, p.1, says)
  where
    says : (x : State) → ShowsState b x → Says late b epoch p.0 x
    says x shows =
        let told = told_now b place epoch p.2 p.3 x shows in
        let then : ShowsState b (after_saying x told) = record { world = shows.world; waits = shows.waits; told = told_right b place epoch p.2 p.3 x shows } in
        record {
          told = told;
          more = told_more b place epoch p.2 p.3 x shows;
          shows = then;
          prints = subst (λ ns. PrintsFrom (setting_of late b.shown) (after_saying x told) epoch ns 0 p.0) (take_all place (shown_names b.shown.graph) end) (p.4 (after_saying x told) then (told_here b place epoch p.2 p.3 x shows));
        }
