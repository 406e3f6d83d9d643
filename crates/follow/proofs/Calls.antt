-- What several calls do together.
use Rattle.std.proofs.Common.{◌≡◌, ◌<◌, ◌≤◌, ◌-◌, ◌∙◌, ◌++◌, All, ℕ, List, [], length, map, refl, sym, ap, subst, arith, inl, get_or}
use Rattle.std.specs.Prelude.{Bool, true, false, Option, Some, None, Result, Ok, Err, OnOk, IfOk, IfNone, if◌then◌else◌, is_err, is_ok, is_some, not, slice_index_or}
use Rattle.std.proofs.Math.ListN.{get_or-append}
use Rattle.std.proofs.lemmas.List.{get_or-map, length-append}
use Rattle.semantics.specs.Graph.{input_count, output_numbers}
use Rattle.graph.specs.Shown.{GraphValue, shown_graph, shown_names}
use Rattle.graph.specs.Views.{name_of_output}
use Rattle.graph.specs.declared.graph.GraphOutput.{GraphOutput}
use Rattle.board.specs.Promises.{HasPassed, HasPassedAtAll}
use Rattle.board.specs.Shown.{Shown}
use Rattle.collector.specs.Lines.{Item}
use Rattle.collector.specs.OutputText.{is_plain, label_of}
use Rattle.follow.specs.Entries.{Entry}
use Rattle.follow.specs.Follows.{said_records}
use Rattle.follow.specs.Working.{IsWorkedOff}
use Rattle.alone.specs.Scenes.{AreFree, Closes, Grows, IsLive, IsReady, Works}
use Rattle.follow.specs.Scenes.{IsFedSo, reported_count}
use Rattle.follow.specs.Steps.{AnswersLast, AnswersOpen, CanReport, FeedsPortion, HasAnswered, MayAnswer, MayReport, Reports}
use Rattle.follow.specs.declared.intake.Intake.{Intake}
use Rattle.follow.specs.declared.reporting.Reporting.{Reporting}
use Rattle.follow.proofs.Fed.{all_fed, all_worked, worked}
use Rattle.alone.proofs.Moved.{grows_on}
use Rattle.follow.proofs.Reported.{report_later}

pub on_ok : {T E A B : Type 0} (r : Result T E) → (A → B) → OnOk r A → OnOk r B
on_ok (Ok t) f h = f h
on_ok (Err e) f h = tt

-- what the Ok of a call says, if it was Ok
pub ok_of : {T E A : Type 0} (r : Result T E) (t : T) → r ≡ Ok t → OnOk r A → A
ok_of (Ok u) t is h = h
ok_of (Err e) t is h = absurd cc

-- what holds of all elements holds of the first ones
pub All-front : {X : Type 0} (P : X → Type 0) (xs ys : List X) → All P (xs ++ ys) → All P xs
All-front P xs ys all = λ k d lt. subst P (get_or-append xs ys d k lt) (all k d (omega (arith, lt, length-append xs ys)))

pub if_ok_of : {T E : Type 0} (P : T → Type 0) (r : Result T E) (t : T) → r ≡ Ok t → IfOk r P → P t
if_ok_of P (Ok u) t is h = subst P (let e : u ≡ t = cc in e) h
if_ok_of P (Err e) t is h = absurd cc

pub both_ok : {T E : Type 0} {P Q S : T → Type 0} (r : Result T E) → ((t : T) → P t → Q t → S t) → IfOk r P → IfOk r Q → IfOk r S
both_ok (Ok t) f p q = f t p q
both_ok (Err e) f p q = tt

-- an output's label
pub label_at : (g : GraphValue) (outputs : List GraphOutput) (k : ℕ) (x : GraphOutput) (is_alone : _) → map name_of_output outputs ≡ shown_names g → k < length outputs → x ≡ get_or outputs k x → is_alone ≡ is_plain (map name_of_output outputs)
    → label_of is_alone (name_of_output x) ≡ label_of (is_plain (shown_names g)) (slice_index_or (shown_names g) k [])
label_at g outputs k x is_alone names lt is same =
    let name : name_of_output x ≡ slice_index_or (shown_names g) k [] = ap name_of_output is ∙ sym (get_or-map name_of_output outputs k x [] lt) ∙ ap (λ ns. slice_index_or ns k []) names in
    ap (λ b. label_of b (name_of_output x)) (same ∙ ap is_plain names) ∙ ap (label_of (is_plain (shown_names g))) name

-- what was written, after more work
can_later : (offset : ℕ) → (s t : Shown) (base : ℕ) (u : Reporting) (items : List Item) (begun begun2 sealed sealed2 : ℕ) (entries : List Entry) (text : List ℕ) → Grows s t → begun2 ≡ begun → sealed2 ≡ sealed → CanReport offset s base u items begun sealed entries text → CanReport offset t base u items begun2 sealed2 entries text
can_later offset s t base u items begun begun2 sealed sealed2 entries text grows b c can = record {
  room = can.room ∙ sym (ap (λ (g : GraphValue). length (output_numbers (shown_graph g))) grows.graph);
  reported = report_later offset s t base u.done (reported_count u) (said_records items) (said_records items) entries text can.reported grows (λ e i lt. refl);
  order = omega (arith, can.order, c);
  none = λ e. can.none (e ∙ b);
}

reported_at : (offset : ℕ) → (s : Shown) (base : ℕ) (u : Reporting) (items : List Item) (begun begun2 sealed sealed2 : ℕ) (text old new : List ℕ) → begun2 ≡ begun → sealed2 ≡ sealed → HasAnswered offset s base u items begun2 sealed2 text old new → HasAnswered offset s base u items begun sealed text old new
reported_at offset s base u items begun begun2 sealed sealed2 text old new b c reported = subst (λ n. HasAnswered offset s base u items n sealed text old new) b (subst (λ n. HasAnswered offset s base u items begun2 n text old new) c reported)

pub so_fed : (offset : ℕ) → (base : ℕ) (s : Shown) (x : Intake) (u : Reporting) (sealed : ℕ) → MayAnswer offset s base x u sealed → IsFedSo s x
so_fed offset base s x u sealed (items, entries, text, f, can) = (base, items, f)

pub ready_later : (offset : ℕ) → (base : ℕ) (s t : Shown) (x y : Intake) (u : Reporting) (sealed : ℕ) → FeedsPortion s t x y → MayAnswer offset s base x u sealed → IsReady t
ready_later offset base s t x y u sealed sent (items, entries, text, f, can) = (sent.fed base items f).0.ready

pub free_later : (offset : ℕ) → (base : ℕ) (s t : Shown) (x y : Intake) (u : Reporting) (sealed : ℕ) → FeedsPortion s t x y → MayAnswer offset s base x u sealed → AreFree t
free_later offset base s t x y u sealed sent may = (ready_later offset base s t x y u sealed sent may).free

-- what was answered before, once what waited was fed and worked off
pub may_later : (offset : ℕ) → (base : ℕ) (s t w : Shown) (x y : Intake) (u : Reporting) (sealed : ℕ) → FeedsPortion s t x y → (IsLive t → Works t w) → sealed ≡ y.begun - 1 → MayAnswer offset s base x u (x.begun - 1) → MayReport offset w base u y.begun sealed
may_later offset base s t w x y u sealed sent works at (items, entries, text, f, can) =
    let g = sent.fed base items f in
    let worked_off = works g.0.live in
    let c : sealed ≡ x.begun - 1 = at ∙ ap (λ n. n - 1) sent.holds.begun in
    (items, entries, text, all_worked t w base items (all_fed t y base items g.0 sent.none) worked_off.grows.live worked_off.fed, omega (arith, at), can_later offset s w base u items x.begun y.begun (x.begun - 1) sealed entries text (grows_on s t w g.1 worked_off.grows) sent.holds.begun c can)

pub goes_by : (offset : ℕ) → (base : ℕ) (s t w : Shown) (x y : Intake) (u v : Reporting) (sealed : ℕ) (start out : List ℕ) → FeedsPortion s t x y → (IsLive t → Works t w) → AreFree w → sealed ≡ y.begun - 1 → start ≡ [] → Reports offset w base u v y.begun sealed start out → AnswersOpen offset base s w x y u v out
unfolding may_later
goes_by offset base s t w x y u v sealed start out sent works free at none reports = λ items entries text f can.
    let g = sent.fed base items f in
    let worked_off = works g.0.live in
    let grows = grows_on s t w g.1 worked_off.grows in
    let c : sealed ≡ x.begun - 1 = at ∙ ap (λ n. n - 1) sent.holds.begun in
    let may = (may_later offset base s t w x y u sealed sent works at (items, entries, text, f, can)) in
    let reported = reports items entries text may.3 may.4 may.5 in
    record {
      graph = grows.graph;
      holds = sent.holds;
      fed = worked t w y base items g.0 worked_off free;
      reported = reported_at offset w base v items x.begun y.begun (x.begun - 1) sealed text [] out sent.holds.begun c (subst (λ xs. HasAnswered offset w base v items y.begun sealed text xs out) none reported);
    }

-- once all inputs are closed and the work is done, every epoch has passed
passed_at_end : (s t u : Shown) → Closes s t (input_count (shown_graph s.graph)) → Works t u → IsWorkedOff u → (k e : ℕ) → HasPassed u k e
passed_at_end s t u closes works off k e = off.passed e (λ i l.
    let same = ap (λ (g : GraphValue). input_count (shown_graph g)) (works.grows.graph ∙ closes.grows.graph) in
    inl (works.closed i ∙ closes.closed i (omega (arith, l, same)))) k

pub may_last : (offset : ℕ) → (base : ℕ) (s t r w : Shown) (x y : Intake) (u : Reporting) → FeedsPortion s t x y → Closes t r (input_count (shown_graph t.graph)) → (IsLive r → Works r w) → MayAnswer offset s base x u x.begun → MayReport offset w base u y.begun y.begun
may_last offset base s t r w x y u sent closes works (items, entries, text, f, can) =
    let g = sent.fed base items f in
    let last = works closes.grows.live in
    let grows = grows_on s t w g.1 (grows_on t r w closes.grows last.grows) in
    (items, entries, text, all_worked t w base items (all_fed t y base items g.0 sent.none) last.grows.live (λ i e. last.fed i e ∙ closes.fed i e), omega arith, can_later offset s w base u items x.begun y.begun x.begun y.begun entries text grows sent.holds.begun sent.holds.begun can)

pub ends_by : (offset : ℕ) → (base : ℕ) (s t r w : Shown) (x y : Intake) (u v : Reporting) (start out : List ℕ) → FeedsPortion s t x y → Closes t r (input_count (shown_graph t.graph)) → (IsLive r → Works r w) → IsWorkedOff w → start ≡ []
    → (((epoch : ℕ) → HasPassedAtAll w epoch) → u.done ≤ y.begun → v.done ≡ y.begun) → Reports offset w base u v y.begun y.begun start out → AnswersLast offset base s w x u v out
unfolding may_last
ends_by offset base s t r w x y u v start out sent closes works off none complete reports = λ items entries text f can.
    let g = sent.fed base items f in
    let last = works closes.grows.live in
    let grows = grows_on s t w g.1 (grows_on t r w closes.grows last.grows) in
    let may = may_last offset base s t r w x y u sent closes works (items, entries, text, f, can) in
    let reported = reports items entries text may.3 may.4 may.5 in
    record {
      graph = grows.graph;
      complete = complete (λ e k place. passed_at_end t r w closes last off k e) (let o = can.order in let b = sent.holds.begun in omega (arith, o, b)) ∙ sent.holds.begun;
      reported = reported_at offset w base v items x.begun y.begun x.begun y.begun text [] out sent.holds.begun sent.holds.begun (subst (λ xs. HasAnswered offset w base v items y.begun y.begun text xs out) none reported);
    }

pub ok_items : {T E : Type 0} (r : Result T E) (b : Bool) (new xs ys : List ℕ) → b ≡ is_err r → b ≡ false → new ≡ (if is_ok r then xs else ys) → new ≡ xs
ok_items (Ok t) b new xs ys e f h = h
ok_items (Err x) b new xs ys e f h = absurd (let p : false ≡ true = sym f ∙ e in cc)

pub none_of : {T A : Type 0} (o : Option T) (b : Bool) → is_some o ≡ not b → b ≡ true → IfNone o A → A
none_of None b e f h = h
none_of (Some x) b e f h = absurd (let p : true ≡ false = e ∙ ap not f in cc)
