-- Inputs by name, and the refusals of calls on them.
use Rattle.std.proofs.Common.{◌≡◌, ◌<◌, ◌≤◌, ◌∙◌, eq-eqb, ℕ, ℤ, List, [], ◌∷◌, length, Option, Some, None, true, false, Bool, cond, refl, sym, ap, subst, arith, inl, inr}
use Rattle.std.specs.Prelude.{slice_get, nat_lt, ◌==◌, Ok, Err}
use Rattle.std.proofs.lemmas.Bool.Decides.{nat_tests}
use Rattle.std.proofs.lemmas.Option.{slice_get_within}
use Rattle.semantics.specs.Multiset.{Record}
use Rattle.semantics.specs.Query.{Input}
use Rattle.rows.specs.FlatRows.{arity_of}
use Rattle.semantics.specs.Graph.{input_count}
use Rattle.graph.specs.Shown.{shown_graph, shown_inputs}
use Rattle.machine.specs.World.{World}
use Rattle.machine.specs.Step.{Step, Allowed, after_step}
use Rattle.events.specs.Jobs.{Pass}
use Rattle.board.specs.Shown.{Shown, input_at, net, tables}
use Rattle.board.specs.Showing.{Shows}
use Rattle.board.specs.Kept.{Goes}
use Rattle.board.specs.Fitting.{arity_in}
use Rattle.board.specs.Answers.{AnswersOr, AnswersOnly, feed_refusal, first, input_refusal, seal_refusal}
use Rattle.board.specs.declared.refusal.StepRefusal.{StepRefusal}
use Rattle.board.specs.declared.refusal.StepRefusal.TheVariants as step
use Rattle.collector.specs.Lines.{IsInput, IsAbsent, MakeRecord}
use Rattle.schedule.specs.Commands.{Command}
use Rattle.replay.specs.Hands.{HoldsAll}
use Rattle.board.specs.Lateness.{BoardShown, KeepsCalled, Posts, PostsSome}
use Rattle.replay.specs.Replays.{Does, RefusesFeed, RefusesInput, RefusesSeal, after_posting, refusal_line}
use Rattle.driver.specs.Inputs.{AreInputsOf}
use Rattle.replay.specs.Steps.{Answers, IsNumbered, Leads, ShowsState, ShowsWaits, Stays, refusal_of, setting_of}
use Rattle.replay.specs.Waits.{State, Waits, kind_of, posted}
use Rattle.replay.specs.declared.refusal.Refusal.{Refusal}
use Rattle.replay.specs.declared.refusal.Refusal.TheVariants as refusal
use Rattle.replay.proofs.Holding.{hold_same}
use Rattle.replay.proofs.Waiting.{feed_called, feed_posts, shows_posted}

abbrev Hand : Type 0
Hand = List (Option Pass)

pub stays_same : (s t : Shown) → t ≡ s → Stays s t
stays_same s t e = record { graph = ap (λ (x : Shown). x.graph) e; workers = ap (λ (x : Shown). length x.sides) e; tables = ap tables e }

-- a refused line leaves the state as it was
pub refused_leads : (late : Bool) (b c : BoardShown) (hand : Hand) (command : Command) (text : List ℕ) → c ≡ b → ((x : State) → ShowsState b x → HoldsAll x.world (length b.shown.sides) hand → Does (setting_of late b.shown) x command x text)
    → Leads late b c hand hand command text
refused_leads late b c hand command text e does = record {
  stays = stays_same b.shown c.shown (ap (λ (x : BoardShown). x.shown) e);
  led = λ x shows holds. record { after = x; shows = subst (λ (y : BoardShown). ShowsState y x) (sym e) shows; hand_after = holds; does = does x shows holds };
}

pub refused_answers : (late : Bool) (b c : BoardShown) (hand : Hand) (command : Command) (e : Refusal) → c ≡ b
    → ((code : ℕ) → e ≡ refusal.Step code → (x : State) → ShowsState b x → HoldsAll x.world (length b.shown.sides) hand → Does (setting_of late b.shown) x command x (refusal_line code)) → Answers late b c hand hand command {T = Unit {0}} (Err e)
refused_answers late b c hand command (refusal.Step code) same does = refused_leads late b c hand command (refusal_line code) same (does code refl)
refused_answers late b c hand command refusal.NoMemory same does = stays_same b.shown c.shown (ap (λ (x : BoardShown). x.shown) same)

-- the board has an input for each of the graph's, and at most 4096
pub record HasInputs (s : Shown) : Type 0 where
  pub all : length (shown_inputs s.graph) ≤ length s.inputs
  pub few : length s.inputs ≤ 4096

pub input_count_is : (s : Shown) (inputs : List Input) → AreInputsOf s.graph inputs → length s.inputs ≡ input_count (shown_graph s.graph) → HasInputs s
input_count_is s inputs are e = record { all = omega (arith, are.count, ap length are.same, e); few = omega (arith, are.few, e) }

-- ---- which input, and the reason for a refusal

-- the answer when a call on this input is refused
why : (late : Bool) (s : Shown) (name : List ℕ) (i arity : ℕ) → HasInputs s → IsNumbered (shown_inputs s.graph) name (i, arity) → (r : StepRefusal) (code : ℕ) → refusal_of r ≡ refusal.Step code → (w : World) → Shows s w
    → (b c d : Bool) → s.stopped ≡ b → nat_lt i (length s.inputs) ≡ c → (input_at s i).closed ≡ d
    → first (cond b (Some step.Stopped) None) (first (cond c None (Some step.UnknownInput)) (cond d (Some step.InputClosed) None)) ≡ Some r → RefusesInput (setting_of late s) w name code
why late s name i arity size numbered r code has_code w shows true c d stopped there closed e =
    let code_is : 37 ≡ code = (let f : Some step.Stopped ≡ Some r = e in let g : refusal.Step 37 ≡ refusal.Step code = ap refusal_of (let h : step.Stopped ≡ r = cc in h) ∙ has_code in cc) in
    subst (RefusesInput (setting_of late s) w name) code_is (RefusesInput.is_stopped (shows.stopped ∙ stopped))
why late s name i arity size numbered r code has_code w shows false false d stopped there closed e =
    let code_is : 32 ≡ code = (let f : Some step.UnknownInput ≡ Some r = e in let g : refusal.Step 32 ≡ refusal.Step code = ap refusal_of (let h : step.UnknownInput ≡ r = cc in h) ∙ has_code in cc) in
    subst (RefusesInput (setting_of late s) w name) code_is (RefusesInput.is_unknown (shows.stopped ∙ stopped) (absent numbered))
  where
    absent : IsNumbered (shown_inputs s.graph) name (i, arity) → IsAbsent (shown_inputs s.graph) name
    absent (inl is) = let within : i < length (shown_inputs s.graph) = slice_get_within (shown_inputs s.graph) i _ is.there in let less : i < length s.inputs = omega (arith, within, size.all) in absurd (grind (arith, nat_tests))
    absent (inr none) = none.0
why late s name i arity size numbered r code has_code w shows false true true stopped there closed e =
    let code_is : 31 ≡ code = (let f : Some step.InputClosed ≡ Some r = e in let g : refusal.Step 31 ≡ refusal.Step code = ap refusal_of (let h : step.InputClosed ≡ r = cc in h) ∙ has_code in cc) in
    subst (RefusesInput (setting_of late s) w name) code_is (refuses numbered)
  where
    refuses : IsNumbered (shown_inputs s.graph) name (i, arity) → RefusesInput (setting_of late s) w name 31
    refuses (inl is) = RefusesInput.is_closed i arity (shows.stopped ∙ stopped) is (shows.closed i ∙ closed)
    refuses (inr none) = let at : i ≡ 4294967295 = none.1 in let few : length s.inputs ≤ 4096 = size.few in absurd (grind (arith, nat_tests))
why late s name i arity size numbered r code has_code w shows false true false stopped there closed e = absurd (let f : None ≡ Some r = e in cc)

pub refused_input : (late : Bool) (s : Shown) (name : List ℕ) (i arity : ℕ) → HasInputs s → IsNumbered (shown_inputs s.graph) name (i, arity) → (r : StepRefusal) → input_refusal s i ≡ Some r → (code : ℕ) → refusal_of r ≡ refusal.Step code
    → (w : World) → Shows s w → RefusesInput (setting_of late s) w name code
refused_input late s name i arity size numbered r e code has_code w shows = why late s name i arity size numbered r code has_code w shows s.stopped (nat_lt i (length s.inputs)) (input_at s i).closed refl refl refl e

-- if no call on it is refused, it is an open input of an engine that runs
pub record IsOpen (s : Shown) (name : List ℕ) (i arity : ℕ) : Type 0 where
  pub runs : s.stopped ≡ false
  pub is : IsInput (shown_inputs s.graph) name i arity
  pub still_open : (input_at s i).closed ≡ false

why_not : (s : Shown) (name : List ℕ) (i arity : ℕ) → HasInputs s → IsNumbered (shown_inputs s.graph) name (i, arity)
    → (b c d : Bool) → s.stopped ≡ b → nat_lt i (length s.inputs) ≡ c → (input_at s i).closed ≡ d
    → first (cond b (Some step.Stopped) None) (first (cond c None (Some step.UnknownInput)) (cond d (Some step.InputClosed) None)) ≡ None → IsOpen s name i arity
why_not s name i arity size numbered true c d stopped there closed e = absurd (let f : Some step.Stopped ≡ None = e in cc)
why_not s name i arity size numbered false false d stopped there closed e = absurd (let f : Some step.UnknownInput ≡ None = e in cc)
why_not s name i arity size numbered false true true stopped there closed e = absurd (let f : Some step.InputClosed ≡ None = e in cc)
why_not s name i arity size numbered false true false stopped there closed e = record { runs = stopped; is = found numbered; still_open = closed }
  where
    found : IsNumbered (shown_inputs s.graph) name (i, arity) → IsInput (shown_inputs s.graph) name i arity
    found (inl is) = is
    found (inr none) = let at : i ≡ 4294967295 = none.1 in let few : length s.inputs ≤ 4096 = size.few in absurd (grind (arith, nat_tests))

pub open_input : (s : Shown) (name : List ℕ) (i arity : ℕ) → HasInputs s → IsNumbered (shown_inputs s.graph) name (i, arity) → input_refusal s i ≡ None → IsOpen s name i arity
open_input s name i arity size numbered e = why_not s name i arity size numbered s.stopped (nat_lt i (length s.inputs)) (input_at s i).closed refl refl refl e

-- ---- a step on an input

pub step_leads : (late : Bool) (b c : BoardShown) (hand : Hand) (command : Command) (taken : Step) → Goes b.shown taken c.shown → tables c.shown ≡ tables b.shown → ((w : World) (k : ℕ) → (after_step (net b.shown) w taken).held k ≡ w.held k)
    → KeepsCalled b c → ((x : State) → ShowsState b x → Allowed (net b.shown) x.world taken → Shows c.shown (after_step (net b.shown) x.world taken)
    → (waits : Waits) × ShowsWaits c waits × Does (setting_of late b.shown) x command (record { world = after_step (net b.shown) x.world taken; waits = waits; told = x.told }) []) → Leads late b c hand hand command []
step_leads late b c hand command taken goes same held called does = record {
  stays = record { graph = goes.graph; workers = goes.workers; tables = same };
  led = λ x shows holds.
      let stepped = goes.step x.world shows.world in
      let done = does x shows stepped.0 stepped.1 in
      record {
        after = record { world = after_step (net b.shown) x.world taken; waits = done.0; told = x.told };
        shows = record { world = stepped.1; waits = done.1; told = λ k e said. called k e (shows.told k e said) };
        hand_after = hold_same x.world (after_step (net b.shown) x.world taken) (length b.shown.sides) hand (held x.world) holds;
        does = done.2;
      };
}

-- a step by which the feeder posts a batch
pub posting_leads : (late : Bool) (b c : BoardShown) (hand : Hand) (command : Command) (taken : Step) → Goes b.shown taken c.shown → tables c.shown ≡ tables b.shown → ((w : World) (k : ℕ) → (after_step (net b.shown) w taken).held k ≡ w.held k)
    → Posts late (length b.shown.sides) b c → ((x : State) → Allowed (net b.shown) x.world taken → Does (setting_of late b.shown) x command (after_posting (setting_of late b.shown) x taken (length b.shown.sides)) []) → Leads late b c hand hand command []
posting_leads late b c hand command taken goes same held posts does =
    step_leads late b c hand command taken goes same held posts.called (λ x shows allowed after. (posted (kind_of late) (length b.shown.sides) x.waits, shows_posted late (length b.shown.sides) b c x.waits goes.workers shows.waits posts, does x allowed))

-- a feed that is done
pub fed_leads : (late : Bool) (b c : BoardShown) (hand : Hand) (name : List ℕ) (fields : List ℤ) (i arity : ℕ) → IsOpen b.shown name i arity → MakeRecord arity fields → Goes b.shown (Step.feed i (fields ∷ [])) c.shown → tables c.shown ≡ tables b.shown
    → PostsSome late (length b.shown.sides) b c → Leads late b c hand hand (Command.feed name fields) []
fed_leads late b c hand name fields i arity is fits goes same posts =
    step_leads late b c hand (Command.feed name fields) (Step.feed i (fields ∷ [])) goes same (λ w k. refl) (feed_called late (length b.shown.sides) b c posts)
    (λ x shows allowed after.
    let fed = feed_posts late b c x (after_step (net b.shown) x.world (Step.feed i (fields ∷ []))) goes.workers shows after posts in
    (fed.0, fed.1, Does.does_feed name fields i fed.0 (subst (IsInput (shown_inputs b.shown.graph) name i) (sym fits.0) is.is) fits.1 allowed fed.2))

-- fields that make no record of an open input
pub unfit_leads : (late : Bool) (b c : BoardShown) (hand : Hand) (name : List ℕ) (fields : List ℤ) (i arity : ℕ) → IsOpen b.shown name i arity → (MakeRecord arity fields → ⊥) → c ≡ b → Leads late b c hand hand (Command.feed name fields) (refusal_line 33)
unfit_leads late b c hand name fields i arity is none same =
    refused_leads late b c hand (Command.feed name fields) (refusal_line 33) same
    (λ x shows holds. Does.feed_refused name fields 33 (RefusesFeed.misfit i arity (shows.world.stopped ∙ is.runs) is.is (shows.world.closed i ∙ is.still_open) none))

-- ---- a seal

-- what a seal's refusals say, if none of the input's apply
at_last_epoch : (late : Bool) (s : Shown) (name : List ℕ) (i arity : ℕ) → IsOpen s name i arity → (r : StepRefusal) (code : ℕ) → refusal_of r ≡ refusal.Step code → (w : World) → Shows s w → (b : Bool) → ((input_at s i).open_epoch == 4294967295) ≡ b
    → AnswersOr {T = Unit {0}} (cond b (Some step.LastEpoch) None) (Err r) → RefusesSeal (setting_of late s) w name code
at_last_epoch late s name i arity is r code has_code w shows true at e =
    let code_is : 38 ≡ code = (let g : refusal.Step 38 ≡ refusal.Step code = ap refusal_of (sym e) ∙ has_code in cc) in
    let full : (input_at s i).open_epoch ≡ 4294967295 = grind (arith, nat_tests) in
    subst (RefusesSeal (setting_of late s) w name) code_is (RefusesSeal.last_epoch i arity (shows.stopped ∙ is.runs) is.is (shows.closed i ∙ is.still_open) (shows.open_epoch i ∙ full))
at_last_epoch late s name i arity is r code has_code w shows false at e = absurd (let g : refusal.NoMemory ≡ refusal.Step code = ap refusal_of (sym e) ∙ has_code in cc)

pub refused_seal : (late : Bool) (s : Shown) (name : List ℕ) (i arity : ℕ) → HasInputs s → IsNumbered (shown_inputs s.graph) name (i, arity) → (r : StepRefusal) → AnswersOr {T = Unit {0}} (seal_refusal s i) (Err r)
    → (code : ℕ) → refusal_of r ≡ refusal.Step code → (w : World) → Shows s w → RefusesSeal (setting_of late s) w name code
refused_seal late s name i arity size numbered r e code has_code w shows = by_input (input_refusal s i) refl e
  where
    by_input : (o : Option StepRefusal) → input_refusal s i ≡ o → AnswersOr {T = Unit {0}} (first o (cond ((input_at s i).open_epoch == 4294967295) (Some step.LastEpoch) None)) (Err r) → RefusesSeal (setting_of late s) w name code
    by_input (Some q) at e = RefusesSeal.seal_input code (refused_input late s name i arity size numbered r (at ∙ ap Some (sym e)) code has_code w shows)
    by_input None at e = at_last_epoch late s name i arity (open_input s name i arity size numbered at) r code has_code w shows ((input_at s i).open_epoch == 4294967295) refl e

-- a call that succeeded had no reason for a refusal
pub taken_first : (o p : Option StepRefusal) → AnswersOr {T = Unit {0}} (first o p) (Ok tt) → o ≡ None
taken_first None p h = refl
taken_first (Some r) p h = absurd h

pub taken_only : (o : Option StepRefusal) → AnswersOnly {T = Unit {0}} o (Ok tt) → o ≡ None
taken_only None h = refl
taken_only (Some r) h = absurd h

pub refused_only : (o : Option StepRefusal) (r : StepRefusal) → AnswersOnly {T = Unit {0}} o (Err r) → o ≡ Some r
refused_only None r h = absurd h
refused_only (Some q) r h = ap Some (sym h)

-- a feed of a fitting record to an open input is refused only for lack of memory
pub only_memory : (o : Option StepRefusal) (r : StepRefusal) → o ≡ None → AnswersOr {T = Unit {0}} o (Err r) → r ≡ step.NoMemory
only_memory None r e h = h
only_memory (Some q) r e h = absurd (let f : Some q ≡ None = e in cc)

-- a batch of one record that fits an open input has no refusal but lack of memory
pub fit_feed : (s : Shown) (inputs : List Input) (name : List ℕ) (i arity : ℕ) (fields : List ℤ) (batch : List Record) → AreInputsOf s.graph inputs → IsOpen s name i arity → MakeRecord arity fields → batch ≡ fields ∷ [] → input_refusal s i ≡ None → feed_refusal s i batch ≡ None
fit_feed s inputs name i arity fields batch are is fits alone none =
    let there : slice_get inputs i ≡ Some (record { name = name; arity = arity }) = ap (λ xs. slice_get xs i) are.same ∙ is.is.there in
    let same : arity_of batch ≡ arity_in s.graph i = ap arity_of alone ∙ fits.0 ∙ sym (are.arities i (record { name = name; arity = arity }) there) in
    let equal : (arity_of batch == arity_in s.graph i) ≡ true = eq-eqb (arity_of batch) (arity_in s.graph i) same in
    ap (λ o. first o (cond (arity_of batch == arity_in s.graph i) None (Some step.WrongFieldCount))) none ∙ ap (λ b. cond b None (Some step.WrongFieldCount)) equal
