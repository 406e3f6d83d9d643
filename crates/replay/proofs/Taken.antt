-- Events taken, ended, and refused.
use Rattle.std.proofs.Common.{◌≡◌, ◌≢◌, ◌<◌, ◌≤◌, ◌⊎◌, ◌∙◌, ℕ, suc, List, [], length, Option, Some, None, Bool, true, false, refl, sym, ap, subst, arith, inl, inr}
use Rattle.std.specs.Prelude.{Result, Ok, Err, OnErr, OnOk, IfErr, slice_set}
use Rattle.std.proofs.lemmas.List.{get_or-set_same, get_or-set_other, get_or_past, length-set, set-get_or}
use Rattle.std.proofs.lemmas.List.{length-map}
use Rattle.std.proofs.lemmas.Option.{slice_get_within}
use Rattle.std.proofs.lemmas.Bool.Decides.{eqb_tells}
use Rattle.semantics.specs.Multiset.{Record}
use Rattle.graph.specs.Shown.{GraphValue}
use Rattle.graph.specs.Shown.{shown_graph}
use Rattle.machine.specs.Network.{Network}
use Rattle.machine.specs.World.{Event, World, Held, Message}
use Rattle.machine.specs.Step.{Step, Allowed, after_step}
use Rattle.machine.specs.Choices.{IsClaimBy}
use Rattle.machine.specs.Engine.{network}
use Rattle.machine.proofs.Progress.{put_here}
use Rattle.events.specs.Jobs.{Pass}
use Rattle.board.specs.Shown.{Shown, Side, net, side_at, held_of, tables}
use Rattle.board.specs.Showing.{Shows}
use Rattle.board.specs.Lateness.{BoardShown, IsAsLate, IsUpToDate, KeepsCalled, Posts, waits_for}
use Rattle.board.specs.Commits.{IsOf}
use Rattle.board.specs.Answers.{Hands, Holds}
use Rattle.board.specs.Kept.{Goes}
use Rattle.board.specs.Overflow.{DoesOverflow, NeverOverflows, Overflows}
use Rattle.board.specs.Picks.{IsChoice, IsCertain, RefusesPick as Refuses}
use Rattle.board.specs.declared.refusal.StepRefusal.{StepRefusal}
use Rattle.board.specs.declared.refusal.StepRefusal.TheVariants as step
use Rattle.board.proofs.Choosing.{home_of}
use Rattle.driver.specs.Ends.{Abandons as AbandonsOne, Ends}
use Rattle.rows.specs.declared.fault.WorkFault.{WorkFault}
use Rattle.rows.specs.declared.fault.WorkFault.TheVariants as fault
use Rattle.schedule.specs.Commands.{Command}
use Rattle.replay.specs.Hands.{HoldsAll, IsHand, in_hand}
use Rattle.replay.specs.Replays.{Does, Abandons, IsComputable, KnowsChoice, RefusesPick, Takes, after_abandoning, refusal_line}
use Rattle.replay.specs.Steps.{Answers, IsCommitted, IsAbandoned, LeadsFrom, Leads, ShowsState, Stays, fault_refusal, refusal_of, setting_of}
use Rattle.replay.specs.Waits.{State, kind_of, posted, waiting_now}
use Rattle.replay.specs.declared.refusal.Refusal.{Refusal}
use Rattle.replay.specs.declared.refusal.Refusal.TheVariants as refusal
use Rattle.replay.proofs.Holding.{hand_stays, hold_taken, hold_ended, hold_abandoned, hold_through, put_other, claim_others, commit_others}
use Rattle.replay.proofs.Inputs.{refused_leads, stays_same}
use Rattle.replay.proofs.Waiting.{IsWithin, KnowsWaits, shows_applied, shows_posted, shows_same, there_if_some, up_to_date}
use Rattle.replay.proofs.Places.{held_out}

-- a worker that claims holds nothing
claim_free : (g : Network) (w : World) (k : ℕ) (taken : Step) → IsClaimBy k taken → Allowed g w taken → (k < g.workers) × (w.held k ≡ Held.nothing)
claim_free g w k (Step.feed i records) by allowed = absurd by
claim_free g w k (Step.seal i) by allowed = absurd by
claim_free g w k (Step.close i) by allowed = absurd by
claim_free g w k (Step.claim_message k' at m) by allowed = (subst (λ (j : ℕ). j < g.workers) by allowed.0.0, ap w.held (sym by) ∙ allowed.0.1)
claim_free g w k (Step.claim_request k' at n) by allowed = (subst (λ (j : ℕ). j < g.workers) by allowed.0.0, ap w.held (sym by) ∙ allowed.0.1)
claim_free g w k (Step.merge k' at m n) by allowed = absurd by
claim_free g w k (Step.commit k' event out) by allowed = absurd by
claim_free g w k (Step.abandon k' event) by allowed = absurd by

-- if its worker holds nothing, its place in hand is empty
nothing_in_hand : (w : World) (n k : ℕ) (hand : List (Option Pass)) → HoldsAll w n hand → k < n → w.held k ≡ Held.nothing → in_hand hand k ≡ None
nothing_in_hand w n k hand h lt free = none (in_hand hand k) refl
  where
    none : (o : Option Pass) → in_hand hand k ≡ o → in_hand hand k ≡ None
    none None e = e
    none (Some p) e = absurd (let f : Held.nothing ≡ Held.holding false p.job.happening = sym free ∙ h.held k p lt e in cc)

-- a choice that is known of a state is known of the board that shows it
known : (late : Bool) (b : BoardShown) (x : State) (k n : ℕ) → KnowsWaits late b → ShowsState b x → k < length b.shown.sides → KnowsChoice (setting_of late b.shown) x k n → IsCertain (IsUpToDate b k) b.shown k n
known late b x k n knows shows there (inl lt) = inl (subst (λ (ms : List Message). n < length ms) (shows.world.mail k there) lt)
known late b x k n knows shows there (inr sees) = inr (up_to_date late b x k knows shows sees)

-- what is picked is taken in any state that the board shows
picks : (late : Bool) (b : BoardShown) (t : Shown) (x : State) (k n : ℕ) (p : Pass) (hands : Hands b.shown k t p) → KnowsWaits late b → (IsCertain (IsUpToDate b k) b.shown k n → IsChoice b.shown k n hands.taken) → ShowsState b x → Takes (setting_of late b.shown) x k n hands.taken
picks late b t x k n p hands knows choice shows = record {
  claims = hands.by;
  chosen = λ sees. choice (known late b x k n knows shows (claim_free (net b.shown) x.world k hands.taken hands.by (hands.goes.step x.world shows.world).0).0 sees) x.world shows.world;
  allowed = (hands.goes.step x.world shows.world).0;
}

-- in the world after it is taken, a state that the board showed before
after_taken : (b : BoardShown) (t : Shown) (x : State) (k : ℕ) (p : Pass) (hands : Hands b.shown k t p) → ShowsState b x → Shows t (after_step (net b.shown) x.world hands.taken)
after_taken b t x k p hands shows = (hands.goes.step x.world shows.world).1

-- an event that overflows nowhere can be computed
computable : (late : Bool) (b : BoardShown) (t : Shown) (x : State) (k : ℕ) (p : Pass) (hands : Hands b.shown k t p) → NeverOverflows t p → ShowsState b x → k < length b.shown.sides
    → IsComputable (setting_of late b.shown) x k hands.taken
computable late b t x k p hands never shows there event held over =
    let v = after_step (net b.shown) x.world hands.taken in
    let shown = after_taken b t x k p hands shows in
    let within : k < length t.sides = subst (λ (m : ℕ). k < m) (sym hands.goes.workers) there in
    let place : Held.holding false event ≡ Held.holding false p.job.happening = sym held ∙ shown.held k within ∙ held_out t k p hands.worker hands.holds in
    let one : event ≡ p.job.happening = cc in
    let here : Overflows (shown_graph b.shown.graph) v k p.job.happening = subst (λ (e : Event). Overflows (shown_graph b.shown.graph) v k e) one over in
    let his : Overflows (shown_graph b.shown.graph) v p.worker p.job.happening = subst (λ (j : ℕ). Overflows (shown_graph b.shown.graph) v j p.job.happening) (sym hands.worker) here in
    never v shown (subst (λ (g : GraphValue). Overflows (shown_graph g) v p.worker p.job.happening) (sym hands.goes.graph) his)

-- an event that overflows does so in the world after it is taken
overflowing : (b : BoardShown) (t : Shown) (x : State) (k : ℕ) (p : Pass) (hands : Hands b.shown k t p) → DoesOverflow t p → ShowsState b x
    → Overflows (shown_graph b.shown.graph) (after_step (net b.shown) x.world hands.taken) k p.job.happening
overflowing b t x k p hands over shows =
    let v = after_step (net b.shown) x.world hands.taken in
    let there : Overflows (shown_graph t.graph) v p.worker p.job.happening = over v (after_taken b t x k p hands shows) in
    let his : Overflows (shown_graph t.graph) v k p.job.happening = subst (λ (j : ℕ). Overflows (shown_graph t.graph) v j p.job.happening) hands.worker there in
    subst (λ (g : GraphValue). Overflows (shown_graph g) v k p.job.happening) hands.goes.graph his

-- an event was taken, and is in hand
pub taken_leads : (late : Bool) (b c d : BoardShown) (hand new : List (Option Pass)) (k n : ℕ) (p : Pass) (hands : Hands b.shown k c.shown p) → KnowsWaits late b → (IsCertain (IsUpToDate b k) b.shown k n → IsChoice b.shown k n hands.taken) → NeverOverflows c.shown p → IsAsLate b c → length hand ≡ length b.shown.sides → (in_hand hand k ≡ None → d ≡ c)
    → Stays b.shown d.shown → new ≡ slice_set hand k (Some p) → Leads late b d hand new (Command.take k n) []
taken_leads late b c d hand new k n p hands knows choice never late_as places same stays is = record { stays = stays; led = led }
  where
    led : (x : State) → ShowsState b x → HoldsAll x.world (length b.shown.sides) hand → LeadsFrom late b d new (Command.take k n) [] x
    led x shows holds =
        let goes = hands.goes.step x.world shows.world in
        let free = claim_free (net b.shown) x.world k hands.taken hands.by goes.0 in
        let v = after_step (net b.shown) x.world hands.taken in
        let within : k < length c.shown.sides = subst (λ (m : ℕ). k < m) (sym hands.goes.workers) free.0 in
        let place : v.held k ≡ Held.holding false p.job.happening = goes.1.held k within ∙ held_out c.shown k p hands.worker hands.holds in
        let room : k < length hand = subst (λ (m : ℕ). k < m) (sym places) free.0 in
        let here : in_hand new k ≡ Some p = ap (λ (xs : List (Option Pass)). in_hand xs k) is ∙ get_or-set_same hand k (Some p) None room in
        let empty = nothing_in_hand x.world (length b.shown.sides) k hand holds free.0 free.1 in
        let after : State = record { world = v; waits = x.waits; told = x.told } in
        let at_c : ShowsState c after = record { world = goes.1; waits = shows_same b c x.waits hands.goes.workers late_as.waits shows.waits; told = λ j e said. late_as.called j e (shows.told j e said) } in
        record {
          after = after;
          shows = subst (λ (y : BoardShown). ShowsState y after) (sym (same empty)) at_c;
          hand_after = hold_taken x.world v (length b.shown.sides) k hand new p holds place (claim_others (net b.shown) x.world k hands.taken hands.by) here
              (λ j other. ap (λ (xs : List (Option Pass)). in_hand xs j) is ∙ get_or-set_other hand k j (Some p) None other);
          does = Does.does_take k n hands.taken (picks late b c.shown x k n p hands knows choice shows) (computable late b c.shown x k p hands never shows free.0);
        }

-- an event in hand was ended
pub ended_leads : (late : Bool) (b c : BoardShown) (hand new : List (Option Pass)) (k : ℕ) (p : Pass) → in_hand hand k ≡ Some p → p.worker ≡ k → k < length hand → IsCommitted late b p c → new ≡ slice_set hand k None → Leads late b c hand new (Command.commit k) []
ended_leads late b c hand new k p at own room ends is = record { stays = ends.stays; led = led }
  where
    led : (x : State) → ShowsState b x → HoldsAll x.world (length b.shown.sides) hand → LeadsFrom late b c new (Command.commit k) [] x
    led x shows holds =
        let taken : Step = Step.commit p.worker p.job.happening ends.out in
        let goes = ends.goes.step x.world shows.world in
        let v = after_step (net b.shown) x.world (Step.commit k p.job.happening ends.out) in
        let step_is : taken ≡ Step.commit k p.job.happening ends.out = ap (λ (j : ℕ). Step.commit j p.job.happening ends.out) own in
        let here : in_hand new k ≡ None = ap (λ (xs : List (Option Pass)). in_hand xs k) is ∙ get_or-set_same hand k None None room in
        let posts : Posts late k b c = subst (λ (j : ℕ). Posts late j b c) own ends.posts in
        record {
          after = record { world = v; waits = posted (kind_of late) k x.waits; told = x.told };
          shows = record { world = subst (λ (y : Step). Shows c.shown (after_step (net b.shown) x.world y)) step_is goes.1; waits = shows_posted late k b c x.waits ends.goes.workers shows.waits posts; told = λ j e said. posts.called j e (shows.told j e said) };
          hand_after = hold_ended x.world v (length b.shown.sides) k hand new holds (put_here x.world.held k Held.nothing) (commit_others x.world k) here
              (λ j other. ap (λ (xs : List (Option Pass)). in_hand xs j) is ∙ get_or-set_other hand k j None None other);
          does = Does.does_commit k p.job.happening ends.out (subst (λ (y : Step). Allowed (net b.shown) x.world y) step_is goes.0);
        }

-- nothing is in hand
pub nothing_held : (late : Bool) (b c : BoardShown) (hand : List (Option Pass)) (k : ℕ) → c ≡ b → in_hand hand k ≡ None → Leads late b c hand hand (Command.commit k) (refusal_line 36)
nothing_held late b c hand k same none = refused_leads late b c hand (Command.commit k) (refusal_line 36) same (λ x shows holds. Does.commit_refused k (λ event lt held. let p = holds.there k event lt held in let e : None ≡ Some p.0 = sym none ∙ p.1 in absurd cc))

net_same : (s t : Shown) → t.graph ≡ s.graph → length t.sides ≡ length s.sides → net t ≡ net s
net_same s t g n = ap (λ x. network (shown_graph x) (length t.sides)) g ∙ ap (λ (k : ℕ). network (shown_graph s.graph) k) n

-- an event was taken and ended
pub delivered_leads : (late : Bool) (b c d : BoardShown) (hand : List (Option Pass)) (k n : ℕ) (p : Pass) (hands : Hands b.shown k c.shown p) → KnowsWaits late b → (IsCertain (IsUpToDate b k) b.shown k n → IsChoice b.shown k n hands.taken) → NeverOverflows c.shown p → IsAsLate b c → IsCommitted late c p d → Stays b.shown d.shown
    → Leads late b d hand hand (Command.deliver k n) []
delivered_leads late b c d hand k n p hands knows choice never late_as ends stays = record { stays = stays; led = led }
  where
    led : (x : State) → ShowsState b x → HoldsAll x.world (length b.shown.sides) hand → LeadsFrom late b d hand (Command.deliver k n) [] x
    led x shows holds =
        let goes = hands.goes.step x.world shows.world in
        let free = claim_free (net b.shown) x.world k hands.taken hands.by goes.0 in
        let v = after_step (net b.shown) x.world hands.taken in
        let step_is : Step.commit p.worker p.job.happening ends.out ≡ Step.commit k p.job.happening ends.out = ap (λ (j : ℕ). Step.commit j p.job.happening ends.out) hands.worker in
        let same = net_same b.shown c.shown hands.goes.graph hands.goes.workers in
        let at_c = ends.goes.step v goes.1 in
        let allowed : Allowed (net b.shown) v (Step.commit k p.job.happening ends.out) = subst (λ (y : Step). Allowed (net b.shown) v y) step_is (subst (λ (g : Network). Allowed g v (Step.commit p.worker p.job.happening ends.out)) same at_c.0) in
        let u = after_step (net b.shown) v (Step.commit k p.job.happening ends.out) in
        let shown : Shows d.shown u = subst (λ (y : Step). Shows d.shown (after_step (net b.shown) v y)) step_is (subst (λ (g : Network). Shows d.shown (after_step g v (Step.commit p.worker p.job.happening ends.out))) same at_c.1) in
        let others : (j : ℕ) → j ≢ k → u.held j ≡ x.world.held j = λ j other. commit_others v k j other ∙ claim_others (net b.shown) x.world k hands.taken hands.by j other in
        let posts : Posts late k c d = subst (λ (j : ℕ). Posts late j c d) hands.worker ends.posts in
        record {
          after = record { world = u; waits = posted (kind_of late) k x.waits; told = x.told };
          shows = record { world = shown; waits = shows_posted late k c d x.waits ends.goes.workers (shows_same b c x.waits hands.goes.workers late_as.waits shows.waits) posts; told = λ j e said. posts.called j e (late_as.called j e (shows.told j e said)) };
          hand_after = hold_through x.world u (length b.shown.sides) k hand holds free.1 (put_here v.held k Held.nothing) others;
          does = Does.does_deliver k n hands.taken p.job.happening ends.out (picks late b c.shown x k n p hands knows choice shows) (computable late b c.shown x k p hands never shows free.0) allowed;
        }

-- an event was taken and abandoned
pub abandoned_leads : (late : Bool) (b c d : BoardShown) (hand : List (Option Pass)) (k n : ℕ) (p : Pass) (hands : Hands b.shown k c.shown p) → KnowsWaits late b → (IsCertain (IsUpToDate b k) b.shown k n → IsChoice b.shown k n hands.taken) → DoesOverflow c.shown p → IsAsLate b c → IsAbandoned c p d → Stays b.shown d.shown
    → (command : Command) → ((x : State) → Abandons (setting_of late b.shown) x k n hands.taken p.job.happening → Does (setting_of late b.shown) x command (after_abandoning (setting_of late b.shown) x hands.taken k p.job.happening) (refusal_line 39))
    → Leads late b d hand hand command (refusal_line 39)
abandoned_leads late b c d hand k n p hands knows choice over late_as abandoned stays command does = record { stays = stays; led = led }
  where
    led : (x : State) → ShowsState b x → HoldsAll x.world (length b.shown.sides) hand → LeadsFrom late b d hand command (refusal_line 39) x
    led x shows holds =
        let goes = hands.goes.step x.world shows.world in
        let free = claim_free (net b.shown) x.world k hands.taken hands.by goes.0 in
        let v = after_step (net b.shown) x.world hands.taken in
        let step_is : Step.abandon p.worker p.job.happening ≡ Step.abandon k p.job.happening = ap (λ (j : ℕ). Step.abandon j p.job.happening) hands.worker in
        let same = net_same b.shown c.shown hands.goes.graph hands.goes.workers in
        let at_c = abandoned.goes.step v goes.1 in
        let allowed : Allowed (net b.shown) v (Step.abandon k p.job.happening) = subst (λ (y : Step). Allowed (net b.shown) v y) step_is (subst (λ (g : Network). Allowed g v (Step.abandon p.worker p.job.happening)) same at_c.0) in
        let u = after_step (net b.shown) v (Step.abandon k p.job.happening) in
        let shown : Shows d.shown u = subst (λ (y : Step). Shows d.shown (after_step (net b.shown) v y)) step_is (subst (λ (g : Network). Shows d.shown (after_step g v (Step.abandon p.worker p.job.happening))) same at_c.1) in
        let others : (j : ℕ) → j ≢ k → u.held j ≡ x.world.held j = λ j other. put_other v.held k (Held.holding true p.job.happening) j other ∙ claim_others (net b.shown) x.world k hands.taken hands.by j other in
        record {
          after = record { world = u; waits = x.waits; told = x.told };
          shows = record { world = shown; waits = shows_same c d x.waits abandoned.goes.workers abandoned.waits (shows_same b c x.waits hands.goes.workers late_as.waits shows.waits); told = λ j e said. abandoned.called j e (late_as.called j e (shows.told j e said)) };
          hand_after = hold_abandoned x.world u (length b.shown.sides) k hand p.job.happening holds free.1 (put_here v.held k (Held.holding true p.job.happening)) others;
          does = does x (record { takes = picks late b c.shown x k n p hands knows choice shows; over = overflowing b c.shown x k p hands over shows; allowed = allowed });
        }

-- computing an event that was taken is refused: there is no memory, or a count would be too large
pub abandoned_answers : (late : Bool) (b c d : BoardShown) (hand : List (Option Pass)) (k n : ℕ) (p : Pass) (e : Refusal) (hands : Hands b.shown k c.shown p) → KnowsWaits late b → (IsCertain (IsUpToDate b k) b.shown k n → IsChoice b.shown k n hands.taken) → IsAsLate b c → IsAbandoned c p d → Stays b.shown d.shown
    → (command : Command) → ((x : State) → Abandons (setting_of late b.shown) x k n hands.taken p.job.happening → Does (setting_of late b.shown) x command (after_abandoning (setting_of late b.shown) x hands.taken k p.job.happening) (refusal_line 39))
    → (e ≡ refusal.NoMemory) ⊎ ((e ≡ refusal.Step 39) × DoesOverflow c.shown p) → Answers late b d hand hand command {T = Unit {0}} (Err e)
abandoned_answers late b c d hand k n p e hands knows choice late_as abandoned stays command does (inl memory) = subst (λ (x : Refusal). Answers late b d hand hand command {T = Unit {0}} (Err x)) (sym memory) stays
abandoned_answers late b c d hand k n p e hands knows choice late_as abandoned stays command does (inr count) =
    subst (λ (x : Refusal). Answers late b d hand hand command {T = Unit {0}} (Err x)) (sym count.0) (abandoned_leads late b c d hand k n p hands knows choice count.1 late_as abandoned stays command does)

-- an event was taken, and ended or abandoned
pub delivered_answers : (late : Bool) (b c d : BoardShown) (hand : List (Option Pass)) (k n : ℕ) (p : Pass) (r : Result (Unit {0}) Refusal) (hands : Hands b.shown k c.shown p) → KnowsWaits late b → (IsCertain (IsUpToDate b k) b.shown k n → IsChoice b.shown k n hands.taken) → IsAsLate b c
    → OnOk r (IsCommitted late c p d) → OnOk r (NeverOverflows c.shown p) → OnErr r (IsAbandoned c p d)
    → IfErr r (λ e. (e ≡ refusal.NoMemory) ⊎ ((e ≡ refusal.Step 39) × DoesOverflow c.shown p)) → Stays b.shown d.shown
    → Answers late b d hand hand (Command.deliver k n) r
delivered_answers late b c d hand k n p (Ok u) hands knows choice late_as ends never abandoned refused stays = delivered_leads late b c d hand k n p hands knows choice never late_as ends stays
delivered_answers late b c d hand k n p (Err e) hands knows choice late_as ends never abandoned refused stays =
    abandoned_answers late b c d hand k n p e hands knows choice late_as abandoned stays (Command.deliver k n) (λ x gives. Does.deliver_abandons k n hands.taken p.job.happening gives) refused

-- the code of a refused pick
pub refused_pick : (late : Bool) (b : BoardShown) (k n : ℕ) (e : StepRefusal) → KnowsWaits late b → Refuses (IsUpToDate b k) b.shown k n e → (code : ℕ) → refusal_of e ≡ refusal.Step code → (x : State) → ShowsState b x → RefusesPick (setting_of late b.shown) x k n code
refused_pick late b k n step.Stopped knows h code has_code x shows =
    subst (RefusesPick (setting_of late b.shown) x k n) (let f : refusal.Step 37 ≡ refusal.Step code = has_code in let e : 37 ≡ code = cc in e) (RefusesPick.pick_stopped (shows.world.stopped ∙ h))
refused_pick late b k n step.HoldsEvent knows h code has_code x shows =
    subst (RefusesPick (setting_of late b.shown) x k n) (let f : refusal.Step 35 ≡ refusal.Step code = has_code in let e : 35 ≡ code = cc in e)
    (RefusesPick.holds_event (shows.world.stopped ∙ h.0) h.1 (λ free. h.2 (home_of (side_at b.shown k).place (sym (shows.world.held k h.1) ∙ free))))
refused_pick late b k n step.NoSuchEvent knows h code has_code x shows =
    subst (RefusesPick (setting_of late b.shown) x k n) (let f : refusal.Step 34 ≡ refusal.Step code = has_code in let e : 34 ≡ code = cc in e)
    (RefusesPick.no_choice (shows.world.stopped ∙ h.0) (λ lt. shows.world.held k lt ∙ ap held_of (h.1 lt).0)
    (λ sees taken takes. let there : k < length b.shown.sides = (claim_free (net b.shown) x.world k taken takes.claims takes.allowed).0 in (h.1 there).1 (known late b x k n knows shows there sees) x.world taken shows.world (takes.chosen sees)))
refused_pick late b k n step.UnknownInput knows h code has_code x shows = absurd h
refused_pick late b k n step.InputClosed knows h code has_code x shows = absurd h
refused_pick late b k n step.WrongFieldCount knows h code has_code x shows = absurd h
refused_pick late b k n step.LastEpoch knows h code has_code x shows = absurd h
refused_pick late b k n step.NoMemory knows h code has_code x shows = absurd h

-- ---- what stays

pub stays_on : (s t u : Shown) → Stays s t → Stays t u → Stays s u
stays_on s t u h i = record { graph = i.graph ∙ h.graph; workers = i.workers ∙ h.workers; tables = i.tables ∙ h.tables }

pub picked_stays : (s t : Shown) (k : ℕ) (p : Pass) → Hands s k t p → tables t ≡ tables s → Stays s t
picked_stays s t k p hands same = record { graph = hands.goes.graph; workers = hands.goes.workers; tables = same }

-- what goes to a worker's place in hand is of the board and of the worker
pub kept_hand : (s u : Shown) (hand new : List (Option Pass)) (k : ℕ) (p : Pass) → IsHand s hand → Stays s u → new ≡ slice_set hand k (Some p) → IsOf u p → p.worker ≡ k → k < length hand → IsHand u new
kept_hand s u hand new k p h stays is of own room = record {
  places = ap length is ∙ length-set hand k (Some p) ∙ h.places ∙ sym stays.workers;
  own = λ j q at. elim (eqb_tells j k) [
    | inl same ↦
        let here : in_hand new j ≡ Some p = ap (in_hand new) same.1 ∙ ap (λ (xs : List (Option Pass)). in_hand xs k) is ∙ get_or-set_same hand k (Some p) None room in
        let one : p ≡ q = (let f : Some p ≡ Some q = sym here ∙ at in cc) in
        (subst (IsOf u) one of, ap (λ (x : Pass). x.worker) (sym one) ∙ own ∙ sym same.1)
    | inr other ↦
        let before : in_hand hand j ≡ Some q = sym (ap (λ (xs : List (Option Pass)). in_hand xs j) is ∙ get_or-set_other hand k j (Some p) None other.1) ∙ at in
        (hand_stays s u hand h stays).own j q before
  ];
}

-- a place in hand that is emptied
pub emptied_hand : (s u : Shown) (hand : List (Option Pass)) (k : ℕ) → IsHand s hand → Stays s u → k < length hand → IsHand u (slice_set hand k None)
emptied_hand s u hand k h stays room = record {
  places = length-set hand k None ∙ h.places ∙ sym stays.workers;
  own = λ j q at. elim (eqb_tells j k) [
    | inl same ↦ absurd (let f : None ≡ Some q = sym (ap (in_hand (slice_set hand k None)) same.1 ∙ get_or-set_same hand k None None room) ∙ at in cc)
    | inr other ↦ (hand_stays s u hand h stays).own j q (sym (get_or-set_other hand k j None None other.1) ∙ at)
  ];
}

pub past_hand : (hand : List (Option Pass)) (k : ℕ) → length hand ≤ k → in_hand hand k ≡ None
past_hand hand k le = get_or_past hand k None le

pub still_empty : (hand : List (Option Pass)) (k : ℕ) → in_hand hand k ≡ None → slice_set hand k None ≡ hand
still_empty hand k e = ap (λ x. slice_set hand k x) (sym e) ∙ set-get_or hand k None

-- an event ends, or there is no memory
pub end_answers : (late : Bool) (b c : BoardShown) (old new : List (Option Pass)) (command : Command) (r : Result (Unit {0}) Refusal) (p : Pass) (a : BoardShown) → OnOk r (IsCommitted late a p c) → IfErr r (λ e. e ≡ refusal.NoMemory) → Stays b.shown c.shown → (IsCommitted late a p c → Leads late b c old new command [])
    → Answers late b c old new command r
end_answers late b c old new command (Ok u) p a ends memory stays leads = leads ends
end_answers late b c old new command (Err e) p a ends memory stays leads = subst (λ (x : Refusal). Answers late b c old new command {T = Unit {0}} (Err x)) (sym memory) stays

-- a worker that picked has a place in hand
pub picked_room : (s t : Shown) (hand : List (Option Pass)) (k : ℕ) (p : Pass) → Hands s k t p → IsHand s hand → k < length hand
picked_room s t hand k p hands h =
    let within : k < length (tables t) = subst (λ (j : ℕ). j < length (tables t)) hands.worker (slice_get_within (tables t) p.worker p.table hands.own) in
    omega (arith, length-map t.sides (λ (x : Side). x.table), hands.goes.workers, h.places)

-- a batch was applied
pub applied_leads : (late : Bool) (b c : BoardShown) (hand : List (Option Pass)) (k j : ℕ) → IsWithin b → c.shown ≡ b.shown → waits_for b k j ≡ suc (waits_for c k j) → ((w s : ℕ) → (w ≡ k → s ≡ j → ⊥) → waits_for c w s ≡ waits_for b w s)
    → KeepsCalled b c → Leads late b c hand hand (Command.apply k j) []
applied_leads late b c hand k j knows same one others called = record {
  stays = stays_same b.shown c.shown same;
  led = λ x shows holds.
      let there = there_if_some b k j (waits_for c k j) knows one in
      let after : State = record { world = x.world; waits = waiting_now x.waits k j (waits_for c k j); told = x.told } in
      record {
        after = after;
        shows = record { world = subst (λ (s : Shown). Shows s x.world) (sym same) shows.world; waits = shows_applied b c x.waits k j same shows.waits others; told = λ w e said. called w e (shows.told w e said) };
        hand_after = holds;
        does = Does.does_apply k j (waits_for c k j) there.0 there.1 (sym (shows.waits k j there.0 there.1) ∙ one);
      };
}

-- no batch waits
pub unapplied_leads : (late : Bool) (b c : BoardShown) (hand : List (Option Pass)) (k j : ℕ) → waits_for b k j ≡ 0 → c ≡ b → Leads late b c hand hand (Command.apply k j) (refusal_line 40)
unapplied_leads late b c hand k j none same = refused_leads late b c hand (Command.apply k j) (refusal_line 40) same (λ x shows holds. Does.apply_refused k j (λ there within. sym (shows.waits k j there within) ∙ none))

-- ---- what the driver's calls say

pub ended_stays : (s t : Shown) (p : Pass) {T E : Type 0} (r : Result T E) → Ends s t p r → tables t ≡ tables s → Stays s t
ended_stays s t p (Ok _) ends same = record { graph = ends.1.1.graph; workers = ends.1.1.workers; tables = same }
ended_stays s t p (Err _) ends same = record { graph = ends.1.graph; workers = ends.1.workers; tables = same }

pub abandoned_stays : (s t : Shown) (p : Pass) → AbandonsOne s t p → tables t ≡ tables s → Stays s t
abandoned_stays s t p abandoned same = record { graph = abandoned.1.graph; workers = abandoned.1.workers; tables = same }

pub is_committed : (late : Bool) (b c : BoardShown) (p : Pass) (out : ℕ → List Record) → Holds b.shown p → Goes b.shown (Step.commit p.worker p.job.happening out) c.shown → Posts late p.worker b c → Stays b.shown c.shown → IsCommitted late b p c
is_committed late b c p out holds goes posts stays = record { holds = holds; out = out; goes = goes; posts = posts; stays = stays }

pub is_abandoned : (b c : BoardShown) (p : Pass) → AbandonsOne b.shown c.shown p → IsAsLate b c → Stays b.shown c.shown → IsAbandoned b p c
is_abandoned b c p abandoned late stays = record { holds = abandoned.0; goes = abandoned.1; waits = late.waits; called = late.called; stays = stays }

pub fault_refused : (D : Type 0) (f : WorkFault) (e : Refusal) → e ≡ fault_refusal f → (f ≡ fault.Count → D) → (e ≡ refusal.NoMemory) ⊎ ((e ≡ refusal.Step 39) × D)
fault_refused D fault.NoMemory e is over = inl is
fault_refused D fault.Count e is over = inr (is, over refl)
