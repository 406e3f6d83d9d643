-- A board with one worker that has nothing to do is at rest.
use Rattle.std.proofs.Common.{◌≡◌, ◌<◌, ℕ, List, [], ◌∷◌, length, sym, ap, ◌∙◌, arith, slice_get, Some, true, false, subst, ◌⊎◌, inl, inr}
use Rattle.semantics.specs.Could.{Pointstamp, at_vertex}
use Rattle.semantics.specs.Time.{at_epoch}
use Rattle.semantics.specs.Graph.{input_count, output_number}
use Rattle.graph.specs.Shown.{shown_graph}
use Rattle.machine.specs.Active.{IsActive}
use Rattle.machine.specs.Headline.{IsRunOn}
use Rattle.ending.specs.Ending.{IsOver}
use Rattle.ending.proofs.Idle.{idle_drained, idle_passed}
use Rattle.machine.specs.World.{Event, Held, World}
use Rattle.machine.specs.Step.{Step}
use Rattle.tokens.specs.declared.rule.Place.TheVariants.{Home}
use Rattle.board.specs.Answers.{HasNoChoice}
use Rattle.board.specs.Promises.{IsDrained}
use Rattle.board.specs.Shown.{Shown, input_at, net, side_at, held_of}
use Rattle.board.specs.Showing.{Shows}
use Rattle.board.specs.Reached.{IsReached}
use Rattle.board.specs.WorkerShown.{AreClosed}
use Rattle.rows.specs.declared.fault.WorkFault.{WorkFault}
use Rattle.rows.specs.declared.fault.WorkFault.TheVariants as fault
use Rattle.driver.specs.declared.ended.Ended.{Ended}
use Rattle.alone.specs.Rests.{HasPassedOver, IsAtRest, IsDone}
use Rattle.driver.specs.Ends.{ended_of}
use Rattle.alone.proofs.Moved.{at_home}

none_in : {X : Type 0} (xs : List X) (at : ℕ) (x : X) → xs ≡ [] → slice_get xs at ≡ Some x → ⊥
none_in [] at x e s = cc
none_in (y ∷ xs) at x e s = cc

module _ (s : Shown) (k : ℕ) (l : k < length s.sides) (one : length s.sides ≡ 1) (home : (side_at s k).place ≡ Home) (none : HasNoChoice s k) where
  same : (j : ℕ) → j < length s.sides → j ≡ k
  same j m = omega (arith, l, one, m)

  nothing : (w : World) → Shows s w → (j : ℕ) (event : Event) → j < length s.sides → w.held j ≡ Held.holding false event → ⊥
  nothing w shows j event m e = let z : Held.nothing ≡ Held.holding false event = sym (ap held_of home) ∙ ap (λ i. held_of (side_at s i).place) (sym (same j m)) ∙ sym (shows.held j m) ∙ e in cc

  pub at_rest : IsAtRest s
  at_rest w shows (Step.feed i records) work ok = absurd work
  at_rest w shows (Step.seal i) work ok = absurd work
  at_rest w shows (Step.close i) work ok = absurd work
  at_rest w shows (Step.claim_message j at m) work ok = none w (Step.claim_message j at m) shows ok (same j ok.0.0)
  at_rest w shows (Step.claim_request j at n) work ok = none w (Step.claim_request j at n) shows ok (same j ok.0.0)
  at_rest w shows (Step.merge j at m n) work ok = none w (Step.claim_message j 0 m) shows (ok.0, ok.1) (same j ok.0.0)
  at_rest w shows (Step.commit j event out) work ok = nothing w shows j event ok.0 ok.1
  at_rest w shows (Step.abandon j event) work ok = nothing w shows j event ok.0 ok.1

-- a drained board leaves no choice
no_choice : (s : Shown) (k : ℕ) → k < length s.sides → IsDrained s → HasNoChoice s k
no_choice s k l is w (Step.feed i records) shows ok by = absurd by
no_choice s k l is w (Step.seal i) shows ok by = absurd by
no_choice s k l is w (Step.close i) shows ok by = absurd by
no_choice s k l is w (Step.merge j at m n) shows ok by = absurd by
no_choice s k l is w (Step.commit j event out) shows ok by = absurd by
no_choice s k l is w (Step.abandon j event) shows ok by = absurd by
no_choice s k l is w (Step.claim_message j at m) shows ok by = none_in (w.mail j) at m (shows.mail j ok.0.0 ∙ (is.idle j ok.0.0).mail) ok.1
no_choice s k l is w (Step.claim_request j at n) shows ok by = none_in (w.requests j) at n (shows.requests j ok.0.0 ∙ (is.idle j ok.0.0).requests) ok.1

pub drained_rests : (s : Shown) (k : ℕ) → k < length s.sides → length s.sides ≡ 1 → IsDrained s → IsAtRest s
drained_rests s k l one is = at_rest s k l one (is.idle k l).place (no_choice s k l is)

-- two worlds that a board shows have the same active pointstamps
same_active : (s : Shown) (w w' : World) → Shows s w → Shows s w' → (p : Pointstamp) → IsActive (net s) w p → IsActive (net s) w' p
same_active s w w' a b p (IsActive.of_input i r e) =
    subst (λ (n : ℕ). IsActive (net s) w' (at_vertex i (at_epoch n))) (b.open_epoch i ∙ sym (a.open_epoch i)) (IsActive.of_input i r (b.closed i ∙ sym (a.closed i) ∙ e))
same_active s w w' a b p (IsActive.of_mail k at m l e) = IsActive.of_mail k at m l (ap (λ xs. slice_get xs at) (b.mail k l ∙ sym (a.mail k l)) ∙ e)
same_active s w w' a b p (IsActive.of_request k at n l e) = IsActive.of_request k at n l (ap (λ xs. slice_get xs at) (b.requests k l ∙ sym (a.requests k l)) ∙ e)
same_active s w w' a b p (IsActive.of_held k up event l e) = IsActive.of_held k up event l (b.held k l ∙ sym (a.held k l) ∙ e)

pub passed_over : (s : Shown) → IsReached s → s.stopped ≡ false → IsAtRest s → HasPassedOver s
passed_over s r runs rest epoch over output w shows q active c =
    let is : IsRunOn (shown_graph s.graph) (length s.sides) r.steps r.world = record { flows = r.flows; some = r.some; run = r.run } in
    idle_passed (shown_graph s.graph) (length s.sides) r.steps r.world is (r.shows.stopped ∙ runs) (rest r.world r.shows) epoch (λ i l. there i (over i l)) (output_number (shown_graph s.graph) output) q (same_active s w r.world shows r.shows q active) c
  where
    there : (i : ℕ) → ((input_at s i).closed ≡ true) ⊎ (epoch < (input_at s i).open_epoch) → IsOver r.world i epoch
    there i (inl e) = inl (r.shows.closed i ∙ e)
    there i (inr l) = inr (let e = r.shows.open_epoch i in omega (arith, e, l))

-- a board at rest whose inputs are closed has no work left
pub rest_drained : (s : Shown) → IsReached s → length s.inputs ≡ input_count (shown_graph s.graph) → s.stopped ≡ false → IsAtRest s → AreClosed s → IsDrained s
rest_drained s r size runs rest shut =
    let is : IsRunOn (shown_graph s.graph) (length s.sides) r.steps r.world = record { flows = r.flows; some = r.some; run = r.run } in
    let d = idle_drained (shown_graph s.graph) (length s.sides) r.steps r.world is (r.shows.stopped ∙ runs) (rest r.world r.shows) (λ i l. r.shows.closed i ∙ shut i (omega (arith, l, size))) in
    record {
      closed = shut;
      idle = λ k l. record {
        place = at_home (side_at s k).place (sym (r.shows.held k l) ∙ d.held k l);
        mail = sym (r.shows.mail k l) ∙ d.mail k l;
        requests = sym (r.shows.requests k l) ∙ d.requests k l;
      };
    }

-- what the two answers of a claim show
pub idle_drained_then : (s t : Shown) (k : ℕ) → IsReached s → s.stopped ≡ false → k < length s.sides → length t.sides ≡ 1 → (side_at s k).place ≡ Home → HasNoChoice s k → t ≡ s
    → length t.inputs ≡ input_count (shown_graph t.graph) → AreClosed t → IsDrained t
idle_drained_then s t k r runs l one home none same size shut =
    subst (λ (x : Shown). length x.inputs ≡ input_count (shown_graph x.graph) → AreClosed x → IsDrained x) (sym same)
    (λ size' shut'. rest_drained s r size' runs (at_rest s k l (sym (ap (λ (x : Shown). length x.sides) same) ∙ one) home none) shut') size shut

pub idle_passed_over : (s t : Shown) (k : ℕ) → IsReached s → s.stopped ≡ false → k < length s.sides → length t.sides ≡ 1 → (side_at s k).place ≡ Home → HasNoChoice s k → t ≡ s → HasPassedOver t
idle_passed_over s t k r runs l one home none same =
    subst HasPassedOver (sym same) (passed_over s r runs (at_rest s k l (sym (ap (λ (x : Shown). length x.sides) same) ∙ one) home none))

pub drained_passed_over : (s t : Shown) (k : ℕ) → IsReached s → s.stopped ≡ false → k < length s.sides → length t.sides ≡ 1 → IsDrained s → t ≡ s → HasPassedOver t
drained_passed_over s t k r runs l one is same =
    subst HasPassedOver (sym same) (passed_over s r runs (drained_rests s k l (sym (ap (λ (x : Shown). length x.sides) same) ∙ one) is))

-- a worker whose event was abandoned isn't done
pub not_done : (f : WorkFault) (e : Ended) → e ≡ ended_of f → IsDone (Some e) → ⊥
not_done fault.NoMemory e is done = subst (λ x. IsDone (Some x)) is done
not_done fault.Count e is done = subst (λ x. IsDone (Some x)) is done
