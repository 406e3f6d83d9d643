-- A world in which no worker may take a step has nothing active but what open inputs hold back.
use Rattle.std.proofs.Common.{◌≡◌, ◌≢◌, ◌<◌, ℕ, true, false, List, [], ◌∷◌, ◌⊎◌, inl, inr, refl, sym, ◌∙◌, subst, arith}
use mathlib.Core.WellFounded.{Acc}
use Rattle.semantics.specs.Multiset.{Record}
use Rattle.semantics.specs.Could.{Pointstamp, at_vertex, CouldResultIn}
use Rattle.semantics.specs.Time.{at_epoch}
use Rattle.semantics.specs.Kinds.{Role}
use Rattle.semantics.specs.Graph.{Graph, input_count}
use Rattle.semantics.proofs.CouldRises.{could_epoch}
use Rattle.machine.specs.Network.{Network}
use Rattle.machine.specs.World.{Event, Held, World, opening}
use Rattle.machine.specs.Active.{IsActive, request_pointstamp}
use Rattle.machine.specs.Frontier.{NoOtherBefore, Passed}
use Rattle.machine.specs.Drained.{IsDrained}
use Rattle.machine.specs.Step.{Step, Allowed, after_step, put}
use Rattle.machine.specs.Run.{Run}
use Rattle.machine.specs.Engine.{network}
use Rattle.machine.specs.Headline.{IsRunOn}
use Rattle.ending.specs.Ending.{IsIdle, IsOver}
use Rattle.machine.proofs.DrainedWorlds.{drained}
use Rattle.machine.proofs.Laws.{IsNetwork, Lower}
use Rattle.machine.proofs.PassedEpochs.{commit_possible}
use Rattle.machine.proofs.Progress.{put_tells, Good}
use Rattle.machine.proofs.Rank.{could_lower}
use Rattle.machine.proofs.Runs.{keep_reached}
use Rattle.machine.proofs.Steps.{good_of}
use Rattle.machine.proofs.Tracking.{laws, have_flows}

-- ---- a running engine has abandoned nothing

abbrev NoneAbandoned : World → Type 0
NoneAbandoned w = w.stopped ≡ false → (k : ℕ) (event : Event) → w.held k ≡ Held.holding true event → ⊥

none_abandoned_after : (g : Network) (w : World) (step : Step) → NoneAbandoned w → NoneAbandoned (after_step g w step)
none_abandoned_after g w (Step.feed i rs) none = none
none_abandoned_after g w (Step.seal i) none = none
none_abandoned_after g w (Step.close i) none = none
none_abandoned_after g w (Step.merge k0 at m n) none = none
none_abandoned_after g w (Step.abandon k0 event0) none = λ runs k event s. cc
none_abandoned_after g w (Step.claim_message k0 at m) none = λ runs k event s. go runs k event s (put_tells w.held k0 (Held.holding false (Event.arrival m)) k)
  where
    go : w.stopped ≡ false → (k : ℕ) (event : Event) → put w.held k0 (Held.holding false (Event.arrival m)) k ≡ Held.holding true event → ((k ≡ k0) × (put w.held k0 (Held.holding false (Event.arrival m)) k ≡ Held.holding false (Event.arrival m))) ⊎ ((k ≢ k0) × (put w.held k0 (Held.holding false (Event.arrival m)) k ≡ w.held k)) → ⊥
    go runs k event s (inl (x, y)) = let z : Held.holding false (Event.arrival m) ≡ Held.holding true event = sym y ∙ s in cc
    go runs k event s (inr (x, y)) = none runs k event (sym y ∙ s)
none_abandoned_after g w (Step.claim_request k0 at n) none = λ runs k event s. go runs k event s (put_tells w.held k0 (Held.holding false (Event.notification n)) k)
  where
    go : w.stopped ≡ false → (k : ℕ) (event : Event) → put w.held k0 (Held.holding false (Event.notification n)) k ≡ Held.holding true event → ((k ≡ k0) × (put w.held k0 (Held.holding false (Event.notification n)) k ≡ Held.holding false (Event.notification n))) ⊎ ((k ≢ k0) × (put w.held k0 (Held.holding false (Event.notification n)) k ≡ w.held k)) → ⊥
    go runs k event s (inl (x, y)) = let z : Held.holding false (Event.notification n) ≡ Held.holding true event = sym y ∙ s in cc
    go runs k event s (inr (x, y)) = none runs k event (sym y ∙ s)
none_abandoned_after g w (Step.commit k0 event0 out) none = λ runs k event s. go runs k event s (put_tells w.held k0 Held.nothing k)
  where
    go : w.stopped ≡ false → (k : ℕ) (event : Event) → put w.held k0 Held.nothing k ≡ Held.holding true event → ((k ≡ k0) × (put w.held k0 Held.nothing k ≡ Held.nothing)) ⊎ ((k ≢ k0) × (put w.held k0 Held.nothing k ≡ w.held k)) → ⊥
    go runs k event s (inl (x, y)) = let z : Held.nothing ≡ Held.holding true event = sym y ∙ s in cc
    go runs k event s (inr (x, y)) = none runs k event (sym y ∙ s)

none_abandoned_on : (g : Network) (steps : List Step) (w w' : World) → NoneAbandoned w → Run g w steps w' → NoneAbandoned w'
none_abandoned_on g [] w w' none run = subst NoneAbandoned run none
none_abandoned_on g (step ∷ steps) w w' none run = none_abandoned_on g steps (after_step g w step) w' (none_abandoned_after g w step none) run.1

-- ---- nothing is active in an idle world, but by open inputs

module _ (g : Network) (law : IsNetwork g) (w : World) (good : Good g w) (runs : w.stopped ≡ false) (none : NoneAbandoned w) (idle : IsIdle g w)
    (commit : (k : ℕ) (event : Event) → k < g.workers → w.held k ≡ Held.holding false event → (out : ℕ → List Record) × Allowed g w (Step.commit k event out)) where
  hands : (k : ℕ) → k < g.workers → w.held k ≡ Held.nothing
  hands k l = go (w.held k) refl
    where
      go : (x : Held) → w.held k ≡ x → w.held k ≡ Held.nothing
      go Held.nothing e = e
      go (Held.holding true event) e = absurd (none runs k event e)
      go (Held.holding false event) e = let c = commit k event l e in absurd (idle (Step.commit k event c.0) tt c.1)

  -- no open input could result in it
  abbrev HeldBack : Pointstamp → Type 0
  HeldBack p = (i : ℕ) → g.role i ≡ Role.input → w.closed i ≡ false → g.Could (at_vertex i (at_epoch (w.open_epoch i))) p → ⊥

  pub inactive : (p : Pointstamp) → Acc (Lower g) p → HeldBack p → IsActive g w p → ⊥
  inactive p (Acc.intro x low) free (IsActive.of_input i s e) = free i s e (law.could_self (at_vertex i (at_epoch (w.open_epoch i))) (law.fits_input i (w.open_epoch i) s))
  inactive p (Acc.intro x low) free (IsActive.of_mail k at m l s) = idle (Step.claim_message k at m) tt ((l, hands k l, runs), s)
  inactive p (Acc.intro x low) free (IsActive.of_held k up event l s) = let z : Held.nothing ≡ Held.holding up event = sym (hands k l) ∙ s in cc
  inactive p (Acc.intro x low) free (IsActive.of_request k at n l s) = idle (Step.claim_request k at n) tt ((l, hands k l, runs), s, others (λ q lower. inactive q (low q lower)))
    where
      others : ((q : Pointstamp) → Lower g q (request_pointstamp n) → HeldBack q → IsActive g w q → ⊥) → NoOtherBefore g w (request_pointstamp n)
      others ih q a c = go (could_lower g q (request_pointstamp n) c)
        where
          go : (q ≡ request_pointstamp n) ⊎ Lower g q (request_pointstamp n) → q ≡ request_pointstamp n
          go (inl e) = e
          go (inr lower) = absurd (ih q lower (λ i r e c'. free i r e (law.could_on (at_vertex i (at_epoch (w.open_epoch i))) q (request_pointstamp n) c' c)) a)

module _ (g : Graph) (workers : ℕ) (steps : List Step) (w : World) (is : IsRunOn g workers steps w) (runs : w.stopped ≡ false) (idle : IsIdle (network g workers) w) where
  law : IsNetwork (network g workers)
  law = laws g workers steps w is

  none_active : (p : Pointstamp) → ((i : ℕ) → i < input_count g → w.closed i ≡ false → CouldResultIn g (at_vertex i (at_epoch (w.open_epoch i))) p → ⊥) → IsActive (network g workers) w p → ⊥
  none_active p free a =
      let kept = keep_reached (network g workers) law (have_flows g workers steps w is) w (steps, is.run) in
      inactive (network g workers) law w (good_of (network g workers) law w kept.0 kept.1) runs (none_abandoned_on (network g workers) steps opening w (λ r k event s. cc) is.run) idle
      (commit_possible g workers steps w is)
      p (law.founded p) (λ i r e c. free i (law.role_is_input i r) e c) a

  -- where every input is closed, no work is left
  pub idle_drained : ((i : ℕ) → i < input_count g → w.closed i ≡ true) → IsDrained (network g workers) w
  idle_drained shut = drained (network g workers) law w (λ p a. none_active p (λ i l e c. let z : true ≡ false = sym (shut i l) ∙ e in cc) a)

  -- an epoch that is over at every input has passed at every output
  pub idle_passed : (epoch : ℕ) → ((i : ℕ) → i < input_count g → IsOver w i epoch) → (output : ℕ) → Passed (network g workers) w output epoch
  idle_passed epoch over output q a c = none_active q (λ i l e c'. go i e (law.could_on (at_vertex i (at_epoch (w.open_epoch i))) q (at_vertex output (at_epoch epoch)) c' c) (over i l)) a
    where
      go : (i : ℕ) → w.closed i ≡ false → CouldResultIn g (at_vertex i (at_epoch (w.open_epoch i))) (at_vertex output (at_epoch epoch)) → IsOver w i epoch → ⊥
      go i e c (inl x) = let z : true ≡ false = sym x ∙ e in cc
      go i e c (inr x) = let y = could_epoch g (at_vertex i (at_epoch (w.open_epoch i))) (at_vertex output (at_epoch epoch)) c in omega arith
