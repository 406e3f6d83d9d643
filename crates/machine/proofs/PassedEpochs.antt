-- What has passed stays passed, and the number of passed epochs is unique and never falls.
use Rattle.std.proofs.Common.{◌≡◌, ◌≢◌, ◌⊎◌, inl, inr, ◌≤◌, ◌<◌, ◌+◌, ◌↔◌, ℕ, false, List, ap, arith}
use Rattle.semantics.specs.Multiset.{Record}
use Rattle.semantics.specs.Graph.{Graph}
use Rattle.semantics.specs.Could.{Pointstamp, at_vertex}
use Rattle.semantics.specs.Time.{at_epoch}
use Rattle.semantics.specs.Dataflow.{IsDataflow}
use Rattle.machine.specs.Network.{Network}
use Rattle.machine.specs.World.{World, Event, Held}
use Rattle.machine.specs.Active.{IsActive}
use Rattle.machine.specs.Frontier.{NoneBefore, NoOtherBefore, Passed, SealedTo, IsPassedCount}
use Rattle.machine.specs.Drained.{IsDrained}
use Rattle.machine.specs.Step.{Step, Allowed, after_step, put}
use Rattle.machine.specs.Engine.{network}
use Rattle.machine.specs.Headline.{IsRunOn}
use Rattle.machine.proofs.CommitsPossible.{can_commit}
use Rattle.machine.proofs.DrainedWorlds.{idle, drained}
use Rattle.machine.proofs.Engine.{network_is}
use Rattle.machine.proofs.InTransit.{held_good}
use Rattle.machine.proofs.Progress.{put_tells, under_step, none_before_under, no_other_under}
use Rattle.machine.proofs.Runs.{keep_reached}
use Rattle.machine.proofs.Steps.{good_of}
use Rattle.machine.proofs.Tracking.{laws, have_flows}

epoch_grows : (g : Network) (w : World) (step : Step) (i : ℕ) → w.open_epoch i ≤ (after_step g w step).open_epoch i
epoch_grows g w (Step.feed j rs) i = omega arith
epoch_grows g w (Step.close j) i = omega arith
epoch_grows g w (Step.claim_message k at m) i = omega arith
epoch_grows g w (Step.claim_request k at n) i = omega arith
epoch_grows g w (Step.merge k at m n) i = omega arith
epoch_grows g w (Step.commit k event out) i = omega arith
epoch_grows g w (Step.abandon k event) i = omega arith
epoch_grows g w (Step.seal j) i = go (put_tells w.open_epoch j (w.open_epoch j + 1) i)
  where
    go : ((i ≡ j) × (put w.open_epoch j (w.open_epoch j + 1) i ≡ w.open_epoch j + 1)) ⊎ ((i ≢ j) × (put w.open_epoch j (w.open_epoch j + 1) i ≡ w.open_epoch i)) → w.open_epoch i ≤ put w.open_epoch j (w.open_epoch j + 1) i
    go (inl (x, y)) = let z : w.open_epoch i ≡ w.open_epoch j = ap w.open_epoch x in omega arith
    go (inr (x, y)) = omega arith

sealed_after : (g : Network) (w : World) (step : Step) (n : ℕ) → SealedTo g w n → SealedTo g (after_step g w step) n
sealed_after g w step n (inl e) = inl e
sealed_after g w step n (inr (i, l, s)) = inr (i, l, (let a = epoch_grows g w step i in omega arith))

module _ (g : Graph) (workers : ℕ) (steps : List Step) (w : World) (is : IsRunOn g workers steps w) where
  pub none_before_stays : (step : Step) → Allowed (network g workers) w step → (p : Pointstamp) → NoneBefore (network g workers) w p → NoneBefore (network g workers) (after_step (network g workers) w step) p
  none_before_stays step ok p none =
      let net = network g workers in
      let law = laws g workers steps w is in
      let kept = keep_reached (network g workers) (laws g workers steps w is) (have_flows g workers steps w is) w (steps, is.run) in
      none_before_under (network g workers) law w (after_step (network g workers) w step) (under_step (network g workers) law w (good_of (network g workers) law w kept.0 kept.1) step ok) p none

  pub no_other_stays : (step : Step) → Allowed (network g workers) w step → (p : Pointstamp) → NoOtherBefore (network g workers) w p → NoOtherBefore (network g workers) (after_step (network g workers) w step) p
  no_other_stays step ok p none =
      let law = laws g workers steps w is in
      let kept = keep_reached (network g workers) (laws g workers steps w is) (have_flows g workers steps w is) w (steps, is.run) in
      no_other_under (network g workers) law w (after_step (network g workers) w step) (under_step (network g workers) law w (good_of (network g workers) law w kept.0 kept.1) step ok) p none

  pub passed_stays : (step : Step) → Allowed (network g workers) w step → (output epoch : ℕ) → Passed (network g workers) w output epoch → Passed (network g workers) (after_step (network g workers) w step) output epoch
  passed_stays step ok output epoch passed = none_before_stays step ok (at_vertex output (at_epoch epoch)) passed

  pub count_rises : (step : Step) → Allowed (network g workers) w step → (m n : ℕ) → IsPassedCount (network g workers) w m → IsPassedCount (network g workers) (after_step (network g workers) w step) n → m ≤ n
  count_rises step ok m n before after =
      after.greatest m (sealed_after (network g workers) w step m before.sealed) (λ v epoch s l. passed_stays step ok v epoch (before.passed v epoch s l))

  pub commit_possible : (k : ℕ) (event : Event) → k < workers → w.held k ≡ Held.holding false event → (out : ℕ → List Record) × Allowed (network g workers) w (Step.commit k event out)
  commit_possible k event l there = can_commit (network g workers) (laws g workers steps w is) w k event (held_good g workers steps w is k _ event l there) l there

pub count_one : (g : Network) (w : World) (m n : ℕ) → IsPassedCount g w m → IsPassedCount g w n → m ≡ n
count_one g w m n a b = let x = a.greatest n b.sealed b.passed in let y = b.greatest m a.sealed a.passed in omega arith

module _ (g : Graph) (flows : IsDataflow g) (workers : ℕ) (some : 0 < workers) (w : World) where
  pub drained_exact : IsDrained (network g workers) w ↔ ((p : Pointstamp) → IsActive (network g workers) w p → ⊥)
  drained_exact = (idle (network g workers) (network_is g flows workers some) w, drained (network g workers) (network_is g flows workers some) w)

  pub drained_passed : IsDrained (network g workers) w → (output epoch : ℕ) → Passed (network g workers) w output epoch
  drained_passed is output epoch q active c = idle (network g workers) (network_is g flows workers some) w is q active

pub network_count_one : (g : Graph) (workers : ℕ) (w : World) (m n : ℕ) → IsPassedCount (network g workers) w m → IsPassedCount (network g workers) w n → m ≡ n
network_count_one g workers = count_one (network g workers)
