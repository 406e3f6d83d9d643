-- What a viewer lets through, the real pointstamps let through: over a graph, for changes of any caller and for those of a run.
use Rattle.std.proofs.Common.{◌≡◌, ◌≤◌, ◌<◌, ℕ, zero, suc, Bool, true, false, List, [], ◌∷◌, ◌++◌, refl, ap, arith}
use Rattle.semantics.specs.Multiset.{total}
use Rattle.semantics.specs.Graph.{Graph, input_count}
use Rattle.semantics.specs.Could.{Pointstamp, CouldResultIn, NoneOf, NoOtherOf}
use Rattle.semantics.proofs.MultisetSums.{total-append}
use Rattle.machine.specs.World.{World, opening}
use Rattle.machine.specs.Active.{active_count}
use Rattle.machine.specs.Frontier.{NoneBefore, NoOtherBefore}
use Rattle.machine.specs.Step.{Step, Allowed}
use Rattle.machine.specs.Engine.{network}
use Rattle.machine.specs.Headline.{IsRunOn}
use Rattle.machine.specs.Views.{Changes, when, IsSeen, IsThere, AllApplied, AppliesMore}
use Rattle.machine.specs.Posting.{MayPost, ArePosted, IsView}
use Rattle.machine.specs.RunViews.{changes_of, log_of, AppliesInOrder, SeesNoneBefore, SeesNoOtherBefore}
use Rattle.machine.proofs.JustifiedLogs.{IsLog}
use Rattle.machine.proofs.Engine.{network_is}
use Rattle.machine.proofs.Laws.{IsNetwork}
use Rattle.machine.proofs.Logs.{may_post, posted, is_there, is_active}
use Rattle.machine.proofs.Posted.{posted_is_log}
use Rattle.machine.proofs.Runs.{keep_reached}
use Rattle.machine.proofs.Steps.{good_of}
use Rattle.machine.proofs.Tracking.{laws, have_flows}
use Rattle.machine.proofs.Views.{when_le, view_none_before, view_no_other_before, view_stays}

same_total : (f : Changes → ℕ) (log : List Changes) → AllApplied log → total (λ b. when b.applied (f b)) log ≡ total f log
same_total f [] a = refl
same_total f (b ∷ log) a = let h : when b.applied (f b) ≡ f b = ap (λ x. when x (f b)) a.0 in let t = same_total f log a.1 in omega arith

-- where nothing waits, what is seen is there
seen_is_there : (first : Pointstamp → ℕ) (log : List Changes) → AllApplied log → (p : Pointstamp) → IsSeen first log p → IsThere first log p
seen_is_there first log all p seen = let d = same_total (λ b. b.adds p) log all in let r = same_total (λ b. b.removes p) log all in omega arith

-- applying more adds at most what there is, and removes at least as much
more_adds : (log more : List Changes) → AppliesMore log more → (p : Pointstamp) → total (λ b. when b.applied (b.adds p)) more ≤ total (λ b. b.adds p) log
more_adds [] [] m p = omega arith
more_adds [] (c ∷ more) m p = absurd m
more_adds (b ∷ log) [] m p = absurd m
more_adds (b ∷ log) (c ∷ more) m p =
    let a : c.adds p ≡ b.adds p = ap (λ f. f p) m.1 in
    let l = when_le c.applied (c.adds p) in
    let r = more_adds log more m.4 p in
    omega arith

more_removes : (log more : List Changes) → AppliesMore log more → (p : Pointstamp) → total (λ b. when b.applied (b.removes p)) log ≤ total (λ b. when b.applied (b.removes p)) more
more_removes [] [] m p = omega arith
more_removes [] (c ∷ more) m p = absurd m
more_removes (b ∷ log) [] m p = absurd m
more_removes (b ∷ log) (c ∷ more) m p = go b.applied refl (more_removes log more m.4 p)
  where
    go : (x : Bool) → b.applied ≡ x → total (λ b. when b.applied (b.removes p)) log ≤ total (λ b. when b.applied (b.removes p)) more → total (λ b. when b.applied (b.removes p)) (b ∷ log) ≤ total (λ b. when b.applied (b.removes p)) (c ∷ more)
    go false e ih = let z : when b.applied (b.removes p) ≡ 0 = ap (λ y. when y (b.removes p)) e in omega arith
    go true e ih =
        let z : when b.applied (b.removes p) ≡ b.removes p = ap (λ y. when y (b.removes p)) e in
        let y : when c.applied (c.removes p) ≡ c.removes p = ap (λ y. when y (c.removes p)) (m.3 e) in
        let a : c.removes p ≡ b.removes p = ap (λ f. f p) m.2 in
        omega arith

module _ (g : Graph) (workers : ℕ) (first : Pointstamp → ℕ) (log : List Changes) (is : IsView g workers first log) (p : Pointstamp) where
  law : IsNetwork (network g workers)
  law = network_is g is.flows workers is.some

  a_log : IsLog (network g workers) first log
  a_log = posted_is_log (network g workers) first log is.posted

  pub none : NoneOf (CouldResultIn g) (IsSeen first log) p → NoneOf (CouldResultIn g) (IsThere first log) p
  none h q there c = view_none_before (network g workers) law first log a_log is.order p h q c.starts there c

  pub no_other : NoOtherOf (CouldResultIn g) (IsSeen first log) p → NoOtherOf (CouldResultIn g) (IsThere first log) p
  no_other h q there c = view_no_other_before (network g workers) law first log a_log is.order p h q c.starts there c

  pub exact_none : AllApplied log → NoneOf (CouldResultIn g) (IsThere first log) p → NoneOf (CouldResultIn g) (IsSeen first log) p
  exact_none all h q seen c = h q (seen_is_there first log all q seen) c

  pub exact_no_other : AllApplied log → NoOtherOf (CouldResultIn g) (IsThere first log) p → NoOtherOf (CouldResultIn g) (IsSeen first log) p
  exact_no_other all h q seen c = h q (seen_is_there first log all q seen) c

  pub applied : (more : List Changes) → AppliesMore log more → NoneOf (CouldResultIn g) (IsSeen first log) p → NoneOf (CouldResultIn g) (IsSeen first more) p
  applied more m h =
      view_stays (network g workers) law first log a_log is.order more (λ q. let a = more_adds log more m q in omega arith) (λ q. more_removes log more m q) p h

  pub posted_more : (b : Changes) → ((q : Pointstamp) → 0 < b.adds q → CouldResultIn g q p → ⊥) → NoneOf (CouldResultIn g) (IsSeen first log) p → NoneOf (CouldResultIn g) (IsSeen first (log ++ b ∷ [])) p
  posted_more b adds h q seen c = go (b.adds q) refl
    where
      go : (n : ℕ) → b.adds q ≡ n → ⊥
      go (suc n) e = adds q (omega arith) c
      go zero e =
          let a = total-append (λ b. when b.applied (b.adds q)) log (b ∷ []) in
          let r = total-append (λ b. when b.applied (b.removes q)) log (b ∷ []) in
          let l = when_le b.applied (b.adds q) in
          let k = when_le b.applied (b.removes q) in
          h q (omega arith) c

module _ (g : Graph) (workers : ℕ) (steps : List Step) (w : World) (is : IsRunOn g workers steps w) where
  pub step_may_post : (step : Step) → Allowed (network g workers) w step → (applied : Bool) → MayPost (CouldResultIn g) (input_count g) workers (active_count (network g workers) w) (changes_of (network g workers) w step applied)
  step_may_post step ok applied =
      let kept = keep_reached (network g workers) (laws g workers steps w is) (have_flows g workers steps w is) w (steps, is.run) in
      may_post (network g workers) (laws g workers steps w is) w (good_of (network g workers) (laws g workers steps w is) w kept.0 kept.1) step ok applied

  pub run_posted : (flags : List Bool) → ArePosted (CouldResultIn g) (input_count g) workers (active_count (network g workers) opening) (log_of (network g workers) opening steps flags)
  run_posted flags = posted (network g workers) (laws g workers steps w is) (have_flows g workers steps w is) steps flags w is.run

  module _ (flags : List Bool) (order : AppliesInOrder (network g workers) steps flags) (p : Pointstamp) where
    a_view : IsView g workers (active_count (network g workers) opening) (log_of (network g workers) opening steps flags)
    a_view = record { flows = is.flows; some = is.some; posted = run_posted flags; order = order }

    pub run_none : SeesNoneBefore (network g workers) steps flags p → NoneBefore (network g workers) w p
    run_none h q active c = none g workers (active_count (network g workers) opening) (log_of (network g workers) opening steps flags) a_view p h q (is_there (network g workers) (laws g workers steps w is) (have_flows g workers steps w is) steps flags w is.run q active) c

    pub run_no_other : SeesNoOtherBefore (network g workers) steps flags p → NoOtherBefore (network g workers) w p
    run_no_other h q active c = no_other g workers (active_count (network g workers) opening) (log_of (network g workers) opening steps flags) a_view p h q (is_there (network g workers) (laws g workers steps w is) (have_flows g workers steps w is) steps flags w is.run q active) c

    pub run_exact : AllApplied (log_of (network g workers) opening steps flags) → NoneBefore (network g workers) w p → SeesNoneBefore (network g workers) steps flags p
    run_exact all h q seen c = h q (is_active (network g workers) (laws g workers steps w is) (have_flows g workers steps w is) steps flags w is.run q (seen_is_there (active_count (network g workers) opening) (log_of (network g workers) opening steps flags) all q seen)) c

    pub run_exact_no_other : AllApplied (log_of (network g workers) opening steps flags) → NoOtherBefore (network g workers) w p → SeesNoOtherBefore (network g workers) steps flags p
    run_exact_no_other all h q seen c = h q (is_active (network g workers) (laws g workers steps w is) (have_flows g workers steps w is) steps flags w is.run q (seen_is_there (active_count (network g workers) opening) (log_of (network g workers) opening steps flags) all q seen)) c
