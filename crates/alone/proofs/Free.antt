-- A worker is free again once its event is committed.
use Rattle.std.proofs.Common.{◌≡◌, ◌<◌, ◌∙◌, ℕ, List, [], ◌∷◌, length, sym, ap, subst, arith, Some}
use Rattle.machine.specs.Step.{Step}
use Rattle.machine.specs.World.{Event, Held, World}
use Rattle.machine.proofs.Progress.{put_here}
use Rattle.events.specs.Jobs.{Pass}
use Rattle.rows.specs.declared.fault.WorkFault.{WorkFault}
use Rattle.rows.specs.declared.fault.WorkFault.TheVariants as fault
use Rattle.board.specs.Answers.{Gathers, Hands, MergesAll}
use Rattle.board.specs.Kept.{Goes}
use Rattle.board.specs.Reached.{IsReached}
use Rattle.board.specs.Shown.{Shown, side_at, held_of}
use Rattle.board.specs.Showing.{Shows}
use Rattle.driver.specs.Ends.{ended_of}
use Rattle.driver.specs.declared.ended.Ended.{Ended}
use Rattle.alone.specs.Rests.{IsFree, StaysFree}
use Rattle.alone.proofs.Less.{claim_works, gathers_lead, reached_on}
use Rattle.alone.proofs.Moved.{at_home}

free_in : (t : Shown) (k : ℕ) (w : World) → Shows t w → k < length t.sides → w.held k ≡ Held.nothing → IsFree t k
free_in t k w shows l e = (l, at_home (side_at t k).place (sym (shows.held k l) ∙ e))

-- the step is a feed, a seal, a close or a merge, which leave what the workers hold
abbrev pub LeavesHeld : Step → Type 0
LeavesHeld (Step.feed i records) = Unit {0}
LeavesHeld (Step.seal i) = Unit {0}
LeavesHeld (Step.close i) = Unit {0}
LeavesHeld (Step.merge k at m n) = Unit {0}
LeavesHeld (Step.claim_message k at m) = ⊥
LeavesHeld (Step.claim_request k at n) = ⊥
LeavesHeld (Step.commit k event out) = ⊥
LeavesHeld (Step.abandon k event) = ⊥

module _ (s t : Shown) (k : ℕ) (r : IsReached s) where
  within : (step : Step) → Goes s step t → k < length s.sides → k < length t.sides
  within step goes l = let e = goes.workers in omega (arith, e, l)

  nothing_held : IsFree s k → r.world.held k ≡ Held.nothing
  nothing_held free = r.shows.held k free.0 ∙ ap held_of free.1

  pub stays_free : (step : Step) → LeavesHeld step → Goes s step t → IsFree s k → IsFree t k
  stays_free (Step.feed i records) leaves goes free = free_in t k _ (goes.step r.world r.shows).1 (within (Step.feed i records) goes free.0) (nothing_held free)
  stays_free (Step.seal i) leaves goes free = free_in t k _ (goes.step r.world r.shows).1 (within (Step.seal i) goes free.0) (nothing_held free)
  stays_free (Step.close i) leaves goes free = free_in t k _ (goes.step r.world r.shows).1 (within (Step.close i) goes free.0) (nothing_held free)
  stays_free (Step.merge j at m n) leaves goes free = free_in t k _ (goes.step r.world r.shows).1 (within (Step.merge j at m n) goes free.0) (nothing_held free)
  stays_free (Step.claim_message j at m) leaves goes free = absurd leaves
  stays_free (Step.claim_request j at n) leaves goes free = absurd leaves
  stays_free (Step.commit j event out) leaves goes free = absurd leaves
  stays_free (Step.abandon j event) leaves goes free = absurd leaves

  -- by its own commit
  commit_frees : (event : Event) (out : ℕ → List _) → Goes s (Step.commit k event out) t → k < length s.sides → IsFree t k
  commit_frees event out goes l = free_in t k _ (goes.step r.world r.shows).1 (within (Step.commit k event out) goes l) (put_here r.world.held k Held.nothing)

merges_free : (k : ℕ) (places : List ℕ) (s t : Shown) → IsReached s → MergesAll k places s t → IsFree s k → IsFree t k
merges_free k [] s t r same free = subst (λ (x : Shown). IsFree x k) (sym same) free
merges_free k (at ∷ places) s t r (u, merged, last) free =
    let reached = (gathers_lead k s u r (places, merged)).reached in
    stays_free u t k reached (Step.merge k at last.0 last.1) tt last.2 (merges_free k places s u r merged free)

pub gathers_free : (k : ℕ) (s t : Shown) → IsReached s → Gathers s k t → IsFree s k → IsFree t k
gathers_free k s t r g free = merges_free k g.0 s t r g.1 free

-- an event that was claimed and committed
pub committed_free : (s u t v : Shown) (k : ℕ) (p : Pass) (out : ℕ → List _) → IsReached s → Gathers s k u → Hands u k t p → Goes t (Step.commit p.worker p.job.happening out) v → IsFree s k → IsFree v k
committed_free s u t v k p out r gathers h goes free =
    let there = gathers_free k s u r gathers free in
    let reached = reached_on u t (gathers_lead k s u r gathers).reached h.taken (claim_works k h.taken h.by) h.goes in
    let l : k < length t.sides = (let e = h.goes.workers in let m = there.0 in omega (arith, e, m)) in
    commit_frees t v k reached p.job.happening out (subst (λ (j : ℕ). Goes t (Step.commit j p.job.happening out) v) h.worker goes) l

-- a worker whose event was abandoned
pub spoiled_free : (f : WorkFault) (e : Ended) (t : Shown) (k : ℕ) → e ≡ ended_of f → StaysFree t k (Some e)
spoiled_free fault.NoMemory e t k is = subst (λ (x : Ended). StaysFree t k (Some x)) (sym is) tt
spoiled_free fault.Count e t k is = subst (λ (x : Ended). StaysFree t k (Some x)) (sym is) tt
