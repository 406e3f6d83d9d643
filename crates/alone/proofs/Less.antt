-- Each step of a worker leaves less work on a board.
use Rattle.std.proofs.Common.{◌≡◌, ◌<◌, ◌≤◌, ℕ, List, [], ◌∷◌, length, refl, sym, ap, subst, arith, true}
use Rattle.semantics.specs.Graph.{Graph}
use Rattle.semantics.specs.Multiset.{total}
use Rattle.graph.specs.Shown.{shown_graph}
use Rattle.machine.specs.World.{Event, World, opening}
use Rattle.machine.specs.Active.{message_pointstamp, request_pointstamp}
use Rattle.machine.specs.Step.{Step, after_step}
use Rattle.machine.specs.Choices.{IsClaimBy}
use Rattle.machine.specs.Engine.{network}
use Rattle.machine.specs.Headline.{IsRunOn}
use Rattle.machine.proofs.Counting.{below_same}
use Rattle.events.specs.Jobs.{Pass}
use Rattle.ending.specs.Ending.{IsWork}
use Rattle.ending.proofs.Ends.{far, further, less_left, all_within_run}
use Rattle.ending.proofs.WorkLeft.{weight, held_left, work_left}
use Rattle.board.specs.Answers.{Gathers, Hands, MergesAll}
use Rattle.board.specs.Kept.{Goes}
use Rattle.board.specs.Shown.{Shown, side_at, held_of}
use Rattle.board.specs.Showing.{Shows}
use Rattle.board.specs.Reached.{IsReachedOn, IsReached}

-- what a board holds, as a world
abbrev held_world : Shown → World
held_world s = record opening { mail = λ k. (side_at s k).mail; requests = λ k. (side_at s k).requests; held = λ k. held_of (side_at s k).place }

-- the work that is left on a board
pub left_on : Graph → ℕ → Shown → ℕ
left_on g workers s = work_left (network g workers) (far g) (held_world s)

pub left : Shown → ℕ
left s = left_on (shown_graph s.graph) (length s.sides) s

left_shown : (g : Graph) (workers : ℕ) (s : Shown) (w : World) → length s.sides ≡ workers → Shows s w → work_left (network g workers) (far g) w ≡ left_on g workers s
unfolding left_on
left_shown g workers s w same shows = below_same workers _ _ (λ k l.
    let l' : k < length s.sides = omega (arith, same, l) in
    let a : total (λ m. weight (network g workers) (far g) (message_pointstamp m)) (w.mail k) ≡ total (λ m. weight (network g workers) (far g) (message_pointstamp m)) (side_at s k).mail = ap (total (λ m. weight (network g workers) (far g) (message_pointstamp m))) (shows.mail k l') in
    let b : total (λ n. weight (network g workers) (far g) (request_pointstamp n)) (w.requests k) ≡ total (λ n. weight (network g workers) (far g) (request_pointstamp n)) (side_at s k).requests = ap (total (λ n. weight (network g workers) (far g) (request_pointstamp n))) (shows.requests k l') in
    let c : held_left (network g workers) (far g) (w.held k) ≡ held_left (network g workers) (far g) (held_of (side_at s k).place) = ap (held_left (network g workers) (far g)) (shows.held k l') in
    omega (arith, a, b, c))

pub claim_works : (k : ℕ) (step : Step) → IsClaimBy k step → IsWork step
claim_works k (Step.feed i records) is = absurd is
claim_works k (Step.seal i) is = absurd is
claim_works k (Step.close i) is = absurd is
claim_works k (Step.claim_message k' at m) is = tt
claim_works k (Step.claim_request k' at n) is = tt
claim_works k (Step.merge k' at m n) is = tt
claim_works k (Step.commit k' event out) is = tt
claim_works k (Step.abandon k' event) is = tt

record Onward (g : Graph) (workers : ℕ) (s t : Shown) : Type 0 where
  reached : IsReachedOn g workers t
  less : left_on g workers t < left_on g workers s

onward : (s t : Shown) → IsReached s → (step : Step) → IsWork step → Goes s step t → Onward (shown_graph s.graph) (length s.sides) s t
onward s t r step work goes =
    let g = shown_graph s.graph in
    let workers = length s.sides in
    let a = goes.step r.world r.shows in
    let is : IsRunOn (shown_graph s.graph) (length s.sides) r.steps r.world = record { flows = r.flows; some = r.some; run = r.run } in
    let more = further g workers r.steps r.world is step a.0 in
    let x = less_left g workers r.steps r.world is (all_within_run g workers r.flows r.some r.steps r.world is) step work a.0 in
    let y = left_shown g workers s r.world refl r.shows in
    let z = left_shown g workers t (after_step (network g workers) r.world step) goes.workers a.1 in
    record {
      reached = record { flows = r.flows; some = r.some; steps = more.0; world = after_step (network g workers) r.world step; run = more.1.run; shows = a.1 };
      less = omega (arith, x, y, z);
    }

pub reached_on : (s t : Shown) → IsReached s → (step : Step) → IsWork step → Goes s step t → IsReached t
reached_on s t r step work goes =
    let o = onward s t r step work goes in
    subst (λ (n : ℕ). IsReachedOn (shown_graph t.graph) n t) (sym goes.workers) (subst (λ (g : Graph). IsReachedOn g (length s.sides) t) (ap shown_graph (sym goes.graph)) o.reached)

pub left_less : (s t : Shown) → IsReached s → (step : Step) → IsWork step → Goes s step t → left t < left s
unfolding left
left_less s t r step work goes =
    let o = onward s t r step work goes in
    subst (λ (n : ℕ). left_on (shown_graph t.graph) n t < left_on (shown_graph s.graph) (length s.sides) s) (sym goes.workers)
    (subst (λ (g : Graph). left_on g (length s.sides) t < left_on (shown_graph s.graph) (length s.sides) s) (ap shown_graph (sym goes.graph)) o.less)

-- ---- by what the calls answer

-- what further steps of workers lead to, with less or as much left
pub record Leads (s t : Shown) : Type 0 where
  pub reached : IsReached t
  pub less : left t ≤ left s

merges_lead : (k : ℕ) (places : List ℕ) (s t : Shown) → IsReached s → MergesAll k places s t → Leads s t
merges_lead k [] s t r same = subst (Leads s) (sym same) (record { reached = r; less = omega arith })
merges_lead k (at ∷ places) s t r (u, merged, last) =
    let a = merges_lead k places s u r merged in
    let step : Step = Step.merge k at last.0 last.1 in
    let b = left_less u t a.reached step tt last.2 in
    record { reached = reached_on u t a.reached step tt last.2; less = (let l = a.less in omega (arith, l, b)) }

pub gathers_lead : (k : ℕ) (s t : Shown) → IsReached s → Gathers s k t → Leads s t
gathers_lead k s t r g = merges_lead k g.0 s t r g.1

-- an event that was claimed and ended leaves less
pub claims_less : (s u t v : Shown) (k : ℕ) (p : Pass) → IsReached s → Gathers s k u → Hands u k t p → (step : Step) → IsWork step → Goes t step v → left v < left s
claims_less s u t v k p r gathers h step work goes =
    let a = gathers_lead k s u r gathers in
    let taken = claim_works k h.taken h.by in
    let b = left_less u t a.reached h.taken taken h.goes in
    let c = left_less t v (reached_on u t a.reached h.taken taken h.goes) step work goes in
    let l = a.less in
    omega (arith, l, b, c)

-- an event that was claimed and abandoned has stopped the board
pub claims_stopped : (s u t v : Shown) (k j : ℕ) (p : Pass) (event : Event) → IsReached s → Gathers s k u → Hands u k t p → Goes t (Step.abandon j event) v → v.stopped ≡ true
claims_stopped s u t v k j p event r gathers h goes =
    let a = gathers_lead k s u r gathers in
    let there = reached_on u t a.reached h.taken (claim_works k h.taken h.by) h.goes in
    sym ((goes.step there.world there.shows).1.stopped)
