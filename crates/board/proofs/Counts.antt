-- What has passed stays passed, and the number of passed epochs after each call.
use Rattle.std.proofs.Common.{◌≡◌, ◌⊎◌, inl, inr, ◌<◌, ◌≤◌, ℕ, List, length, refl, sym, ap, subst, arith, slice_index_or}
use Rattle.semantics.specs.Graph.{Graph, input_count, output_number, vertex}
use Rattle.semantics.specs.Could.{Pointstamp}
use Rattle.semantics.specs.Dataflow.{IsDataflow}
use Rattle.semantics.specs.Kinds.{Role, role}
use Rattle.graph.specs.Shown.{GraphValue, shown_graph}
use Rattle.machine.specs.World.{World}
use Rattle.machine.specs.Active.{IsActive}
use Rattle.machine.specs.Engine.{network}
use Rattle.machine.specs.Frontier.{IsPassedCount, Passed, SealedTo}
use Rattle.machine.specs.Step.{Step, Allowed, after_step}
use Rattle.machine.proofs.PassedEpochs.{count_rises, passed_stays}
use Rattle.machine.proofs.PassedOutputs.{passed_below}
use Rattle.machine.proofs.Tracking.{active_counts}
use Rattle.board.specs.Kept.{IsKept, Goes}
use Rattle.board.specs.Promises.{CountsPassed, HasPassed, IsOutputPlace}
use Rattle.board.specs.Seals.{HavePassed}
use Rattle.board.specs.Showing.{Shows}
use Rattle.board.specs.Shown.{Shown, input_at, net}
use Rattle.board.proofs.Facts.{run_on}
use Rattle.board.proofs.Worlds.{same_active}

-- all worlds that a board shows agree on what has passed
module _ (s : Shown) (flows : IsDataflow (shown_graph s.graph)) (some : 0 < length s.sides) (w w' : World) (is : Shows s w) (is' : Shows s w') where
  active_there : (q : Pointstamp) → IsActive (net s) w' q → IsActive (net s) w q
  active_there q a =
      let c = (active_counts (shown_graph s.graph) flows (length s.sides) some w' q).0 a in
      (active_counts (shown_graph s.graph) flows (length s.sides) some w q).1 (omega (arith, c, same_active s w w' is is' q))

  pub passed_there : (v e : ℕ) → Passed (net s) w v e → Passed (net s) w' v e
  passed_there v e h q a c = h q (active_there q a) c

  pub sealed_there : (n : ℕ) → SealedTo (net s) w n → SealedTo (net s) w' n
  sealed_there n (inl e) = inl e
  sealed_there n (inr (i, l, m)) = inr (i, l, (let a = is.open_epoch i in let b = is'.open_epoch i in omega (arith, m, a, b)))

-- what a step leaves of it
module _ (graph : Graph) (content : Pointstamp → ℕ) (s : Shown) (kept : IsKept graph content s) (step : Step) (t : Shown) (goes : Goes s step t) where
  flows_then : IsDataflow (shown_graph t.graph)
  flows_then = subst (λ (g : GraphValue). IsDataflow (shown_graph g)) (sym goes.graph) kept.flows

  some_then : 0 < length t.sides
  some_then = omega (arith, kept.some, goes.workers)

  ok : Allowed (net s) kept.world step
  ok = (goes.step kept.world kept.shows).0

  shown_then : Shows t (after_step (net s) kept.world step)
  shown_then = (goes.step kept.world kept.shows).1

  -- what holds of the first network holds of the second
  onto : (P : (g : Graph) (workers : ℕ) → Type 0) → P (shown_graph s.graph) (length s.sides) → P (shown_graph t.graph) (length t.sides)
  onto P h =
      let A : GraphValue → Type 0 = λ g. P (shown_graph g) (length s.sides) in
      let B : ℕ → Type 0 = λ n. P (shown_graph t.graph) n in
      subst B (sym goes.workers) (subst A (sym goes.graph) h)

  back : (P : (g : Graph) (workers : ℕ) → Type 0) → P (shown_graph t.graph) (length t.sides) → P (shown_graph s.graph) (length s.sides)
  back P h =
      let A : GraphValue → Type 0 = λ g. P (shown_graph g) (length s.sides) in
      let B : ℕ → Type 0 = λ n. P (shown_graph t.graph) n in
      subst A goes.graph (subst B goes.workers h)

  stays : (w : World) → Shows t w → (v e : ℕ) → Passed (net s) kept.world v e → Passed (net t) w v e
  stays w is v e h =
      let one : Passed (net s) (after_step (net s) kept.world step) v e = passed_stays (shown_graph s.graph) (length s.sides) kept.steps kept.world (run_on graph content s kept) step ok v e h in
      passed_there t flows_then some_then (after_step (net s) kept.world step) w shown_then is v e
      (onto (λ g n. Passed (network g n) (after_step (net s) kept.world step) v e) one)

  pub has_passed_stays : (k e : ℕ) → HasPassed s k e → HasPassed t k e
  has_passed_stays k e h w is =
      stays w is (output_number (shown_graph t.graph) k) e
      (subst (λ (g : GraphValue). Passed (net s) kept.world (output_number (shown_graph g) k) e) (sym goes.graph) (h kept.world kept.shows))

  pub count_stays : (m n : ℕ) → CountsPassed s m → CountsPassed t n → m ≤ n
  count_stays m n before after =
      count_rises (shown_graph s.graph) (length s.sides) kept.steps kept.world (run_on graph content s kept) step ok m n (before kept.world kept.shows)
      (back (λ g k. IsPassedCount (network g k) (after_step (net s) kept.world step) n) (after (after_step (net s) kept.world step) shown_then))

  sealed_then : (w : World) → Shows t w → ((i : ℕ) → (input_at s i).open_epoch ≤ (input_at t i).open_epoch) → (n : ℕ) → SealedTo (net s) kept.world n → SealedTo (net t) w n
  sealed_then w is rises n (inl e) = inl e
  sealed_then w is rises n (inr (i, l, m)) =
      inr (i, onto (λ g k. i < input_count g) l, (let a = kept.shows.open_epoch i in let b = is.open_epoch i in let c = rises i in omega (arith, m, a, b, c)))

  pub have_passed : ((i : ℕ) → (input_at s i).open_epoch ≤ (input_at t i).open_epoch) → (n : ℕ) → HavePassed s n → HavePassed t n
  have_passed rises n have w is =
      let c = have kept.world kept.shows in
      (sealed_then w is rises n c.0, λ v e r l. stays w is v e (c.1 v e (back (λ g k. role (vertex g v).kind ≡ Role.output) r) l))

-- no epoch has passed at the opening
pub have_new : (s : Shown) → HavePassed s 0
have_new s w is = (inl refl, λ v e r l. absurd (omega (arith, l)))

-- the number is unique, and each epoch below it has passed
module _ (graph : Graph) (content : Pointstamp → ℕ) (s : Shown) (kept : IsKept graph content s) where
  pub one_count : (m n : ℕ) → CountsPassed s m → CountsPassed s n → m ≡ n
  one_count m n a b =
      let x = a kept.world kept.shows in
      let y = b kept.world kept.shows in
      let l = x.greatest n y.sealed y.passed in
      let g = y.greatest m x.sealed x.passed in
      omega (arith, l, g)

  pub counted : (n : ℕ) → CountsPassed s n → (e : ℕ) → e < n → (k : ℕ) → IsOutputPlace s k → HasPassed s k e
  counted n c e l k there w is = (passed_below (shown_graph s.graph) (length s.sides) w n).0 (c w is).passed k e there l
