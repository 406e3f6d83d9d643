-- All worlds that a board shows have the same active pointstamps, which are those of its tracker.
use Rattle.std.proofs.Common.{◌≡◌, ◌<◌, ◌+◌, ℕ, cond, length, sym, ap₂, ◌∙◌, subst, arith}
use Rattle.semantics.specs.Multiset.{total}
use Rattle.semantics.specs.Graph.{Graph, input_count}
use Rattle.semantics.specs.Could.{Pointstamp, CouldResultIn, NoOtherOf, NoneOf, at_vertex}
use Rattle.semantics.specs.Time.{at_epoch}
use Rattle.graph.specs.Shown.{shown_graph}
use Rattle.machine.specs.World.{World}
use Rattle.machine.specs.Active.{IsActive, active_count, open_input_count, worker_count, held_count, one_if_same, message_pointstamp, request_pointstamp}
use Rattle.machine.specs.Frontier.{NoOtherBefore, NoneBefore}
use Rattle.machine.proofs.Counting.{below_same}
use Rattle.machine.proofs.Tracking.{active_counts}
use Rattle.board.specs.Shown.{Shown, net}
use Rattle.board.specs.Showing.{Shows}
use Rattle.board.specs.Kept.{IsKept}

pub same_active : (s : Shown) (w w' : World) → Shows s w → Shows s w' → (p : Pointstamp) → active_count (net s) w p ≡ active_count (net s) w' p
same_active s w w' is is' p =
    ap₂ (λ a b. a + b) (below_same (input_count (shown_graph s.graph)) (open_input_count w p) (open_input_count w' p) inputs) (below_same (length s.sides) (worker_count w p) (worker_count w' p) workers)
  where
    inputs : (i : ℕ) → i < input_count (shown_graph s.graph) → open_input_count w p i ≡ open_input_count w' p i
    inputs i l =
        let closed : w.closed i ≡ w'.closed i = is.closed i ∙ sym (is'.closed i) in
        let epoch : w.open_epoch i ≡ w'.open_epoch i = is.open_epoch i ∙ sym (is'.open_epoch i) in
        λ j. cond (closed j) 0 (one_if_same p (at_vertex i (at_epoch (epoch j))))

    workers : (k : ℕ) → k < length s.sides → worker_count w p k ≡ worker_count w' p k
    workers k l =
        let mail : w.mail k ≡ w'.mail k = is.mail k l ∙ sym (is'.mail k l) in
        let requests : w.requests k ≡ w'.requests k = is.requests k l ∙ sym (is'.requests k l) in
        let held : w.held k ≡ w'.held k = is.held k l ∙ sym (is'.held k l) in
        λ j. total (λ m. one_if_same p (message_pointstamp m)) (mail j) + total (λ n. one_if_same p (request_pointstamp n)) (requests j) + held_count p (held j)

module _ (graph : Graph) (content : Pointstamp → ℕ) (s : Shown) (kept : IsKept graph content s) (w : World) (is : Shows s w) where
  pub tracked_in : (p : Pointstamp) → content p ≡ active_count (net s) w p
  tracked_in p = kept.tracked p ∙ same_active s kept.world w kept.shows is p

  active_is : (q : Pointstamp) → IsActive (net s) w q → 0 < content q
  active_is q a = let c = (active_counts (shown_graph s.graph) kept.flows (length s.sides) kept.some w q).0 a in omega (arith, c, tracked_in q)

  is_active : (q : Pointstamp) → 0 < content q → IsActive (net s) w q
  is_active q l = (active_counts (shown_graph s.graph) kept.flows (length s.sides) kept.some w q).1 (omega (arith, l, tracked_in q))

  pub no_other : (p : Pointstamp) → NoOtherOf (CouldResultIn graph) (λ q. 0 < content q) p → NoOtherBefore (net s) w p
  no_other p h q a c = let P : Graph → Type 0 = λ g. CouldResultIn g q p in h q (active_is q a) (subst P (sym kept.same) c)

  pub no_other_back : (p : Pointstamp) → NoOtherBefore (net s) w p → NoOtherOf (CouldResultIn graph) (λ q. 0 < content q) p
  no_other_back p h q l c = let P : Graph → Type 0 = λ g. CouldResultIn g q p in h q (is_active q l) (subst P kept.same c)

  pub none : (p : Pointstamp) → NoneOf (CouldResultIn graph) (λ q. 0 < content q) p → NoneBefore (net s) w p
  none p h q a c = let P : Graph → Type 0 = λ g. CouldResultIn g q p in h q (active_is q a) (subst P (sym kept.same) c)

  pub none_back : (p : Pointstamp) → NoneBefore (net s) w p → NoneOf (CouldResultIn graph) (λ q. 0 < content q) p
  none_back p h q l c = let P : Graph → Type 0 = λ g. CouldResultIn g q p in h q (is_active q l) (subst P kept.same c)
