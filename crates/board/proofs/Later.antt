-- What holds of every world that a board shows: no step lets more come, and an event that is out could come at its vertex.
use Rattle.std.proofs.Common.{◌≡◌, ◌<◌, ℕ, false, length, sym, subst, ◌∙◌}
use Rattle.semantics.specs.Could.{Pointstamp, at_vertex}
use Rattle.semantics.specs.Graph.{Graph}
use Rattle.graph.specs.Shown.{shown_graph}
use Rattle.machine.specs.Active.{IsActive, event_pointstamp}
use Rattle.machine.specs.Headline.{IsRunOn}
use Rattle.machine.specs.Processing.{event_time, event_vertex}
use Rattle.machine.specs.World.{World, Event, Held}
use Rattle.machine.proofs.Kept.{each, GoodHeld, GoodMessage, GoodRequest}
use Rattle.machine.proofs.Laws.{IsNetwork}
use Rattle.machine.proofs.Progress.{Good, reaches_vertex, under_step}
use Rattle.machine.proofs.Runs.{keep_reached}
use Rattle.machine.proofs.Steps.{good_of}
use Rattle.machine.proofs.Tracking.{laws, have_flows}
use Rattle.board.specs.Kept.{IsKept}
use Rattle.board.specs.Shown.{Shown, net}
use Rattle.board.specs.Showing.{CanCome, Shows}
use Rattle.board.proofs.Still.{IsLater}

module _ (graph : Graph) (content : Pointstamp → ℕ) (s : Shown) (kept : IsKept graph content s) where
  run_here : IsRunOn (shown_graph s.graph) (length s.sides) kept.steps kept.world
  run_here = record { flows = kept.flows; some = kept.some; run = kept.run }

  law : IsNetwork (net s)
  law = laws (shown_graph s.graph) (length s.sides) kept.steps kept.world run_here

  good_world : Good (net s) kept.world
  good_world =
      let held = keep_reached (net s) law (have_flows (shown_graph s.graph) (length s.sides) kept.steps kept.world run_here) kept.world (kept.steps, kept.run) in
      good_of (net s) law kept.world held.0 held.1

  good_shown : (w : World) → Shows s w → Good (net s) w
  good_shown w is = record {
    mail = λ k l. subst (each (GoodMessage (net s) k)) (kept.shows.mail k l ∙ sym (is.mail k l)) (good_world.mail k l);
    requests = λ k l. subst (each (GoodRequest (net s))) (kept.shows.requests k l ∙ sym (is.requests k l)) (good_world.requests k l);
    held = λ k l. subst (GoodHeld (net s) k) (kept.shows.held k l ∙ sym (is.held k l)) (good_world.held k l);
  }

  pub later : IsLater s
  later w is step ok v t (q, active, could) =
      let u = under_step (net s) law w (good_shown w is) step ok q active in
      (u.0, u.1, law.could_on u.0 q (at_vertex v t) u.2 could)

  -- an event that is out
  pub comes : (w : World) → Shows s w → (k : ℕ) → k < length s.sides → (event : Event) → w.held k ≡ Held.holding false event
      → CanCome (net s) w (event_vertex (net s) event) (event_time event)
  comes w is k l event e = (
    event_pointstamp event,
    IsActive.of_held k false event l e,
    reaches_vertex (net s) law w (good_shown w is) k event (subst (GoodHeld (net s) k) e ((good_shown w is).held k l)),
  )
