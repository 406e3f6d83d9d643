-- A step that a board takes keeps what the board keeps.
use Rattle.std.proofs.Common.{◌≡◌, ◌+◌, ℕ, List, length, sym, ◌∙◌, subst, arith}
use Rattle.semantics.specs.Graph.{Graph}
use Rattle.semantics.specs.Could.{Pointstamp}
use Rattle.graph.specs.Shown.{shown_graph}
use Rattle.machine.specs.World.{opening}
use Rattle.machine.specs.Active.{active_count}
use Rattle.machine.specs.Changes.{step_adds, step_removes}
use Rattle.machine.specs.Step.{Step, Allowed, after_step}
use Rattle.machine.specs.Run.{Run}
use Rattle.machine.specs.Engine.{network}
use Rattle.machine.proofs.Tracking.{count_after, step_reached}
use Rattle.board.specs.Shown.{Shown, InputShown, Side, Epochs, net}
use Rattle.machine.specs.InTransit.{FedFits}
use Rattle.board.specs.Fitting.{FitsPlace, arity_in}
use Rattle.board.specs.Showing.{Shows, AreSidesOf, EachShard}
use Rattle.board.specs.Kept.{IsKept}
use Rattle.std.specs.Prelude.{Bool}

cancel : (a b c d x y : ℕ) → a + c ≡ b + d → x + c ≡ y + d → b ≡ y → a ≡ x
cancel a b c d x y p q r = omega (arith, p, q, r)

module _ (graph : Graph) (content : Pointstamp → ℕ) (s : Shown) (kept : IsKept graph content s) (step : Step)
    (inputs : List InputShown) (sides : List Side) (emitted : List Epochs) (stopped : Bool) (graph' : Graph) (content' : Pointstamp → ℕ) where
  now : Shown
  now = record { graph = s.graph; inputs = inputs; sides = sides; emitted = emitted; stopped = stopped }

  pub kept_more : length inputs ≡ length s.inputs → length emitted ≡ length s.emitted → length sides ≡ length s.sides → graph' ≡ graph
      → AreSidesOf (record { graph = s.graph; inputs = inputs; sides = sides; emitted = emitted; stopped = stopped }) (length s.sides)
      → EachShard (record { graph = s.graph; inputs = inputs; sides = sides; emitted = emitted; stopped = stopped }) (FitsPlace s.graph) → FedFits (shown_graph s.graph) (arity_in s.graph) (after_step (net s) kept.world step)
      → Allowed (net s) kept.world step → Shows (record { graph = s.graph; inputs = inputs; sides = sides; emitted = emitted; stopped = stopped }) (after_step (net s) kept.world step)
      → ((q : Pointstamp) → content' q + step_removes (net s) kept.world step q ≡ content q + step_adds (net s) kept.world step q)
      → IsKept graph' content' (record { graph = s.graph; inputs = inputs; sides = sides; emitted = emitted; stopped = stopped })
  kept_more places rooms many same own fitting fed ok shows counts =
      let reached = step_reached (shown_graph s.graph) (length s.sides) kept.world step (kept.steps, kept.run) ok in
      let Owns : ℕ → Type 0 = λ n. AreSidesOf (record { graph = s.graph; inputs = inputs; sides = sides; emitted = emitted; stopped = stopped }) n in
      let Runs : ℕ → Type 0 = λ n. Run (network (shown_graph s.graph) n) opening reached.0 (after_step (net s) kept.world step) in
      let Tracks : ℕ → Type 0 = λ n. (q : Pointstamp) → content' q ≡ active_count (network (shown_graph s.graph) n) (after_step (net s) kept.world step) q in
      record {
        flows = kept.flows;
        some = omega (arith, kept.some, many);
        few = omega (arith, kept.few, many);
        same = same ∙ kept.same;
        inputs = places ∙ kept.inputs;
        room = rooms ∙ kept.room;
        sides = subst Owns (sym many) own;
        typed = kept.typed;
        fitting = fitting;
        fed = fed;
        steps = reached.0;
        world = after_step (net s) kept.world step;
        run = subst Runs (sym many) reached.1;
        shows = shows;
        tracked = subst Tracks (sym many) (λ q. cancel _ _ _ _ _ _ (counts q) (count_after (shown_graph s.graph) kept.flows (length s.sides) kept.some kept.world step ok q) (kept.tracked q));
      }
