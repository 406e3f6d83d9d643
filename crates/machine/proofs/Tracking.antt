-- What a tracker and a view of the active pointstamps may rely on, for the graph of a program.
use Rattle.std.proofs.Common.{◌≡◌, ◌<◌, ◌+◌, ◌↔◌, ℕ, List}
use Rattle.semantics.specs.Multiset.{◌≈◌, IsPartOf}
use Rattle.semantics.specs.Time.{Time}
use Rattle.semantics.specs.Graph.{Graph, edge_count}
use Rattle.semantics.specs.Flow.{Flow, IsFlow, edge_flow}
use Rattle.semantics.specs.Could.{Pointstamp, Location, on_edge, IsTimeAt}
use Rattle.semantics.specs.Dataflow.{IsDataflow}
use Rattle.machine.specs.World.{World, opening}
use Rattle.machine.specs.Active.{IsActive, active_count}
use Rattle.machine.specs.Frontier.{NoneBefore}
use Rattle.machine.specs.Step.{Step, Allowed, MayClaim, after_step}
use Rattle.machine.specs.Run.{Reached}
use Rattle.machine.specs.Choices.{Chooses, IsClaimBy}
use Rattle.machine.specs.Engine.{network}
use Rattle.machine.specs.Headline.{IsRunOn}
use Rattle.machine.specs.Changes.{step_adds, step_removes}
use Rattle.machine.proofs.Laws.{IsNetwork}
use Rattle.machine.proofs.NetFlow.{HasFlows}
use Rattle.machine.proofs.Kept.{Headline}
use Rattle.machine.proofs.Engine.{network_is, net_flow, net_flows}
use Rattle.machine.proofs.Active.{counted, active, count_step}
use Rattle.machine.proofs.Runs.{every_run_keeps, reached_opening, reached_more}
use Rattle.machine.proofs.Choices.{chosen_allowed, choice_one, claim_chosen}

module _ (g : Graph) (flows : IsDataflow g) (workers : ℕ) (some : 0 < workers) where
  pub active_counts : (w : World) (pointstamp : Pointstamp) → IsActive (network g workers) w pointstamp ↔ (0 < active_count (network g workers) w pointstamp)
  active_counts w pointstamp = (counted (network g workers) (network_is g flows workers some) w pointstamp, active (network g workers) (network_is g flows workers some) w pointstamp)

  pub count_after : (w : World) (step : Step) → Allowed (network g workers) w step → (pointstamp : Pointstamp)
      → active_count (network g workers) (after_step (network g workers) w step) pointstamp + step_removes (network g workers) w step pointstamp ≡ active_count (network g workers) w pointstamp + step_adds (network g workers) w step pointstamp
  count_after w step ok pointstamp = count_step (network g workers) (network_is g flows workers some) w step ok pointstamp

module _ (g : Graph) (workers : ℕ) (steps : List Step) (w : World) (is : IsRunOn g workers steps w) where
  pub laws : IsNetwork (network g workers)
  laws = network_is g is.flows workers is.some

  pub have_flows : HasFlows (network g workers)
  have_flows = net_flows g is.flows workers is.some

  -- the headline for a flow on what was fed
  pub kept : (f : Flow) → IsFlow g w.fed f → Headline (network g workers) w (edge_flow g f)
  kept f h = every_run_keeps (network g workers) laws have_flows w (steps, is.run) (edge_flow g f) (net_flow g is.flows workers is.some w.fed f h)

  pub sent_part : (f : Flow) → IsFlow g w.fed f → (edge : ℕ) (t : Time) → edge < edge_count g → IsTimeAt g (Location.edge edge) t → IsPartOf (w.sent edge t) (edge_flow g f edge t)
  sent_part f h edge t l fits = (kept f h).part edge t l fits

  pub sent_whole : (f : Flow) → IsFlow g w.fed f → (edge : ℕ) (t : Time) → edge < edge_count g → IsTimeAt g (Location.edge edge) t → NoneBefore (network g workers) w (on_edge edge t) → w.sent edge t ≈ edge_flow g f edge t
  sent_whole f h edge t l fits none = (kept f h).whole edge t l fits none

module _ (g : Graph) (workers : ℕ) where
  pub opening_reached : Reached (network g workers) opening
  opening_reached = reached_opening (network g workers)

  pub step_reached : (w : World) (step : Step) → Reached (network g workers) w → Allowed (network g workers) w step → Reached (network g workers) (after_step (network g workers) w step)
  step_reached = reached_more (network g workers)

  pub choice_allowed : (w : World) (worker n : ℕ) (step : Step) → MayClaim (network g workers) w worker → Chooses (network g workers) w worker n step → Allowed (network g workers) w step
  choice_allowed = chosen_allowed (network g workers)

  pub choice_is_one : (w : World) (worker n : ℕ) (step other : Step) → Chooses (network g workers) w worker n step → Chooses (network g workers) w worker n other → step ≡ other
  choice_is_one = choice_one (network g workers)

  pub choice_all : (w : World) (worker : ℕ) (step : Step) → MayClaim (network g workers) w worker → Allowed (network g workers) w step → IsClaimBy worker step → ((n : ℕ) → Chooses (network g workers) w worker n step → ⊥) → ⊥
  choice_all = claim_chosen (network g workers)
