-- What is emitted at an output, compared with a flow of the graph.
use Rattle.std.proofs.Common.{◌≡◌, ◌≤◌, ◌<◌, ℕ, List, length, ap, ◌∙◌, subst}
use Rattle.semantics.specs.Multiset.{IsPartOf, ◌≈◌, count}
use Rattle.semantics.specs.Time.{at_epoch}
use Rattle.semantics.specs.Kinds.{Kind}
use Rattle.semantics.specs.Graph.{Graph, vertex, in_port, edge_into}
use Rattle.semantics.specs.Flow.{Flow, IsFlow, edge_flow}
use Rattle.semantics.proofs.MultisetSums.{≈-trans, ≈-from}
use Rattle.semantics.proofs.EdgeNumbers.{into}
use Rattle.machine.specs.World.{World}
use Rattle.machine.specs.Frontier.{Passed}
use Rattle.machine.specs.Step.{Step}
use Rattle.machine.specs.Engine.{network}
use Rattle.machine.specs.Headline.{IsRunOn}
use Rattle.machine.proofs.Engine.{output_is}
use Rattle.machine.proofs.Laws.{IsOutput}
use Rattle.machine.proofs.Tracking.{kept}

module _ (g : Graph) (workers : ℕ) (steps : List Step) (w : World) (is : IsRunOn g workers steps w) (f : Flow) (flow : IsFlow g w.fed f) (v epoch : ℕ) (known : v < length g) (output : (vertex g v).kind ≡ Kind.output) where
  is_output : IsOutput (network g workers) v
  is_output = output_is g is.flows workers is.some v known output

  -- the edge into it, by its number
  edge : edge_flow g f (edge_into g v 0) (at_epoch epoch) ≡ f v 0 (at_epoch epoch)
  edge =
      let i = into g v 0 (is_output.1) in
      ap (λ x. f x (in_port g (edge_into g v 0)) (at_epoch epoch)) i.vertex ∙ ap (λ x. f v x (at_epoch epoch)) i.port

  pub emitted_part : IsPartOf (w.emitted v epoch) (f v 0 (at_epoch epoch))
  emitted_part =
      let part = (kept g workers steps w is f flow).emitted_part v epoch is_output in
      record { within = λ r. subst (λ xs. count r (w.emitted v epoch) ≤ count r xs) edge (part.within r) }

  pub emitted_whole : Passed (network g workers) w v epoch → w.emitted v epoch ≈ f v 0 (at_epoch epoch)
  emitted_whole passed = ≈-trans ((kept g workers steps w is f flow).emitted_whole v epoch is_output passed) (≈-from edge)
