-- The headline, for programs.
use Rattle.std.proofs.Common.{◌≡◌, ◌≤◌, ◌<◌, ℕ, List, length, sym, subst}
use Rattle.semantics.specs.Multiset.{IsPartOf, ◌≈◌, count}
use Rattle.semantics.specs.Query.{Program}
use Rattle.semantics.specs.Time.{at_epoch}
use Rattle.semantics.specs.Kinds.{Kind}
use Rattle.semantics.specs.Graph.{vertex}
use Rattle.semantics.specs.Flow.{HasOneFlow}
use Rattle.semantics.specs.Lower.{lowered}
use Rattle.semantics.proofs.MultisetSums.{≈-trans}
use Rattle.semantics.proofs.LoweredDataflow.{typed_dataflow, typed_one_flow, typed_means, lowered_outputs}
use Rattle.semantics.proofs.OutputNumbers.{output_is_there}
use Rattle.machine.specs.World.{World}
use Rattle.machine.specs.Frontier.{Passed}
use Rattle.machine.specs.Step.{Step}
use Rattle.machine.specs.Engine.{engine}
use Rattle.machine.specs.Headline.{output_of, IsRunOf, IsRunOn, meant}
use Rattle.machine.proofs.EmittedFlows as graphs

-- an output's vertex is a vertex of the graph, and an output
pub output_at : (p : Program) (output : ℕ) → output < length p.outputs → (output_of p output < length (lowered p)) × ((vertex (lowered p) (output_of p output)).kind ≡ Kind.output)
output_at p output l = output_is_there (lowered p) output (subst (λ n. output < n) (sym (lowered_outputs p)) l)

module _ (p : Program) (workers : ℕ) (steps : List Step) (w : World) (is : IsRunOf p workers steps w) where
  pub run_on : IsRunOn (lowered p) workers steps w
  run_on = record { flows = typed_dataflow p is.arities is.typed; some = is.some; run = is.run }

  one : HasOneFlow (lowered p) w.fed
  one = typed_one_flow p is.arities w.fed is.typed

  module _ (output epoch : ℕ) (known : output < length p.outputs) where
    -- the edge into the output has what the program means there
    means : one.flow (output_of p output) 0 (at_epoch epoch) ≈ meant p w output epoch
    means = typed_means p is.arities w.fed one.flow output epoch is.typed one.is_only.is_flow known

    pub emitted_part : IsPartOf (w.emitted (output_of p output) epoch) (meant p w output epoch)
    emitted_part =
        let at = output_at p output known in
        let part = graphs.emitted_part (lowered p) workers steps w run_on one.flow one.is_only.is_flow (output_of p output) epoch at.0 at.1 in
        record { within = λ r. subst (λ n. count r (w.emitted (output_of p output) epoch) ≤ n) (means.counts r) (part.within r) }

    pub emitted_whole : Passed (engine p workers) w (output_of p output) epoch → w.emitted (output_of p output) epoch ≈ meant p w output epoch
    emitted_whole passed =
        let at = output_at p output known in
        ≈-trans (graphs.emitted_whole (lowered p) workers steps w run_on one.flow one.is_only.is_flow (output_of p output) epoch at.0 at.1 passed) means
