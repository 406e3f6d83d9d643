use Rattle.std.proofs.Common.{subst}
use Rattle.semantics.specs.Dataflow.{IsDataflow}
use Rattle.graph.specs.Shown.{shown_graph}
use Rattle.path_summary.proofs.paths.Paths.law_of_dataflow.Goals as goal

pub returns : goal.returns
returns c = subst (λ v. ∥ IsDataflow (shown_graph v) ∥₁) c.self.view_is c.self.invariant.dataflow
