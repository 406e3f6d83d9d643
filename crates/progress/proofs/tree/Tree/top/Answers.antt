use Rattle.std.proofs.Common.{◌∙◌, sym, ap, subst}
use Rattle.progress.specs.TimeCounts.{TimeCounts, top, IsFirst}
use Rattle.progress.specs.NodeCounts.{node_counts, IsNode}
use Rattle.progress.proofs.Forks.{fork_first}
use Rattle.progress.proofs.tree.Tree.top.Goals as goal

pub returns-in-Fork-clause-top : goal.returns-in-Fork-clause-top
returns-in-Fork-clause-top c = (c.in-Fork.here.count, ap top (sym c.self.view_is ∙ ap node_counts c.in-Fork.is))

pub returns-in-Fork-clause-first : goal.returns-in-Fork-clause-first
returns-in-Fork-clause-first c =
    let here = c.in-Fork.here in
    subst (λ (b : TimeCounts). IsFirst here.time b) (sym (ap node_counts c.in-Fork.is) ∙ c.self.view_is)
    (fork_first c.in-Fork.field-0.value here.time here.count c.in-Fork.field-2 c.in-Fork.field-3.value (subst IsNode c.in-Fork.is c.self.invariant))
