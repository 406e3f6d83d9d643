use Rattle.std.proofs.Common.{[], ◌≤◌, ◌∙◌, ap, refl, subst}
use Rattle.semantics.specs.Graph.{edge_count}
use Rattle.semantics.specs.Time.{at_epoch}
use Rattle.events.specs.Cuts.{Cut, IsCut, cut_letters}
use Rattle.events.specs.Graphs.{IsKnown}
use Rattle.events.specs.Letters.{by_two}
use Rattle.events.specs.Wired.{Wired, graph_in, network_of}
use Rattle.events.proofs.Cuts.{cut_parcels}
use Rattle.events.proofs.SentParcels.{few_letters}
use Rattle.events.proofs.cut.CutBatch.law_of_letters.Goals as goal

pub returns-clause-parcels : goal.returns-clause-parcels
returns-clause-parcels c =
    let is : IsCut c.args.self.now c.self.inside.letters.items = subst (λ (x : Cut). IsCut x c.self.inside.letters.items) c.self.view_is c.self.invariant in
    let k : IsKnown (graph_in c.args.self.now.wired) = subst (λ (w : Wired). IsKnown (graph_in w)) (c.deref.ensures ∙ ap (λ (x : Cut). x.wired) c.self.view_is) c.law_of_graph.ensures in
    cut_parcels c.args.self.now c.self.inside.letters.items k is

pub returns-clause-few : goal.returns-clause-few
returns-clause-few c =
    let w = c.args.self.now.wired in
    let same = c.deref-2.ensures ∙ ap (λ (x : Cut). x.wired) c.self.view_is in
    few_letters (network_of w) 0 c.args.self.now.input (at_epoch c.args.self.now.epoch) (by_two c.args.self.now.batch []) (edge_count (graph_in w)) (cut_letters c.args.self.now)
    (subst (λ (x : Wired). x.workers ≤ 64) same c.law_of_size.ensures.workers)
    (subst (λ (x : Wired). edge_count (graph_in x) ≤ 8192) same c.law_of_size.ensures.edges)
    refl
