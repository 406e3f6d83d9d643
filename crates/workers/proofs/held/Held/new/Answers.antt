use Rattle.std.proofs.Common.{ap, ◌∙◌}
use Rattle.board.specs.Shown.{Shown, tables}
use Rattle.workers.proofs.Counting.{tally_same}
use Rattle.workers.proofs.Publishing.{after_opening}
use Rattle.workers.proofs.held.Held.new.Goals as goal

pub invariant_of-result : goal.invariant_of-result
invariant_of-result g c =
    let named = ap tables c.publish.ensures.shown ∙ c.requires.names in
    let runs = ap (λ (s : Shown). s.graph) c.publish.ensures.shown ∙ c.requires.graph in
    (after_opening g.J.Naming.names g.J.Naming.graph c.args.publisher.number c.publish.new.board c.publish.new.publisher.number named runs c.requires.fresh c.publish.ensures.publishes, c.publish.ensures.table ∙ c.requires.mark, tally_same g.J.Naming.first c.args.board.shown c.args.counters.tally c.requires.counts c.publish.new.board.shown c.publish.ensures.shown)
