use Rattle.std.proofs.Common.{◌∙◌, ap}
use Rattle.machine.specs.Step.{Step}
use Rattle.board.specs.Lateness.{BoardShown}
use Rattle.workers.proofs.Counting.{tally_same, tally_step}
use Rattle.workers.proofs.Publishing.{after_publishing, after_refusal}
use Rattle.workers.proofs.held.Held.seal.Goals as goal

pub invariant_of-self : goal.invariant_of-self
invariant_of-self g c = (after_refusal g.J.Naming.names g.J.Naming.graph c.self.inside.board c.self.inside.publisher.number c.self.invariant.0 c.seal.new.self c.in_err-seal.ensures.refused, c.self.invariant.1, tally_same g.J.Naming.first c.self.inside.board.shown c.self.inside.counters.tally c.self.invariant.2 c.seal.new.self.shown (ap (λ (b : BoardShown). b.shown) c.in_err-seal.ensures.refused))

pub returns-in_err-seal-clause-published : goal.returns-in_err-seal-clause-published
returns-in_err-seal-clause-published g c = (after_refusal g.J.Naming.names g.J.Naming.graph c.self.inside.board c.self.inside.publisher.number c.self.invariant.0 c.seal.new.self c.in_err-seal.ensures.refused).published

pub invariant_of-self-2 : goal.invariant_of-self-2
invariant_of-self-2 g c =
    (after_publishing g.J.Naming.names g.J.Naming.graph c.self.inside.board c.self.inside.publisher.number c.self.invariant.0 c.publish.new.board c.publish.new.publisher.number c.law_stays.ensures.count (Step.seal c.args.input) c.seal.new.self c.in_ok-seal.ensures.step c.seal.ensures.tables c.publish.ensures.shown c.publish.ensures.publishes, c.publish.ensures.table ∙ c.self.invariant.1, tally_step g.J.Naming.first c.self.inside.board.shown c.self.inside.counters.tally c.self.invariant.2 (Step.seal c.args.input) tt c.seal.new.self.shown c.publish.new.board.shown c.in_ok-seal.ensures.step c.publish.ensures.shown)

pub returns-clause-published : goal.returns-clause-published
returns-clause-published g c =
    (after_publishing g.J.Naming.names g.J.Naming.graph c.self.inside.board c.self.inside.publisher.number c.self.invariant.0 c.publish.new.board c.publish.new.publisher.number c.law_stays.ensures.count (Step.seal c.args.input) c.seal.new.self c.in_ok-seal.ensures.step c.seal.ensures.tables c.publish.ensures.shown c.publish.ensures.publishes).published
