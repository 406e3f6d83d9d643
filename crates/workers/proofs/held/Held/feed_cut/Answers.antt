use Rattle.std.proofs.Common.{◌≡◌, Result, OnErr, OnOk, ap, subst, ◌∙◌}
use Rattle.machine.specs.Step.{Step}
use Rattle.board.specs.Kept.{Goes}
use Rattle.board.specs.declared.refusal.StepRefusal.{StepRefusal}
use Rattle.board.specs.Lateness.{BoardShown}
use Rattle.workers.proofs.Counting.{tally_same, tally_step}
use Rattle.workers.proofs.Publishing.{after_publishing, after_refusal}
use Rattle.workers.proofs.held.Held.feed_cut.Goals as goal

pub invariant_of-self : goal.invariant_of-self
invariant_of-self g c =
    let P : Result (Unit {0}) StepRefusal → Type 0 = λ r. OnErr r (c.feed_cut-result.new.self ≡ c.self.inside.board) in
    (after_refusal g.J.Naming.names g.J.Naming.graph c.self.inside.board c.self.inside.publisher.number c.self.invariant.0 c.feed_cut-result.new.self (subst P c.in-Err.is c.feed_cut-result.ensures.refused), c.self.invariant.1, tally_same g.J.Naming.first c.self.inside.board.shown c.self.inside.counters.tally c.self.invariant.2 c.feed_cut-result.new.self.shown (ap (λ (b : BoardShown). b.shown) (subst P c.in-Err.is c.feed_cut-result.ensures.refused)))

pub returns-in-Err-clause-published : goal.returns-in-Err-clause-published
returns-in-Err-clause-published g c =
    let P : Result (Unit {0}) StepRefusal → Type 0 = λ r. OnErr r (c.feed_cut-result.new.self ≡ c.self.inside.board) in
    (after_refusal g.J.Naming.names g.J.Naming.graph c.self.inside.board c.self.inside.publisher.number c.self.invariant.0 c.feed_cut-result.new.self (subst P c.in-Err.is c.feed_cut-result.ensures.refused)).published

pub invariant_of-self-2 : goal.invariant_of-self-2
invariant_of-self-2 g c =
    let P : Result (Unit {0}) StepRefusal → Type 0 = λ r. OnOk r (Goes c.self.inside.board.shown (Step.feed c.args.cut.input c.args.cut.batch) c.feed_cut-result.new.self.shown) in
    (after_publishing g.J.Naming.names g.J.Naming.graph c.self.inside.board c.self.inside.publisher.number c.self.invariant.0 c.publish.new.board c.publish.new.publisher.number c.law_stays.ensures.count (Step.feed c.args.cut.input c.args.cut.batch) c.feed_cut-result.new.self (subst P c.in_default.is c.feed_cut-result.ensures.step) c.feed_cut-result.ensures.tables c.publish.ensures.shown c.publish.ensures.publishes, c.publish.ensures.table ∙ c.self.invariant.1, tally_step g.J.Naming.first c.self.inside.board.shown c.self.inside.counters.tally c.self.invariant.2 (Step.feed c.args.cut.input c.args.cut.batch) tt c.feed_cut-result.new.self.shown c.publish.new.board.shown (subst P c.in_default.is c.feed_cut-result.ensures.step) c.publish.ensures.shown)

pub returns-clause-published : goal.returns-clause-published
returns-clause-published g c =
    let P : Result (Unit {0}) StepRefusal → Type 0 = λ r. OnOk r (Goes c.self.inside.board.shown (Step.feed c.args.cut.input c.args.cut.batch) c.feed_cut-result.new.self.shown) in
    (after_publishing g.J.Naming.names g.J.Naming.graph c.self.inside.board c.self.inside.publisher.number c.self.invariant.0 c.publish.new.board c.publish.new.publisher.number c.law_stays.ensures.count (Step.feed c.args.cut.input c.args.cut.batch) c.feed_cut-result.new.self (subst P c.in_default.is c.feed_cut-result.ensures.step) c.feed_cut-result.ensures.tables c.publish.ensures.shown c.publish.ensures.publishes).published
