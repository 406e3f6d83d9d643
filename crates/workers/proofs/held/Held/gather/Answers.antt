use Rattle.std.proofs.Common.{ap, subst, sym, ◌∙◌}
use Rattle.board.specs.Answers.{Gathers}
use Rattle.board.specs.Shown.{Shown}
use Rattle.workers.specs.Held.{HeldShown}
use Rattle.board.specs.Lateness.{BoardShown}
use Rattle.workers.proofs.Counting.{tally_gathered, tally_same}
use Rattle.workers.proofs.Publishing.{after_gathering, after_refusal}
use Rattle.workers.proofs.held.Held.gather.Goals as goal

pub invariant_of-self : goal.invariant_of-self
invariant_of-self g c = (after_refusal g.J.Naming.names g.J.Naming.graph c.self.inside.board c.self.inside.publisher.number c.self.invariant.0 c.gather.new.board (c.gather.ensures.nothing c.if-not-gather.true), c.self.invariant.1, tally_same g.J.Naming.first c.self.inside.board.shown c.self.inside.counters.tally c.self.invariant.2 c.gather.new.board.shown (ap (λ (b : BoardShown). b.shown) (c.gather.ensures.nothing c.if-not-gather.true)))

pub returns-then-not-gather-clause-published : goal.returns-then-not-gather-clause-published
returns-then-not-gather-clause-published g c = (after_refusal g.J.Naming.names g.J.Naming.graph c.self.inside.board c.self.inside.publisher.number c.self.invariant.0 c.gather.new.board (c.gather.ensures.nothing c.if-not-gather.true)).published

pub returns-then-not-gather-clause-gathers : goal.returns-then-not-gather-clause-gathers
returns-then-not-gather-clause-gathers g c =
    let P : HeldShown → Type 0 = λ h. Gathers h.board.shown c.args.worker c.gather.new.board.shown in
    subst P c.self.view_is c.gather.ensures.gathers

pub invariant_of-self-2 : goal.invariant_of-self-2
invariant_of-self-2 g c = (
  after_gathering g.J.Naming.names g.J.Naming.graph c.self.inside.board c.self.inside.publisher.number c.self.invariant.0 c.gather.new.board c.publish.new.board
      c.publish.new.publisher.number c.gather.ensures.tables c.gather.ensures.graph c.gather.ensures.passed c.publish.ensures.shown c.publish.ensures.applies.passed c.publish.ensures.publishes,
  c.publish.ensures.table ∙ c.self.invariant.1,
  tally_gathered g.J.Naming.first c.self.inside.board.shown c.self.inside.counters.tally c.self.invariant.2 c.args.worker c.gather.new.board.shown c.publish.new.board.shown c.gather.ensures.gathers c.publish.ensures.shown,
)

pub returns-clause-published : goal.returns-clause-published
returns-clause-published g c =
    (after_gathering g.J.Naming.names g.J.Naming.graph c.self.inside.board c.self.inside.publisher.number c.self.invariant.0 c.gather.new.board c.publish.new.board
    c.publish.new.publisher.number c.gather.ensures.tables c.gather.ensures.graph c.gather.ensures.passed c.publish.ensures.shown c.publish.ensures.applies.passed c.publish.ensures.publishes).published

pub returns-clause-gathers : goal.returns-clause-gathers
returns-clause-gathers g c =
    let P : HeldShown → Type 0 = λ h. Gathers h.board.shown c.args.worker c.publish.new.board.shown in
    let Q : Shown → Type 0 = λ s. Gathers c.self.inside.board.shown c.args.worker s in
    subst P c.self.view_is (subst Q (sym c.publish.ensures.shown) c.gather.ensures.gathers)
