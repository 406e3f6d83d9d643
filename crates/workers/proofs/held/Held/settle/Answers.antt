use Rattle.std.proofs.Common.{ℕ, sym, subst, ◌∙◌}
use Rattle.machine.specs.Step.{Step}
use Rattle.board.specs.Promises.{CountsPassed}
use Rattle.board.specs.Shown.{Shown}
use Rattle.driver.specs.Ends.{event_of}
use Rattle.workers.proofs.Counting.{tally_committed, tally_step}
use Rattle.workers.specs.Held.{HeldShown, IsNoLater}
use Rattle.workers.proofs.Publishing.{after_publishing, counted_late, prompt_kept}
use Rattle.workers.proofs.held.Held.settle.Goals as goal

pub invariant_of-self : goal.invariant_of-self
invariant_of-self g c =
    let p = event_of c.args.computed in
    (after_publishing g.J.Naming.names g.J.Naming.graph c.self.inside.board c.self.inside.publisher.number c.self.invariant.0 c.publish.new.board c.publish.new.publisher.number c.law_stays.ensures.count (Step.commit p.worker p.job.happening _) c.settle.new.board c.in-Ok.ensures.ends.1.1 c.settle.ensures.tables c.publish.ensures.shown c.publish.ensures.publishes, c.publish.ensures.table ∙ c.self.invariant.1, tally_committed g.J.Naming.first c.self.inside.board.shown c.self.inside.counters.tally c.self.invariant.2 p c.in-Ok.sent c.count.new.self.tally c.settle.new.board.shown c.publish.new.board.shown c.in-Ok.ensures.tells c.count.ensures c.publish.ensures.shown)

pub returns-in-Ok-clause-published : goal.returns-in-Ok-clause-published
returns-in-Ok-clause-published g c =
    let p = event_of c.args.computed in
    let held = after_publishing g.J.Naming.names g.J.Naming.graph c.self.inside.board c.self.inside.publisher.number c.self.invariant.0 c.publish.new.board c.publish.new.publisher.number c.law_stays.ensures.count (Step.commit p.worker p.job.happening _) c.settle.new.board c.in-Ok.ensures.ends.1.1 c.settle.ensures.tables c.publish.ensures.shown c.publish.ensures.publishes in
    subst (λ (n : ℕ). CountsPassed c.count_event.new.self.board.shown n) (sym c.count_event.ensures.published) (subst (λ (s : Shown). CountsPassed s c.publish.new.publisher.number) (sym c.count_event.ensures.shown) held.published)

pub invariant_of-self-in-Err : goal.invariant_of-self-in-Err
invariant_of-self-in-Err g c =
    let p = event_of c.args.computed in
    let prompt = prompt_kept c.self.inside.board c.settle.new.board c.self.invariant.0.prompt c.in-Err.ensures.views in (
      after_publishing g.J.Naming.names g.J.Naming.graph c.self.inside.board c.self.inside.publisher.number c.self.invariant.0 c.publish_seen.new.board c.publish_seen.new.publisher.number c.law_stays.ensures.count (Step.abandon p.worker p.job.happening) c.settle.new.board c.in-Err.ensures.ends.1 c.settle.ensures.tables c.publish_seen.ensures.shown
          (c.publish_seen.ensures.publishes prompt),
      c.publish_seen.ensures.table ∙ c.self.invariant.1,
      tally_step g.J.Naming.first c.self.inside.board.shown c.self.inside.counters.tally c.self.invariant.2 (Step.abandon p.worker p.job.happening) tt c.settle.new.board.shown c.publish_seen.new.board.shown c.in-Err.ensures.ends.1 c.publish_seen.ensures.shown,
    )

pub returns-in-Err-clause-published : goal.returns-in-Err-clause-published
returns-in-Err-clause-published g c =
    let p = event_of c.args.computed in
    let prompt = prompt_kept c.self.inside.board c.settle.new.board c.self.invariant.0.prompt c.in-Err.ensures.views in
    (after_publishing g.J.Naming.names g.J.Naming.graph c.self.inside.board c.self.inside.publisher.number c.self.invariant.0 c.publish_seen.new.board c.publish_seen.new.publisher.number c.law_stays.ensures.count (Step.abandon p.worker p.job.happening) c.settle.new.board c.in-Err.ensures.ends.1 c.settle.ensures.tables c.publish_seen.ensures.shown
    (c.publish_seen.ensures.publishes prompt)).published

pub returns-in-Err-clause-views : goal.returns-in-Err-clause-views
returns-in-Err-clause-views g c =
    subst (λ (h : HeldShown). IsNoLater h.board c.publish_seen.new.board) c.self.view_is
    (counted_late c.self.inside.board c.settle.new.board c.publish_seen.new.board c.publish_seen.new.board.passed c.in-Err.ensures.views c.publish_seen.ensures.kept c.publish_seen.ensures.rises)
