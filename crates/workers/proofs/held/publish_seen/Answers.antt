use Rattle.std.proofs.Common.{◌≡◌, ◌≤◌, ℕ, ap, subst, sym, ◌∙◌}
use Rattle.board.specs.Lateness.{BoardShown}
use Rattle.workers.proofs.Publishing.{publishes}
use Rattle.workers.proofs.held.publish_seen.Goals as goal

pub returns-clause-shown : goal.returns-clause-shown
returns-clause-shown g c = ap (λ (b : BoardShown). b.shown) c.passed_count.ensures.kept

pub returns-clause-kept : goal.returns-clause-kept
returns-clause-kept g c =
    c.passed_count.ensures.kept ∙ ap (λ (n : ℕ). record c.args.board.now { passed = n }) (sym (ap (λ (b : BoardShown). b.passed) c.passed_count.ensures.kept))

pub returns-clause-rises : goal.returns-clause-rises
returns-clause-rises g c =
    subst (λ (n : ℕ). c.args.board.now.passed ≤ n) (sym (ap (λ (b : BoardShown). b.passed) c.passed_count.ensures.kept)) c.passed_count.ensures.rises

pub returns-clause-publishes : goal.returns-clause-publishes
returns-clause-publishes g c =
    publishes c.args.publisher.now.number c.args.board.now c.passed_count.result c.publish.new.self.number c.passed_count.new.self c.passed_count.ensures.kept c.passed_count.ensures.seen c.publish.ensures.number
