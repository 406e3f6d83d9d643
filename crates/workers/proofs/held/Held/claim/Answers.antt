use Rattle.std.proofs.Common.{◌≡◌, subst, sym, ◌∙◌}
use Rattle.board.specs.Answers.{Claims, IfNothing}
use Rattle.board.specs.Lateness.{Applies, BoardShown, IsUpToDate}
use Rattle.board.specs.Shown.{Shown}
use Rattle.workers.specs.Held.{HeldShown}
use Rattle.workers.proofs.Counting.{tally_claimed}
use Rattle.workers.proofs.Publishing.{after_claiming, counted_then, prompt_applied}
use Rattle.workers.proofs.held.Held.claim.Goals as goal

pub invariant_of-self : goal.invariant_of-self
invariant_of-self g c =
    let prompt = prompt_applied c.args.worker c.self.inside.board c.claim-claimed.new.self c.self.invariant.0.prompt c.claim-claimed.ensures.applies in
    let claims = subst (λ (z : Shown). Claims c.self.inside.board.shown z c.args.worker c.claim-claimed.result) (sym c.publish_seen.ensures.shown) c.claim-claimed.ensures.claims in (
      after_claiming g.J.Naming.names g.J.Naming.graph c.self.inside.board c.self.inside.publisher.number c.self.invariant.0 c.publish_seen.new.board c.publish_seen.new.publisher.number c.law_count.ensures.one c.law_stays.ensures.count c.args.worker c.claim-claimed.result c.claim-claimed.new.self c.claim-claimed.ensures.claims c.claim-claimed.ensures.tables
          c.publish_seen.ensures.shown (c.publish_seen.ensures.publishes prompt),
      c.publish_seen.ensures.table ∙ c.self.invariant.1,
      tally_claimed g.J.Naming.first c.self.inside.board.shown c.self.inside.counters.tally c.self.invariant.2 c.args.worker c.claim-claimed.result c.publish_seen.new.board.shown claims,
    )

pub returns-clause-published : goal.returns-clause-published
returns-clause-published g c =
    let prompt = prompt_applied c.args.worker c.self.inside.board c.claim-claimed.new.self c.self.invariant.0.prompt c.claim-claimed.ensures.applies in
    (after_claiming g.J.Naming.names g.J.Naming.graph c.self.inside.board c.self.inside.publisher.number c.self.invariant.0 c.publish_seen.new.board c.publish_seen.new.publisher.number c.law_count.ensures.one c.law_stays.ensures.count c.args.worker c.claim-claimed.result c.claim-claimed.new.self c.claim-claimed.ensures.claims c.claim-claimed.ensures.tables
    c.publish_seen.ensures.shown (c.publish_seen.ensures.publishes prompt)).published

pub returns-clause-claims : goal.returns-clause-claims
returns-clause-claims g c =
    let P : HeldShown → Type 0 = λ h. Claims h.board.shown c.publish_seen.new.board.shown c.args.worker c.claim-claimed.result in
    let Q : Shown → Type 0 = λ z. Claims c.self.inside.board.shown z c.args.worker c.claim-claimed.result in
    subst P c.self.view_is (subst Q (sym c.publish_seen.ensures.shown) c.claim-claimed.ensures.claims)

pub returns-clause-applies : goal.returns-clause-applies
returns-clause-applies g c =
    let P : HeldShown → Type 0 = λ h. Applies c.args.worker h.board c.publish_seen.new.board in
    subst P c.self.view_is
    (counted_then c.args.worker c.self.inside.board c.claim-claimed.new.self c.publish_seen.new.board c.publish_seen.new.board.passed c.claim-claimed.ensures.applies c.publish_seen.ensures.kept c.publish_seen.ensures.rises)

pub returns-clause-idle : goal.returns-clause-idle
returns-clause-idle g c =
    subst (λ (z : BoardShown). IfNothing c.claim-claimed.result (IsUpToDate z c.args.worker)) (sym c.publish_seen.ensures.kept) c.claim-claimed.ensures.idle
