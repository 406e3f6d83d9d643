use Rattle.board.proofs.Called.{applied_late, applied_twice}
use Rattle.board.proofs.board.Board.claim.Goals as goal

pub returns-in-Some-claim_mail-clause-applies : goal.returns-in-Some-claim_mail-clause-applies
returns-in-Some-claim_mail-clause-applies g c =
    let k = c.args.worker in
    let b = c.args.self.now in
    applied_late k b c.claim_due.new.self c.claim_mail.new.self
    (applied_late k b c.refresh.new.self c.claim_due.new.self c.refresh.ensures.applies c.claim_due.ensures.views)
    c.claim_mail.ensures.views

pub returns-clause-applies : goal.returns-clause-applies
returns-clause-applies g c =
    let k = c.args.worker in
    let b = c.args.self.now in
    let before =
    applied_late k b c.claim_due.new.self c.claim_mail.new.self
    (applied_late k b c.refresh.new.self c.claim_due.new.self c.refresh.ensures.applies c.claim_due.ensures.views)
    c.claim_mail.ensures.views in
    applied_late k b c.catch_up.new.self c.claim_rest.new.self (applied_twice k b c.claim_mail.new.self c.catch_up.new.self before c.catch_up.ensures.applies) c.claim_rest.ensures.views
