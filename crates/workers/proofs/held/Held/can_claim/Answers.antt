use Rattle.std.proofs.Common.{◌∙◌, ap, subst, sym}
use Rattle.board.specs.Lateness.{IsUpToDate}
use Rattle.workers.specs.Held.{HeldShown}
use Rattle.workers.proofs.Publishing.{choice}
use Rattle.workers.proofs.held.Held.can_claim.Goals as goal

pub returns-clause-choice : goal.returns-clause-choice
returns-clause-choice g c =
    choice c.args.self.now.board c.self.inside.board c.args.worker c.can_claim.result (ap (λ (h : HeldShown). h.board.shown) c.self.view_is ∙ c.catch_up.ensures.shown)
    (subst (λ (h : HeldShown). IsUpToDate h.board c.args.worker) (sym c.self.view_is) c.catch_up.ensures.prompt) c.can_claim.ensures.some c.can_claim.ensures.none
