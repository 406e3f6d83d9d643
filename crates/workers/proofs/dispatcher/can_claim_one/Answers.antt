use Rattle.std.proofs.Common.{◌≡◌, ◌%◌, ℕ, Bool, true, false, MatchBool, subst, sym}
use Rattle.board.specs.Answers.{HasChoice, HasNoChoice}
use Rattle.board.specs.Shown.{Shown}
use Rattle.workers.specs.ThreadSets.{IsIn}
use Rattle.workers.proofs.dispatcher.can_claim_one.Goals as goal

-- a worker that is asked, and has no event, has none afterwards
asked : (b : Bool) (here there some : Type 0) (s t : Shown) (k : ℕ) → here → t ≡ s → MatchBool b some (HasNoChoice s k) → MatchBool b here (there → HasNoChoice t k)
asked true here there some s t k is same answer = is
asked false here there some s t k is same answer = λ i. subst (λ (x : Shown). HasNoChoice x k) (sym same) answer

pub returns-then-has-clause-one : goal.returns-then-has-clause-one
returns-then-has-clause-one g c =
    let s = c.args.held.now.board.shown in
    asked c.can_claim.result (IsIn c.args.threads (c.args.thread % 64)) (IsIn c.args.threads c.args.thread) (HasChoice s c.args.thread) s c.can_claim.new.self.board.shown c.args.thread c.if-has.ensures
    c.can_claim.ensures.shown c.can_claim.ensures.choice
