use Rattle.std.proofs.Common.{MatchBool, subst, sym}
use Rattle.board.specs.Shown.{Shown}
use Rattle.workers.specs.Sleeping.{IsCareful}
use Rattle.workers.specs.Wakeups.{IsAtEnd}
use Rattle.workers.specs.declared.scheduler.Scheduler.{Scheduler}
use Rattle.workers.proofs.Rest.{rests}
use Rattle.workers.proofs.dispatcher.Dispatcher.wake.Goals as goal

pub returns-clause-lost : goal.returns-clause-lost
returns-clause-lost g c =
    let end = subst (λ (s : Shown). MatchBool c.args.at_end (IsAtEnd s) (IsAtEnd s → ⊥)) (sym c.chosen-chosen.ensures.shown) c.requires in
    let careful = subst (λ (x : Scheduler). IsCareful x c.args.at_end c.choose-choice.result) (sym c.chosen-chosen.ensures.threads) c.choose-choice.ensures in
    rests c.chosen-chosen.new.self.threads c.wake-2.new.self c.chosen-chosen.new.self.held.board.shown c.args.at_end c.choose-choice.result c.chosen-chosen.result c.wake-2.result end careful c.chosen-chosen.ensures.chosen c.wake-2.ensures.wakes c.wake-2.ensures.all
