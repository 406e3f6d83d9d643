use Rattle.std.proofs.Common.{◌∙◌, arith}
use Rattle.workers.proofs.Rest.{asked_more}
use Rattle.workers.proofs.dispatcher.all_claimable.Goals as goal

pub loop-thread-preserved : goal.loop-thread-preserved
loop-thread-preserved g c = record {
  shown = c.claimable_one.ensures.shown ∙ c.loop-thread.invariant.shown;
  all = asked_more c.args.threads c.loop-thread.claimable c.claimable_one.result c.or-claimable.result c.loop-thread.held.board.shown c.claimable_one.new.held.board.shown c.loop-thread.thread c.claimable_one.ensures.shown c.loop-thread.invariant.all c.claimable_one.ensures.one c.or-claimable.ensures;
}

pub returns-clause-all : goal.returns-clause-all
returns-clause-all g c = λ n is. c.loop-thread.invariant.all n (omega (arith, c.law_few.ensures n is, c.loop-thread-test.false)) is
