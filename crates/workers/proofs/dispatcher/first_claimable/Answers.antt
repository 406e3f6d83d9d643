use Rattle.std.proofs.Common.{◌∙◌}
use Rattle.std.proofs.lemmas.Bool.{MatchBool-at_false}
use Rattle.workers.proofs.Rest.{asked_none}
use Rattle.workers.proofs.dispatcher.first_claimable.Goals as goal

pub loop-thread-preserved : goal.loop-thread-preserved
loop-thread-preserved g c = record {
  shown = c.can_claim_one.ensures.shown ∙ c.loop-thread.invariant.shown;
  none = asked_none c.args.threads c.loop-thread.held.board.shown c.can_claim_one.new.held.board.shown c.loop-thread.thread c.can_claim_one.ensures.shown c.loop-thread.invariant.none (MatchBool-at_false _ _ c.if-can_claim_one.false c.can_claim_one.ensures.one);
}
