use Rattle.std.proofs.Common.{arith, rules}
use Rattle.follow.proofs.Fed.{all_sent, more_sent, none_sent, sent_so}
use Rattle.follow.proofs.intake.feed_portion.Goals as goal

pub loop-input-init : goal.loop-input-init
loop-input-init g c = record { end_is = search rules; sent = none_sent c.args.board.now.shown c.args.intake.now }

pub feed_rows-requires-clause-there : goal.feed_rows-requires-clause-there
feed_rows-requires-clause-there g c = omega (arith, c.loop-input-test.true, c.loop-input.invariant.end_is, c.loop-input.invariant.sent.holds.inputs)

pub feed_rows-requires-clause-fed : goal.feed_rows-requires-clause-fed
feed_rows-requires-clause-fed g c = sent_so c.args.board.now.shown c.loop-input.board.shown c.args.intake.now c.loop-input.intake c.loop-input.input c.loop-input.invariant.sent c.requires

pub loop-input-preserved : goal.loop-input-preserved
loop-input-preserved g c = record {
  end_is = c.loop-input.invariant.end_is;
  sent = more_sent c.args.board.now.shown c.loop-input.board.shown c.feed_rows.new.board.shown c.args.intake.now c.loop-input.intake c.feed_rows.new.intake c.loop-input.input c.loop-input.invariant.sent c.in_ok-feed_rows.ensures;
}

pub returns : goal.returns
returns g c = all_sent c.args.board.now.shown c.loop-input.board.shown c.args.intake.now c.loop-input.intake c.loop-input.input c.loop-input.invariant.sent (omega (arith, c.loop-input-test.false, c.loop-input.invariant.end_is))
