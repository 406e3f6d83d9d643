use Rattle.std.proofs.Common.{arith}
use Rattle.follow.proofs.Waiting.{zero_all}
use Rattle.follow.proofs.reporting.Reporting.is_between_epochs.Goals as goal

pub returns : goal.returns
returns c = λ yes_way. zero_all c.args.self.now.reported.items c.loop-place.place c.loop-place.invariant.below (omega (arith, c.loop-place-test.false, c.loop-place.invariant.end_is))
