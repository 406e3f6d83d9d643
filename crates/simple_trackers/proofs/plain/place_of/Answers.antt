use Rattle.std.proofs.Common.{arith}
use Rattle.progress.proofs.Contents.{times_none}
use Rattle.simple_trackers.proofs.plain.place_of.Goals as goal

pub returns-clause-none : goal.returns-clause-none
returns-clause-none c = times_none c.args.p.now c.args.active.now c.loop-i.i (let t = c.loop-i-test.false in omega arith) c.loop-i.invariant
