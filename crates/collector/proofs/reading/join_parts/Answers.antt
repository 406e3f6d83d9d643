use Rattle.collector.proofs.PartsRead.{none_joined, one_joined}
use Rattle.collector.proofs.reading.join_parts.Goals as goal

pub loop-part-init : goal.loop-part-init
loop-part-init c = none_joined c.args.first

pub loop-part-preserved : goal.loop-part-preserved
loop-part-preserved c = one_joined c.args.first c.loop-part.whole c.in-Some.part c.append.new.self c.loop-part.yielded c.loop-part.invariant (c.in-Ok-true.ensures c.in-Ok-true.field-0-test)
