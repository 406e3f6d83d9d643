use Rattle.collector.proofs.PartsRead.{HasJoined}
use Rattle.collector.proofs.reading.join_parts.Given as goal

abbrev pub invariant-loop-part : goal.invariant-loop-part
invariant-loop-part l = HasJoined l.initial.whole l.yielded l.whole
