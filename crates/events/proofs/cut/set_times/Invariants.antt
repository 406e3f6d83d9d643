use Rattle.std.proofs.Common.{◌≡◌}
use Rattle.semantics.specs.Time.{at_epoch}
use Rattle.events.specs.Cuts.{at_time}
use Rattle.events.proofs.Cuts.{written}
use Rattle.events.proofs.cut.set_times.Given as goal

abbrev pub invariant-loop-letter : goal.invariant-loop-letter
invariant-loop-letter l = l.letters ≡ written (at_time (at_epoch l.epoch)) l.letter-index l.fn.letters
