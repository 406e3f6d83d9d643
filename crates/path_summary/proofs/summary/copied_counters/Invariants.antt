use Rattle.std.proofs.Common.{◌≡◌, take}
use Rattle.path_summary.proofs.summary.copied_counters.Given as goal

abbrev pub invariant-loop-counter : goal.invariant-loop-counter
invariant-loop-counter l = l.copied.items ≡ take l.counter-index l.counters
