use Rattle.std.proofs.Common.{◌≡◌}
use Rattle.workers.proofs.dispatcher.Dispatcher.claim_among.Given as goal

abbrev pub invariant-loop-worker : goal.invariant-loop-worker
invariant-loop-worker g l = l.self.threads ≡ l.fn.self.threads
