use Rattle.std.proofs.Common.{◌≡◌}
use Rattle.workers.proofs.dispatcher.Dispatcher.feed_all.Given as goal

abbrev pub invariant-loop-feed : goal.invariant-loop-feed
invariant-loop-feed g l = l.self.threads ≡ l.fn.self.threads
