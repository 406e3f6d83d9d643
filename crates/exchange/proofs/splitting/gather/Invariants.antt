use Rattle.std.proofs.Common.{◌≡◌, length}
use Rattle.exchange.specs.Parts.{gathered}
use Rattle.exchange.proofs.splitting.gather.Given as goal

abbrev pub invariant-loop-part : goal.invariant-loop-part
invariant-loop-part l = (l.parcels.items ≡ gathered 0 l.yielded) × (l.worker ≡ length l.yielded)
