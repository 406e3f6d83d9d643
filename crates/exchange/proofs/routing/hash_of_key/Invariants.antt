use Rattle.std.proofs.Common.{◌≡◌, fold, take}
use Rattle.exchange.specs.Hashes.{step}
use Rattle.exchange.proofs.routing.hash_of_key.Given as goal

abbrev pub invariant-loop-value : goal.invariant-loop-value
invariant-loop-value l = l.hash ≡ fold step 7 (take l.value-index l.key)
