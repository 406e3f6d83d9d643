use Rattle.std.proofs.Common.{◌≡◌, take}
use Rattle.events.specs.Outputs.{counted}
use Rattle.statistics.specs.Counted.{records_in}
use Rattle.statistics.proofs.fed.records_of.Given as goal

abbrev pub invariant-loop-letter : goal.invariant-loop-letter
invariant-loop-letter l = l.records ≡ counted (records_in (take l.letter-index l.letters))
