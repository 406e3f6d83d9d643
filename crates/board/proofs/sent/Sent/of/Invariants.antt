use Rattle.std.proofs.Common.{◌≡◌, length, take}
use Rattle.semantics.specs.Multiset.{total}
use Rattle.events.specs.Outputs.{counted}
use Rattle.board.proofs.sent.Sent.of.Given as goal

abbrev pub invariant-loop-letter : goal.invariant-loop-letter
invariant-loop-letter l = l.sent.records ≡ counted (total (λ letter. length letter.message.records) (take l.letter-index l.letters))
