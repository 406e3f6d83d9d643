use Rattle.std.proofs.Common.{◌≤◌, ◌<◌, ℕ}
use Rattle.board.specs.Merging.{AreAlike}
use Rattle.board.proofs.merging.next_alike.Given as goal

abbrev pub invariant-loop-place : goal.invariant-loop-place
invariant-loop-place l = (at : ℕ) → l.from ≤ at → at < l.place → AreAlike l.mailbox.messages at → ⊥
