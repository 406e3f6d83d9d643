use Rattle.std.proofs.Common.{◌<◌, length}
use Rattle.board.proofs.order.earliest.Given as goal

abbrev pub invariant-loop-place : goal.invariant-loop-place
invariant-loop-place l = l.earliest < length l.mailbox.messages

abbrev pub invariant-loop-nth : goal.invariant-loop-nth
invariant-loop-nth l = l.earliest < length l.mailbox.messages
