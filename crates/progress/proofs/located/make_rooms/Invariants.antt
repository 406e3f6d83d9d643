use Rattle.std.proofs.Common.{◌≡◌, ◌+◌, length}
use Rattle.progress.proofs.located.make_rooms.Given as goal

abbrev pub invariant-loop : goal.invariant-loop
invariant-loop l = length l.rooms.items ≡ length l.fn.rooms.items + l.counter
