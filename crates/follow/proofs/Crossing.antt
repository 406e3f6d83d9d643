-- What a thread gets of an event, and what it gives back, may go to any thread.
use denote.Param.Send.{IsSend, sendable}
use Rattle.std.proofs.Crossing.{crosses}
use Rattle.events.proofs.Crossing.{done_send, work_send}
use Rattle.follow.specs.contracts.slot.Slot as slot

pub slot_send : IsSend slot.the_row
slot_send = search (sendable, crosses, work_send, done_send) depth 20
