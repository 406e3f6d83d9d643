use denote.Param.Send.{sendable}
use Rattle.std.proofs.Crossing.{crosses}
use Rattle.workers.proofs.Crossing.{engine_sync}
use Rattle.execution.proofs.watching.Observer.TheSendSync as observers
use Rattle.execution.proofs.threads.work_off_watched.Goals as goal

pub join-requires-send-F : goal.join-requires-send-F
join-requires-send-F g c κs within =
    let sj = c.type_bounds.send-J in let yj = c.type_bounds.sync-J in let sv = c.type_bounds.send-V in let yr = c.type_bounds.sync-R in let yg = c.type_bounds.sync-G in let sw = c.type_bounds.send-W in
    search (sendable, crosses, engine_sync, observers.the_send) depth 40
