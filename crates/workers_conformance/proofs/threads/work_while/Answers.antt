use denote.Param.Send.{sendable}
use Rattle.std.proofs.Crossing.{crosses}
use Rattle.workers.proofs.Crossing.{engine_sync}
use Rattle.workers_conformance.proofs.threads.work_while.Goals as goal

pub join-one-requires-send-F : goal.join-one-requires-send-F
join-one-requires-send-F g c κs within =
    let sj = c.type_bounds.send-J in let sv = c.type_bounds.send-V in let yj = c.type_bounds.sync-J in let yg = c.type_bounds.sync-G in let yr = c.type_bounds.sync-R in
    search (sendable, crosses, engine_sync) depth 40
