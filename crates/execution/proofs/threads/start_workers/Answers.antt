use denote.Param.Send.{sendable}
use Rattle.std.proofs.Crossing.{crosses}
use Rattle.workers.proofs.Crossing.{engine_sync}
use Rattle.execution.proofs.notice.Notice.TheSendSync as notices
use Rattle.execution.proofs.threads.start_workers.Goals as goal

pub spawn-started-requires-send-F : goal.spawn-started-requires-send-F
spawn-started-requires-send-F g c κs within =
    let sj = c.type_bounds.send-J in let yj = c.type_bounds.sync-J in let sv = c.type_bounds.send-V in let yr = c.type_bounds.sync-R in let yg = c.type_bounds.sync-G in
    search (sendable, crosses, engine_sync, notices.the_sync) depth 40
