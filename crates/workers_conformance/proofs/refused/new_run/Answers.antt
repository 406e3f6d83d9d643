use denote.Param.Send.{sendable}
use Rattle.std.proofs.Crossing.{crosses}
use Rattle.workers.proofs.Crossing.{direct_send}
use Rattle.workers_conformance.proofs.refused.new_run.Goals as goal

pub play-requires-send-V : goal.play-requires-send-V
play-requires-send-V g c κs = search (sendable, crosses, direct_send) depth 20
