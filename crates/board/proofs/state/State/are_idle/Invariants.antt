use Rattle.std.proofs.Common.{◌<◌, ℕ}
use Rattle.board.specs.WorkerShown.{IsIdle, worker_in}
use Rattle.board.proofs.state.State.are_idle.Given as goal

abbrev pub invariant-loop-worker : goal.invariant-loop-worker
invariant-loop-worker l = (k : ℕ) → k < l.worker-index → IsIdle (worker_in l.worker-items k).side
