use Rattle.std.proofs.Common.{◌≡◌, ◌++◌}
use Rattle.statistics.specs.Report.{worker_lines}
use Rattle.statistics.proofs.lines.put_workers.Given as goal

abbrev pub invariant-loop-worker : goal.invariant-loop-worker
invariant-loop-worker l = l.text.items ≡ l.fn.text.items ++ worker_lines l.head l.counts l.worker
