use Rattle.std.proofs.Common.{append-nil}
use Rattle.csv_blocks.proofs.blocks.Blocks.end.Goals as goal

pub returns-then-not-may_end-clause-faulty : goal.returns-then-not-may_end-clause-faulty
returns-then-not-may_end-clause-faulty c = λ done text h. rw (append-nil text) at (c.fault_of.ensures.told done text h)
