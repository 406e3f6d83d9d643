use Rattle.std.proofs.Common.{take}
use Rattle.rows.specs.FlatRows.{joined}
use Rattle.vertices.specs.Groups.{AreGroupsOf}
use Rattle.vertices.proofs.group.GroupShard.grouped.Given as goal

abbrev pub invariant-loop-batch : goal.invariant-loop-batch
invariant-loop-batch l = AreGroupsOf l.self.operator l.groups (joined (take l.batch-index l.batches))
