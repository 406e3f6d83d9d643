use Rattle.std.proofs.Common.{rules}
use Rattle.rows.specs.Counts.{expanded}
use Rattle.rows.proofs.Merging.{never_over}
use Rattle.rows.proofs.batch.Batch.from_rows.Goals as goal

pub unreachable-requires : goal.unreachable-requires
unreachable-requires c = never_over (expanded c.once.result.runs) c.args.rows.rows c.once.ensures.records (search rules) (c.in-Err-Count.ensures.over c.in-Err-Count.field-0-is)
