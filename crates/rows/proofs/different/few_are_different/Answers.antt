use Rattle.std.proofs.Common.{rules}
use Rattle.rows.proofs.Walks.{differ_more}
use Rattle.rows.proofs.different.few_are_different.Goals as goal

pub loop-place-preserved : goal.loop-place-preserved
loop-place-preserved c = (differ_more c.args.rows.now.rows c.loop-place.place c.loop-place.invariant.0 (search rules), search rules)
