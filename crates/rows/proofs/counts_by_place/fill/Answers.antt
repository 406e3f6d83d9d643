use Rattle.std.proofs.Common.{rules}
use Rattle.rows.proofs.Rises.{filled_more}
use Rattle.rows.proofs.counts_by_place.fill.Goals as goal

pub loop-counts-preserved : goal.loop-counts-preserved
loop-counts-preserved c = filled_more c.args.len c.args.counts.now.items c.loop-counts.counts.items c.push.new.self.items (search rules) (search rules) c.loop-counts.invariant
