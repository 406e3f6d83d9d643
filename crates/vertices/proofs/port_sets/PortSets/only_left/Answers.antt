use Rattle.std.proofs.Common.{rules}
use Rattle.rows.specs.Counts.{rows_of}
use Rattle.vertices.proofs.PortSets.{alone_more}
use Rattle.vertices.proofs.port_sets.PortSets.only_left.Goals as goal

pub loop-place-preserved : goal.loop-place-preserved
loop-place-preserved c =
    let i = c.loop-place.invariant in (
      alone_more (rows_of c.args.self.now.right.runs) c.args.self.now.left.runs c.loop-place.rows.rows c.offer.new.rows.rows c.loop-place.place (search rules) i.0 (search rules),
      (search rules),
      i.2,
    )
