use Rattle.std.proofs.Common.{◌∷◌, [], arith, length-append}
use Rattle.graph.specs.Shown.{shown_graph}
use Rattle.path_summary.proofs.RowsMade.{links_more, no_links}
use Rattle.path_summary.proofs.links.edges_of.Goals as goal

pub loop-number-init : goal.loop-number-init
loop-number-init c = rw c.in_ok-edges.ensures.items (record { long = omega arith; each = no_links (shown_graph c.args.graph.now) })

pub loop-number-preserved : goal.loop-number-preserved
loop-number-preserved c =
    rw c.in_ok-push.ensures.items (record {
      long = omega (arith, length-append c.loop-number.edges.items (c.link_at.result ∷ []), c.loop-number.invariant.long);
      each = links_more (shown_graph c.args.graph.now) c.loop-number.edges.items c.loop-number.number c.link_at.result c.loop-number.invariant.long c.loop-number.invariant.each c.link_at.ensures;
    })
