use Rattle.std.proofs.Common.{◌≡◌, ◌∙◌, ap, length, map, arith}
use Rattle.graph.specs.Shown.{GraphValue, shown_graph}
use Rattle.driver.proofs.Tallying.{begins}
use Rattle.driver.proofs.tally.Tally.of.Goals as goal

pub returns : goal.returns
returns g c =
    let s = c.args.board.now.shown in
    let vertices : c.vertex_count.result ≡ length (shown_graph s.graph) = c.vertex_count.ensures.value ∙ ap (λ (x : GraphValue). length (shown_graph x)) c.graph.ensures in
    let workers = c.workers.ensures in
    begins s (map (λ row. row.items) c.in_ok-rows.rows.items) c.in_ok-rows.ensures.zero (λ v l k m. c.in_ok-rows.ensures.full v (omega (arith, l, vertices)) k (omega (arith, m, workers)))
