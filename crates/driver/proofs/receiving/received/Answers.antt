use Rattle.std.proofs.Common.{◌∙◌, ◌+◌, [], ap, arith}
use Rattle.board.specs.Outputs.{counted}
use Rattle.driver.specs.Received.{received_in}
use Rattle.driver.proofs.Sums.{sum_more}
use Rattle.driver.proofs.receiving.received.Goals as goal

pub vertices-preserved : goal.vertices-preserved
vertices-preserved c =
    let one = c.received_by.ensures ∙ ap received_in c.row.ensures in
    sum_more received_in c.args.tally.now c.vertices.vertex [] c.vertices.all c.saturating_add-all.result (omega (arith, c.vertices-test.true, c.len-vertex-end.ensures, c.vertices.auto.vertex-end)) c.vertices.invariant
    (c.saturating_add-all.ensures ∙ ap (λ n. counted (c.vertices.all + n)) one)
