use Rattle.std.proofs.Common.{◌∙◌, ◌+◌, ◌++◌, [], ap, cond, nat_lt, vec_len, ℕ, List}
use Rattle.std.specs.Prelude.{slice_index_or, slice_range}
use Rattle.driver.specs.declared.tally.Counts.{Counts}
use Rattle.statistics.proofs.Texts.{of_same, vertices_more}
use Rattle.statistics.proofs.fed.Statistics.lines.Goals as goal

pub loop-vertex-preserved : goal.loop-vertex-preserved
loop-vertex-preserved c =
    let s = c.args.self.now in
    let g = s.graph.value in
    let rows : ℕ → List Counts = λ v. cond (nat_lt v (vec_len s.inputs)) (slice_range s.inputs.items v (v + 1)) (slice_index_or c.args.tally.now v []) in
    let v = c.loop-vertex.vertex in
    let here = of_same g c.deref-in-loop-vertex.result.now v (rows v) c.counts-counts.result.now c.in_ok-here.here.items c.deref-in-loop-vertex.ensures c.counts-counts.ensures c.in_ok-here.ensures in
    vertices_more g rows v c.loop-vertex.text.items c.in_ok-here.here.items c.extend_from_slice.new.self.items c.loop-vertex.invariant here
    (c.in_ok-extend_from_slice.ensures.items ∙ ap (λ t. c.loop-vertex.text.items ++ t) c.deref-in-loop-vertex-2.ensures.value)
