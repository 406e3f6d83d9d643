use Rattle.std.proofs.Common.{◌+◌, [], cond, nat_lt, vec_len}
use Rattle.std.specs.Prelude.{slice_index_or, slice_range}
use Rattle.statistics.specs.Report.{AreOfVertices}
use Rattle.statistics.proofs.fed.Statistics.lines.Given as goal

abbrev pub invariant-loop-vertex : goal.invariant-loop-vertex
invariant-loop-vertex l =
    AreOfVertices l.self.graph.value (λ v. cond (nat_lt v (vec_len l.self.inputs)) (slice_range l.self.inputs.items v (v + 1)) (slice_index_or l.tally v [])) l.vertex l.text.items
