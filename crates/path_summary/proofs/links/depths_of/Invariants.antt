use Rattle.std.proofs.Common.{◌≡◌, ◌<◌, ℕ, length, slice_index_or}
use Rattle.semantics.specs.Graph.{vertex}
use Rattle.graph.specs.Shown.{shown_graph}
use Rattle.path_summary.proofs.links.depths_of.Given as goal

abbrev pub invariant-loop-number : goal.invariant-loop-number
invariant-loop-number l = record {
  long : length l.depths.items ≡ l.number;
  each : (v : ℕ) → v < l.number → slice_index_or l.depths.items v 0 ≡ (vertex (shown_graph l.fn.graph) v).depth;
}
