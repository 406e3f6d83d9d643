use Rattle.std.proofs.Common.{◌≡◌, ℕ, Some, length, slice_get}
use Rattle.graph.specs.Shown.{shown_graph}
use Rattle.path_summary.specs.Linking as plain
use Rattle.path_summary.proofs.links.edges_of.Given as goal

abbrev pub invariant-loop-number : goal.invariant-loop-number
invariant-loop-number l = record {
  long : length l.edges.items ≡ l.number;
  each : (e : ℕ) (k : plain.Link) → slice_get l.edges.items e ≡ Some k → k ≡ plain.link_in (shown_graph l.fn.graph) e;
}
