use Rattle.std.proofs.Common.{◌≡◌, ◌≤◌}
use Rattle.semantics.specs.Could.{Pointstamp}
use Rattle.graph.specs.Shown.{shown_graph}
use Rattle.progress.specs.Content.{times_at, times_in}
use Rattle.engine_conformance.proofs.differences.differences_of.Given as goal

abbrev pub invariant-loop-n : goal.invariant-loop-n
invariant-loop-n l = record {
  plain : shown_graph l.plain.graph ≡ shown_graph l.fn.paths;
  located : shown_graph l.located.graph ≡ shown_graph l.fn.paths;
  same : (q : Pointstamp) → times_in l.plain.active q ≡ times_at l.located.edges l.located.vertices q;
  few : l.differ ≤ l.n;
}
