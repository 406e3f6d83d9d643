use Rattle.std.proofs.Common.{◌≡◌, ℕ, ◌<◌, true}
use Rattle.graph.specs.Shown.{shown_graph}
use Rattle.semantics.specs.Graph.{vertex}
use Rattle.semantics.specs.Kinds.{is_input}
use Rattle.graph.proofs.graph.Graph.input_count.Given as goal

abbrev pub invariant-loop-number : goal.invariant-loop-number
invariant-loop-number l = (j : ℕ) → j < l.number → is_input (vertex (shown_graph l.self) j).kind ≡ true
