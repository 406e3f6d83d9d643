-- The inputs of a graph, as a board knows them.
use Rattle.std.specs.Prelude.{◌≡◌, ◌≤◌, ℕ, List, length, Some, slice_get, slice_index_or}
use Rattle.semantics.specs.Query.{Input}
use Rattle.semantics.specs.Graph.{input_count}
use Rattle.graph.specs.Limits.{max_vertices}
use Rattle.graph.specs.Shown.{GraphValue, shown_arities, shown_graph, shown_inputs}

-- the inputs are the graph's, with the arities of its vertices
pub record AreInputsOf (g : GraphValue) (inputs : List Input) : Type 0 where
  pub same : inputs ≡ shown_inputs g
  pub count : length inputs ≤ input_count (shown_graph g)
  pub few : input_count (shown_graph g) ≤ max_vertices
  pub arities : (i : ℕ) (input : Input) → slice_get inputs i ≡ Some input → slice_index_or (shown_arities g) i 0 ≡ input.arity
