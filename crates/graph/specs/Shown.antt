-- What a graph in memory shows.
use Rattle.std.specs.Prelude.{◌≡◌, ℕ, List, map}
use Rattle.semantics.specs.Query.{Input, Name}
use Rattle.semantics.specs.Graph.{Graph}
use Rattle.graph.specs.Views.{graph_of, name_of_output}
use Rattle.record_core.specs.Inputs.{input_of}
use Rattle.record_core.specs.declared.input.DeclaredInput.{DeclaredInput}
use Rattle.graph.specs.declared.graph.GraphOutput.{GraphOutput}
use Rattle.graph.specs.declared.vertex.Vertex.{Vertex}

-- the vertices by number, the inputs and the outputs in order, and the arity of each vertex
pub record GraphValue : Type 0 where
  pub vertices : List Vertex
  pub inputs : List DeclaredInput
  pub outputs : List GraphOutput
  pub arities : List ℕ

-- the definition's graph
abbrev pub shown_graph : GraphValue → Graph
shown_graph g = graph_of g.vertices

-- the inputs in order
abbrev pub shown_inputs : GraphValue → List Input
shown_inputs g = map input_of g.inputs

-- the names of the outputs in order
abbrev pub shown_names : GraphValue → List Name
shown_names g = map name_of_output g.outputs

-- the arity of each vertex
abbrev pub shown_arities : GraphValue → List ℕ
shown_arities g = g.arities

-- both show the same
abbrev pub ShowSame : GraphValue → GraphValue → Type 0
ShowSame g h =
    (shown_graph g ≡ shown_graph h) × (shown_inputs g ≡ shown_inputs h) × (shown_names g ≡ shown_names h) × (shown_arities g ≡ shown_arities h)
