-- What was taken of an input text.
use Rattle.std.specs.Prelude.{◌⊎◌, ℕ, List}
use Rattle.semantics.specs.Query.{Input}
use Rattle.graph.specs.Shown.{GraphValue, shown_graph, shown_inputs, shown_names}
use Rattle.collector.specs.Piecewise.{HasRead, HasStopped}
use Rattle.collector.specs.declared.input_reader.InputReader.{InputReader}
use Rattle.compile.specs.Compiled.{IsCompiled}

-- the reader has read some text for these inputs, or it reads no more
abbrev pub ReadsFor : List Input → InputReader → Type 0
ReadsFor inputs reader = ((text : List ℕ) × HasRead inputs text reader) ⊎ HasStopped reader

-- the graph is compiled from the query, and the text was read for its inputs
abbrev pub HasTaken : GraphValue → InputReader → (query text : List ℕ) → Type 0
HasTaken graph reader query text = IsCompiled query (shown_graph graph) (shown_inputs graph) (shown_names graph) × HasRead (shown_inputs graph) text reader
