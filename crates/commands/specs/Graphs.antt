-- What is written of a query's graph.
use Rattle.std.specs.Prelude.{◌≡◌, ℕ, List, Option, Result, Ok, Err}
use Rattle.std.specs.Io.KnownBytes.{Appends}
use Rattle.semantics.specs.Query.{Input as Declared, Name}
use Rattle.semantics.specs.Graph.{Graph}
use Rattle.graph_text.specs.Text.{graph_text}
use Rattle.collector.specs.WrittenBytes.{AppendsFront}
use Rattle.compile.specs.Compiled.{IsCompiled, IsQueryFault}
use Rattle.command_line.specs.declared.line_options.GraphForm.{GraphForm}
use Rattle.command_line.specs.declared.line_options.GraphForm.TheVariants.{Lines, Dot}
use Rattle.diagnostics.specs.declared.fault.Fault.{Fault}
use Rattle.diagnostics.specs.declared.fault.Fault.TheVariants.{Query, TooManyVertices, NoMemory, ReadQuery, Write}

-- the text is that of a graph in this form; what Graphviz draws is left open
abbrev pub IsTextIn : GraphForm → (outputs : List Name) → Graph → List ℕ → Type 0
IsTextIn Lines outputs g text = text ≡ graph_text g outputs
IsTextIn Dot outputs g text = Unit {0}

-- the text shows the graph of the query
pub record ShowsGraph (form : GraphForm) (query text : List ℕ) : Type 0 where
  pub graph : Graph
  pub inputs : List Declared
  pub outputs : List Name
  pub compiled : IsCompiled query graph inputs outputs
  pub shown : IsTextIn form outputs graph text

-- The graph is written whole at Ok, and a beginning of it where the writer failed. Else nothing is written: the query is refused,
-- or its graph is too large, or its reader failed, or there was no memory.
abbrev pub GraphEnds : GraphForm → List ℕ → Option (List ℕ) → Option (List ℕ) → Result (Unit {0}) Fault → Type 0
GraphEnds form query old new (Ok u) = (text : List ℕ) × ShowsGraph form query text × Appends old new text
GraphEnds form query old new (Err Write) = (text : List ℕ) × ShowsGraph form query text × AppendsFront old new text
GraphEnds form query old new (Err (Query code start end)) = (new ≡ old) × IsQueryFault query (Query code start end)
GraphEnds form query old new (Err TooManyVertices) = (new ≡ old) × IsQueryFault query TooManyVertices
GraphEnds form query old new (Err NoMemory) = new ≡ old
GraphEnds form query old new (Err ReadQuery) = new ≡ old
GraphEnds form query old new (Err _) = ⊥
