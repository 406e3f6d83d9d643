-- Which graph a query text has, and why it has none.
use Rattle.std.specs.Prelude.{◌≡◌, ◌<◌, ◌≤◌, ℕ, List, length}
use Rattle.record_core.specs.declared.span.Refusal.TheVariants.{At}
use Rattle.semantics.specs.Query.{Input, Name, Program}
use Rattle.semantics.specs.Rewriting.{IsNormalForm}
use Rattle.semantics.specs.Graph.{Graph}
use Rattle.semantics.specs.Lower.{lowered}
use Rattle.graph.specs.Limits.{max_vertices}
use Rattle.lowering.specs.Computing.{Computes}
use Rattle.compile.specs.Queries.{IsQuery, IsRefusal, output_names}
use Rattle.compile.specs.declared.fault.CompileFault.{CompileFault}
use Rattle.compile.specs.declared.fault.CompileFault.TheVariants as compile
use Rattle.diagnostics.specs.declared.fault.Fault.{Fault}
use Rattle.diagnostics.specs.declared.fault.Fault.TheVariants.{Query, TooManyVertices, NoMemory}

-- The text is a well-typed program with these inputs and outputs of these names. The graph is the one that the definition makes of the
-- normal form that the program rewrites to.
-- On any inputs it has exactly one flow, which brings to each output what the text's program means there.
pub record IsCompiled (text : List ℕ) (g : Graph) (inputs : List Input) (outputs : List Name) : Type 0 where
  pub program : Program
  pub reads : IsQuery text program
  pub rewritten : Program
  pub normal : IsNormalForm rewritten program
  pub graph : g ≡ lowered rewritten
  pub named : inputs ≡ program.inputs
  pub named_outputs : outputs ≡ output_names program
  pub computes : Computes g program

-- the text is a well-typed program, and the graph of the normal form that it rewrites to has over `max_vertices` vertices
pub record IsTooLarge (text : List ℕ) : Type 0 where
  pub program : Program
  pub reads : IsQuery text program
  pub rewritten : Program
  pub normal : IsNormalForm rewritten program
  pub large : max_vertices < length (lowered rewritten)

-- the text is a query whose graph has at most `max_vertices` vertices
abbrev pub IsTaken : List ℕ → Type 0
IsTaken text = (g : Graph) × (inputs : List Input) × (outputs : List Name) × IsCompiled text g inputs outputs × (length g ≤ max_vertices)

-- why a query text has no graph
abbrev pub IsUncompiled : List ℕ → CompileFault → Type 0
IsUncompiled text (compile.Query code span) = IsRefusal text (At code span)
IsUncompiled text compile.TooManyVertices = IsTooLarge text
IsUncompiled text compile.NoMemory = Unit {0}

-- the same, as it is reported
abbrev pub IsQueryFault : List ℕ → Fault → Type 0
IsQueryFault text (Query code start end) = IsRefusal text (At code (record { start = start; end = end }))
IsQueryFault text TooManyVertices = IsTooLarge text
IsQueryFault text NoMemory = Unit {0}
IsQueryFault text _ = ⊥
