-- What is known of the graph of a program.
use Rattle.std.specs.Prelude.{◌≡◌, ℕ, List}
use Rattle.semantics.specs.Query.{Input, Program}
use Rattle.semantics.specs.Graph.{Graph}
use Rattle.semantics.specs.Lower.{lowered}
use Rattle.semantics.specs.Typing.{WellTyped}
use Rattle.graph.specs.Arities.{AreArities}

-- g is the graph of a well-typed program with those inputs
abbrev pub IsProgramGraph : Graph → List Input → Type 0
IsProgramGraph g inputs = (p : Program) × (ns : List ℕ) × WellTyped p ns × (g ≡ lowered p) × (inputs ≡ p.inputs)

-- g is the graph of a well-typed program with those inputs, and these are the arities of its vertices
abbrev pub HasProgramArities : Graph → List Input → List ℕ → Type 0
HasProgramArities g inputs arities = (p : Program) × (ns : List ℕ) × WellTyped p ns × (g ≡ lowered p) × (inputs ≡ p.inputs) × AreArities arities p
