-- The terms of the main theorem.
use Rattle.std.specs.Prelude.{ℕ, ◌<◌, List}
use Rattle.semantics.specs.Multiset.{Record}
use Rattle.semantics.specs.Query.{Program}
use Rattle.semantics.specs.Meaning.{program_meaning}
use Rattle.semantics.specs.Typing.{WellTyped}
use Rattle.semantics.specs.Graph.{Graph, output_number}
use Rattle.semantics.specs.Dataflow.{IsDataflow}
use Rattle.semantics.specs.Lower.{lowered}
use Rattle.machine.specs.World.{World, opening}
use Rattle.machine.specs.Step.{Step}
use Rattle.machine.specs.Run.{Run}
use Rattle.machine.specs.Engine.{network, engine}

-- the program is well typed, and the steps lead its engine from the opening world to w
pub record IsRunOf (p : Program) (workers : ℕ) (steps : List Step) (w : World) : Type 0 where
  -- the arities of the outputs, in order
  pub arities : List ℕ
  pub typed : WellTyped p arities
  pub some : 0 < workers
  pub run : Run (engine p workers) opening steps w

-- what the program means at an output, by its place, on the records fed for an epoch
abbrev pub meant : Program → World → (output epoch : ℕ) → List Record
meant p w k epoch = program_meaning p k (λ i. w.fed i epoch)

-- the vertex of a program's output, by the output's place
abbrev pub output_of : Program → (output : ℕ) → ℕ
output_of p k = output_number (lowered p) k

-- the same for any dataflow graph
pub record IsRunOn (g : Graph) (workers : ℕ) (steps : List Step) (w : World) : Type 0 where
  pub flows : IsDataflow g
  pub some : 0 < workers
  pub run : Run (network g workers) opening steps w
