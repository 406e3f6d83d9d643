-- What may be fed to a board, as far as its graph decides.
use Rattle.std.specs.Prelude.{◌≡◌, ◌≢◌, ◌<◌, ℕ, List, length}
use Rattle.semantics.specs.Graph.{vertex}
use Rattle.semantics.specs.Kinds.{Kind}
use Rattle.semantics.specs.Multiset.{Record}
use Rattle.graph.specs.Shown.{GraphValue, shown_graph}
use Rattle.rows.specs.FlatRows.{arity_of}
use Rattle.board.specs.Fitting.{arity_in}
use Rattle.board.specs.declared.refusal.StepRefusal.{StepRefusal}
use Rattle.board.specs.declared.refusal.StepRefusal.TheVariants.{Stopped, UnknownInput, InputClosed, WrongFieldCount, LastEpoch}
use Rattle.board.specs.declared.refusal.StepRefusal.TheVariants.{HoldsEvent, NoSuchEvent, NoMemory}

-- the graph has this input
abbrev pub HasInput : GraphValue → (input : ℕ) → Type 0
HasInput g i = (i < length (shown_graph g)) × ((vertex (shown_graph g) i).kind ≡ Kind.input)

-- there is no such input; it has another arity; or there is no memory to cut the batch
abbrev pub RefusesBatch : GraphValue → (input : ℕ) → List Record → StepRefusal → Type 0
RefusesBatch g i batch UnknownInput = HasInput g i → ⊥
RefusesBatch g i batch WrongFieldCount = HasInput g i × (arity_of batch ≢ arity_in g i)
RefusesBatch g i batch NoMemory = HasInput g i × (arity_of batch ≡ arity_in g i)
RefusesBatch g i batch Stopped = ⊥
RefusesBatch g i batch InputClosed = ⊥
RefusesBatch g i batch LastEpoch = ⊥
RefusesBatch g i batch HoldsEvent = ⊥
RefusesBatch g i batch NoSuchEvent = ⊥
