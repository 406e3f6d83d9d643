-- What one thread has fed of the epochs to a board.
use Rattle.std.specs.Prelude.{◌≡◌, ◌<◌, ◌≤◌, ◌⊎◌, ℕ, []}
use Rattle.semantics.specs.PortArity.{HaveFields}
use Rattle.graph.specs.Shown.{GraphValue}
use Rattle.board.specs.Fitting.{arity_in}
use Rattle.board.specs.Shown as board
use Rattle.collector.specs.ReadEpochs.{records_at}
use Rattle.collector.specs.declared.epochs.Epochs.{Epochs}
use Rattle.alone.specs.Scenes.{IsReady, open_at}
use Rattle.rows.specs.declared.fault.WorkFault.{WorkFault}
use Rattle.rows.specs.declared.fault.WorkFault.TheVariants as fault
use Rattle.execution.specs.Fed.{HoldsFed, fed_at}
use Rattle.execution.specs.declared.unfinished.Unfinished.{Unfinished}
use Rattle.execution.specs.declared.unfinished.Unfinished.TheVariants.{NoMemory, Count, NoWorker, Incomplete}

-- each record has as many fields as the graph's input takes
abbrev pub Fit : Epochs → GraphValue → Type 0
Fit epochs g = (input epoch : ℕ) → HaveFields (arity_in g input) (records_at epochs epoch input)

-- the first `count` epochs were fed and sealed, then the next one's records at the first `some` inputs, and no more
pub record IsFeeding (s : board.Shown) (inputs : ℕ) (epochs : Epochs) (count some : ℕ) : Type 0 where
  pub ready : IsReady s
  pub fed : HoldsFed s inputs epochs count
  pub here : (input : ℕ) → input < some → fed_at s input count ≡ records_at epochs count input
  pub unfed : (input epoch : ℕ) → input < inputs → (count < epoch) ⊎ ((epoch ≡ count) × (some ≤ input)) → fed_at s input epoch ≡ []
  pub opened : (input : ℕ) → input < inputs → open_at s input ≡ count

-- what a fault of work makes of the run
abbrev pub unfinished_of : WorkFault → Unfinished
unfinished_of fault.NoMemory = NoMemory
unfinished_of fault.Count = Count

-- there was no memory, or a count was too large
abbrev pub IsOfWork : Unfinished → Type 0
IsOfWork NoMemory = Unit {0}
IsOfWork Count = Unit {0}
IsOfWork NoWorker = ⊥
IsOfWork Incomplete = ⊥
