-- What is seen of an epoch.
use Rattle.std.specs.Prelude.{◌≡◌, ◌↔◌, ◌<◌, [], ℕ, true, false, List, length, slice_index_or}
use Rattle.semantics.specs.Multiset.{Record, IsPartOf, ◌≈◌}
use Rattle.semantics.specs.Query.{Program}
use Rattle.semantics.specs.Meaning.{program_meaning}
use Rattle.semantics.specs.Typing.{WellTyped}
use Rattle.semantics.specs.Graph.{output_number, output_numbers}
use Rattle.semantics.specs.Lower.{lowered}
use Rattle.graph.specs.Shown.{GraphValue, shown_graph}
use Rattle.board.specs.Lateness.{BoardShown, CallsPassed, IsUpToDate}
use Rattle.rows.specs.FlatRows.{joined}
use Rattle.board.specs.Shown.{emitted_by, input_at}
use Rattle.board.specs.Promises.{HasPassed, IsOutputPlace}
use Rattle.board.specs.declared.look.OutputLook.{OutputLook}

-- the epoch that was looked at, the batches fed, by input, and what each output shows
pub record LookShown : Type 0 where
  pub graph : GraphValue
  pub epoch : ℕ
  pub fed : List (List (List Record))
  pub outputs : List OutputLook

-- what is seen of an output that doesn't exist
abbrev pub no_output : OutputLook
no_output = record { emitted = []; passed = false }

abbrev pub output_in : LookShown → (output : ℕ) → OutputLook
output_in l k = slice_index_or l.outputs k no_output

-- it shows each output of the graph
abbrev pub ShowsEachOutput : LookShown → Type 0
ShowsEachOutput l = length l.outputs ≡ length (output_numbers (shown_graph l.graph))

-- the epoch had passed at each output
abbrev pub ShowsPassed : LookShown → Type 0
ShowsPassed l = (k : ℕ) → k < length l.outputs → (output_in l k).passed ≡ true

-- the batches that were fed to an input
abbrev pub fed_by : LookShown → (input : ℕ) → List (List Record)
fed_by l i = slice_index_or l.fed i []

-- what a program means at an output on what was fed
abbrev pub meant_by : Program → LookShown → (output : ℕ) → List Record
meant_by p l k = program_meaning p k (λ i. joined (fed_by l i))

-- what was emitted at an output is part of what the program means there, and all of it if the epoch had passed
pub record IsPromisedBy (p : Program) (l : LookShown) (k : ℕ) : Type 0 where
  pub part : IsPartOf (joined (output_in l k).emitted) (meant_by p l k)
  pub whole : (output_in l k).passed ≡ true → joined (output_in l k).emitted ≈ meant_by p l k

-- the same for each well-typed program with that graph, and each of its outputs
abbrev pub IsPromised : LookShown → Type 0
IsPromised l = (p : Program) (ns : List ℕ) → WellTyped p ns → shown_graph l.graph ≡ lowered p → (k : ℕ) → k < length p.outputs → IsPromisedBy p l k

-- The look is what the board shows of an output at the epoch: as passed, just what the first worker calls so. What it shows as passed has passed; what
-- has passed is shown so, if it is known to have passed at every output, or if the first worker's view is up to date.
pub record IsOutputLookAt (b : BoardShown) (e k : ℕ) (o : OutputLook) : Type 0 where
  pub emitted : o.emitted ≡ slice_index_or (emitted_by b.shown.emitted (output_number (shown_graph b.shown.graph) k)) e []
  pub called : o.passed ≡ true ↔ CallsPassed b k e
  pub passed : o.passed ≡ true → HasPassed b.shown k e
  pub seen : IsUpToDate b 0 → HasPassed b.shown k e → o.passed ≡ true
  pub known : e < b.passed → o.passed ≡ true

-- the looks are what the board shows of its outputs at the epoch
pub record AreOutputLooks (b : BoardShown) (e : ℕ) (outputs : List OutputLook) : Type 0 where
  pub places : length outputs ≡ length (output_numbers (shown_graph b.shown.graph))
  pub each : (k : ℕ) → IsOutputPlace b.shown k → IsOutputLookAt b e k (slice_index_or outputs k no_output)

-- the look is what the board shows of the epoch
pub record IsLookAt (b : BoardShown) (e : ℕ) (l : LookShown) : Type 0 where
  pub graph : l.graph ≡ b.shown.graph
  pub epoch : l.epoch ≡ e
  pub fed : (i : ℕ) → fed_by l i ≡ slice_index_or (input_at b.shown i).fed e []
  pub outputs : AreOutputLooks b e l.outputs
