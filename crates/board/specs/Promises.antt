-- What a board promises.
use Rattle.std.specs.Prelude.{◌≡◌, [], ℕ, ◌<◌, true, false, List, length}
use Rattle.semantics.specs.Multiset.{Record, IsPartOf, ◌≈◌}
use Rattle.semantics.specs.Query.{Program}
use Rattle.semantics.specs.Meaning.{program_meaning}
use Rattle.semantics.specs.Typing.{WellTyped}
use Rattle.semantics.specs.Graph.{output_number, output_numbers, input_count}
use Rattle.semantics.specs.Lower.{lowered}
use Rattle.graph.specs.Shown.{GraphValue, shown_graph}
use Rattle.machine.specs.World.{World}
use Rattle.machine.specs.Frontier.{IsPassedCount, Passed}
use Rattle.board.specs.Shown.{Shown, net, no_input, emitted_by, input_at, side_at, records_at}
use Rattle.board.specs.Showing.{Shows}
use Rattle.board.specs.WorkerShown.{IsIdle}

-- the board runs the graph of this well-typed program
pub record RunsProgram (p : Program) (s : Shown) : Type 0 where
  pub arities : List ℕ
  pub typed : WellTyped p arities
  pub graph : shown_graph s.graph ≡ lowered p

-- the epoch has passed at an output, in any world that the board shows
abbrev pub HasPassed : Shown → (output epoch : ℕ) → Type 0
HasPassed s k e = (w : World) → Shows s w → Passed (net s) w (output_number (shown_graph s.graph) k) e

-- that many epochs have passed
abbrev pub CountsPassed : Shown → ℕ → Type 0
CountsPassed s n = (w : World) → Shows s w → IsPassedCount (net s) w n

-- what was emitted at an output for an epoch
abbrev pub emitted_at : Shown → (output epoch : ℕ) → List Record
emitted_at s k e = records_at (emitted_by s.emitted (output_number (shown_graph s.graph) k)) e

-- what a program means at an output on what was fed for an epoch
abbrev pub meant_of : Program → Shown → (output epoch : ℕ) → List Record
meant_of p s k e = program_meaning p k (λ i. records_at (input_at s i).fed e)

-- The promise: what was emitted at an output for an epoch is part of what the program means there on what was fed for it so far, and
-- all of it once the epoch has passed at that output.
pub record Headline (p : Program) (s : Shown) (k e : ℕ) : Type 0 where
  pub part : IsPartOf (emitted_at s k e) (meant_of p s k e)
  pub whole : HasPassed s k e → emitted_at s k e ≈ meant_of p s k e

-- the same for each output
abbrev pub KeepsPromise : Program → Shown → Type 0
KeepsPromise p s = (k e : ℕ) → k < length p.outputs → Headline p s k e

-- the graph has an output at that place
abbrev pub IsOutputPlace : Shown → (output : ℕ) → Type 0
IsOutputPlace s k = k < length (output_numbers (shown_graph s.graph))

-- the epoch has passed at each output
abbrev pub HasPassedAtAll : Shown → (epoch : ℕ) → Type 0
HasPassedAtAll s e = (k : ℕ) → IsOutputPlace s k → HasPassed s k e

-- every input is closed, nothing waits, and no event is out or abandoned
pub record IsDrained (s : Shown) : Type 0 where
  pub closed : (i : ℕ) → i < length s.inputs → (input_at s i).closed ≡ true
  pub idle : (k : ℕ) → k < length s.sides → IsIdle (side_at s k)

-- The state of a new board: the inputs are open at epoch 0, nothing was fed or emitted, and nothing waits.
pub record IsOpening (g : GraphValue) (n : ℕ) (s : Shown) : Type 0 where
  pub graph : s.graph ≡ g
  pub workers : length s.sides ≡ n
  pub inputs : length s.inputs ≡ input_count (shown_graph g)
  pub unfed : (i : ℕ) → input_at s i ≡ no_input
  pub emitted : (v : ℕ) → emitted_by s.emitted v ≡ []
  pub runs : s.stopped ≡ false
  pub idle : (k : ℕ) → k < length s.sides → IsIdle (side_at s k)
