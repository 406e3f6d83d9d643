-- What a board was fed and what it emitted, compared with the epochs that were read.
use Rattle.std.specs.Prelude.{◌≡◌, ◌<◌, ℕ, List, [], length, slice_index_or}
use Rattle.semantics.specs.Multiset.{Record}
use Rattle.graph.specs.Shown.{GraphValue, shown_inputs}
use Rattle.board.specs.Shown as board
use Rattle.board.specs.Promises.{IsDrained, IsOutputPlace, emitted_at}
use Rattle.collector.specs.ReadEpochs.{epoch_count, records_at}
use Rattle.collector.specs.declared.epochs.Epochs.{Epochs}

-- what an input was fed at an epoch
abbrev pub fed_at : board.Shown → (input epoch : ℕ) → List Record
fed_at s input epoch = board.records_at (board.input_at s input).fed epoch

-- each of the first inputs was fed, at each of the first epochs, what was read
abbrev pub HoldsFed : board.Shown → ℕ → Epochs → ℕ → Type 0
HoldsFed s inputs epochs count = (epoch input : ℕ) → epoch < count → input < inputs → fed_at s input epoch ≡ records_at epochs epoch input

-- the lists are what was emitted at an output, for each of the first `count` epochs
pub record HasEpochs (s : board.Shown) (output count : ℕ) (lists : List (List Record)) : Type 0 where
  pub size : length lists ≡ count
  pub each : (epoch : ℕ) → epoch < count → slice_index_or lists epoch [] ≡ emitted_at s output epoch

-- the records are what was emitted at each output, for each of the first `count` epochs
abbrev pub EmittedBelow : board.Shown → (count : ℕ) → (records : (output epoch : ℕ) → List Record) → Type 0
EmittedBelow s count records = (output epoch : ℕ) → IsOutputPlace s output → epoch < count → records output epoch ≡ emitted_at s output epoch

-- the board, over that graph, was fed exactly the epochs, and has nothing left to do
pub record IsWorkedOff (graph : GraphValue) (s : board.Shown) (epochs : Epochs) : Type 0 where
  pub same : s.graph ≡ graph
  pub drained : IsDrained s
  pub fed : HoldsFed s (length (shown_inputs graph)) epochs (epoch_count epochs)
