-- A report that was fed what was read, with as many epochs and inputs.
use Rattle.std.proofs.Common.{◌≡◌, ℕ, length, arith}
use Rattle.graph.specs.Shown.{GraphValue, shown_inputs}
use Rattle.board.specs.Shown.{Shown}
use Rattle.board.specs.Promises.{IsDrained}
use Rattle.collector.specs.ReadEpochs.{epoch_count}
use Rattle.collector.specs.declared.epochs.Epochs.{Epochs}
use Rattle.execution.specs.Fed.{HoldsFed, IsWorkedOff}

pub is_worked_off : (graph : GraphValue) (s : Shown) (epochs : Epochs) (inputs count : ℕ) → s.graph ≡ graph → IsDrained s → HoldsFed s inputs epochs count → inputs ≡ length (shown_inputs graph) → count ≡ epoch_count epochs → IsWorkedOff graph s epochs
is_worked_off graph s epochs inputs count same drained fed n m = record {
  same = same;
  drained = drained;
  fed = λ epoch input lt less. fed epoch input (omega (arith, lt, m)) (omega (arith, less, n));
}
