-- The records of batches, as the board and the collector see them.
use Rattle.std.proofs.Common.{◌≡◌, ℕ, List, [], slice_index_or, sym, ap, ◌∙◌}
use Rattle.semantics.specs.Multiset.{Record}
use Rattle.rows.specs.FlatRows.{joined}
use Rattle.semantics.specs.Graph.{output_number}
use Rattle.graph.specs.Shown.{shown_graph}
use Rattle.board.specs.Shown as board
use Rattle.collector.specs.ReadEpochs.{records_at}
use Rattle.collector.specs.declared.epochs.Epochs.{Epochs}
use Rattle.board.specs.Promises.{emitted_at}
use Rattle.execution.specs.Fed.{fed_at}

pub fed_same : (s : board.Shown) (epochs : Epochs) (input epoch : ℕ) (fed read : List (List Record)) → fed ≡ slice_index_or (board.input_at s input).fed epoch [] → joined read ≡ records_at epochs epoch input → fed ≡ read
    → fed_at s input epoch ≡ records_at epochs epoch input
fed_same s epochs input epoch fed read e f same = ap joined (sym e) ∙ ap joined same ∙ f

pub emitted_same : (s : board.Shown) (output epoch : ℕ) (batches : List (List Record)) → batches ≡ slice_index_or (board.emitted_by s.emitted (output_number (shown_graph s.graph) output)) epoch [] → joined batches ≡ emitted_at s output epoch
emitted_same s output epoch batches e = ap joined e
