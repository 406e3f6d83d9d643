use Rattle.std.proofs.Common.{◌≡◌, ◌⊎◌, ◌<◌, ◌≤◌, ℕ, slice_index_or}
use Rattle.board.specs.Shown.{no_input}
use Rattle.board.proofs.state.State.seals.Given as goal

abbrev pub invariant-loop-input : goal.invariant-loop-input
invariant-loop-input l =
    ((i : ℕ) → i < l.input-index → (slice_index_or l.input-items i no_input).open_epoch ≤ l.most)
    × ((l.most ≡ 0) ⊎ ((i : ℕ) × (i < l.input-index) × ((slice_index_or l.input-items i no_input).open_epoch ≡ l.most)))
