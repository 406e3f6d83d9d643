use Rattle.std.proofs.Common.{◌≡◌, ℕ, length, slice_index_or}
use Rattle.board.specs.Shown.{no_input}
use Rattle.board.proofs.new_parts.new_inputs.Given as goal

abbrev pub invariant-loop : goal.invariant-loop
invariant-loop l = record { long : length l.inputs.items ≡ l.counter; unfed : (i : ℕ) → slice_index_or l.inputs.items i no_input ≡ no_input }
