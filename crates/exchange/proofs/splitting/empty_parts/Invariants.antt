use Rattle.std.proofs.Common.{◌≡◌, ℕ, length}
use Rattle.std.specs.Prelude.{slice_index_or}
use Rattle.exchange.specs.Parts.{no_rows}
use Rattle.exchange.proofs.splitting.empty_parts.Given as goal

abbrev pub invariant-loop-worker : goal.invariant-loop-worker
invariant-loop-worker l = (length l.parts.items ≡ l._worker) × ((k : ℕ) → slice_index_or l.parts.items k (no_rows l.arity) ≡ no_rows l.arity)
