use Rattle.std.proofs.Common.{◌≡◌, ℕ, ◌<◌}
use Rattle.semantics.specs.Meaning.{field, value}
use Rattle.semantics.specs.Query.{Scalar}
use Rattle.operators.proofs.select.read_fields.Given as goal

abbrev pub invariant-loop-column : goal.invariant-loop-column
invariant-loop-column l = (c : ℕ) → c < l.column → value (Scalar.column c) l.item ≡ field c l.item
