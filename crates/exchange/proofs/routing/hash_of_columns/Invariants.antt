use Rattle.std.proofs.Common.{◌≡◌, fold, take}
use Rattle.semantics.specs.Meaning.{field as column_of}
use Rattle.exchange.specs.Hashes.{step}
use Rattle.exchange.proofs.routing.hash_of_columns.Given as goal

abbrev pub invariant-loop-column : goal.invariant-loop-column
invariant-loop-column l = l.hash ≡ fold (λ h c. step h (column_of c l.row)) 7 (take l.column-index l.columns)
