use Rattle.std.proofs.Common.{◌≡◌, take}
use Rattle.rows.proofs.batch.Batch.from_records.Given as goal

abbrev pub invariant-loop-record : goal.invariant-loop-record
invariant-loop-record l = (l.rows.rows ≡ take l.record-index l.records) × (l.rows.arity ≡ l.arity)
