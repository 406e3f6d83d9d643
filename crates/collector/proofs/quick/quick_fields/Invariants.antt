use Rattle.std.proofs.Common.{◌≡◌, length, take}
use Rattle.collector.proofs.QuickRows.{FieldsRead}
use Rattle.collector.proofs.quick.quick_fields.Given as goal

abbrev pub invariant-loop-place : goal.invariant-loop-place
invariant-loop-place l = FieldsRead l.text l.rest (take l.place l.fields) l.place × (length l.fields ≡ length l.initial.fields)
