use Rattle.std.proofs.Common.{◌≡◌, map, take}
use Rattle.rows.specs.FlatRows.{RowList}
use Rattle.record_core.specs.declared.input.DeclaredInput.{DeclaredInput}
use Rattle.follow.proofs.Waiting.{AreEmpty}
use Rattle.follow.proofs.intake.Intake.new.Given as goal

abbrev pub invariant-loop-declared : goal.invariant-loop-declared
invariant-loop-declared l = record {
  none : AreEmpty l.portion.items;
  fits : map (λ (r : RowList). r.arity) l.portion.items ≡ map (λ (i : DeclaredInput). i.arity) (take l.declared-index l.inputs);
}
