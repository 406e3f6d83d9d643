use Rattle.std.proofs.Common.{◌≡◌, ◌<◌, ℕ, Some}
use Rattle.std.specs.Prelude.{slice_get}
use Rattle.record_core.specs.declared.input.DeclaredInput.{DeclaredInput}
use Rattle.collector.proofs.line.find_input.Given as goal

abbrev pub invariant-loop-i : goal.invariant-loop-i
invariant-loop-i l = (k : ℕ) (d : DeclaredInput) → k < l.i → slice_get l.inputs k ≡ Some d → d.name ≡ l.name → ⊥
