use Rattle.std.proofs.Common.{◌≡◌, ℕ, ◌<◌, Some}
use Rattle.std.specs.Prelude.{slice_get}
use Rattle.lexer.specs.declared.mark.Mark.{Mark}
use Rattle.lexer.specs.Marks.{BeginsWith}
use Rattle.lexer.proofs.mark.Mark.at_front.Given as goal

abbrev pub invariant-loop-mark : goal.invariant-loop-mark
invariant-loop-mark l = (m : Mark) (i : ℕ) → i < l.mark-index → slice_get l.mark-items i ≡ Some m → BeginsWith l.bytes m → ⊥
