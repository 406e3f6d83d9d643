use Rattle.std.proofs.Common.{◌≡◌, ◌<◌, ℕ, slice_get, Some}
use Rattle.semantics.specs.Could.{Pointstamp}
use Rattle.simple_trackers.proofs.plain.place_of.Given as goal

abbrev pub invariant-loop-i : goal.invariant-loop-i
invariant-loop-i l = (i : ℕ) (q : Pointstamp) → i < l.i → slice_get l.fn.active i ≡ Some q → q ≡ l.fn.p → ⊥
