use Rattle.std.proofs.Common.{◌≡◌, length}
use Rattle.views.proofs.OpenInputs.{AreOpened}
use Rattle.views.proofs.opening.open_inputs.Given as goal

abbrev pub invariant-loop-input : goal.invariant-loop-input
invariant-loop-input l = record {
  content : AreOpened l.first.items l.input;
  long : length l.first.items ≡ l.input;
}
