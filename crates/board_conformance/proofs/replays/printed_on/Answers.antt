use Rattle.std.proofs.Common.{map, subst, sym}
use Rattle.record_core.specs.Inputs.{input_of}
use Rattle.driver.specs.Inputs.{AreInputsOf}
use Rattle.board_conformance.proofs.replays.printed_on.Goals as goal

pub replay-requires : goal.replay-requires
replay-requires g c = record {
  inputs = subst (λ g. AreInputsOf g (map input_of c.inputs.result.now)) (sym c.requires) (subst (λ is. AreInputsOf c.args.graph.now is) (sym c.inputs.ensures) c.law_inputs.ensures.inputs);
}
