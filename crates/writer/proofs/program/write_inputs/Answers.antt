use Rattle.writer.proofs.Texts.{refused_after}
use Rattle.writer.proofs.program.write_inputs.Goals as goal

pub returns-in_err-write_input-clause-err : goal.returns-in_err-write_input-clause-err
returns-in_err-write_input-clause-err c = refused_after c.from_residual.result _ _ _ _ c.loop-input.invariant c.in_err-write_input.ensures.err
