use Rattle.writer.proofs.Texts.{refused_after}
use Rattle.writer.proofs.program.write_outputs.Goals as goal

pub returns-in_err-write_output-clause-err : goal.returns-in_err-write_output-clause-err
returns-in_err-write_output-clause-err g c = refused_after c.from_residual.result _ _ _ _ c.loop-output.invariant c.in_err-write_output.ensures.err
