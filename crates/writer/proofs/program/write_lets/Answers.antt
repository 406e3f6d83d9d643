use Rattle.writer.proofs.Texts.{refused_after}
use Rattle.writer.proofs.program.write_lets.Goals as goal

pub returns-in_err-write_let-clause-err : goal.returns-in_err-write_let-clause-err
returns-in_err-write_let-clause-err g c = refused_after c.from_residual.result _ _ _ _ c.loop-item.invariant c.in_err-write_let.ensures.err
