use Rattle.writer.proofs.Texts.{extends_from, refused}
use Rattle.writer.proofs.Steps.{refused_last}
use Rattle.writer.proofs.program.write_output.Goals as goal

pub returns-in_err-push-clause-err : goal.returns-in_err-push-clause-err
returns-in_err-push-clause-err g c = refused c.from_residual.result _ c.in_err-push.ensures.err

pub returns-in_err-write_naming-clause-err : goal.returns-in_err-write_naming-clause-err
returns-in_err-write_naming-clause-err g c = refused c.from_residual-in_err-write_naming.result _ (extends_from _ _ _ _ c.in_ok-push.ensures.ok c.in_err-write_naming.ensures.err)

pub returns-in_err-write_rel-clause-err : goal.returns-in_err-write_rel-clause-err
returns-in_err-write_rel-clause-err g c = refused c.from_residual-in_err-write_rel.result _ (extends_from _ _ _ _ c.in_ok-push.ensures.ok (extends_from _ _ _ _ c.in_ok-write_naming.ensures.ok c.in_err-write_rel.ensures.err))

pub returns-clause-err : goal.returns-clause-err
returns-clause-err g c = (refused_last c.push-2.result _ _ _ _ c.in_ok-push.ensures.ok (refused_last c.push-2.result _ _ _ _ c.in_ok-write_naming.ensures.ok (refused_last c.push-2.result _ _ _ _ c.in_ok-write_rel.ensures.ok c.push-2.ensures.err)))
