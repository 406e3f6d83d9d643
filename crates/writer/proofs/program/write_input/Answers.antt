use Rattle.writer.proofs.Texts.{extends_from, refused}
use Rattle.writer.proofs.Steps.{refused_last}
use Rattle.writer.proofs.program.write_input.Goals as goal

pub returns-in_err-push-clause-err : goal.returns-in_err-push-clause-err
returns-in_err-push-clause-err c = refused c.from_residual.result _ c.in_err-push.ensures.err

pub returns-in_err-push-2-clause-err : goal.returns-in_err-push-2-clause-err
returns-in_err-push-2-clause-err c = refused c.from_residual-in_err-push-2.result _ (extends_from _ _ _ _ c.in_ok-push.ensures.ok c.in_err-push-2.ensures.err)

pub returns-in_err-push-3-clause-err : goal.returns-in_err-push-3-clause-err
returns-in_err-push-3-clause-err c = refused c.from_residual-in_err-push-3.result _ (extends_from _ _ _ _ c.in_ok-push.ensures.ok (extends_from _ _ _ _ c.in_ok-push-2.ensures.ok c.in_err-push-3.ensures.err))

pub returns-in_err-push_number-clause-err : goal.returns-in_err-push_number-clause-err
returns-in_err-push_number-clause-err c = refused c.from_residual-in_err-push_number.result _ (extends_from _ _ _ _ c.in_ok-push.ensures.ok (extends_from _ _ _ _ c.in_ok-push-2.ensures.ok (extends_from _ _ _ _ c.in_ok-push-3.ensures.ok c.in_err-push_number.ensures.err)))

pub returns-clause-err : goal.returns-clause-err
returns-clause-err c = (refused_last c.push-4.result _ _ _ _ c.in_ok-push.ensures.ok (refused_last c.push-4.result _ _ _ _ c.in_ok-push-2.ensures.ok (refused_last c.push-4.result _ _ _ _ c.in_ok-push-3.ensures.ok (refused_last c.push-4.result _ _ _ _ c.in_ok-push_number.ensures.ok c.push-4.ensures.err))))
