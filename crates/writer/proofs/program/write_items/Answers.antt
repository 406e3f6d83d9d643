use Rattle.writer.proofs.Texts.{extends_from, refused}
use Rattle.writer.proofs.Steps.{refused_last}
use Rattle.writer.proofs.program.write_items.Goals as goal

pub returns-in_err-write_inputs-clause-err : goal.returns-in_err-write_inputs-clause-err
returns-in_err-write_inputs-clause-err g c = refused c.from_residual.result _ c.in_err-write_inputs.ensures.err

pub returns-in_err-write_lets-clause-err : goal.returns-in_err-write_lets-clause-err
returns-in_err-write_lets-clause-err g c = refused c.from_residual-in_err-write_lets.result _ (extends_from _ _ _ _ c.in_ok-write_inputs.ensures.ok c.in_err-write_lets.ensures.err)

pub returns-clause-err : goal.returns-clause-err
returns-clause-err g c = refused_last c.write_outputs.result _ _ _ _ c.in_ok-write_inputs.ensures.ok (refused_last c.write_outputs.result _ _ _ _ c.in_ok-write_lets.ensures.ok c.write_outputs.ensures.err)
