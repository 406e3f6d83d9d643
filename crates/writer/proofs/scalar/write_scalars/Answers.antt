use Rattle.expr_tree.specs.Views.{scalar_tree}
use Rattle.writer.specs.Scalars.{scalar_pieces}
use Rattle.writer.proofs.Texts.{list_all_text, refused_after_two, refused_after_three}
use Rattle.writer.proofs.scalar.write_scalars.Goals as goal

pub returns-in_err-push-clause-err : goal.returns-in_err-push-clause-err
returns-in_err-push-clause-err g c = refused_after_two c.from_residual-in_err-push.result _ _ _ _ _ _ c.in_ok-write_scalar.ensures.ok c.loop-scalar.invariant c.in_err-push.ensures.err

pub returns-in_err-write_scalar-2-clause-err : goal.returns-in_err-write_scalar-2-clause-err
returns-in_err-write_scalar-2-clause-err g c = refused_after_three c.from_residual-in_err-write_scalar-2.result _ _ _ _ _ _ _ _ c.in_ok-write_scalar.ensures.ok c.loop-scalar.invariant c.in_ok-push.ensures.ok c.in_err-write_scalar-2.ensures.err

pub returns-clause-ok : goal.returns-clause-ok
returns-clause-ok g c = list_all_text scalar_tree scalar_pieces c.args.scalars.now c.in-Some.first.now c.in-Some.rest.now c.loop-scalar.scalar-index _ _ _ c.in-Some.ensures.cases.0 c.loop-scalar-test.false c.in_ok-write_scalar.ensures.ok c.loop-scalar.invariant
