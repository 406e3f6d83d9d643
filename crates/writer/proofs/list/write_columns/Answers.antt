use Rattle.writer.specs.Relations.{column_pieces}
use Rattle.writer.proofs.Texts.{values_all_text, refused_after_two, refused_after_three}
use Rattle.writer.proofs.list.write_columns.Goals as goal

pub returns-in_err-push-clause-err : goal.returns-in_err-push-clause-err
returns-in_err-push-clause-err c = refused_after_two c.from_residual-in_err-push.result _ _ _ _ _ _ c.in_ok-write_column.ensures.ok c.loop-column.invariant c.in_err-push.ensures.err

pub returns-in_err-write_column-2-clause-err : goal.returns-in_err-write_column-2-clause-err
returns-in_err-write_column-2-clause-err c = refused_after_three c.from_residual-in_err-write_column-2.result _ _ _ _ _ _ _ _ c.in_ok-write_column.ensures.ok c.loop-column.invariant c.in_ok-push.ensures.ok c.in_err-write_column-2.ensures.err

pub returns-clause-ok : goal.returns-clause-ok
returns-clause-ok c = values_all_text column_pieces c.args.columns.now c.in-Some.first.now c.in-Some.rest.now c.loop-column.column-index _ _ _ c.in-Some.ensures.cases.0 c.loop-column-test.false c.in_ok-write_column.ensures.ok c.loop-column.invariant
