use Rattle.writer.specs.Relations.{agg_pieces}
use Rattle.writer.proofs.Texts.{values_all_text, refused_after_two, refused_after_three}
use Rattle.writer.proofs.list.write_aggs.Goals as goal

pub returns-in_err-push-clause-err : goal.returns-in_err-push-clause-err
returns-in_err-push-clause-err c = refused_after_two c.from_residual-in_err-push.result _ _ _ _ _ _ c.in_ok-write_agg.ensures.ok c.loop-aggregate.invariant c.in_err-push.ensures.err

pub returns-in_err-write_agg-2-clause-err : goal.returns-in_err-write_agg-2-clause-err
returns-in_err-write_agg-2-clause-err c = refused_after_three c.from_residual-in_err-write_agg-2.result _ _ _ _ _ _ _ _ c.in_ok-write_agg.ensures.ok c.loop-aggregate.invariant c.in_ok-push.ensures.ok c.in_err-write_agg-2.ensures.err

pub returns-clause-ok : goal.returns-clause-ok
returns-clause-ok c = values_all_text agg_pieces c.args.aggregates.now c.in-Some.first.now c.in-Some.rest.now c.loop-aggregate.aggregate-index _ _ _ c.in-Some.ensures.cases.0 c.loop-aggregate-test.false c.in_ok-write_agg.ensures.ok c.loop-aggregate.invariant
