use Rattle.writer.specs.Relations.{pair_pieces}
use Rattle.writer.proofs.Texts.{values_all_text, refused_after_two, refused_after_three}
use Rattle.writer.proofs.list.write_pairs.Goals as goal

pub returns-in_err-push-clause-err : goal.returns-in_err-push-clause-err
returns-in_err-push-clause-err c = refused_after_two c.from_residual-in_err-push.result _ _ _ _ _ _ c.in_ok-write_pair.ensures.ok c.loop-pair.invariant c.in_err-push.ensures.err

pub returns-in_err-write_pair-2-clause-err : goal.returns-in_err-write_pair-2-clause-err
returns-in_err-write_pair-2-clause-err c = refused_after_three c.from_residual-in_err-write_pair-2.result _ _ _ _ _ _ _ _ c.in_ok-write_pair.ensures.ok c.loop-pair.invariant c.in_ok-push.ensures.ok c.in_err-write_pair-2.ensures.err

pub returns-clause-ok : goal.returns-clause-ok
returns-clause-ok c = values_all_text pair_pieces c.args.pairs.now c.in-Some.first.now c.in-Some.rest.now c.loop-pair.pair-index _ _ _ c.in-Some.ensures.cases.0 c.loop-pair-test.false c.in_ok-write_pair.ensures.ok c.loop-pair.invariant
