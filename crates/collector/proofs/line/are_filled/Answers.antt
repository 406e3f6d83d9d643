use Rattle.collector.proofs.Splits.{split_none, cut_at}
use Rattle.collector.proofs.Filled.{filled_more, filled_all}
use Rattle.collector.proofs.line.are_filled.Goals as goal

pub loop-end-preserved : goal.loop-end-preserved
loop-end-preserved c = filled_more c.loop-end.rest.now c.around.result.0.now c.around.result.1.now c.in-Some.end _ (cut_at 32 c.loop-end.rest.now c.around.result.0.now c.around.result.1.now c.in-Some.end c.in-Some.ensures.found c.around.ensures.before c.around.ensures.after) c.in-Some.ensures.found.0 c.if-end-eq0.false c.around.ensures.before c.loop-end.invariant

pub returns : goal.returns
returns c = filled_all c.loop-end.rest.now c.is_empty.result _ (split_none 32 c.loop-end.rest.now c.in_default.ensures.none) c.is_empty.ensures c.loop-end.invariant
