use Rattle.std.proofs.Common.{rules}
use Rattle.vertices.proofs.Fitting.{count_passed, select_over}
use Rattle.vertices.proofs.stateless.select.Goals as goal

pub returns-in_err-out-clause-over : goal.returns-in_err-out-clause-over
returns-in_err-out-clause-over c = count_passed c.from_residual.result c.in_err-out.field-0.0 _ (search rules) (λ e a. select_over _ c.args.time.now a c.args.batch.now (c.in_err-out.ensures.over e))
