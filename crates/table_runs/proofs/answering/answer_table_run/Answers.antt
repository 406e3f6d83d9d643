use Rattle.std.proofs.Common.{IfSome, arith, map, subst}
use Rattle.schema_words.specs.Line.{AsksRun}
use Rattle.table_runs.proofs.answering.answer_table_run.Goals as goal

pub returns-in-Err-Tables-clause-written : goal.returns-in-Err-Tables-clause-written
returns-in-Err-Tables-clause-written g c = λ zero. absurd (omega (arith, zero, c.report.ensures.some))

pub returns-clause-written : goal.returns-clause-written
returns-clause-written g c = λ zero. absurd (omega (arith, zero, c.report_run.ensures))

pub returns-in-Ok-clause-written : goal.returns-in-Ok-clause-written
returns-in-Ok-clause-written g c = λ zero. (
  c.in-Ok-Some.asked,
  subst (λ o. IfSome o (AsksRun (map (λ s. s.now) c.args.words.now))) c.in-Ok-Some.field-0-is c.in-Ok-Some.ensures,
  c.in-Ok.ensures.written,
)
