use Rattle.std.proofs.Common.{arith, ◌≡◌, ℕ, IfSome, List, Option, inl, inr, map, subst}
use Rattle.std.specs.Prelude.{◌⊎◌}
use Rattle.schema_words.specs.Line.{AsksRun}
use Rattle.collector.specs.Watching.{inner_of}
use Rattle.query_answers.specs.Runs.{Known}
use Rattle.table_queries.specs.declared.fault.RunFault.{RunFault}
use Rattle.schema_words.specs.declared.run_line.TableRun.{TableRun}
use Rattle.table_follows.specs.Followed.{FailsSo, HasFailed}
use Rattle.table_follows.proofs.answering.answer_table_follow.Goals as goal

failed : (known : Known) (asked : TableRun) (old new : Option (List ℕ)) (fault : RunFault) → FailsSo known asked old new fault
    → (new ≡ old) ⊎ ((a : TableRun) × (f : RunFault) × HasFailed known a f old new)
failed known asked old new fault (inl same) = inl same
failed known asked old new fault (inr h) = inr (asked, fault, h)

pub returns-in-Err-Tables-clause-fault : goal.returns-in-Err-Tables-clause-fault
returns-in-Err-Tables-clause-fault g c =
    inr (failed (g.S.Sources.content c.args.sources.now) c.in-Ok-Some.asked (g.W.Write.contents (inner_of c.args.out.now))
    (g.W.Write.contents (inner_of c.follow_tables.new.out))
    c.in-Err-Tables.field-0 c.in-Err-Tables.ensures.fault)

pub returns-clause-fault : goal.returns-clause-fault
returns-clause-fault g c =
    inr (failed (g.S.Sources.content c.args.sources.now) c.in-Ok-Some.asked (g.W.Write.contents (inner_of c.args.out.now))
    (g.W.Write.contents (inner_of c.follow_tables.new.out))
    c.in-Err-Run.field-0 c.in-Err-Run.ensures.fault)

pub returns-in-Err-Tables-clause-written : goal.returns-in-Err-Tables-clause-written
returns-in-Err-Tables-clause-written g c = λ zero. absurd (omega (arith, zero, c.report.ensures.some))

pub returns-clause-written : goal.returns-clause-written
returns-clause-written g c = λ zero. absurd (omega (arith, zero, c.report_run.ensures))

pub returns-in-Ok-clause-written : goal.returns-in-Ok-clause-written
returns-in-Ok-clause-written g c = λ zero. (
  c.in-Ok-Some.asked,
  subst (λ o. IfSome o (AsksRun (map (λ s. s.now) c.args.words.now))) c.in-Ok-Some.field-0-is c.in-Ok-Some.ensures,
  c.in-Ok.ensures.written,
)
