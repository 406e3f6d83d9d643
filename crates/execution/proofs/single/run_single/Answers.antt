use Rattle.std.proofs.Common.{refl, subst, sym}
use Rattle.board.specs.Promises.{CountsPassed, IsDrained}
use Rattle.board.specs.Shown.{Shown}
use Rattle.collector.specs.ReadEpochs.{epoch_count}
use Rattle.driver.proofs.Tallying.{tally_at}
use Rattle.execution.specs.Fed.{HoldsFed}
use Rattle.execution.proofs.FedEpochs.{feeding_begins}
use Rattle.execution.proofs.single.run_single.Goals as goal

pub feed_and_work-requires-clause-one : goal.feed_and_work-requires-clause-one
feed_and_work-requires-clause-one g c = c.requires.new.workers

pub feed_and_work-requires-clause-fed : goal.feed_and_work-requires-clause-fed
feed_and_work-requires-clause-fed g c = feeding_begins c.args.start.board.shown.graph 1 c.args.start.board.shown c.args.task.inputs c.args.task.epochs.now c.requires.new

pub returns-clause-drained : goal.returns-clause-drained
returns-clause-drained g c = subst IsDrained (sym c.report_of-report.ensures) c.in_ok-feed_and_work.ensures.drained

pub returns-clause-fed : goal.returns-clause-fed
returns-clause-fed g c = subst (λ (s : Shown). HoldsFed s c.args.task.inputs c.args.task.epochs.now (epoch_count c.args.task.epochs.now)) (sym c.report_of-report.ensures) c.in_ok-feed_and_work.ensures.fed

pub returns-clause-most : goal.returns-clause-most
returns-clause-most g c = λ n counts. c.in_ok-feed_and_work.ensures.most n (subst (λ (s : Shown). CountsPassed s n) c.report_of-report.ensures counts)

pub returns-clause-counts : goal.returns-clause-counts
returns-clause-counts g c =
    tally_at c.args.start.board.shown c.feed_and_work.new.board.shown c.report_of-report.result c.feed_and_work.new.tally c.feed_and_work.new.tally c.report_of-report.ensures refl
    (c.in_ok-feed_and_work.ensures.counts c.args.start.board.shown c.requires.begins)
