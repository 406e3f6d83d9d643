use Rattle.std.proofs.Common.{◌≡◌, ◌≤◌, ◌∙◌, ◌++◌, All, List, [], ◌∷◌, Some, ap, arith, subst, sym}
use Rattle.std.proofs.lemmas.Result.{IfOk-weaker}
use Rattle.board.specs.Promises.{CountsPassed}
use Rattle.board.specs.Shown.{Shown}
use Rattle.driver.specs.Received.{received_of}
use Rattle.driver.specs.Tallies.{IsTally, Rows}
use Rattle.driver.proofs.Tallying.{tally_at}
use Rattle.workers.specs.Tokens.{Token}
use Rattle.workers.proofs.Ones.{one}
use Rattle.execution.proofs.executing.drive_watched.Goals as goal

pub counting-requires-clause-counts : goal.counting-requires-clause-counts
counting-requires-clause-counts g c =
    subst (λ (rows : Rows). IsTally g.J.Naming.first c.args.start.board.shown rows) (sym c.watched-counters.ensures)
    (subst (λ (s : Shown). IsTally s c.args.start.board.shown c.args.start.tally) c.requires.first c.requires.begins)

-- the one seat is at the mark of passed epochs, and the other at that of received records
pub finish_counting-report-requires-clause-seats : goal.finish_counting-report-requires-clause-seats
finish_counting-report-requires-clause-seats g c =
    let observer = c.work_off_watched-observer.result.0 in
    let items = c.push_reserved.ensures.items ∙ ap (λ (xs : List Token). xs ++ observer.passed.seat ∷ []) c.args.marks.passed.empty.0 in
    let here = observer.passed.of ∙ c.work_off_watched-observer.ensures.passed ∙ ap (λ r. r.mark) c.new-observer.ensures.0 ∙ c.requires.mark in
    subst (λ (xs : List Token). All (λ s. s.table ≡ g.J.Naming.mark) xs) (sym items) (one (λ s. s.table ≡ g.J.Naming.mark) observer.passed.seat here)

pub finish_counting-report-requires-clause-received : goal.finish_counting-report-requires-clause-received
finish_counting-report-requires-clause-received g c =
    let observer = c.work_off_watched-observer.result.0 in
    let items = c.push_reserved-2.ensures.items ∙ ap (λ (xs : List Token). xs ++ observer.received.seat ∷ []) c.args.marks.received.empty.0 in
    let here = observer.received.of ∙ c.work_off_watched-observer.ensures.received ∙ ap (λ r. r.mark) c.new-observer.ensures.1 in
    let there = c.requires.watched ∙ ap Some (sym here) in
    subst (λ (xs : List Token). All (λ s. g.J.Naming.received ≡ Some s.table) xs) (sym items) (one (λ s. g.J.Naming.received ≡ Some s.table) observer.received.seat there)

pub returns-clause-graph : goal.returns-clause-graph
returns-clause-graph g c = IfOk-weaker c.finished.result _ _ (λ r same. (λ i. (same i).report.graph) ∙ c.finish_counting-report.ensures.graph) c.finished.ensures.same

pub returns-clause-counts : goal.returns-clause-counts
returns-clause-counts g c = IfOk-weaker c.finished.result _ _ (λ r same.
    tally_at g.J.Naming.first c.finish_counting-report.result.0 r.report c.finish_counting-report.result.1 r.tally (λ i. (same i).report) (λ i. (same i).tally) c.finish_counting-report.ensures.counts) c.finished.ensures.same

pub returns-clause-most : goal.returns-clause-most
returns-clause-most g c =
    let observer = c.work_off_watched-observer.result.0 in
    let items = c.push_reserved.ensures.items ∙ ap (λ (xs : List Token). xs ++ observer.passed.seat ∷ []) c.args.marks.passed.empty.0 in
    IfOk-weaker c.finished.result _ _ (λ r same n counts.
    let there : r.report ≡ c.finish_counting-report.result.0 = λ i. (same i).report in
    let all = subst (λ (xs : List Token). All (λ s. s.number ≤ n) xs) items (c.finish_counting-report.ensures.seats n (subst (λ (x : Shown). CountsPassed x n) there counts)) in
    let seat = all 0 observer.passed.seat (omega arith) in
    let read = observer.passed_read in
    let back = ap (λ w. w.told.passed) c.take_back.ensures in
    omega (arith, seat, read, back)) c.finished.ensures.same

pub returns-clause-received : goal.returns-clause-received
returns-clause-received g c =
    let observer = c.work_off_watched-observer.result.0 in
    let items = c.push_reserved-2.ensures.items ∙ ap (λ (xs : List Token). xs ++ observer.received.seat ∷ []) c.args.marks.received.empty.0 in
    IfOk-weaker c.finished.result _ _ (λ r same.
    let there : received_of r.tally ≡ received_of c.finish_counting-report.result.1 = ap received_of (λ i. (same i).tally) in
    let all = subst (λ (xs : List Token). All (λ s. s.number ≤ received_of c.finish_counting-report.result.1) xs) items c.finish_counting-report.ensures.received in
    let seat = all 0 observer.received.seat (omega arith) in
    let read = observer.received_read in
    let back = ap (λ w. w.told.received) c.take_back.ensures in
    omega (arith, seat, read, back, there)) c.finished.ensures.same
