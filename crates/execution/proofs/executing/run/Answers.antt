use Rattle.std.proofs.Common.{◌≡◌, ◌∙◌, ℕ, refl, sym, ap, subst, length, arith}
use Rattle.std.proofs.lemmas.List.{length-map}
use Rattle.graph.specs.Shown.{shown_inputs}
use Rattle.board.specs.Promises.{CountsPassed}
use Rattle.record_core.specs.Inputs.{input_of}
use Rattle.collector.specs.ReadEpochs.{epoch_count}
use Rattle.driver.specs.Received.{received_of}
use Rattle.execution.proofs.Tellings.{near, tells_then}
use Rattle.execution.proofs.WorkedOff.{is_worked_off}
use Rattle.execution.proofs.executing.run.Goals as goal

pub returns-clause-worked : goal.returns-clause-worked
returns-clause-worked g c =
    let count : length c.inputs.result.now ≡ length (shown_inputs c.args.start.board.shown.graph) = sym (length-map c.inputs.result.now input_of) ∙ ap length c.inputs.ensures ∙ ap (λ g. length (shown_inputs g)) c.graph-graph.ensures in
    is_worked_off c.args.start.board.shown.graph c.in_ok-finish.finish.report c.args.epochs.now (length c.inputs.result.now) (epoch_count c.args.epochs.now)
    c.in_ok-finish.ensures.graph c.in_ok-finish.ensures.drained c.in_ok-finish.ensures.fed count refl

pub returns-clause-last : goal.returns-clause-last
returns-clause-last g c =
    let most = c.in_ok-finish.ensures.most c.passed-passed.result c.passed-passed.ensures in
    let same = c.tell_received.ensures.passed in
    let last : c.tell_rise.new.self.told.passed ≡ c.passed-passed.result = omega (arith, c.tell_rise.ensures.told, same, most) in
    subst (λ (n : ℕ). CountsPassed c.in_ok-finish.finish.report n) (sym last) c.passed-passed.ensures

pub returns-clause-received : goal.returns-clause-received
returns-clause-received g c =
    near c.drive_any.new.watch.told.received (received_of c.in_ok-finish.finish.tally) c.tell_received.new.self.told.received c.received.result c.tell_rise.new.self.told.received
    c.in_ok-finish.ensures.received c.received.ensures c.tell_received.ensures.due c.tell_received.ensures.early c.tell_rise.ensures.received

pub returns-clause-tells : goal.returns-clause-tells
returns-clause-tells g c =
    tells_then g.W.Write.contents c.args.watch.now.watcher c.drive_any.new.watch.watcher c.tell_rise.new.self.watcher c.args.watch.now.told c.drive_any.new.watch.told c.tell_rise.new.self.told c.drive_any.ensures.tells
    (tells_then g.W.Write.contents c.drive_any.new.watch.watcher c.tell_received.new.self.watcher c.tell_rise.new.self.watcher c.drive_any.new.watch.told c.tell_received.new.self.told c.tell_rise.new.self.told c.tell_received.ensures.tells c.tell_rise.ensures.tells)
