use Rattle.std.proofs.Common.{◌∙◌, arith, refl}
use Rattle.execution.proofs.Tellings.{tells_nothing, tells_then, told_more}
use Rattle.execution.proofs.watching.keep_watch.Goals as goal

pub loop-turn-init : goal.loop-turn-init
loop-turn-init g c = record {
  epochs = refl;
  records = refl;
  passed = c.args.observer.passed_read;
  received = c.args.observer.received_read;
  tells = tells_nothing g.W.Write.contents c.args.observer.watch.watcher c.args.observer.watch.told;
}

pub loop-turn-preserved : goal.loop-turn-preserved
loop-turn-preserved g c =
    let inv = c.loop-turn.invariant in
    let note = c.tell_received.ensures in
    let records = c.read-records.ensures in
    record {
      epochs = c.read-epochs.ensures.mark ∙ inv.epochs;
      records = records.mark ∙ inv.records;
      passed = (let a = inv.passed in let b = c.read-epochs.ensures.rises in let d = c.read-epochs.ensures.read in let e = c.tell_rise.ensures.told in let same = note.passed in omega (arith, a, b, d, e, same));
      received = (
          let most = told_more c.loop-turn.watch.told.received c.loop-turn.received.seat.number c.read-records.new.self.seat.number c.read-records.result c.tell_received.new.self.told.received
          inv.received (let a = records.rises in let b = records.read in omega (arith, a, b)) (let b = records.read in omega (arith, b)) note.due note.early in
          let same = c.tell_rise.ensures.received in omega (arith, most, same));
      tells = tells_then g.W.Write.contents c.args.observer.watch.watcher c.loop-turn.watch.watcher c.tell_rise.new.self.watcher c.args.observer.watch.told c.loop-turn.watch.told c.tell_rise.new.self.told inv.tells
          (tells_then g.W.Write.contents c.loop-turn.watch.watcher c.tell_received.new.self.watcher c.tell_rise.new.self.watcher c.loop-turn.watch.told c.tell_received.new.self.told c.tell_rise.new.self.told note.tells c.tell_rise.ensures.tells);
    }
