use Rattle.std.proofs.Common.{Option, Some, refl, subst, sym, arith}
use Rattle.execution.specs.Told.{Tells}
use Rattle.execution.specs.declared.watching.Watcher.{Watcher}
use Rattle.execution.proofs.Tellings.{tells_received}
use Rattle.execution.proofs.watching.Watch.tell_received.Goals as goal

pub returns-in-Some-clause-tells : goal.returns-in-Some-clause-tells
returns-in-Some-clause-tells g c =
    let before = c.args.self.now.told in
    subst (λ (z : Option (Watcher _)). Tells g.W.Write.contents z (Some c.tell.new.self) before (record { passed = before.passed; received = c.args.received })) (sym c.in-Some.is)
    (tells_received g.W.Write.contents c.in-Some.watcher c.tell.new.self before (record { passed = before.passed; received = c.args.received }) refl (omega (arith, c.if-saturating_sub-lt-INTERVAL.false, c.saturating_sub.ensures)) c.tell.ensures)
