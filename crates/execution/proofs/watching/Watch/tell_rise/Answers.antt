use Rattle.std.proofs.Common.{Option, Some, refl, subst, sym, arith}
use Rattle.execution.specs.Told.{Tells}
use Rattle.execution.specs.declared.watching.Watcher.{Watcher}
use Rattle.execution.proofs.Tellings.{tells_passed}
use Rattle.execution.proofs.watching.Watch.tell_rise.Goals as goal

pub returns-in-Some-clause-tells : goal.returns-in-Some-clause-tells
returns-in-Some-clause-tells g c =
    let before = c.args.self.now.told in
    subst (λ (z : Option (Watcher _)). Tells g.W.Write.contents z (Some c.tell.new.self) before (record { passed = c.args.passed; received = before.received })) (sym c.in-Some.is)
    (tells_passed g.W.Write.contents c.in-Some.watcher c.tell.new.self before (record { passed = c.args.passed; received = before.received }) (omega (arith, c.if-passed-self.false)) refl c.tell.ensures)
