use Rattle.std.proofs.Common.{Option, subst}
use Rattle.execution.specs.Told.{Tells, untold}
use Rattle.execution.specs.declared.watching.Watcher.{Watcher}
use Rattle.execution.proofs.Tellings.{told_ended}
use Rattle.execution.proofs.watching.Watch.end.Goals as goal

pub returns-in-Some : goal.returns-in-Some
returns-in-Some g c = λ first p.
    told_ended g.W.Write.contents first c.in-Some.watcher c.end.new.self c.args.self.told (subst (λ (z : Option (Watcher _)). Tells g.W.Write.contents first z untold c.args.self.told) c.in-Some.is p) c.end.ensures
