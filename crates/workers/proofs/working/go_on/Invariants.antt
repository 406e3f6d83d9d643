use Rattle.workers.specs.Names.{GivesNamed}
use Rattle.workers.proofs.working.go_on.Given as goal

abbrev pub invariant-loop-event : goal.invariant-loop-event
invariant-loop-event g l = GivesNamed g.J.Naming.names l.claimed
