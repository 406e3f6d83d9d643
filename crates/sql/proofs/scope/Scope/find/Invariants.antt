use Rattle.sql.proofs.Names.{IsTold}
use Rattle.sql.proofs.scope.Scope.find.Given as goal

abbrev pub invariant-loop-left : goal.invariant-loop-left
invariant-loop-left l = IsTold l.self l.name l.left

abbrev pub decreases-loop-left : goal.decreases-loop-left
decreases-loop-left l = l.left
