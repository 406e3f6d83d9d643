use Rattle.semantics.proofs.TimesBefore.{times_before_all, times_before_taken}
use Rattle.semantics.proofs.times.law_times_before.Goals as goal

pub returns-clause-all : goal.returns-clause-all
returns-clause-all c = times_before_all

pub returns-clause-only : goal.returns-clause-only
returns-clause-only c = times_before_taken
