use Rattle.semantics.proofs.PathSummaries.{typed_summary}
use Rattle.semantics.proofs.CouldRises.{path_depth, could_itself, could_onward, could_once}
use Rattle.semantics.proofs.pointstamps.law_could.Goals as goal

pub returns-clause-summary : goal.returns-clause-summary
returns-clause-summary c = typed_summary

pub returns-clause-depth : goal.returns-clause-depth
returns-clause-depth c = path_depth

pub returns-clause-itself : goal.returns-clause-itself
returns-clause-itself c = could_itself

pub returns-clause-onward : goal.returns-clause-onward
returns-clause-onward c = could_onward

pub returns-clause-once : goal.returns-clause-once
returns-clause-once c = could_once
