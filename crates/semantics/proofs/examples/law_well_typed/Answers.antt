use Rattle.semantics.proofs.ExampleMeanings.{reachability_typed, connected_typed, loops_typed, outputs_typed, one_name_untyped}
use Rattle.semantics.proofs.examples.law_well_typed.Goals as goal

pub returns-clause-reachability : goal.returns-clause-reachability
returns-clause-reachability c = reachability_typed

pub returns-clause-connected : goal.returns-clause-connected
returns-clause-connected c = connected_typed

pub returns-clause-loops : goal.returns-clause-loops
returns-clause-loops c = loops_typed

pub returns-clause-outputs : goal.returns-clause-outputs
returns-clause-outputs c = outputs_typed

pub returns-clause-one_name : goal.returns-clause-one_name
returns-clause-one_name c = one_name_untyped
