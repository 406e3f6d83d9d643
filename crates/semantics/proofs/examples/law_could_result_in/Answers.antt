use Rattle.semantics.proofs.ExamplePointstamps.{itself, round, out, not_back}
use Rattle.semantics.proofs.examples.law_could_result_in.Goals as goal

pub returns-clause-itself : goal.returns-clause-itself
returns-clause-itself c = itself

pub returns-clause-round : goal.returns-clause-round
returns-clause-round c = round

pub returns-clause-out : goal.returns-clause-out
returns-clause-out c = out

pub returns-clause-not_back : goal.returns-clause-not_back
returns-clause-not_back c = not_back
