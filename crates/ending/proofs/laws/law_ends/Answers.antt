use Rattle.ending.proofs.Ends.{ends, measured, linear}
use Rattle.ending.proofs.laws.law_ends.Goals as goal

pub returns-clause-bound : goal.returns-clause-bound
returns-clause-bound c = ends

pub returns-clause-measure : goal.returns-clause-measure
returns-clause-measure c = measured

pub returns-clause-by_feeds : goal.returns-clause-by_feeds
returns-clause-by_feeds c = linear
