use Rattle.semantics.specs.Could.{CouldResultIn}
use Rattle.views.proofs.WaitingCounts.{seen_is_there, there_is_seen, none_waits_at, stays_posted}
use Rattle.views.proofs.laws.law_of_waiting.Goals as goal

pub returns-clause-seen : goal.returns-clause-seen
returns-clause-seen c = λ content waiting workers worker none q. (seen_is_there content waiting workers worker none q, there_is_seen content waiting workers worker none q)

pub returns-clause-none : goal.returns-clause-none
returns-clause-none c = none_waits_at

pub returns-clause-stays : goal.returns-clause-stays
returns-clause-stays c = λ g old new waiting waiting' workers worker b sends content p adds late is. stays_posted (CouldResultIn g) old new waiting waiting' workers worker b sends content p adds late is
