use Rattle.semantics.proofs.CouldRises.{rank_along, rank_onward, rank_sealed}
use Rattle.semantics.proofs.pointstamps.law_rank.Goals as goal

pub returns-clause-step : goal.returns-clause-step
returns-clause-step c = rank_along

pub returns-clause-onward : goal.returns-clause-onward
returns-clause-onward c = rank_onward

pub returns-clause-seal : goal.returns-clause-seal
returns-clause-seal c = rank_sealed
