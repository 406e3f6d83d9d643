use Rattle.semantics.proofs.ExceptAndIntersect.{except_of_set, intersect_of_set, present_in_set}
use Rattle.semantics.proofs.meanings.law_of_sets.Goals as goal

pub returns-clause-except : goal.returns-clause-except
returns-clause-except c = except_of_set

pub returns-clause-intersect : goal.returns-clause-intersect
returns-clause-intersect c = intersect_of_set

pub returns-clause-present : goal.returns-clause-present
returns-clause-present c = present_in_set
