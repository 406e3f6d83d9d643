use Rattle.semantics.proofs.CountsOfForms.{count-selected, count-kept, count-concat, count-join}
use Rattle.semantics.proofs.DistinctAndGroups.{count-distinct}
use Rattle.semantics.proofs.ExceptAndIntersect.{count-except, count-intersect}
use Rattle.semantics.proofs.meanings.law_counts.Goals as goal

pub returns-clause-select : goal.returns-clause-select
returns-clause-select c = count-selected

pub returns-clause-filter : goal.returns-clause-filter
returns-clause-filter c = count-kept

pub returns-clause-concat : goal.returns-clause-concat
returns-clause-concat c = count-concat

pub returns-clause-join : goal.returns-clause-join
returns-clause-join c = count-join

pub returns-clause-distinct : goal.returns-clause-distinct
returns-clause-distinct c = count-distinct

pub returns-clause-except : goal.returns-clause-except
returns-clause-except c = count-except

pub returns-clause-intersect : goal.returns-clause-intersect
returns-clause-intersect c = count-intersect
