use Rattle.semantics.proofs.MeaningOfMultisets.{selected_same, kept_same, meaning_same, program_same}
use Rattle.semantics.proofs.MultisetSums.{append_same}
use Rattle.semantics.proofs.KeyedParts.{paired_same}
use Rattle.semantics.proofs.ExceptAndIntersect.{only_left_same, in_both_same}
use Rattle.semantics.proofs.DistinctAndGroups.{grouped_same, distinct_same, aggregate-same}
use Rattle.semantics.proofs.meanings.law_of_multisets.Goals as goal

pub returns-clause-select : goal.returns-clause-select
returns-clause-select c = selected_same

pub returns-clause-filter : goal.returns-clause-filter
returns-clause-filter c = kept_same

pub returns-clause-concat : goal.returns-clause-concat
returns-clause-concat c = append_same

pub returns-clause-join : goal.returns-clause-join
returns-clause-join c = paired_same

pub returns-clause-group : goal.returns-clause-group
returns-clause-group c = grouped_same

pub returns-clause-distinct : goal.returns-clause-distinct
returns-clause-distinct c = distinct_same

pub returns-clause-except : goal.returns-clause-except
returns-clause-except c = only_left_same

pub returns-clause-intersect : goal.returns-clause-intersect
returns-clause-intersect c = in_both_same

pub returns-clause-aggregate : goal.returns-clause-aggregate
returns-clause-aggregate c = aggregate-same

pub returns-clause-relation : goal.returns-clause-relation
returns-clause-relation c = meaning_same

pub returns-clause-program : goal.returns-clause-program
returns-clause-program c = program_same
