use Rattle.semantics.proofs.RulesKeepMeaning.{rule_where, rule_select, rule_distinct, rule_distinct_except, rule_distinct_intersect, rule_no_turns}
use Rattle.semantics.proofs.FusedSelects.{size-select_select}
use Rattle.semantics.proofs.normal_forms.law_rules.Goals as goal

pub returns-clause-where_of_where : goal.returns-clause-where_of_where
returns-clause-where_of_where c = rule_where

pub returns-clause-select_of_select : goal.returns-clause-select_of_select
returns-clause-select_of_select c = rule_select

pub returns-clause-no_larger : goal.returns-clause-no_larger
returns-clause-no_larger c = size-select_select

pub returns-clause-distinct_of_distinct : goal.returns-clause-distinct_of_distinct
returns-clause-distinct_of_distinct c = rule_distinct

pub returns-clause-distinct_of_except : goal.returns-clause-distinct_of_except
returns-clause-distinct_of_except c = rule_distinct_except

pub returns-clause-distinct_of_intersect : goal.returns-clause-distinct_of_intersect
returns-clause-distinct_of_intersect c = rule_distinct_intersect

pub returns-clause-loop_of_no_turns : goal.returns-clause-loop_of_no_turns
returns-clause-loop_of_no_turns c = rule_no_turns
