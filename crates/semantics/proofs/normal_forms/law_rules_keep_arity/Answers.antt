use Rattle.semantics.proofs.RulesKeepArity.{arity_where, arity_select, arity_distinct, arity_distinct_except, arity_distinct_intersect, arity_no_turns}
use Rattle.semantics.proofs.normal_forms.law_rules_keep_arity.Goals as goal

pub returns-clause-where_of_where : goal.returns-clause-where_of_where
returns-clause-where_of_where c = arity_where

pub returns-clause-select_of_select : goal.returns-clause-select_of_select
returns-clause-select_of_select c = arity_select

pub returns-clause-distinct_of_distinct : goal.returns-clause-distinct_of_distinct
returns-clause-distinct_of_distinct c = arity_distinct

pub returns-clause-distinct_of_except : goal.returns-clause-distinct_of_except
returns-clause-distinct_of_except c = arity_distinct_except

pub returns-clause-distinct_of_intersect : goal.returns-clause-distinct_of_intersect
returns-clause-distinct_of_intersect c = arity_distinct_intersect

pub returns-clause-loop_of_no_turns : goal.returns-clause-loop_of_no_turns
returns-clause-loop_of_no_turns c = arity_no_turns
