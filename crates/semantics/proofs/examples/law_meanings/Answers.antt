use Rattle.semantics.proofs.ExampleMeanings.{twice_means, sum_wraps, reaches, connects, no_turn_means, outer_name_means, loop_in_loop_means, in_a_alone_means, in_a_and_b_means, except_in_loop_means, small_means, all_means, least_of_let_means, no_more_means}
use Rattle.semantics.proofs.examples.law_meanings.Goals as goal

pub returns-clause-twice : goal.returns-clause-twice
returns-clause-twice c = twice_means

pub returns-clause-sum_wraps : goal.returns-clause-sum_wraps
returns-clause-sum_wraps c = sum_wraps

pub returns-clause-reaches : goal.returns-clause-reaches
returns-clause-reaches c = reaches

pub returns-clause-connects : goal.returns-clause-connects
returns-clause-connects c = connects

pub returns-clause-no_turns : goal.returns-clause-no_turns
returns-clause-no_turns c = no_turn_means

pub returns-clause-outer_name : goal.returns-clause-outer_name
returns-clause-outer_name c = outer_name_means

pub returns-clause-loop_in_loop : goal.returns-clause-loop_in_loop
returns-clause-loop_in_loop c = loop_in_loop_means

pub returns-clause-in_a_alone : goal.returns-clause-in_a_alone
returns-clause-in_a_alone c = in_a_alone_means

pub returns-clause-in_a_and_b : goal.returns-clause-in_a_and_b
returns-clause-in_a_and_b c = in_a_and_b_means

pub returns-clause-except_in_loop : goal.returns-clause-except_in_loop
returns-clause-except_in_loop c = except_in_loop_means

pub returns-clause-small : goal.returns-clause-small
returns-clause-small c = small_means

pub returns-clause-all : goal.returns-clause-all
returns-clause-all c = all_means

pub returns-clause-least_of_let : goal.returns-clause-least_of_let
returns-clause-least_of_let c = least_of_let_means

pub returns-clause-no_more : goal.returns-clause-no_more
returns-clause-no_more c = no_more_means
