use Rattle.semantics.proofs.ExampleGraphs.{graph_of_two_turns, graph_of_connected, graph_of_outer_name, graph_of_loops, graph_of_in_a_alone, graph_of_small_and_all, graph_of_least_of_let, outputs_of_small_and_all}
use Rattle.semantics.proofs.examples.law_graphs.Goals as goal

pub returns-clause-two_turns : goal.returns-clause-two_turns
returns-clause-two_turns c = graph_of_two_turns

pub returns-clause-connected : goal.returns-clause-connected
returns-clause-connected c = graph_of_connected

pub returns-clause-outer_name : goal.returns-clause-outer_name
returns-clause-outer_name c = graph_of_outer_name

pub returns-clause-loops : goal.returns-clause-loops
returns-clause-loops c = graph_of_loops

pub returns-clause-in_a_alone : goal.returns-clause-in_a_alone
returns-clause-in_a_alone c = graph_of_in_a_alone

pub returns-clause-small_and_all : goal.returns-clause-small_and_all
returns-clause-small_and_all c = graph_of_small_and_all

pub returns-clause-least_of_let : goal.returns-clause-least_of_let
returns-clause-least_of_let c = graph_of_least_of_let

pub returns-clause-outputs : goal.returns-clause-outputs
returns-clause-outputs c = outputs_of_small_and_all
