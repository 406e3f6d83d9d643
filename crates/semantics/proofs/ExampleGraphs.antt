-- The graphs of the example programs, vertex by vertex, by computation.
use Rattle.std.proofs.Common.{◌≡◌, [], ◌∷◌, pos, refl}
use Rattle.semantics.specs.Query.{Scalar, Comparison, Cond, Agg}
use Rattle.semantics.specs.Kinds.{Kind}
use Rattle.semantics.specs.Graph.{output_numbers}
use Rattle.semantics.specs.Lower.{lower, lower_lets, lower_outputs, lowered, port, new_vertex}
use Rattle.semantics.specs.Examples.{first_plus_1, connected, two_turns, outer_name, outer_name_in_loops, in_a_alone, small_and_all, least_of_let}

pub graph_of_two_turns : lowered two_turns ≡
    new_vertex Kind.input 0 []
    ∷ new_vertex Kind.ingress 0 (port 0 0 ∷ [])
    ∷ new_vertex Kind.concat 1 (port 1 0 ∷ port 5 0 ∷ [])
    ∷ new_vertex (Kind.gate 2) 1 (port 2 0 ∷ [])
    ∷ new_vertex (Kind.select first_plus_1) 1 (port 3 0 ∷ [])
    ∷ new_vertex Kind.feedback 1 (port 4 0 ∷ [])
    ∷ new_vertex Kind.egress 1 (port 3 1 ∷ [])
    ∷ new_vertex Kind.output 0 (port 6 0 ∷ [])
    ∷ []
unfolding lowered lower lower_lets lower_outputs
graph_of_two_turns = refl

pub graph_of_connected : lowered connected ≡
    new_vertex Kind.input 0 []
    ∷ new_vertex Kind.ingress 0 (port 0 0 ∷ [])
    ∷ new_vertex Kind.concat 1 (port 1 0 ∷ port 10 0 ∷ [])
    ∷ new_vertex (Kind.unseen 3) 1 (port 2 0 ∷ [])
    ∷ new_vertex Kind.ingress 0 (port 0 0 ∷ [])
    ∷ new_vertex Kind.concat 1 (port 4 0 ∷ port 7 0 ∷ [])
    ∷ new_vertex (Kind.hold 1) 1 (port 5 0 ∷ [])
    ∷ new_vertex Kind.feedback 1 (port 6 1 ∷ [])
    ∷ new_vertex (Kind.lookup (record { left = 1; right = 0 } ∷ [])) 1 (port 3 0 ∷ port 6 0 ∷ [])
    ∷ new_vertex (Kind.select (Scalar.column 0 ∷ Scalar.column 3 ∷ [])) 1 (port 8 0 ∷ [])
    ∷ new_vertex Kind.feedback 1 (port 9 0 ∷ [])
    ∷ new_vertex Kind.egress 1 (port 3 1 ∷ [])
    ∷ new_vertex Kind.output 0 (port 11 0 ∷ [])
    ∷ []
unfolding lowered lower lower_lets lower_outputs
graph_of_connected = refl

pub graph_of_outer_name : lowered outer_name ≡
    new_vertex Kind.input 0 []
    ∷ new_vertex Kind.input 0 []
    ∷ new_vertex Kind.ingress 0 (port 0 0 ∷ [])
    ∷ new_vertex Kind.concat 1 (port 2 0 ∷ port 9 0 ∷ [])
    ∷ new_vertex (Kind.gate 2) 1 (port 3 0 ∷ [])
    ∷ new_vertex Kind.ingress 0 (port 1 0 ∷ [])
    ∷ new_vertex Kind.concat 1 (port 5 0 ∷ port 8 0 ∷ [])
    ∷ new_vertex (Kind.hold 2) 1 (port 6 0 ∷ [])
    ∷ new_vertex Kind.feedback 1 (port 7 1 ∷ [])
    ∷ new_vertex Kind.feedback 1 (port 7 0 ∷ [])
    ∷ new_vertex Kind.egress 1 (port 4 1 ∷ [])
    ∷ new_vertex Kind.output 0 (port 10 0 ∷ [])
    ∷ []
unfolding lowered lower lower_lets lower_outputs
graph_of_outer_name = refl

pub graph_of_loops : lowered outer_name_in_loops ≡
    new_vertex Kind.input 0 []
    ∷ new_vertex Kind.input 0 []
    ∷ new_vertex Kind.ingress 0 (port 0 0 ∷ [])
    ∷ new_vertex Kind.concat 1 (port 2 0 ∷ port 19 0 ∷ [])
    ∷ new_vertex (Kind.gate 2) 1 (port 3 0 ∷ [])
    ∷ new_vertex Kind.ingress 0 (port 1 0 ∷ [])
    ∷ new_vertex Kind.concat 1 (port 5 0 ∷ port 8 0 ∷ [])
    ∷ new_vertex (Kind.hold 2) 1 (port 6 0 ∷ [])
    ∷ new_vertex Kind.feedback 1 (port 7 1 ∷ [])
    ∷ new_vertex Kind.ingress 1 (port 4 0 ∷ [])
    ∷ new_vertex Kind.concat 2 (port 9 0 ∷ port 17 0 ∷ [])
    ∷ new_vertex (Kind.gate 1) 2 (port 10 0 ∷ [])
    ∷ new_vertex Kind.ingress 1 (port 7 0 ∷ [])
    ∷ new_vertex Kind.concat 2 (port 12 0 ∷ port 15 0 ∷ [])
    ∷ new_vertex (Kind.hold 1) 2 (port 13 0 ∷ [])
    ∷ new_vertex Kind.feedback 2 (port 14 1 ∷ [])
    ∷ new_vertex Kind.concat 2 (port 11 0 ∷ port 14 0 ∷ [])
    ∷ new_vertex Kind.feedback 2 (port 16 0 ∷ [])
    ∷ new_vertex Kind.egress 2 (port 11 1 ∷ [])
    ∷ new_vertex Kind.feedback 1 (port 18 0 ∷ [])
    ∷ new_vertex Kind.egress 1 (port 4 1 ∷ [])
    ∷ new_vertex Kind.output 0 (port 20 0 ∷ [])
    ∷ []
unfolding lowered lower lower_lets lower_outputs
graph_of_loops = refl

pub graph_of_in_a_alone : lowered in_a_alone ≡
    new_vertex Kind.input 0 []
    ∷ new_vertex Kind.input 0 []
    ∷ new_vertex Kind.except 0 (port 0 0 ∷ port 1 0 ∷ [])
    ∷ new_vertex Kind.output 0 (port 2 0 ∷ [])
    ∷ []
unfolding lowered lower lower_lets lower_outputs
graph_of_in_a_alone = refl

pub graph_of_small_and_all : lowered small_and_all ≡
    new_vertex Kind.input 0 []
    ∷ new_vertex (Kind.filter (Cond.compare Comparison.less (Scalar.column 0) (Scalar.literal (pos 5)))) 0 (port 0 0 ∷ [])
    ∷ new_vertex Kind.output 0 (port 1 0 ∷ [])
    ∷ new_vertex Kind.output 0 (port 0 0 ∷ [])
    ∷ []
unfolding lowered lower lower_lets lower_outputs
graph_of_small_and_all = refl

pub graph_of_least_of_let : lowered least_of_let ≡
    new_vertex Kind.input 0 []
    ∷ new_vertex (Kind.select first_plus_1) 0 (port 0 0 ∷ [])
    ∷ new_vertex Kind.output 0 (port 0 0 ∷ [])
    ∷ new_vertex (Kind.group (0 ∷ []) (Agg.min 0 ∷ [])) 0 (port 1 0 ∷ [])
    ∷ new_vertex Kind.output 0 (port 3 0 ∷ [])
    ∷ []
unfolding lowered lower lower_lets lower_outputs
graph_of_least_of_let = refl

pub outputs_of_small_and_all : output_numbers (lowered small_and_all) ≡ 2 ∷ 3 ∷ []
unfolding lowered lower lower_lets lower_outputs
outputs_of_small_and_all = refl
