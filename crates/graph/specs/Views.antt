-- The definition's graph that vertices in memory show.
use Rattle.std.specs.Prelude.{ℕ, List, [], ◌∷◌, map, Option, Some, None}
use Rattle.semantics.specs.Kinds as semantics
use Rattle.semantics.specs.Graph as graph
use Rattle.semantics.specs.Query as query
use Rattle.semantics.specs.Meaning.{project, left_columns, right_columns}
use Rattle.semantics.specs.Multiset.{Record}
use Rattle.expr_tree.specs.Views.{scalar_tree, cond_tree}
use Rattle.expr_tree.specs.Plain.{plain_scalar, plain_cond, plain_pair, plain_agg}
use Rattle.graph.specs.declared.vertex.Kind.{Kind}
use Rattle.graph.specs.declared.vertex.Kind.TheVariants.{Input, Output, Select, Where, Concat, Join, Lookup, Group, Distinct, Except, Intersect}
use Rattle.graph.specs.declared.vertex.Kind.TheVariants.{Ingress, Egress, Feedback, Gate, Unseen, Hold}
use Rattle.graph.specs.declared.vertex.Port.{Port}
use Rattle.graph.specs.declared.vertex.Sources.{Sources}
use Rattle.graph.specs.declared.vertex.Sources.TheVariants.{Nothing, One, Two}
use Rattle.graph.specs.declared.vertex.Vertex.{Vertex}
use Rattle.graph.specs.declared.vertex.VertexId.{VertexId}
use Rattle.graph.specs.declared.kind.Role.{Role}
use Rattle.graph.specs.declared.kind.Role.TheVariants as answers
use Rattle.graph.specs.declared.kind.RouteKey.{RouteKey}
use Rattle.graph.specs.declared.kind.RouteKey.TheVariants as keys
use Rattle.graph.specs.declared.graph.GraphOutput.{GraphOutput}

-- of a kind
abbrev pub kind_of : Kind → semantics.Kind
kind_of Input = semantics.Kind.input
kind_of Output = semantics.Kind.output
kind_of (Select ss) = semantics.Kind.select (map plain_scalar (map scalar_tree ss.items))
kind_of (Where c) = semantics.Kind.filter (plain_cond (cond_tree c.value))
kind_of Concat = semantics.Kind.concat
kind_of (Join ps) = semantics.Kind.join (map plain_pair ps.items)
kind_of (Lookup ps) = semantics.Kind.lookup (map plain_pair ps.items)
kind_of (Group ks gs) = semantics.Kind.group (map (λ k. k.index) ks.items) (map plain_agg gs.items)
kind_of Distinct = semantics.Kind.distinct
kind_of Except = semantics.Kind.except
kind_of Intersect = semantics.Kind.intersect
kind_of Ingress = semantics.Kind.ingress
kind_of Egress = semantics.Kind.egress
kind_of Feedback = semantics.Kind.feedback
kind_of (Gate n) = semantics.Kind.gate n
kind_of (Unseen n) = semantics.Kind.unseen n
kind_of (Hold n) = semantics.Kind.hold n

-- of a role
abbrev pub role_of : Role → semantics.Role
role_of answers.Input = semantics.Role.input
role_of answers.Stateless = semantics.Role.stateless
role_of answers.Stateful = semantics.Role.stateful
role_of answers.Notified = semantics.Role.notified
role_of answers.Output = semantics.Role.output

-- of a route key
abbrev pub key_of : RouteKey → Option (Record → Record)
key_of keys.Nothing = None
key_of (keys.Left ps) = Some (project (left_columns (map plain_pair ps.now)))
key_of (keys.Right ps) = Some (project (right_columns (map plain_pair ps.now)))
key_of (keys.Columns ks) = Some (project (map (λ k. k.index) ks.now))
key_of keys.Record = Some (λ r. r)

-- of an out port
abbrev pub port_of : Port → graph.Port
port_of p = record { vertex = p.vertex.0; out = p.out }

-- of the ports that feed a vertex
abbrev pub sources_of : Sources → List graph.Port
sources_of Nothing = []
sources_of (One p) = port_of p ∷ []
sources_of (Two p q) = port_of p ∷ port_of q ∷ []

-- of a vertex
abbrev pub vertex_of : Vertex → graph.Vertex
vertex_of v = record { kind = kind_of v.kind; depth = v.depth; ins = sources_of v.ins }

-- of all vertices, by number
abbrev pub graph_of : List Vertex → graph.Graph
graph_of vs = map vertex_of vs

-- the number of a vertex
abbrev pub vertex_number : VertexId → ℕ
vertex_number v = v.0

-- the name of an output
abbrev pub name_of_output : GraphOutput → query.Name
name_of_output o = o.name

-- the number of an output's vertex
abbrev pub number_of_output : GraphOutput → ℕ
number_of_output o = o.vertex.0
