-- Tests of equality: each is true exactly of two that are equal.
use Rattle.std.specs.Prelude.{Bool, true, false, nat_eq, ◌&&◌}
use Rattle.std.specs.Cmp.Lexicographic.{pointwise}
use Rattle.std.specs.Ordering.{int_eq}
use Rattle.semantics.specs.Query.{Scalar, Comparison, Cond, Agg, Pair, Input}
use Rattle.semantics.specs.Kinds.{Kind}
use Rattle.semantics.specs.Graph.{Vertex}
use Rattle.semantics.specs.Meaning.{same_name}
use Rattle.graph.specs.Edges.{same_port}
use Rattle.graph.specs.Shown.{GraphValue, shown_arities, shown_graph, shown_inputs, shown_names}

-- of scalars
abbrev pub scalar_eq : Scalar → Scalar → Bool
scalar_eq (Scalar.column m) (Scalar.column n) = nat_eq m n
scalar_eq (Scalar.literal y) (Scalar.literal z) = int_eq y z
scalar_eq (Scalar.plus a b) (Scalar.plus c d) = scalar_eq a c && scalar_eq b d
scalar_eq (Scalar.minus a b) (Scalar.minus c d) = scalar_eq a c && scalar_eq b d
scalar_eq (Scalar.times a b) (Scalar.times c d) = scalar_eq a c && scalar_eq b d
scalar_eq (Scalar.negation a) (Scalar.negation b) = scalar_eq a b
scalar_eq a b = false

-- of comparisons
abbrev pub comparison_eq : Comparison → Comparison → Bool
comparison_eq Comparison.equal Comparison.equal = true
comparison_eq Comparison.not_equal Comparison.not_equal = true
comparison_eq Comparison.less Comparison.less = true
comparison_eq Comparison.at_most Comparison.at_most = true
comparison_eq Comparison.greater Comparison.greater = true
comparison_eq Comparison.at_least Comparison.at_least = true
comparison_eq o p = false

-- of conditions
abbrev pub cond_eq : Cond → Cond → Bool
cond_eq (Cond.compare o a b) (Cond.compare p c d) = comparison_eq o p && (scalar_eq a c && scalar_eq b d)
cond_eq (Cond.conjunction a b) (Cond.conjunction c d) = cond_eq a c && cond_eq b d
cond_eq (Cond.disjunction a b) (Cond.disjunction c d) = cond_eq a c && cond_eq b d
cond_eq (Cond.negation a) (Cond.negation b) = cond_eq a b
cond_eq a b = false

-- of aggregates
abbrev pub agg_eq : Agg → Agg → Bool
agg_eq Agg.count Agg.count = true
agg_eq (Agg.sum m) (Agg.sum n) = nat_eq m n
agg_eq (Agg.min m) (Agg.min n) = nat_eq m n
agg_eq (Agg.max m) (Agg.max n) = nat_eq m n
agg_eq a b = false

-- of pairs of columns
abbrev pub pair_eq : Pair → Pair → Bool
pair_eq p q = nat_eq p.left q.left && nat_eq p.right q.right

-- of kinds of vertices
abbrev pub kind_eq : Kind → Kind → Bool
kind_eq Kind.input Kind.input = true
kind_eq Kind.output Kind.output = true
kind_eq (Kind.select ss) (Kind.select ts) = pointwise scalar_eq ss ts
kind_eq (Kind.filter c) (Kind.filter d) = cond_eq c d
kind_eq Kind.concat Kind.concat = true
kind_eq (Kind.join ps) (Kind.join qs) = pointwise pair_eq ps qs
kind_eq (Kind.lookup ps) (Kind.lookup qs) = pointwise pair_eq ps qs
kind_eq (Kind.group ks gs) (Kind.group ls hs) = pointwise nat_eq ks ls && pointwise agg_eq gs hs
kind_eq Kind.distinct Kind.distinct = true
kind_eq Kind.except Kind.except = true
kind_eq Kind.intersect Kind.intersect = true
kind_eq Kind.ingress Kind.ingress = true
kind_eq Kind.egress Kind.egress = true
kind_eq Kind.feedback Kind.feedback = true
kind_eq (Kind.gate m) (Kind.gate n) = nat_eq m n
kind_eq (Kind.unseen m) (Kind.unseen n) = nat_eq m n
kind_eq (Kind.hold m) (Kind.hold n) = nat_eq m n
kind_eq k l = false

-- of vertices
abbrev pub vertex_eq : Vertex → Vertex → Bool
vertex_eq v w = nat_eq v.depth w.depth && (pointwise same_port v.ins w.ins && kind_eq v.kind w.kind)

-- of inputs
abbrev pub input_eq : Input → Input → Bool
input_eq a b = nat_eq a.arity b.arity && same_name a.name b.name

-- of what graphs in memory show
abbrev pub graph_eq : GraphValue → GraphValue → Bool
graph_eq g h =
    pointwise vertex_eq (shown_graph g) (shown_graph h)
    && (pointwise input_eq (shown_inputs g) (shown_inputs h)
    && (pointwise same_name (shown_names g) (shown_names h) && pointwise nat_eq (shown_arities g) (shown_arities h)))
