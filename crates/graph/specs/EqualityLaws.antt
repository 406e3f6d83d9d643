-- The tests of equality decide it, so they are equivalences. The laws of `PartialEq` and `Eq` cite these.
use Rattle.std.proofs.Common.{◌≡◌, ◌↔◌, ◌∙◌, ℕ, Bool, IsTrue, List, nat_eq, refl, sym, ap, ap₂, Decides}
use Rattle.std.proofs.lemmas.Bool.Decides.{Decides-and, Decides-eqb, Decides-int_eq, Decides-like, same_from_decides}
use Rattle.std.specs.Cmp.{IsEquivalence, and_equiv, nat_eq_equiv, on_equiv}
use Rattle.std.specs.Cmp.Lexicographic.{lists_equiv, pointwise, pointwise_decides}
use Rattle.semantics.specs.Query.{Scalar, Comparison, Cond, Agg, Pair, Name, Input}
use Rattle.semantics.specs.Kinds.{Kind}
use Rattle.semantics.specs.Graph.{Port, Vertex}
use Rattle.semantics.specs.Lower.{new_vertex, port}
use Rattle.semantics.specs.Meaning.{same_name}
use Rattle.semantics.proofs.NamesAmong.{Decides-same_name}
use Rattle.graph.specs.Edges.{same_port}
use Rattle.graph.specs.Equality.{agg_eq, comparison_eq, cond_eq, graph_eq, input_eq, kind_eq, pair_eq, scalar_eq, vertex_eq}
use Rattle.graph.specs.Shown.{GraphValue, ShowSame, shown_arities, shown_graph, shown_inputs, shown_names}

-- what decides equality is an equivalence
equiv_from_decides : {K : Type 0} (E : K → K → Bool) → ((x y : K) → Decides (E x y) (x ≡ y)) → IsEquivalence E
equiv_from_decides E d = record {
  refl = λ x. (d x x).1 refl;
  symm = λ x y. same_from_decides (E x y) (E y x) (d x y) (Decides-like (E y x) (λ e. sym e) (λ e. sym e) (d y x));
  congr = λ x y z h. ap (λ w. E w z) ((d x y).0 h);
}

-- a test that decides whether two lists are equal
pub list_tested : {X : Type 0} (E : X → X → Bool) → ((x y : X) → Decides (E x y) (x ≡ y)) → (r : Bool) (xs ys : List X) → IsTrue r ↔ (xs ≡ ys) → r ≡ pointwise E xs ys
list_tested E d r xs ys h = same_from_decides r (pointwise E xs ys) h (pointwise_decides d xs ys)

pub scalar_decides : (a b : Scalar) → Decides (scalar_eq a b) (a ≡ b)
scalar_decides (Scalar.column m) (Scalar.column n) = Decides-like (nat_eq m n) (λ e. ap Scalar.column e) (λ e. cc) (Decides-eqb m n)
scalar_decides (Scalar.literal y) (Scalar.literal z) = Decides-like _ (λ e. ap Scalar.literal e) (λ e. cc) (Decides-int_eq y z)
scalar_decides (Scalar.plus a b) (Scalar.plus c d) = Decides-like _ (λ h. ap₂ Scalar.plus h.0 h.1) (λ e. (cc, cc)) (Decides-and _ _ (scalar_decides a c) (scalar_decides b d))
scalar_decides (Scalar.minus a b) (Scalar.minus c d) = Decides-like _ (λ h. ap₂ Scalar.minus h.0 h.1) (λ e. (cc, cc)) (Decides-and _ _ (scalar_decides a c) (scalar_decides b d))
scalar_decides (Scalar.times a b) (Scalar.times c d) = Decides-like _ (λ h. ap₂ Scalar.times h.0 h.1) (λ e. (cc, cc)) (Decides-and _ _ (scalar_decides a c) (scalar_decides b d))
scalar_decides (Scalar.negation a) (Scalar.negation b) = Decides-like _ (λ e. ap Scalar.negation e) (λ e. cc) (scalar_decides a b)
scalar_decides a b = (λ e. cc, λ e. cc)

comparison_decides : (o p : Comparison) → Decides (comparison_eq o p) (o ≡ p)
comparison_decides Comparison.equal Comparison.equal = (λ e. refl, λ e. refl)
comparison_decides Comparison.not_equal Comparison.not_equal = (λ e. refl, λ e. refl)
comparison_decides Comparison.less Comparison.less = (λ e. refl, λ e. refl)
comparison_decides Comparison.at_most Comparison.at_most = (λ e. refl, λ e. refl)
comparison_decides Comparison.greater Comparison.greater = (λ e. refl, λ e. refl)
comparison_decides Comparison.at_least Comparison.at_least = (λ e. refl, λ e. refl)
comparison_decides o p = (λ e. cc, λ e. cc)

pub cond_decides : (a b : Cond) → Decides (cond_eq a b) (a ≡ b)
cond_decides (Cond.compare o a b) (Cond.compare p c d) = Decides-like _ (λ (h : (o ≡ p) × ((a ≡ c) × (b ≡ d))). cc) (λ e. (cc, (cc, cc))) (Decides-and _ _ (comparison_decides o p) (Decides-and _ _ (scalar_decides a c) (scalar_decides b d)))
cond_decides (Cond.conjunction a b) (Cond.conjunction c d) = Decides-like _ (λ h. ap₂ Cond.conjunction h.0 h.1) (λ e. (cc, cc)) (Decides-and _ _ (cond_decides a c) (cond_decides b d))
cond_decides (Cond.disjunction a b) (Cond.disjunction c d) = Decides-like _ (λ h. ap₂ Cond.disjunction h.0 h.1) (λ e. (cc, cc)) (Decides-and _ _ (cond_decides a c) (cond_decides b d))
cond_decides (Cond.negation a) (Cond.negation b) = Decides-like _ (λ e. ap Cond.negation e) (λ e. cc) (cond_decides a b)
cond_decides a b = (λ e. cc, λ e. cc)

-- a test that decides whether two conditions are equal
pub cond_tested : (r : Bool) (a b : Cond) → IsTrue r ↔ (a ≡ b) → r ≡ cond_eq a b
cond_tested r a b h = same_from_decides r (cond_eq a b) h (cond_decides a b)

pub agg_decides : (a b : Agg) → Decides (agg_eq a b) (a ≡ b)
agg_decides Agg.count Agg.count = (λ e. refl, λ e. refl)
agg_decides (Agg.sum m) (Agg.sum n) = Decides-like _ (λ e. ap Agg.sum e) (λ e. cc) (Decides-eqb m n)
agg_decides (Agg.min m) (Agg.min n) = Decides-like _ (λ e. ap Agg.min e) (λ e. cc) (Decides-eqb m n)
agg_decides (Agg.max m) (Agg.max n) = Decides-like _ (λ e. ap Agg.max e) (λ e. cc) (Decides-eqb m n)
agg_decides a b = (λ e. cc, λ e. cc)

abbrev paired : ℕ → ℕ → Pair
paired l r = record { left = l; right = r }

pub pair_decides : (p q : Pair) → Decides (pair_eq p q) (p ≡ q)
pair_decides p q = Decides-like _ (λ h. ap₂ paired h.0 h.1) (λ e. (ap (λ x. x.left) e, ap (λ x. x.right) e)) (Decides-and _ _ (Decides-eqb p.left q.left) (Decides-eqb p.right q.right))

port_decides : (p q : Port) → Decides (same_port p q) (p ≡ q)
port_decides p q = Decides-like _ (λ h. ap₂ port h.0 h.1) (λ e. (ap (λ x. x.vertex) e, ap (λ x. x.out) e)) (Decides-and _ _ (Decides-eqb p.vertex q.vertex) (Decides-eqb p.out q.out))

pub kind_decides : (k l : Kind) → Decides (kind_eq k l) (k ≡ l)
kind_decides Kind.input Kind.input = (λ e. refl, λ e. refl)
kind_decides Kind.output Kind.output = (λ e. refl, λ e. refl)
kind_decides (Kind.select ss) (Kind.select ts) = Decides-like _ (λ e. ap Kind.select e) (λ e. cc) (pointwise_decides scalar_decides ss ts)
kind_decides (Kind.filter c) (Kind.filter d) = Decides-like _ (λ e. ap Kind.filter e) (λ e. cc) (cond_decides c d)
kind_decides Kind.concat Kind.concat = (λ e. refl, λ e. refl)
kind_decides (Kind.join ps) (Kind.join qs) = Decides-like _ (λ e. ap Kind.join e) (λ e. cc) (pointwise_decides pair_decides ps qs)
kind_decides (Kind.lookup ps) (Kind.lookup qs) = Decides-like _ (λ e. ap Kind.lookup e) (λ e. cc) (pointwise_decides pair_decides ps qs)
kind_decides (Kind.group ks gs) (Kind.group ls hs) = Decides-like _ (λ h. ap₂ Kind.group h.0 h.1) (λ e. (cc, cc)) (Decides-and _ _ (pointwise_decides Decides-eqb ks ls) (pointwise_decides agg_decides gs hs))
kind_decides Kind.distinct Kind.distinct = (λ e. refl, λ e. refl)
kind_decides Kind.except Kind.except = (λ e. refl, λ e. refl)
kind_decides Kind.intersect Kind.intersect = (λ e. refl, λ e. refl)
kind_decides Kind.ingress Kind.ingress = (λ e. refl, λ e. refl)
kind_decides Kind.egress Kind.egress = (λ e. refl, λ e. refl)
kind_decides Kind.feedback Kind.feedback = (λ e. refl, λ e. refl)
kind_decides (Kind.gate m) (Kind.gate n) = Decides-like _ (λ e. ap Kind.gate e) (λ e. cc) (Decides-eqb m n)
kind_decides (Kind.unseen m) (Kind.unseen n) = Decides-like _ (λ e. ap Kind.unseen e) (λ e. cc) (Decides-eqb m n)
kind_decides (Kind.hold m) (Kind.hold n) = Decides-like _ (λ e. ap Kind.hold e) (λ e. cc) (Decides-eqb m n)
kind_decides k l = (λ e. cc, λ e. cc)

pub vertex_decides : (v w : Vertex) → Decides (vertex_eq v w) (v ≡ w)
vertex_decides v w = Decides-like _ (λ h. ap₂ (λ d k. new_vertex k d v.ins) h.0 h.1.1 ∙ ap (λ i. new_vertex w.kind w.depth i) h.1.0) (λ e. (ap (λ x. x.depth) e, (ap (λ x. x.ins) e, ap (λ x. x.kind) e))) (Decides-and _ _ (Decides-eqb v.depth w.depth) (Decides-and _ _ (pointwise_decides port_decides v.ins w.ins) (kind_decides v.kind w.kind)))

abbrev declared : ℕ → Name → Input
declared n x = record { name = x; arity = n }

pub input_decides : (a b : Input) → Decides (input_eq a b) (a ≡ b)
input_decides a b = Decides-like _ (λ h. ap₂ declared h.0 h.1) (λ e. (ap (λ x. x.arity) e, ap (λ x. x.name) e)) (Decides-and _ _ (Decides-eqb a.arity b.arity) (Decides-same_name a.name b.name))

pub kind_equiv : IsEquivalence kind_eq
kind_equiv = equiv_from_decides kind_eq kind_decides

pub vertex_equiv : IsEquivalence vertex_eq
vertex_equiv = equiv_from_decides vertex_eq vertex_decides

pub input_equiv : IsEquivalence input_eq
input_equiv = equiv_from_decides input_eq input_decides

pub name_equiv : IsEquivalence same_name
name_equiv = equiv_from_decides same_name Decides-same_name

pub graph_equiv : IsEquivalence graph_eq
graph_equiv = and_equiv (on_equiv shown_graph (lists_equiv vertex_equiv)) (and_equiv (on_equiv shown_inputs (lists_equiv input_equiv)) (and_equiv (on_equiv shown_names (lists_equiv name_equiv)) (on_equiv shown_arities (lists_equiv nat_eq_equiv))))

pub graph_decides : (g h : GraphValue) → Decides (graph_eq g h) (ShowSame g h)
graph_decides g h =
    Decides-like (graph_eq g h) (λ s. (s.0, s.1.0, s.1.1.0, s.1.1.1)) (λ s. (s.0, (s.1, (s.2, s.3))))
    (Decides-and _ _ (pointwise_decides vertex_decides (shown_graph g) (shown_graph h))
    (Decides-and _ _ (pointwise_decides input_decides (shown_inputs g) (shown_inputs h))
    (Decides-and _ _ (pointwise_decides Decides-same_name (shown_names g) (shown_names h)) (pointwise_decides Decides-eqb (shown_arities g) (shown_arities h)))))

-- a test that is `graph_eq` decides whether both show the same
pub graph_tested : (r : Bool) (g h : GraphValue) → r ≡ graph_eq g h → IsTrue r ↔ ShowSame g h
graph_tested r g h e = (λ t. (graph_decides g h).0 (sym e ∙ t), λ s. e ∙ (graph_decides g h).1 s)
