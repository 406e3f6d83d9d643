-- The ports of each vertex of a graph in memory fit its kind.
use Rattle.std.proofs.Common.{◌≡◌, ℕ, ◌<◌, ◌≤◌, List, length, slice_index_or, sym, subst, subst₂, ◌⊎◌, inl, inr, arith}
use Rattle.std.proofs.lemmas.Bool.{cases_lt}
use Rattle.std.proofs.lemmas.List.{get_or_past}
use Rattle.std.proofs.Math.Bridge.{le_prop}
use Rattle.std.proofs.Math.Logic.{∥∥₁_elim}
use Rattle.std.specs.List.{AllByRecursion-prop}
use Rattle.std.proofs.Math.Nat.{ℕ_set}
use mathlib.Core.HLevel.{×_prop, Unit-prop}
use Rattle.std.proofs.Math.Path.{fun_ext}
use Rattle.semantics.specs.Query.{Agg, Cond, Input, Pair, Program, Scalar}
use Rattle.semantics.specs.Typing.{AggFits, CondFits, IsArity, ScalarFits, WellTyped}
use Rattle.semantics.specs.Kinds.{Kind}
use Rattle.semantics.specs.Dataflow.{IsDataflow}
use Rattle.semantics.specs.Graph.{Graph, Port, no_port, source, vertex}
use Rattle.semantics.specs.Lower.{lowered}
use Rattle.semantics.specs.PortArity.{IsTyped, PortsFit, program_arities}
use Rattle.graph.specs.GraphLaws.{HasProgramArities}

-- ---- what fits, fits in one way alone

one_scalar : (n : ℕ) (s : Scalar) → IsProp (ScalarFits n s)
one_scalar n (Scalar.column c) = λ a b. le_prop a b
one_scalar n (Scalar.literal z) = Unit-prop
one_scalar n (Scalar.plus s t) = ×_prop (one_scalar n s) (one_scalar n t)
one_scalar n (Scalar.minus s t) = ×_prop (one_scalar n s) (one_scalar n t)
one_scalar n (Scalar.times s t) = ×_prop (one_scalar n s) (one_scalar n t)
one_scalar n (Scalar.negation s) = one_scalar n s

one_cond : (n : ℕ) (c : Cond) → IsProp (CondFits n c)
one_cond n (Cond.compare o s t) = ×_prop (one_scalar n s) (one_scalar n t)
one_cond n (Cond.conjunction c d) = ×_prop (one_cond n c) (one_cond n d)
one_cond n (Cond.disjunction c d) = ×_prop (one_cond n c) (one_cond n d)
one_cond n (Cond.negation c) = one_cond n c

one_agg : (n : ℕ) (a : Agg) → IsProp (AggFits n a)
one_agg n Agg.count = Unit-prop
one_agg n (Agg.sum c) = λ a b. le_prop a b
one_agg n (Agg.min c) = λ a b. le_prop a b
one_agg n (Agg.max c) = λ a b. le_prop a b

one_arity : (n : ℕ) → IsProp (IsArity n)
one_arity n = ×_prop (λ a b. le_prop a b) (λ a b. le_prop a b)

one_pair : (m n : ℕ) (x : Pair) → IsProp ((x.left < m) × (x.right < n))
one_pair m n x = ×_prop (λ a b. le_prop a b) (λ a b. le_prop a b)

one_fit : (kind : Kind) (ins : ℕ → ℕ) (out : ℕ) → IsProp (PortsFit kind ins out)
one_fit Kind.input ins out = Unit-prop
one_fit Kind.output ins out = hlevel ℕ_set
one_fit (Kind.select ss) ins out = hlevel (ℕ_set, AllByRecursion-prop (ScalarFits (ins 0)) (one_scalar (ins 0)) ss)
one_fit (Kind.filter c) ins out = hlevel (ℕ_set, one_cond (ins 0) c)
one_fit Kind.concat ins out = hlevel ℕ_set
one_fit (Kind.join ps) ins out = hlevel (ℕ_set, AllByRecursion-prop (λ (x : Pair). (x.left < ins 0) × (x.right < ins 1)) (one_pair (ins 0) (ins 1)) ps)
one_fit (Kind.lookup ps) ins out = hlevel (ℕ_set, AllByRecursion-prop (λ (x : Pair). (x.left < ins 0) × (x.right < ins 1)) (one_pair (ins 0) (ins 1)) ps)
one_fit (Kind.group ks as') ins out = hlevel (ℕ_set, AllByRecursion-prop (λ k. k < ins 0) (λ k a b. le_prop a b) ks, AllByRecursion-prop (AggFits (ins 0)) (one_agg (ins 0)) as')
one_fit Kind.distinct ins out = hlevel ℕ_set
one_fit Kind.except ins out = hlevel ℕ_set
one_fit Kind.intersect ins out = hlevel ℕ_set
one_fit Kind.ingress ins out = hlevel ℕ_set
one_fit Kind.egress ins out = hlevel ℕ_set
one_fit Kind.feedback ins out = hlevel ℕ_set
one_fit (Kind.gate n) ins out = hlevel ℕ_set
one_fit (Kind.unseen n) ins out = hlevel ℕ_set
one_fit (Kind.hold n) ins out = hlevel ℕ_set

one_typed : (g : Graph) (arity : ℕ → ℕ) → IsProp (IsTyped g arity)
one_typed g arity = hlevel (one_fit, one_arity)

-- ---- arities in memory are those of the program

-- what feeds an in port, or beyond the last the first vertex, is a vertex of the graph
source_there : (g : Graph) (v i : ℕ) → IsDataflow g → v < length g → (source g v i).vertex < length g
unfolding source
source_there g v i d h = go (cases_lt i (length (vertex g v).ins))
  where
    go : (i < length (vertex g v).ins) ⊎ (length (vertex g v).ins ≤ i) → (slice_index_or (vertex g v).ins i no_port).vertex < length g
    go (inl l) = d.wired.fed v i h l
    go (inr l) = let e = get_or_past (vertex g v).ins i no_port l in subst (λ (p : Port). p.vertex < length g) (sym e) (omega arith)

typed_alike : (g : Graph) (as' bs : List ℕ) → IsDataflow g → ((v : ℕ) → v < length g → slice_index_or as' v 0 ≡ slice_index_or bs v 0) → IsTyped g (λ v. slice_index_or bs v 0) → IsTyped g (λ v. slice_index_or as' v 0)
typed_alike g as' bs d same t = record {
  ports = λ v h. subst₂ (λ (ins : ℕ → ℕ) out. PortsFit (vertex g v).kind ins out) (fun_ext (λ i. sym (same (source g v i).vertex (source_there g v i d h)))) (sym (same v h)) (t.ports v h);
  fields = λ v h. subst IsArity (sym (same v h)) (t.fields v h);
}

pub typed_ports : (g : Graph) (inputs : List Input) (arities : List ℕ)
    → ∥ HasProgramArities g inputs arities ∥₁
    → ((p : Program) (ns : List ℕ) → WellTyped p ns → IsTyped (lowered p) (λ v. slice_index_or (program_arities p) v 0))
    → ((p : Program) (ns : List ℕ) → WellTyped p ns → IsDataflow (lowered p))
    → IsTyped g (λ v. slice_index_or arities v 0)
typed_ports g inputs arities h typed dataflow = ∥∥₁_elim h (one_typed g (λ v. slice_index_or arities v 0)) (λ k. go k)
  where
    go : HasProgramArities g inputs arities → IsTyped g (λ v. slice_index_or arities v 0)
    go k = subst (λ (x : Graph). IsTyped x (λ v. slice_index_or arities v 0)) (sym k.3) (typed_alike (lowered k.0) arities (program_arities k.0) (dataflow k.0 k.1 k.2) k.5.each (typed k.0 k.1 k.2))
