-- The arities of a graph's ports: how many fields the records that go through them have.
use Rattle.std.specs.Prelude.{◌≡◌, ℕ, ◌+◌, ◌<◌, cond, List, [], ◌∷◌, ◌++◌, map, length}
use Rattle.std.specs.List.{AllByRecursion}
use Rattle.semantics.specs.Multiset.{Record, count}
use Rattle.semantics.specs.Query.{Name, Pair, Rel, Input, Let, Output, Program}
use Rattle.semantics.specs.Meaning.{same_name}
use Rattle.semantics.specs.Typing.{IsArity, ScalarFits, CondFits, AggFits}
use Rattle.semantics.specs.FreeNames.{carried}
use Rattle.semantics.specs.Kinds.{Kind}
use Rattle.semantics.specs.Graph.{Graph, vertex, source}

-- each record of the list has n fields
abbrev pub HaveFields : ℕ → List Record → Type 0
HaveFields n xs = (r : Record) → 0 < count r xs → length r ≡ n

-- what a kind requires of the arities of its in ports, and the arity of what it sends
abbrev pub PortsFit : Kind → (ins : (port : ℕ) → ℕ) → (out : ℕ) → Type 0
PortsFit Kind.input ins out = Unit {0}
PortsFit Kind.output ins out = out ≡ ins 0
PortsFit (Kind.select ss) ins out = AllByRecursion (ScalarFits (ins 0)) ss × (out ≡ length ss)
PortsFit (Kind.filter c) ins out = CondFits (ins 0) c × (out ≡ ins 0)
PortsFit Kind.concat ins out = (out ≡ ins 0) × (out ≡ ins 1)
PortsFit (Kind.join ps) ins out = AllByRecursion (λ (x : Pair). (x.left < ins 0) × (x.right < ins 1)) ps × (out ≡ ins 0 + ins 1)
PortsFit (Kind.lookup ps) ins out = AllByRecursion (λ (x : Pair). (x.left < ins 0) × (x.right < ins 1)) ps × (out ≡ ins 0 + ins 1)
PortsFit (Kind.group ks as') ins out = AllByRecursion (λ k. k < ins 0) ks × AllByRecursion (AggFits (ins 0)) as' × (out ≡ length ks + length as')
PortsFit Kind.distinct ins out = out ≡ ins 0
PortsFit Kind.except ins out = (out ≡ ins 0) × (out ≡ ins 1)
PortsFit Kind.intersect ins out = (out ≡ ins 0) × (out ≡ ins 1)
PortsFit Kind.ingress ins out = out ≡ ins 0
PortsFit Kind.egress ins out = out ≡ ins 0
PortsFit Kind.feedback ins out = out ≡ ins 0
PortsFit (Kind.gate n) ins out = out ≡ ins 0
PortsFit (Kind.unseen n) ins out = out ≡ ins 0
PortsFit (Kind.hold n) ins out = out ≡ ins 0

-- each vertex's ports fit; `arity v` is the arity of all out ports of v, and for an output vertex that of its in port
pub record IsTyped (g : Graph) (arity : (vertex : ℕ) → ℕ) : Type 0 where
  pub ports : (v : ℕ) → v < length g → PortsFit (vertex g v).kind (λ i. arity (source g v i).vertex) (arity v)
  pub fields : (v : ℕ) → v < length g → IsArity (arity v)

-- ---- the arities of a program's vertices, in the order in which they are made

-- the arity of what each name stands for
abbrev pub Arities : Type 0
Arities = Name → ℕ

-- x has n fields, and the other names have what they had
abbrev pub with_arity : Name → ℕ → Arities → Arities
with_arity x n of y = cond (same_name x y) n (of y)

-- of what a relation gives
abbrev pub rel_arity : Rel → Arities → ℕ
rel_arity (Rel.named x) of = of x
rel_arity (Rel.select r ss) of = length ss
rel_arity (Rel.filter r c) of = rel_arity r of
rel_arity (Rel.concat p q) of = rel_arity p of
rel_arity (Rel.join p q ps) of = rel_arity p of + rel_arity q of
rel_arity (Rel.group r ks as') of = length ks + length as'
rel_arity (Rel.distinct r) of = rel_arity r of
rel_arity (Rel.except p q) of = rel_arity p of
rel_arity (Rel.intersect p q) of = rel_arity p of
rel_arity (Rel.loop l n x r b) of = rel_arity r of

-- for each carried name: ingress, concat, hold and feedback
abbrev pub carry_arities : Arities → List Name → List ℕ
carry_arities of [] = []
carry_arities of (y ∷ ys) = of y ∷ of y ∷ of y ∷ of y ∷ carry_arities of ys

-- of the vertices that a relation makes
unfoldable pub made_arities : Rel → Arities → List ℕ
made_arities (Rel.named x) of = []
made_arities (Rel.select r ss) of = made_arities r of ++ (length ss ∷ [])
made_arities (Rel.filter r c) of = made_arities r of ++ (rel_arity r of ∷ [])
made_arities (Rel.concat p q) of = made_arities p of ++ (made_arities q of ++ (rel_arity p of ∷ []))
made_arities (Rel.join p q ps) of = made_arities p of ++ (made_arities q of ++ ((rel_arity p of + rel_arity q of) ∷ []))
made_arities (Rel.group r ks as') of = made_arities r of ++ ((length ks + length as') ∷ [])
made_arities (Rel.distinct r) of = made_arities r of ++ (rel_arity r of ∷ [])
made_arities (Rel.except p q) of = made_arities p of ++ (made_arities q of ++ (rel_arity p of ∷ []))
made_arities (Rel.intersect p q) of = made_arities p of ++ (made_arities q of ++ (rel_arity p of ∷ []))
made_arities (Rel.loop l n x r b) of =
    let a = rel_arity r of in
    made_arities r of ++ (a ∷ a ∷ a ∷ (carry_arities of (carried x b) ++ (made_arities b (with_arity x a of) ++ (a ∷ a ∷ []))))

-- of the inputs' names
abbrev pub input_arities : List Input → Arities
input_arities [] x = 0
input_arities (a ∷ as') x = with_arity a.name a.arity (input_arities as') x

-- of all names after the lets
abbrev pub let_arities : List Let → Arities → Arities
let_arities [] of = of
let_arities (a ∷ as') of = let_arities as' (with_arity a.name (rel_arity a.value of) of)

-- of the vertices that the lets make
abbrev pub lets_made_arities : List Let → Arities → List ℕ
lets_made_arities [] of = []
lets_made_arities (a ∷ as') of = made_arities a.value of ++ lets_made_arities as' (with_arity a.name (rel_arity a.value of) of)

-- of the vertices that the outputs make
abbrev pub outputs_made_arities : List Output → Arities → List ℕ
outputs_made_arities [] of = []
outputs_made_arities (o ∷ os) of = made_arities o.value of ++ (rel_arity o.value of ∷ outputs_made_arities os of)

-- of all vertices of a program's graph
abbrev pub program_arities : Program → List ℕ
program_arities p =
    let of = input_arities p.inputs in
    map (λ a. a.arity) p.inputs ++ (lets_made_arities p.lets of ++ outputs_made_arities p.outputs (let_arities p.lets of))
