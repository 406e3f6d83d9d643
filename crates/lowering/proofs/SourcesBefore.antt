-- In the graph of a program each vertex stands after those that its arity comes from.
use Rattle.std.proofs.Common.{◌≡◌, ℕ, zero, suc, ◌+◌, ◌<◌, ◌≤◌, Bool, true, false, cond, ◌⊎◌, inl, inr, List, [], ◌∷◌, ◌++◌, length, refl, ap, subst, ◌∙◌, arith, length-append, slice_index_or}
use Rattle.std.specs.List.{AllByRecursion}
use Rattle.semantics.specs.Query.{Loop, Name, Rel, Input, Let, Output, Program}
use Rattle.semantics.specs.FreeNames.{carried, once_names}
use Rattle.semantics.specs.Kinds.{Kind}
use Rattle.semantics.specs.Graph.{Graph, Port, Vertex, no_vertex}
use Rattle.semantics.specs.Lower.{held_turns, is_lookup, join_kind, Lowered, LoweredLets, Ports, after_start, carried_ports, carry, input_ports, input_vertices, lets_of, looped, lower, lower_lets, lower_outputs, lowered, new_vertex, outputs_of, port, stands_for, then_one, then_two}
use Rattle.semantics.specs.Meaning.{same_name}
use Rattle.semantics.specs.Typing.{HasArity, OutputsFit, RestFits, WellTyped}

-- ---- vertices that stand after their sources

abbrev pub AllBelow : ℕ → List Port → Type 0
AllBelow n ps = AllByRecursion (λ (p : Port). p.vertex < n) ps

abbrev pub FirstBelow : ℕ → List Port → Type 0
FirstBelow n [] = Unit {0}
FirstBelow n (p ∷ ps) = p.vertex < n

-- all sources of the vertex number n come before it, or it is a concat and its first does
abbrev pub Leads : ℕ → Vertex → Type 0
Leads n v = AllBelow n v.ins ⊎ ((v.kind ≡ Kind.concat) × FirstBelow n v.ins)

-- so it is of each of these, numbered from n on
abbrev pub AllLead : ℕ → Graph → Type 0
AllLead n [] = Unit {0}
AllLead n (v ∷ g) = Leads n v × AllLead (suc n) g

leads_append : (n : ℕ) (g h : Graph) → AllLead n g → AllLead (n + length g) h → AllLead n (g ++ h)
leads_append n [] h a b = let e : n + 0 ≡ n = omega arith in subst (λ m. AllLead m h) e b
leads_append n (v ∷ g) h a b = (a.0, leads_append (suc n) g h a.1 (let e : n + suc (length g) ≡ suc n + length g = omega arith in subst (λ m. AllLead m h) e b))

pub leads_at : (g : Graph) (n v : ℕ) → AllLead n g → v < length g → Leads (n + v) (slice_index_or g v no_vertex)
leads_at [] n v a h = absurd (omega arith)
leads_at (x ∷ g) n zero a h = let e : n ≡ n + 0 = omega arith in subst (λ m. Leads m x) e a.0
leads_at (x ∷ g) n (suc v) a h = let e : suc n + v ≡ n + suc v = omega arith in subst (λ m. Leads m (slice_index_or g v no_vertex)) e (leads_at g (suc n) v a.1 (omega arith))

-- ---- the ports that names stand for

abbrev pub Below : ℕ → Ports → Type 0
Below n ports = (x : Name) → (ports x).vertex < n

below_more : (n m : ℕ) (ports : Ports) → n ≤ m → Below n ports → Below m ports
below_more n m ports h b x = let a = b x in omega arith

cond_below : (b : Bool) (p q : Port) (m : ℕ) → p.vertex < m → q.vertex < m → (cond b p q).vertex < m
cond_below true p q m h k = h
cond_below false p q m h k = k

stands_below : (x : Name) (p : Port) (ports : Ports) (m : ℕ) → p.vertex < m → Below m ports → Below m (stands_for x p ports)
stands_below x p ports m h b y = cond_below (same_name x y) p (ports y) m h (b y)

carried_below : (n : Name → ℕ) (ports : Ports) (d k m : ℕ) (ys : List Name) → Below k ports → k + length (carry n ports d k ys) ≤ m → Below m (carried_ports ports k ys)
carried_below n ports d k m [] b h = below_more k m ports (omega arith) b
carried_below n ports d k m (y ∷ ys) b h =
    stands_below y (port (suc (suc k)) 0) (carried_ports ports (suc (suc (suc (suc k)))) ys) m (omega arith)
    (carried_below n ports d (suc (suc (suc (suc k)))) m ys (below_more k (suc (suc (suc (suc k)))) ports (omega arith) b) (omega arith))

carry_leads : (n : Name → ℕ) (ports : Ports) (d k : ℕ) (ys : List Name) → Below k ports → AllLead k (carry n ports d k ys)
carry_leads n ports d k [] b = tt
carry_leads n ports d k (y ∷ ys) b = (
  inl (b y, tt),
  (
    inr (refl, omega arith),
    (
      inl (omega arith, tt),
      (
        inl (omega arith, tt),
        carry_leads n ports d (suc (suc (suc (suc k)))) ys (below_more k (suc (suc (suc (suc k)))) ports (omega arith) b),
      ),
    ),
  ),
)

-- ---- relations

-- what a relation makes from number k on, and the port that it gives
pub record LeadsOn (k : ℕ) (l : Lowered) : Type 0 where
  pub made : AllLead k l.made
  pub gives : l.gives.vertex < k + length l.made

one_leads : (k : ℕ) (l : Lowered) (kind : Kind) (d : ℕ) → LeadsOn k l → LeadsOn k (then_one k l kind d)
one_leads k l kind d a = record {
  made = leads_append k l.made (new_vertex kind d (l.gives ∷ []) ∷ []) a.made (inl (a.gives, tt), tt);
  gives = omega (arith, length-append l.made (new_vertex kind d (l.gives ∷ []) ∷ []));
}

two_leads : (k : ℕ) (l r : Lowered) (kind : Kind) (d : ℕ) → LeadsOn k l → LeadsOn (k + length l.made) r → LeadsOn k (then_two k l r kind d)
two_leads k l r kind d a b =
    let v = new_vertex kind d (l.gives ∷ r.gives ∷ []) in
    record {
      made = leads_append k l.made (r.made ++ (v ∷ [])) a.made
          (leads_append (k + length l.made) r.made (v ∷ []) b.made (inl ((let g = a.gives in omega arith), (b.gives, tt)), tt));
      gives = omega (arith, length-append l.made (r.made ++ (v ∷ [])), length-append r.made (v ∷ []));
    }

loop_leads : (l : Loop) (n k : ℕ) (once : List Name) (S : Lowered) (ports : Ports) (d : ℕ) (ys : List Name) (B : Lowered) → Below k ports → LeadsOn k S
    → LeadsOn (suc (suc (suc (k + length S.made))) + length (carry (held_turns n once) ports d (suc (suc (suc (k + length S.made)))) ys)) B
    → LeadsOn k (after_start S (looped l n (k + length S.made) once S ports d ys B))
loop_leads l n k once S ports d ys B b a c =
    let z = k + length S.made in
    let o = suc (suc (suc z)) in
    let C = carry (held_turns n once) ports d o ys in
    let last = o + length C + length B.made in
    let ends = new_vertex Kind.feedback (suc d) (B.gives ∷ []) ∷ new_vertex Kind.egress (suc d) (port (suc (suc z)) 1 ∷ []) ∷ [] in
    let loop = (looped l n z once S ports d ys B).made in
    record {
      made = leads_append k S.made loop a.made (
        inl (a.gives, tt),
        (
          inr (refl, omega arith),
          (
            inl (omega arith, tt),
            leads_append o C (B.made ++ ends) (carry_leads (held_turns n once) ports d o ys (below_more k o ports (omega arith) b))
                (leads_append (o + length C) B.made ends c.made (inl (c.gives, tt), (inl (omega arith, tt), tt))),
          ),
        ),
      );
      gives = omega (arith, length-append S.made loop, length-append C (B.made ++ ends), length-append B.made ends);
    }

pub rel_leads : (r : Rel) (ports : Ports) (once : List Name) (d k : ℕ) → Below k ports → LeadsOn k (lower r ports once d k)
unfolding lower
rel_leads (Rel.named x) ports once d k b = record { made = tt; gives = (let a = b x in omega arith) }
rel_leads (Rel.select r ss) ports once d k b = one_leads k (lower r ports once d k) (Kind.select ss) d (rel_leads r ports once d k b)
rel_leads (Rel.filter r c) ports once d k b = one_leads k (lower r ports once d k) (Kind.filter c) d (rel_leads r ports once d k b)
rel_leads (Rel.concat p q) ports once d k b =
    let j = k + length (lower p ports once d k).made in
    two_leads k (lower p ports once d k) (lower q ports once d j) Kind.concat d (rel_leads p ports once d k b) (rel_leads q ports once d j (below_more k j ports (omega arith) b))
rel_leads (Rel.join p q ps) ports once d k b =
    let j = k + length (lower p ports once d k).made in
    two_leads k (lower p ports once d k) (lower q ports once d j) (join_kind (is_lookup q once) ps) d (rel_leads p ports once d k b) (rel_leads q ports once d j (below_more k j ports (omega arith) b))
rel_leads (Rel.group r ks gs) ports once d k b = one_leads k (lower r ports once d k) (Kind.group ks gs) d (rel_leads r ports once d k b)
rel_leads (Rel.distinct r) ports once d k b = one_leads k (lower r ports once d k) Kind.distinct d (rel_leads r ports once d k b)
rel_leads (Rel.except p q) ports once d k b =
    let j = k + length (lower p ports once d k).made in
    two_leads k (lower p ports once d k) (lower q ports once d j) Kind.except d (rel_leads p ports once d k b) (rel_leads q ports once d j (below_more k j ports (omega arith) b))
rel_leads (Rel.intersect p q) ports once d k b =
    let j = k + length (lower p ports once d k).made in
    two_leads k (lower p ports once d k) (lower q ports once d j) Kind.intersect d (rel_leads p ports once d k b) (rel_leads q ports once d j (below_more k j ports (omega arith) b))
rel_leads (Rel.loop l n x r body) ports once d k b =
    let S = lower r ports once d k in
    let z = k + length S.made in
    let o = suc (suc (suc z)) in
    let ys = carried x body in
    let inner = once_names l x body in
    let m = o + length (carry (held_turns n inner) ports d o ys) in
    let inside = stands_for x (port (suc (suc z)) 0) (carried_ports ports o ys) in
    let within : Below m inside = stands_below x (port (suc (suc z)) 0) (carried_ports ports o ys) m (omega arith)
    (carried_below (held_turns n inner) ports d o m ys (below_more k o ports (omega arith) b) (omega arith)) in
    loop_leads l n k inner S ports d ys (lower body inside inner (suc d) m) b (rel_leads r ports once d k b) (rel_leads body inside inner (suc d) m within)

-- ---- programs

pub record LetsLead (k : ℕ) (l : LoweredLets) : Type 0 where
  pub made : AllLead k l.made
  pub ports : Below (k + length l.made) l.ports

lets_lead : (as' : List Let) (ports : Ports) (k : ℕ) → Below k ports → LetsLead k (lower_lets as' ports k)
unfolding lower_lets
lets_lead [] ports k b = record { made = tt; ports = below_more k (k + 0) ports (omega arith) b }
lets_lead (a ∷ as') ports k b =
    let r = lower a.value ports [] 0 k in
    let j = k + length r.made in
    let first = rel_leads a.value ports [] 0 k b in
    let after = stands_for a.name r.gives ports in
    let rest = lets_lead as' after j (stands_below a.name r.gives ports j first.gives (below_more k j ports (omega arith) b)) in
    record {
      made = leads_append k r.made (lower_lets as' after j).made first.made rest.made;
      ports = below_more (j + length (lower_lets as' after j).made) (k + length (r.made ++ (lower_lets as' after j).made)) (lower_lets as' after j).ports (omega (arith, length-append r.made (lower_lets as' after j).made)) rest.ports;
    }

inputs_below : (as' : List Input) (i m : ℕ) → i + length as' ≤ m → 0 < m → Below m (input_ports as' i)
inputs_below [] i m h z = λ x. z
inputs_below (a ∷ as') i m h z = stands_below a.name (port i 0) (input_ports as' (suc i)) m (omega arith) (inputs_below as' (suc i) m (omega arith) z)

-- without a name in scope no relation is well typed
no_leaf : (r : Rel) (d n : ℕ) → HasArity r [] d n → ⊥
unfolding HasArity
no_leaf (Rel.named x) d n h = cc
no_leaf (Rel.select r ss) d n h = no_leaf r d h.0 h.1
no_leaf (Rel.filter r c) d n h = no_leaf r d n h.0
no_leaf (Rel.concat p q) d n h = no_leaf p d n h.0
no_leaf (Rel.join p q ps) d n h = no_leaf p d h.0 h.2
no_leaf (Rel.group r ks gs) d n h = no_leaf r d h.0 h.1
no_leaf (Rel.distinct r) d n h = no_leaf r d n h
no_leaf (Rel.except p q) d n h = no_leaf p d n h.0
no_leaf (Rel.intersect p q) d n h = no_leaf p d n h.0
no_leaf (Rel.loop l k x r b) d n h = no_leaf r d n h.2

no_outputs : (os : List Output) (ns : List ℕ) → OutputsFit [] [] os ns → os ≡ []
no_outputs [] ns h = refl
no_outputs (o ∷ os) [] h = absurd h
no_outputs (o ∷ os) (n ∷ ns) h = absurd (no_leaf o.value 0 n h.0)

no_rest : (as' : List Let) (os : List Output) (ns : List ℕ) → RestFits [] as' os ns → (as' ≡ []) × (os ≡ [])
no_rest [] os ns h = (refl, no_outputs os ns h)
no_rest (a ∷ as') os ns h = absurd (no_leaf a.value 0 h.0 h.1)

nothing_lowered : (p : Program) → p.inputs ≡ [] → p.lets ≡ [] → p.outputs ≡ [] → length (lowered p) ≡ 0
unfolding lowered lower_lets lower_outputs
nothing_lowered p i l o =
    ap (λ is. length (input_vertices is ++ ((lower_lets p.lets (input_ports is 0) (length is)).made ++ lower_outputs p.outputs (lower_lets p.lets (input_ports is 0) (length is)).ports (length is + length (lower_lets p.lets (input_ports is 0) (length is)).made)))) i
    ∙ ap (λ ls. length ((lower_lets ls (input_ports [] 0) 0).made ++ lower_outputs p.outputs (lower_lets ls (input_ports [] 0) 0).ports (0 + length (lower_lets ls (input_ports [] 0) 0).made))) l
    ∙ ap (λ os. length (lower_outputs os (input_ports [] 0) 0)) o

-- a well-typed program whose graph has a vertex has an input
pub some_input : (as' : List Input) (p : Program) (ns : List ℕ) → p.inputs ≡ as' → WellTyped p ns → 0 < length (lowered p) → 0 < length as'
some_input [] p ns e w h =
    let rest = no_rest p.lets p.outputs ns (rw e at w.rest) in
    let none = nothing_lowered p e rest.0 rest.1 in
    absurd (omega (arith, h, none))
some_input (a ∷ as') p ns e w h = omega arith

outputs_lead : (os : List Output) (ports : Ports) (k : ℕ) → Below k ports → AllLead k (lower_outputs os ports k)
unfolding lower_outputs
outputs_lead [] ports k b = tt
outputs_lead (o ∷ os) ports k b =
    let r = lower o.value ports [] 0 k in
    let j = k + length r.made in
    let first = rel_leads o.value ports [] 0 k b in
    leads_append k r.made (new_vertex Kind.output 0 (r.gives ∷ []) ∷ lower_outputs os ports (suc j)) first.made
    (inl (first.gives, tt), outputs_lead os ports (suc j) (below_more k (suc j) ports (omega arith) b))

-- the vertices of a program behind its inputs'
abbrev pub behind_inputs : Program → Graph
behind_inputs p = (lets_of p).made ++ outputs_of p

pub program_leads : (p : Program) → 0 < length p.inputs → AllLead (length p.inputs) (behind_inputs p)
program_leads p h =
    let k = length p.inputs in
    let L = lets_of p in
    let lets = lets_lead p.lets (input_ports p.inputs 0) k (inputs_below p.inputs 0 k (omega arith) h) in
    leads_append k L.made (outputs_of p) lets.made (outputs_lead p.outputs L.ports (k + length L.made) lets.ports)
