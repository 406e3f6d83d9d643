-- The arity of what a vertex sends, from those of the vertices before it.
use Rattle.std.proofs.Common.{◌≡◌, ◌≢◌, ◌↔◌, ℕ, zero, suc, ◌+◌, ◌-◌, ◌<◌, ◌≤◌, ◌⊎◌, inl, inr, List, [], ◌∷◌, ◌++◌, length, map, refl, sym, ap, ap₂, subst, ◌∙◌, arith, length-append, slice_index_or}
use Rattle.std.proofs.lemmas.Bool.{cases_lt}
use Rattle.std.proofs.lemmas.List.{get_or-append_right, get_or_append_left}
use Rattle.expr_tree.specs.Plain.{plain_input}
use Rattle.expr_tree.specs.declared.program.Input.{Input as Declared}
use Rattle.semantics.specs.Query.{Program}
use Rattle.semantics.specs.Kinds.{Kind}
use Rattle.semantics.specs.Graph.{Port, Vertex, no_port, no_vertex, source, vertex}
use Rattle.semantics.specs.Lower.{input_vertices, lowered}
use Rattle.semantics.specs.PortArity.{IsTyped, PortsFit, program_arities}
use Rattle.semantics.specs.Typing.{WellTyped}
use Rattle.semantics.proofs.LoweredPrograms.{length-input_vertices}
use Rattle.lowering.specs.Sent.{arity_in, sent}
use Rattle.lowering.proofs.SourcesBefore.{AllBelow, FirstBelow, Leads, behind_inputs, leads_at, program_leads, some_input}
use Rattle.semantics.specs.Limits.{max_fields}

fits_sent : (kind : Kind) (n : ℕ) (ins : ℕ → ℕ) (out : ℕ) → kind ≢ Kind.input → PortsFit kind ins out → out ≡ sent kind n (ins 0) (ins 1)
fits_sent Kind.input n ins out e h = absurd (e refl)
fits_sent Kind.output n ins out e h = h
fits_sent (Kind.select ss) n ins out e h = h.1
fits_sent (Kind.filter c) n ins out e h = h.1
fits_sent Kind.concat n ins out e h = h.0
fits_sent (Kind.join ps) n ins out e h = h.1
fits_sent (Kind.lookup ps) n ins out e h = h.1
fits_sent (Kind.group ks gs) n ins out e h = h.2
fits_sent Kind.distinct n ins out e h = h
fits_sent Kind.except n ins out e h = h.0
fits_sent Kind.intersect n ins out e h = h.0
fits_sent Kind.ingress n ins out e h = h
fits_sent Kind.egress n ins out e h = h
fits_sent Kind.feedback n ins out e h = h
fits_sent (Kind.gate t) n ins out e h = h
fits_sent (Kind.unseen t) n ins out e h = h
fits_sent (Kind.hold t) n ins out e h = h

concat_sent : (kind : Kind) (n a b : ℕ) → kind ≡ Kind.concat → sent kind n a b ≡ a
concat_sent kind n a b e = subst (λ k. sent k n a b ≡ a) (sym e) refl

-- the arities of the vertices before v are known
abbrev Known : List ℕ → (ℕ → ℕ) → ℕ → Type 0
Known as' A v = (u : ℕ) → u < v → slice_index_or as' u 0 ≡ A u

ins_known : (ps : List Port) (A : ℕ → ℕ) (as' : List ℕ) (v : ℕ) → 0 < v → AllBelow v ps → Known as' A v → (i : ℕ) → arity_in as' ps i ≡ A (slice_index_or ps i no_port).vertex
ins_known [] A as' v z h k i = k 0 z
ins_known (p ∷ ps) A as' v z h k zero = k p.vertex h.0
ins_known (p ∷ ps) A as' v z h k (suc i) = ins_known ps A as' v z h.1 k i

first_known : (ps : List Port) (A : ℕ → ℕ) (as' : List ℕ) (v : ℕ) → 0 < v → FirstBelow v ps → Known as' A v → arity_in as' ps 0 ≡ A (slice_index_or ps 0 no_port).vertex
first_known [] A as' v z h k = k 0 z
first_known (p ∷ ps) A as' v z h k = k p.vertex h

vertex_sent : (x : Vertex) (v n out : ℕ) (A : ℕ → ℕ) (as' : List ℕ) → 0 < v → x.kind ≢ Kind.input → Leads v x → Known as' A v → PortsFit x.kind (λ i. A (slice_index_or x.ins i no_port).vertex) out → sent x.kind n (arity_in as' x.ins 0) (arity_in as' x.ins 1) ≡ out
vertex_sent x v n out A as' z other h k f = go h ∙ sym fits
  where
    ins : ℕ → ℕ
    ins i = A (slice_index_or x.ins i no_port).vertex

    fits : out ≡ sent x.kind n (ins 0) (ins 1)
    fits = fits_sent x.kind n ins out other f

    go : AllBelow v x.ins ⊎ ((x.kind ≡ Kind.concat) × FirstBelow v x.ins) → sent x.kind n (arity_in as' x.ins 0) (arity_in as' x.ins 1) ≡ sent x.kind n (ins 0) (ins 1)
    go (inl all) = ap₂ (λ a b. sent x.kind n a b) (ins_known x.ins A as' v z all k 0) (ins_known x.ins A as' v z all k 1)
    go (inr c) = concat_sent x.kind n (arity_in as' x.ins 0) (arity_in as' x.ins 1) c.0 ∙ first_known x.ins A as' v z c.1 k ∙ sym (concat_sent x.kind n (ins 0) (ins 1) c.0)

input_sent : (kind : Kind) (n a b : ℕ) → kind ≡ Kind.input → sent kind n a b ≡ n
input_sent kind n a b e = subst (λ k. sent k n a b ≡ n) (sym e) refl

-- the arity of vertex v, where those before it are known; d is the declared one, if it is an input
pub one_arity : (p : Program) (ns : List ℕ) (as' : List ℕ) (x : Vertex) (v d : ℕ) → WellTyped p ns → IsTyped (lowered p) (λ u. slice_index_or (program_arities p) u 0)
    → ((i : ℕ) → i < length p.inputs → slice_index_or (program_arities p) i 0 ≡ slice_index_or (map (λ a. a.arity) p.inputs) i 0)
    → ((u : ℕ) → (vertex (lowered p) u).kind ≡ Kind.input ↔ u < length p.inputs)
    → v < length (lowered p) → x ≡ vertex (lowered p) v → d ≡ slice_index_or (map (λ a. a.arity) p.inputs) v 0 → ((u : ℕ) → u < v → slice_index_or as' u 0 ≡ slice_index_or (program_arities p) u 0)
    → sent x.kind d (arity_in as' x.ins 0) (arity_in as' x.ins 1) ≡ slice_index_or (program_arities p) v 0
unfolding lowered vertex source
one_arity p ns as' x v d w typed declared inputs lt e q k = go (cases_lt v m)
  where
    m : ℕ
    m = length p.inputs

    A : ℕ → ℕ
    A u = slice_index_or (program_arities p) u 0

    go : (v < m) ⊎ (m ≤ v) → sent x.kind d (arity_in as' x.ins 0) (arity_in as' x.ins 1) ≡ slice_index_or (program_arities p) v 0
    go (inl h) = input_sent x.kind d (arity_in as' x.ins 0) (arity_in as' x.ins 1) (ap (λ y. y.kind) e ∙ (inputs v).1 h) ∙ q ∙ sym (declared v h)
    go (inr h) =
        let z = some_input p.inputs p ns refl w (omega arith) in
        let j : m + (v - m) ≡ v = omega arith in
        let short : v - m < length (behind_inputs p) = omega (arith, lt, length-append (input_vertices p.inputs) (behind_inputs p), length-input_vertices p.inputs) in
        let there : x ≡ slice_index_or (behind_inputs p) (v - m) no_vertex = e ∙ get_or-append_right (input_vertices p.inputs) (behind_inputs p) m v no_vertex (length-input_vertices p.inputs) h in
        let leads : Leads v x = subst (λ y. Leads v y) (sym there) (subst (λ i. Leads i (slice_index_or (behind_inputs p) (v - m) no_vertex)) j (leads_at (behind_inputs p) m (v - m) (program_leads p z) short)) in
        let fits : PortsFit x.kind (λ i. A (slice_index_or x.ins i no_port).vertex) (A v) = subst (λ y. PortsFit y.kind (λ i. A (slice_index_or y.ins i no_port).vertex) (A v)) (sym e) (typed.ports v lt) in
        let other : x.kind ≢ Kind.input = (λ i. let l = (inputs v).0 (ap (λ y. y.kind) (sym e) ∙ i) in absurd (omega (arith, l, h))) in
        vertex_sent x v d (A v) A as' (omega arith) other leads k fits

-- ---- vertices one by one

-- the arities of the first i vertices, none above the limit
abbrev pub CountedTo : Program → ℕ → List ℕ → Type 0
CountedTo p i as' = (length as' ≡ i) × ((u : ℕ) → u < i → slice_index_or as' u 0 ≡ slice_index_or (program_arities p) u 0) × ((u : ℕ) → slice_index_or as' u 0 ≤ max_fields)

last_small : (a j : ℕ) → a ≤ max_fields → slice_index_or (a ∷ []) j 0 ≤ max_fields
last_small a zero h = h
last_small a (suc j) h = omega arith

pub one_counted : (p : Program) (as' bs : List ℕ) (i a : ℕ) → IsTyped (lowered p) (λ u. slice_index_or (program_arities p) u 0) → i < length (lowered p) → CountedTo p i as' → a ≡ slice_index_or (program_arities p) i 0 → bs ≡ as' ++ (a ∷ []) → CountedTo p (i + 1) bs
one_counted p as' bs i a typed lt c e b = subst (λ l. CountedTo p (i + 1) l) (sym b) (size, known, small)
  where
    A : ℕ → ℕ
    A u = slice_index_or (program_arities p) u 0

    limit : a ≤ max_fields
    limit = let f = (typed.fields i lt).1 in omega (arith, f, e)

    size : length (as' ++ (a ∷ [])) ≡ i + 1
    size = omega (arith, length-append as' (a ∷ []), c.0)

    known : (u : ℕ) → u < i + 1 → slice_index_or (as' ++ (a ∷ [])) u 0 ≡ A u
    known u h = go (cases_lt u i)
      where
        go : (u < i) ⊎ (i ≤ u) → slice_index_or (as' ++ (a ∷ [])) u 0 ≡ A u
        go (inl l) = let k : u < length as' = omega (arith, c.0) in get_or_append_left as' (a ∷ []) 0 u k ∙ c.1 u l
        go (inr l) =
            let s : u ≡ i = omega arith in
            let z : u - i ≡ 0 = omega arith in
            get_or-append_right as' (a ∷ []) i u 0 c.0 l ∙ ap (λ j. slice_index_or (a ∷ []) j 0) z ∙ e ∙ ap A (sym s)

    small : (u : ℕ) → slice_index_or (as' ++ (a ∷ [])) u 0 ≤ max_fields
    small u = go (cases_lt u i)
      where
        go : (u < i) ⊎ (i ≤ u) → slice_index_or (as' ++ (a ∷ [])) u 0 ≤ max_fields
        go (inl l) = let k : u < length as' = omega (arith, c.0) in subst (λ x. x ≤ max_fields) (sym (get_or_append_left as' (a ∷ []) 0 u k)) (c.2 u)
        go (inr l) = subst (λ x. x ≤ max_fields) (sym (get_or-append_right as' (a ∷ []) i u 0 c.0 l)) (last_small a (u - i) limit)

-- the declared arities are the plain inputs'
pub same_arities : (as' : List Declared) → map (λ a. a.arity) as' ≡ map (λ a. a.arity) (map plain_input as')
same_arities [] = refl
same_arities (a ∷ as') = ap (λ l. a.arity ∷ l) (same_arities as')
