-- In any flow of a program's graph, the edge into each output vertex has what the program means there.
use Rattle.std.proofs.Common.{◌<◌, ◌≡◌, ℕ, zero, suc, ◌+◌, Bool, true, false, cond, List, [], ◌∷◌, ◌++◌, map, length, slice_index_or, refl, sym, ap, subst, ◌∙◌, arith, append_assoc, length-append, inl, inr, ◌⊎◌}
use Rattle.std.specs.List.{AllByRecursion}
use Rattle.std.proofs.lemmas.Bool.{true≢false}
use Rattle.semantics.proofs.NamesAmong.{Decides-same_name}
use Rattle.semantics.specs.Multiset.{IsAmong, Record, ◌≈◌}
use Rattle.semantics.specs.Flow.{Inputs, Flow, IsFlow, port_flow}
use Rattle.semantics.specs.Kinds.{Kind}
use Rattle.semantics.specs.Graph.{no_port, Port, Vertex, Graph, no_vertex, vertex}
use Rattle.semantics.specs.Lower.{Ports, stands_for, port, new_vertex, lower, input_vertices, input_ports, lower_lets, lets_of, lower_outputs, outputs_of, lowered}
use Rattle.semantics.specs.Meaning.{same_name, Names, bind, meaning, input_names, let_names, program_meaning}
use Rattle.semantics.specs.Query.{Name, Input, Let, Output, Program}
use Rattle.semantics.specs.Time.{Time}
use Rattle.semantics.proofs.MultisetSums.{≈-trans, ≈-from}
use Rattle.semantics.proofs.LoweredRelations.{Stands, stands_left, stands_right, Agree, lower_means}
use Rattle.semantics.proofs.FittingPrograms.{LetsFit, AllFit, names_after, input_list, IsFitting}
use Rattle.semantics.proofs.VertexFlows.{out_at, edge_at}

-- the numbers of the vertices of outputs that are made from number k on
abbrev pub outputs_at : List Output → Ports → (k : ℕ) → List ℕ
outputs_at [] ports k = []
outputs_at (o ∷ os) ports k =
    let last = k + length (lower o.value ports [] 0 k).made in
    last ∷ outputs_at os ports (suc last)

-- the same for a program
abbrev pub outputs_at_of : Program → List ℕ
outputs_at_of p = outputs_at p.outputs (lets_of p).ports (length p.inputs + length (lets_of p).made)

-- what holds of all ports holds of each
pub all_at : (P : Port → Type 0) (ps : List Port) (i : ℕ) → AllByRecursion P ps → i < length ps → P (slice_index_or ps i no_port)
all_at P [] i a l = absurd (omega arith)
all_at P (p ∷ ps) zero a l = a.0
all_at P (p ∷ ps) (suc i) a l = all_at P ps i a.1 (omega arith)

-- an element of a list's part is at its place in the list
pub at_length : (vs ws : List Vertex) (v : Vertex) → slice_index_or (vs ++ (v ∷ ws)) (length vs) no_vertex ≡ v
at_length [] ws v = refl
at_length (u ∷ us) ws v = at_length us ws v

stands_from : (vs ws : List Vertex) → Stands (vs ++ ws) (length vs) ws
unfolding vertex
stands_from vs [] = tt
stands_from vs (w ∷ ws) = (
  record { is = at_length vs ws w; known = omega (arith, length-append vs (w ∷ ws)) },
  subst (λ g. Stands g (suc (length vs)) ws) (append_assoc vs (w ∷ []) ws)
      (subst (λ n. Stands ((vs ++ (w ∷ [])) ++ ws) n ws) (let e : length (vs ++ (w ∷ [])) ≡ suc (length vs) = omega (arith, length-append vs (w ∷ [])) in e) (stands_from (vs ++ (w ∷ [])) ws)),
)

pub stands_whole : (g : Graph) → Stands g 0 g
stands_whole g = stands_from [] g

pub length-input_vertices : (as' : List Input) → length (input_vertices as') ≡ length as'
length-input_vertices [] = refl
length-input_vertices (a ∷ as') = ap suc (length-input_vertices as')

module _ (g : Graph) (inputs : Inputs) (f : Flow) (flow : IsFlow g inputs f) where
  abbrev out : Port → Time → List Record
  out p u = port_flow g inputs f p u

  inputs_agree : (as' : List Input) (i : ℕ) (e : ℕ) → Stands g i (input_vertices as') → Agree g inputs f flow [] (input_list as') (input_ports as' i) (record { epoch = e; counters = [] }) (input_names as' i (λ j. inputs j e))
  inputs_agree [] i e s y h = absurd h
  inputs_agree (a ∷ as') i e s y h = go (same_name a.name y) refl (inputs_agree as' (suc i) e s.1 y)
    where
      go : (b : Bool) → same_name a.name y ≡ b → (IsAmong y (input_list as') → out (input_ports as' (suc i) y) (record { epoch = e; counters = [] }) ≈ input_names as' (suc i) (λ j. inputs j e) y) → out (cond b (port i 0) (input_ports as' (suc i) y)) (record { epoch = e; counters = [] }) ≈ cond b (inputs i e) (input_names as' (suc i) (λ j. inputs j e) y)
      go true q ih = ≈-from (out_at g inputs f flow i 0 (new_vertex Kind.input 0 []) (record { epoch = e; counters = [] }) s.0)
      go false q ih = ih (rest h)
        where
          rest : (a.name ≡ y) ⊎ IsAmong y (input_list as') → IsAmong y (input_list as')
          rest (inl k) = absurd (true≢false (sym ((Decides-same_name a.name y).1 k) ∙ q))
          rest (inr k) = k

  lets_agree : (as' : List Let) (xs : List Name) (ports : Ports) (k : ℕ) (names : Names) (u : Time) → LetsFit xs as' → Stands g k (lower_lets as' ports k).made → length u.counters ≡ 0 → Agree g inputs f flow [] xs ports u names → Agree g inputs f flow [] (names_after xs as') (lower_lets as' ports k).ports u (let_names as' names)
  unfolding lower_lets let_names
  lets_agree [] xs ports k names u m s l agree = agree
  lets_agree (a ∷ as') xs ports k names u m s l agree =
      let r = lower a.value ports [] 0 k in
      lets_agree as' (a.name ∷ xs) (stands_for a.name r.gives ports) (k + length r.made) (bind a.name (meaning a.value names) names) u m.1
      (stands_right g k r.made (lower_lets as' (stands_for a.name r.gives ports) (k + length r.made)).made s) l (λ y h. go y (same_name a.name y) refl h)
    where
      go : (y : Name) (b : Bool) → same_name a.name y ≡ b → (a.name ≡ y) ⊎ IsAmong y xs → out (cond b (lower a.value ports [] 0 k).gives (ports y)) u ≈ cond b (meaning a.value names) (names y)
      go y true q h = lower_means g inputs f flow a.value m.0.limited ports [] 0 k names u (stands_left g k (lower a.value ports [] 0 k).made _ s) l (λ z j. refl) (λ z j. agree z (m.0.known z j))
      go y false q (inl e) = absurd (true≢false (sym ((Decides-same_name a.name y).1 e) ∙ q))
      go y false q (inr h) = agree y h

  outputs_agree : (os : List Output) (xs : List Name) (ports : Ports) (k : ℕ) (names : Names) (u : Time) → AllFit xs os → Stands g k (lower_outputs os ports k) → length u.counters ≡ 0 → Agree g inputs f flow [] xs ports u names → (i none : ℕ) → i < length os → f (slice_index_or (outputs_at os ports k) i none) 0 u ≈ slice_index_or (map (λ (o : Output). meaning o.value names) os) i []
  unfolding lower_outputs
  outputs_agree [] xs ports k names u m s l agree i none b = absurd (omega arith)
  outputs_agree (o ∷ os) xs ports k names u m s l agree zero none b =
      let r = lower o.value ports [] 0 k in
      let at = (stands_right g k r.made (new_vertex Kind.output 0 (r.gives ∷ []) ∷ lower_outputs os ports (suc (k + length r.made))) s).0 in
      ≈-trans (edge_at g inputs f flow (k + length r.made) (new_vertex Kind.output 0 (r.gives ∷ [])) at 0 u (omega arith) l)
      (lower_means g inputs f flow o.value m.0.limited ports [] 0 k names u (stands_left g k r.made _ s) l (λ y h. refl) (λ y h. agree y (m.0.known y h)))
  outputs_agree (o ∷ os) xs ports k names u m s l agree (suc i) none b =
      let r = lower o.value ports [] 0 k in
      let rest = (stands_right g k r.made (new_vertex Kind.output 0 (r.gives ∷ []) ∷ lower_outputs os ports (suc (k + length r.made))) s).1 in
      outputs_agree os xs ports (suc (k + length r.made)) names u m.1 rest l agree i none (omega arith)

pub lowered_means : (p : Program) → IsFitting p → (inputs : Inputs) (f : Flow) → IsFlow (lowered p) inputs f → (e i none : ℕ) → i < length p.outputs → f (slice_index_or (outputs_at_of p) i none) 0 (record { epoch = e; counters = [] }) ≈ program_meaning p i (λ j. inputs j e)
unfolding lowered program_meaning
lowered_means p fits inputs f flow e i none b =
    outputs_agree (lowered p) inputs f flow p.outputs (names_after (input_list p.inputs) p.lets) (lets_of p).ports (n + length (lets_of p).made) (let_names p.lets (input_names p.inputs 0 (λ j. inputs j e))) u fits.outputs at_outputs refl
    (lets_agree (lowered p) inputs f flow p.lets (input_list p.inputs) (input_ports p.inputs 0) n (input_names p.inputs 0 (λ j. inputs j e)) u fits.lets
    (stands_left (lowered p) n (lets_of p).made _ at_lets) refl
    (inputs_agree (lowered p) inputs f flow p.inputs 0 e (stands_left (lowered p) 0 (input_vertices p.inputs) _ (stands_whole (lowered p)))))
    i none b
  where
    u : Time
    u = record { epoch = e; counters = [] }

    n : ℕ
    n = length p.inputs

    at_lets : Stands (lowered p) n ((lets_of p).made ++ outputs_of p)
    at_lets = subst (λ k. Stands (lowered p) k ((lets_of p).made ++ outputs_of p)) (omega (arith, length-input_vertices p.inputs)) (stands_right (lowered p) 0 (input_vertices p.inputs) _ (stands_whole (lowered p)))

    at_outputs : Stands (lowered p) (n + length (lets_of p).made) (outputs_of p)
    at_outputs = stands_right (lowered p) n (lets_of p).made (outputs_of p) at_lets
