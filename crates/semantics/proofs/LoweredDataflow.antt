-- The graph of a well-typed program is a dataflow graph.
use Rattle.std.proofs.Common.{◌≤◌, ◌≡◌, ◌↔◌, ℕ, zero, suc, ◌+◌, ◌<◌, true, false, cond, List, [], ◌∷◌, ◌++◌, length, slice_index_or, refl, sym, ap, ◌∙◌, arith, inl, inr, ◌⊎◌}
use Rattle.std.proofs.lemmas.Bool.{true≢false}
use Rattle.std.specs.List.{AllByRecursion}
use Rattle.semantics.specs.FreeNames.{carried, once_names}
use Rattle.semantics.specs.Multiset.{◌≈◌}
use Rattle.semantics.specs.Meaning.{program_meaning}
use Rattle.semantics.specs.Time.{last, turn_count, Time, at_epoch}
use Rattle.semantics.specs.Flow.{IsEdgeTime, HasOneFlow, Inputs, Flow, IsFlow}
use Rattle.semantics.proofs.RankRises.{dataflow_one_flow}
use Rattle.semantics.proofs.MultisetSums.{≈-trans, ≈-from}
use Rattle.semantics.specs.Dataflow.{IsShaped, IsDataflow}
use Rattle.semantics.specs.Kinds.{Kind, ends_turn, is_input, is_output}
use Rattle.semantics.specs.Graph.{Port, Vertex, Graph, no_vertex, vertex, input_count, outputs_from, output_numbers, output_number}
use Rattle.semantics.proofs.InputNumbers.{input_kind}
use Rattle.semantics.proofs.LoweredPrograms.{outputs_at, outputs_at_of, length-input_vertices, lowered_means}
use Rattle.semantics.specs.Lower.{is_lookup, join_kind, held_turns, Ports, stands_for, port, new_vertex, carry, carried_ports, lower, input_vertices, input_ports, lower_lets, lets_of, lower_outputs, outputs_of, lowered}
use Rattle.semantics.specs.Query.{Name, Rel, Input, Let, Output, Program}
use Rattle.semantics.specs.Typing.{WellTyped}
use Rattle.semantics.proofs.TypedPrograms.{typed_fits}
use Rattle.semantics.proofs.QuietEnds.{lowered_quiet}
use Rattle.semantics.proofs.FittingPrograms.{IsFitting}
use Rattle.semantics.proofs.Gates.{gate_no_input, gate_no_output, gate_no_end, join_no_input, join_no_output, join_no_end}
use Rattle.semantics.proofs.LoweredLoops.{program_loops, program_sound, wired_from_sound, nested_from_sound}

all_append : (P : Vertex → Type 0) (xs ys : List Vertex) → AllByRecursion P xs → AllByRecursion P ys → AllByRecursion P (xs ++ ys)
all_append P [] ys a b = b
all_append P (x ∷ xs) ys a b = (a.0, all_append P xs ys a.1 b)

all_more : (P Q : Vertex → Type 0) (xs : List Vertex) → ((x : Vertex) → P x → Q x) → AllByRecursion P xs → AllByRecursion Q xs
all_more P Q [] h a = tt
all_more P Q (x ∷ xs) h a = (h x a.0, all_more P Q xs h a.1)

all_vertex : (P : Vertex → Type 0) (g : Graph) (v : ℕ) → AllByRecursion P g → v < length g → P (slice_index_or g v no_vertex)
all_vertex P [] v a l = absurd (omega arith)
all_vertex P (x ∷ g) zero a l = a.0
all_vertex P (x ∷ g) (suc v) a l = all_vertex P g v a.1 (omega arith)

-- a vertex that is neither input nor output
record Inner (v : Vertex) : Type 0 where
  no_input : is_input v.kind ≡ false
  no_output : is_output v.kind ≡ false
  inside : ends_turn v.kind ≡ true → 0 < v.depth

-- a vertex of a kind that ends no turn is inner
plain_inner : (v : Vertex) → is_input v.kind ≡ false → is_output v.kind ≡ false → ends_turn v.kind ≡ false → Inner v
plain_inner v a b c = record { no_input = a; no_output = b; inside = λ e. absurd (true≢false (sym e ∙ c)) }

abbrev AllInner : List Vertex → Type 0
AllInner vs = AllByRecursion Inner vs

one_inner : (vs : List Vertex) (v : Vertex) → AllInner vs → Inner v → AllInner (vs ++ (v ∷ []))
one_inner vs v a i = all_append Inner vs (v ∷ []) a (i, tt)

two_inner : (vs ws : List Vertex) (v : Vertex) → AllInner vs → AllInner ws → Inner v → AllInner (vs ++ (ws ++ (v ∷ [])))
two_inner vs ws v a b i = all_append Inner vs (ws ++ (v ∷ [])) a (one_inner ws v b i)

carry_inner : (n : Name → ℕ) (ports : Ports) (d k : ℕ) (ys : List Name) → AllInner (carry n ports d k ys)
carry_inner n ports d k [] = tt
carry_inner n ports d k (y ∷ ys) = (plain_inner _ refl refl refl, (plain_inner _ refl refl refl, (plain_inner _ refl refl refl, (record { no_input = refl; no_output = refl; inside = λ e. omega arith }, carry_inner n ports d (suc (suc (suc (suc k)))) ys))))

lower_inner : (r : Rel) (ports : Ports) (once : List Name) (d k : ℕ) → AllInner (lower r ports once d k).made
unfolding lower
lower_inner (Rel.named x) ports once d k = tt
lower_inner (Rel.select r ss) ports once d k = one_inner (lower r ports once d k).made _ (lower_inner r ports once d k) (plain_inner _ refl refl refl)
lower_inner (Rel.filter r c) ports once d k = one_inner (lower r ports once d k).made _ (lower_inner r ports once d k) (plain_inner _ refl refl refl)
lower_inner (Rel.group r ks as') ports once d k = one_inner (lower r ports once d k).made _ (lower_inner r ports once d k) (plain_inner _ refl refl refl)
lower_inner (Rel.distinct r) ports once d k = one_inner (lower r ports once d k).made _ (lower_inner r ports once d k) (plain_inner _ refl refl refl)
lower_inner (Rel.concat p q) ports once d k = two_inner (lower p ports once d k).made (lower q ports once d (k + length (lower p ports once d k).made)).made _ (lower_inner p ports once d k) (lower_inner q ports once d (k + length (lower p ports once d k).made)) (plain_inner _ refl refl refl)
lower_inner (Rel.except p q) ports once d k = two_inner (lower p ports once d k).made (lower q ports once d (k + length (lower p ports once d k).made)).made _ (lower_inner p ports once d k) (lower_inner q ports once d (k + length (lower p ports once d k).made)) (plain_inner _ refl refl refl)
lower_inner (Rel.intersect p q) ports once d k = two_inner (lower p ports once d k).made (lower q ports once d (k + length (lower p ports once d k).made)).made _ (lower_inner p ports once d k) (lower_inner q ports once d (k + length (lower p ports once d k).made)) (plain_inner _ refl refl refl)
lower_inner (Rel.join p q ps) ports once d k = two_inner (lower p ports once d k).made (lower q ports once d (k + length (lower p ports once d k).made)).made _ (lower_inner p ports once d k) (lower_inner q ports once d (k + length (lower p ports once d k).made)) (plain_inner _ (join_no_input (is_lookup q once) ps) (join_no_output (is_lookup q once) ps) (join_no_end (is_lookup q once) ps))
lower_inner (Rel.loop l n x r b) ports once d k =
    let start = lower r ports once d k in
    let loop = k + length start.made in
    let outside = suc (suc (suc loop)) in
    let ys = carried x b in
    let inner = once_names l x b in
    let inside = stands_for x (port (suc (suc loop)) 0) (carried_ports ports outside ys) in
    let cs = carry (held_turns n inner) ports d outside ys in
    let body = lower b inside inner (suc d) (outside + length cs) in
    all_append Inner start.made _ (lower_inner r ports once d k) (
      plain_inner _ refl refl refl,
      (
        plain_inner _ refl refl refl,
        (
          plain_inner _ (gate_no_input l n) (gate_no_output l n) (gate_no_end l n),
          all_append Inner cs _ (carry_inner (held_turns n inner) ports d outside ys)
              (all_append Inner body.made _ (lower_inner b inside inner (suc d) (outside + length cs))
              (record { no_input = refl; no_output = refl; inside = λ e. omega arith }, (record { no_input = refl; no_output = refl; inside = λ e. omega arith }, tt))),
        ),
      ),
    )

lets_inner : (as' : List Let) (ports : Ports) (k : ℕ) → AllInner (lower_lets as' ports k).made
unfolding lower_lets
lets_inner [] ports k = tt
lets_inner (a ∷ as') ports k =
    let r = lower a.value ports [] 0 k in
    all_append Inner r.made _ (lower_inner a.value ports [] 0 k) (lets_inner as' (stands_for a.name r.gives ports) (k + length r.made))

-- ---- inputs

abbrev NoInput : Vertex → Type 0
NoInput x = is_input x.kind ≡ false

never_input : (g : Graph) (v : ℕ) → AllByRecursion NoInput g → (vertex g v).kind ≡ Kind.input → ⊥
unfolding vertex
never_input [] v a e = cc
never_input (x ∷ g) zero a e = true≢false (sym (ap is_input e) ∙ a.0)
never_input (x ∷ g) (suc v) a e = never_input g v a.1 e

input_only : (as' : List Input) (rest : List Vertex) (v : ℕ) → AllByRecursion NoInput rest → (vertex (input_vertices as' ++ rest) v).kind ≡ Kind.input → v < length as'
unfolding vertex
input_only [] rest v a e = absurd (never_input rest v a e)
input_only (x ∷ as') rest zero a e = omega arith
input_only (x ∷ as') rest (suc v) a e = let h = input_only as' rest v a e in omega arith

inputs_counted : (as' : List Input) (rest : List Vertex) → AllByRecursion NoInput rest → input_count (input_vertices as' ++ rest) ≡ length as'
inputs_counted [] [] a = refl
inputs_counted [] (x ∷ rest) a = ap (λ b. cond b (suc (input_count rest)) 0) a.0
inputs_counted (x ∷ as') rest a = ap suc (inputs_counted as' rest a)

-- ---- outputs

-- what holds of inner vertices and of outputs' vertices
outputs_all : (P : Vertex → Type 0) → ((x : Vertex) → Inner x → P x) → ((p : Port) → P (new_vertex Kind.output 0 (p ∷ []))) → (os : List Output) (ports : Ports) (k : ℕ) → AllByRecursion P (lower_outputs os ports k)
unfolding lower_outputs
outputs_all P inner end [] ports k = tt
outputs_all P inner end (o ∷ os) ports k =
    let r = lower o.value ports [] 0 k in
    all_append P r.made _ (all_more Inner P r.made inner (lower_inner o.value ports [] 0 k)) (end r.gives, outputs_all P inner end os ports (suc (k + length r.made)))

-- the vertices behind the inputs
no_input_behind : (p : Program) → AllByRecursion NoInput ((lets_of p).made ++ outputs_of p)
no_input_behind p =
    all_append NoInput (lets_of p).made (outputs_of p) (all_more Inner NoInput (lets_of p).made (λ x i. i.no_input) (lets_inner p.lets (input_ports p.inputs 0) (length p.inputs)))
    (outputs_all NoInput (λ x i. i.no_input) (λ q. refl) p.outputs (lets_of p).ports (length p.inputs + length (lets_of p).made))

-- there are as many inputs as the program has
pub lowered_inputs : (p : Program) → input_count (lowered p) ≡ length p.inputs
unfolding lowered
lowered_inputs p = inputs_counted p.inputs ((lets_of p).made ++ outputs_of p) (no_input_behind p)

-- their vertices are the first ones
pub lowered_input : (p : Program) (v : ℕ) → (vertex (lowered p) v).kind ≡ Kind.input ↔ v < length p.inputs
unfolding lowered
lowered_input p v =
    (λ e. input_only p.inputs ((lets_of p).made ++ outputs_of p) v (no_input_behind p) e, λ l. input_kind (lowered p) v (omega (arith, l, lowered_inputs p)))

-- vertices without an output before others
outputs_after : (xs ys : List Vertex) (k : ℕ) → AllByRecursion (λ x. is_output x.kind ≡ false) xs → outputs_from k (xs ++ ys) ≡ outputs_from (k + length xs) ys
outputs_after [] ys k a = ap (λ n. outputs_from n ys) (let z : k ≡ k + 0 = omega arith in z)
outputs_after (x ∷ xs) ys k a =
    ap (λ b. cond b (k ∷ outputs_from (suc k) (xs ++ ys)) (outputs_from (suc k) (xs ++ ys))) a.0
    ∙ outputs_after xs ys (suc k) a.1
    ∙ ap (λ n. outputs_from n ys) (let z : suc k + length xs ≡ k + suc (length xs) = omega arith in z)

-- the outputs' own vertices, at the places where they are made
pub outputs_made : (os : List Output) (ports : Ports) (k : ℕ) → outputs_from k (lower_outputs os ports k) ≡ outputs_at os ports k
unfolding lower_outputs
outputs_made [] ports k = refl
outputs_made (o ∷ os) ports k =
    let r = lower o.value ports [] 0 k in
    let last = k + length r.made in
    outputs_after r.made (new_vertex Kind.output 0 (r.gives ∷ []) ∷ lower_outputs os ports (suc last)) k (all_more Inner _ r.made (λ x i. i.no_output) (lower_inner o.value ports [] 0 k))
    ∙ ap (λ ns. last ∷ ns) (outputs_made os ports (suc last))

length-outputs_at : (os : List Output) (ports : Ports) (k : ℕ) → length (outputs_at os ports k) ≡ length os
length-outputs_at [] ports k = refl
length-outputs_at (o ∷ os) ports k = ap suc (length-outputs_at os ports (suc (k + length (lower o.value ports [] 0 k).made)))

inputs_no_output : (as' : List Input) → AllByRecursion (λ (x : Vertex). is_output x.kind ≡ false) (input_vertices as')
inputs_no_output [] = tt
inputs_no_output (a ∷ as') = (refl, inputs_no_output as')

inputs_inside : (as' : List Input) → AllByRecursion (λ (x : Vertex). ends_turn x.kind ≡ true → 0 < x.depth) (input_vertices as')
inputs_inside [] = tt
inputs_inside (a ∷ as') = (λ e. absurd (true≢false (sym e)), inputs_inside as')

abbrev Flat : Vertex → Type 0
Flat v = ((v.kind ≡ Kind.input) ⊎ (v.kind ≡ Kind.output)) → v.depth ≡ 0

inputs_flat : (as' : List Input) → AllByRecursion Flat (input_vertices as')
inputs_flat [] = tt
inputs_flat (a ∷ as') = (λ _. refl, inputs_flat as')

inner_flat : (v : Vertex) → Inner v → Flat v
inner_flat v i (inl e) = absurd (true≢false (sym (ap is_input e) ∙ i.no_input))
inner_flat v i (inr e) = absurd (true≢false (sym (ap is_output e) ∙ i.no_output))

-- the outputs' own vertices are the output vertices
pub output_numbers_are : (p : Program) → output_numbers (lowered p) ≡ outputs_at_of p
unfolding lowered
output_numbers_are p =
    outputs_after (input_vertices p.inputs) ((lets_of p).made ++ outputs_of p) 0 (inputs_no_output p.inputs)
    ∙ outputs_after (lets_of p).made (outputs_of p) (0 + length (input_vertices p.inputs)) (all_more Inner _ (lets_of p).made (λ x i. i.no_output) (lets_inner p.lets (input_ports p.inputs 0) (length p.inputs)))
    ∙ ap (λ k. outputs_from k (outputs_of p)) (let z : 0 + length (input_vertices p.inputs) + length (lets_of p).made ≡ length p.inputs + length (lets_of p).made = omega (arith, length-input_vertices p.inputs) in z)
    ∙ outputs_made p.outputs (lets_of p).ports (length p.inputs + length (lets_of p).made)

-- there are as many as the program has outputs
pub lowered_outputs : (p : Program) → length (output_numbers (lowered p)) ≡ length p.outputs
lowered_outputs p = ap length (output_numbers_are p) ∙ length-outputs_at p.outputs (lets_of p).ports (length p.inputs + length (lets_of p).made)

pub lowered_shaped : (p : Program) → IsShaped (lowered p)
unfolding lowered vertex
lowered_shaped p =
    record {
      inputs_first = λ v l e. let h = (lowered_input p v).0 e in omega (arith, h, lowered_inputs p);
      inside = λ v l. inside v l;
      flat = λ v l. flat v l;
    }
  where
    ins : List Vertex
    ins = input_vertices p.inputs

    lets : List Vertex
    lets = (lets_of p).made

    outs : List Vertex
    outs = outputs_of p

    m : ℕ
    m = length p.inputs + length lets

    whole : List Vertex
    whole = ins ++ (lets ++ outs)

    in_lets : AllInner lets
    in_lets = lets_inner p.lets (input_ports p.inputs 0) (length p.inputs)

    Inside : Vertex → Type 0
    Inside x = ends_turn x.kind ≡ true → 0 < x.depth

    inside : (v : ℕ) → v < length whole → Inside (vertex whole v)
    inside v l = all_vertex Inside whole v (all_append Inside ins _ (inputs_inside p.inputs) (all_append Inside lets _ (all_more Inner Inside lets (λ x i. i.inside) in_lets) (outputs_all Inside (λ x i. i.inside) (λ q e. absurd (true≢false (sym e))) p.outputs (lets_of p).ports m))) l

    flat : (v : ℕ) → v < length whole → Flat (vertex whole v)
    flat v l = all_vertex Flat whole v (all_append Flat ins _ (inputs_flat p.inputs) (all_append Flat lets _ (all_more Inner Flat lets inner_flat in_lets) (outputs_all Flat inner_flat (λ q e. refl) p.outputs (lets_of p).ports m))) l

pub lowered_dataflow : (p : Program) → IsFitting p → IsDataflow (lowered p)
lowered_dataflow p fits =
    let s = program_sound p fits in
    record {
      wired = wired_from_sound (lowered p) (program_loops p) s;
      shaped = lowered_shaped p;
      quiet = record { quiet = lowered_quiet p fits };
      loops = program_loops p;
      nested = nested_from_sound (lowered p) (program_loops p) s;
    }

pub typed_dataflow : (p : Program) (ns : List ℕ) → WellTyped p ns → IsDataflow (lowered p)
typed_dataflow p ns t = lowered_dataflow p (typed_fits p ns t)

-- the edge into each output has what the program means there
pub typed_means : (p : Program) (ns : List ℕ) (inputs : Inputs) (f : Flow) (output epoch : ℕ) → WellTyped p ns → IsFlow (lowered p) inputs f → output < length p.outputs → f (output_number (lowered p) output) 0 (at_epoch epoch) ≈ program_meaning p output (λ i. inputs i epoch)
typed_means p ns inputs f output epoch t h l =
    ≈-trans (≈-from (ap (λ vs. f (slice_index_or vs output (length (lowered p))) 0 (at_epoch epoch)) (output_numbers_are p)))
    (lowered_means p (typed_fits p ns t) inputs f h epoch output (length (lowered p)) l)

pub typed_one_flow : (p : Program) (ns : List ℕ) (inputs : Inputs) → WellTyped p ns → HasOneFlow (lowered p) inputs
typed_one_flow p ns inputs t = dataflow_one_flow (lowered p) (typed_dataflow p ns t) inputs

pub typed_quiet : (p : Program) (ns : List ℕ) (inputs : Inputs) (f : Flow) (w i : ℕ) (u : Time) → WellTyped p ns → IsFlow (lowered p) inputs f → IsEdgeTime (lowered p) w i u → ends_turn (vertex (lowered p) w).kind ≡ true → turn_count ≤ last u.counters → f w i u ≈ []
typed_quiet p ns inputs f w i u t h at e o = lowered_quiet p (typed_fits p ns t) inputs f h w i u at e o
