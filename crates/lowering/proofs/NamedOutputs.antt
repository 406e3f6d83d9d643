-- Outputs, lowered one after another.
use Rattle.std.proofs.Common.{◌≡◌, ℕ, suc, ◌+◌, ◌-◌, ◌<◌, ◌≤◌, List, [], ◌∷◌, ◌++◌, map, length, get_or, take, drop, refl, sym, ap, ap₂, subst, ◌∙◌, arith, append_assoc, length-append}
use Rattle.expr_tree.specs.declared.program.Output as declared
use Rattle.expr_tree.specs.Plain.{plain_output}
use Rattle.expr_tree.specs.Views.{output_tree}
use Rattle.semantics.specs.Graph as graph
use Rattle.semantics.specs.Kinds as semantics
use Rattle.semantics.specs.Lower.{lower, lower_outputs, new_vertex, Ports}
use Rattle.semantics.specs.Query.{Output}
use Rattle.graph.specs.Limits.{max_vertices}
use Rattle.graph.specs.Views.{graph_of}
use Rattle.lowering.specs.Faults.{IsOver, IsTooMany}
use Rattle.lowering.specs.Steps.{IsLowered}
use Rattle.graph.specs.declared.vertex.Vertex.{Vertex}
use Rattle.lowering.specs.declared.fault.LowerFault.{LowerFault}
use Rattle.lowering.proofs.MoreVertices.{number_of}
use Rattle.lowering.proofs.Forms.{full_over, is_over}
use Rattle.lowering.proofs.Scopes.{split_first}

-- the vertices before the others' outputs: those of the relation, and the output's own
next_number : (m0 m1 m2 : List Vertex) (o : Output) (ports : Ports) (from : graph.Port) (v : graph.Vertex) → IsLowered (graph_of m0) (graph_of m1) from (lower o.value ports [] 0 (length m0)) → graph_of m2 ≡ graph_of m1 ++ (v ∷ []) → length m2 ≡ suc (length m0 + length (lower o.value ports [] 0 (length m0)).made)
next_number m0 m1 m2 o ports from v i e = omega (arith, number_of m0 m1 _ i.made, number_of m1 m2 (v ∷ []) e)

pub outputs_made : (m0 m1 m2 m3 : List Vertex) (os rest : List Output) (o : Output) (ports : Ports) (from : graph.Port) → os ≡ o ∷ rest
    → IsLowered (graph_of m0) (graph_of m1) from (lower o.value ports [] 0 (length m0)) → graph_of m2 ≡ graph_of m1 ++ (new_vertex semantics.Kind.output 0 (from ∷ []) ∷ [])
    → graph_of m3 ≡ graph_of m2 ++ lower_outputs rest ports (length m2) → graph_of m3 ≡ graph_of m0 ++ lower_outputs os ports (length m0)
unfolding lower_outputs
outputs_made m0 m1 m2 m3 os rest o ports from n i e f =
    let r = lower o.value ports [] 0 (length m0) in
    let v = new_vertex semantics.Kind.output 0 (from ∷ []) in
    let w = new_vertex semantics.Kind.output 0 (r.gives ∷ []) in
    let k = next_number m0 m1 m2 o ports from v i e in
    f ∙ ap₂ (λ g j. g ++ lower_outputs rest ports j) (e ∙ ap₂ (λ g q. g ++ (new_vertex semantics.Kind.output 0 (q ∷ []) ∷ [])) i.made i.gives) k
    ∙ append_assoc (graph_of m0 ++ r.made) (w ∷ []) (lower_outputs rest ports (suc (length m0 + length r.made)))
    ∙ append_assoc (graph_of m0) r.made (w ∷ lower_outputs rest ports (suc (length m0 + length r.made)))
    ∙ sym (ap (λ l. graph_of m0 ++ lower_outputs l ports (length m0)) n)

-- how many there are
outputs_length : (k : ℕ) (o : Output) (rest : List Output) (ports : Ports) → length (lower_outputs (o ∷ rest) ports k) ≡ suc (length (lower o.value ports [] 0 k).made + length (lower_outputs rest ports (suc (k + length (lower o.value ports [] 0 k).made))))
unfolding lower_outputs
outputs_length k o rest ports =
    let r = lower o.value ports [] 0 k in
    omega (arith, length-append r.made (new_vertex semantics.Kind.output 0 (r.gives ∷ []) ∷ lower_outputs rest ports (suc (k + length r.made))))

pub relation_over : (e : LowerFault) (k : ℕ) (os rest : List Output) (o : Output) (ports : Ports) → os ≡ o ∷ rest → IsOver e (k + length (lower o.value ports [] 0 k).made) → IsOver e (k + length (lower_outputs os ports k))
relation_over e k os rest o ports n h =
    is_over e _ _ h (omega (arith, outputs_length k o rest ports, ap (λ l. length (lower_outputs l ports k)) n))

pub output_over : (e : LowerFault) (m0 m1 : List Vertex) (os rest : List Output) (o : Output) (ports : Ports) (from : graph.Port) → os ≡ o ∷ rest → IsLowered (graph_of m0) (graph_of m1) from (lower o.value ports [] 0 (length m0)) → (IsTooMany e → max_vertices ≤ length m1) → IsOver e (length m0 + length (lower_outputs os ports (length m0)))
output_over e m0 m1 os rest o ports from n i h =
    full_over e (length m1) _ h (omega (arith, number_of m0 m1 _ i.made, outputs_length (length m0) o rest ports, ap (λ l. length (lower_outputs l ports (length m0))) n))

pub rest_over : (e : LowerFault) (m0 m1 m2 : List Vertex) (os rest : List Output) (o : Output) (ports : Ports) (from : graph.Port) (v : graph.Vertex) → os ≡ o ∷ rest → IsLowered (graph_of m0) (graph_of m1) from (lower o.value ports [] 0 (length m0)) → graph_of m2 ≡ graph_of m1 ++ (v ∷ []) → IsOver e (length m2 + length (lower_outputs rest ports (length m2))) → IsOver e (length m0 + length (lower_outputs os ports (length m0)))
rest_over e m0 m1 m2 os rest o ports from v n i f h =
    let r = lower o.value ports [] 0 (length m0) in
    let k = next_number m0 m1 m2 o ports from v i f in
    let there : IsOver e (suc (length m0 + length r.made) + length (lower_outputs rest ports (suc (length m0 + length r.made)))) = subst (λ j. IsOver e (j + length (lower_outputs rest ports j))) k h in
    is_over e _ _ there (omega (arith, outputs_length (length m0) o rest ports, ap (λ l. length (lower_outputs l ports (length m0))) n))

-- ---- outputs in memory

pub first_output : {A : Type 0} → (xs : List (declared.Output A)) (x : declared.Output A) → 1 ≤ length xs → x ≡ get_or xs 0 x
    → map plain_output (map output_tree xs) ≡ plain_output (output_tree x) ∷ map plain_output (map output_tree (take (length xs - 1) (drop 1 xs)))
first_output xs x h e = ap (λ l. map plain_output (map output_tree l)) (split_first xs x h e)

pub no_output : {A : Type 0} → (xs : List (declared.Output A)) (ports : Ports) (k : ℕ) → length xs < 1 → [] ≡ lower_outputs (map plain_output (map output_tree xs)) ports k
unfolding lower_outputs
no_output [] ports k h = refl
no_output (x ∷ xs) ports k h = absurd (omega arith)
