-- A program lowered by the code as by the definition.
use Rattle.std.proofs.Common.{◌≡◌, ℕ, suc, ◌+◌, ◌<◌, List, [], ◌∷◌, ◌++◌, map, length, sym, ap, ap₂, subst, ◌∙◌, arith, append_assoc, length-append}
use Rattle.std.proofs.lemmas.List.{length-map}
use Rattle.expr_tree.specs.declared.program.Input.{Input}
use Rattle.expr_tree.specs.Plain.{plain_input}
use Rattle.semantics.specs.Query.{Name, Program}
use Rattle.semantics.specs.Kinds as semantics
use Rattle.semantics.specs.Graph as graph
use Rattle.semantics.specs.Lower.{lower_lets, lower_outputs, Ports, new_vertex, port, stands_for, input_vertices, input_ports, lets_of, outputs_of, lowered}
use Rattle.graph.specs.Limits.{max_vertices}
use Rattle.graph.specs.Views.{graph_of, port_of}
use Rattle.lowering.specs.Faults.{IsTooMany, IsOver}
use Rattle.lowering.specs.Steps.{AreLowered}
use Rattle.lowering.specs.Scopes.{ports_of}
use Rattle.lowering.specs.declared.scope.Entry.{Entry}
use Rattle.graph.specs.declared.vertex.Port.{Port}
use Rattle.graph.specs.declared.vertex.Vertex.{Vertex}
use Rattle.lowering.specs.declared.fault.LowerFault.{LowerFault}
use Rattle.lowering.proofs.MoreVertices.{number_of}
use Rattle.graph.proofs.Numbers.{length_graph_of}
use Rattle.lowering.proofs.Scopes.{ports_from_append}

pub bound_last : (x : Name) (p : Port) (old new : List Entry) → new ≡ old ++ (record { name = x; port = p } ∷ []) → ports_of new ≡ stands_for x (port_of p) (ports_of old)
bound_last x p old new b = ap ports_of b ∙ ports_from_append (λ y. graph.no_port) old (record { name = x; port = p } ∷ [])

pub input_bound : (inputs rest : List Input) (x : Input) (k m : ℕ) (p : Port) (old new : List Entry) → inputs ≡ x ∷ rest → m ≡ suc k → ports_of old ≡ input_ports (map plain_input rest) m → port_of p ≡ port k 0 → new ≡ old ++ (record { name = x.name; port = p } ∷ []) → ports_of new ≡ input_ports (map plain_input inputs) k
input_bound inputs rest x k m p old new n e h g b =
    bound_last x.name p old new b ∙ ap₂ (λ q f. stands_for x.name q f) g (h ∙ ap (λ j. input_ports (map plain_input rest) j) e) ∙ sym (ap (λ l. input_ports (map plain_input l) k) n)

inputs_length : (p : Program) (m1 : List Vertex) → graph_of m1 ≡ input_vertices p.inputs → length m1 ≡ length p.inputs
inputs_length p m1 e = sym (length_graph_of m1) ∙ ap length e ∙ length-map p.inputs _

lets_made : (p : Program) (m1 m2 : List Vertex) (s1 s2 : Ports) → graph_of m1 ≡ input_vertices p.inputs → s1 ≡ input_ports p.inputs 0 → AreLowered (graph_of m1) (graph_of m2) s2 (lower_lets p.lets s1 (length m1)) → AreLowered (graph_of m1) (graph_of m2) s2 (lets_of p)
lets_made p m1 m2 s1 s2 e s a =
    subst (λ j. AreLowered (graph_of m1) (graph_of m2) s2 (lower_lets p.lets (input_ports p.inputs 0) j)) (inputs_length p m1 e) (subst (λ f. AreLowered (graph_of m1) (graph_of m2) s2 (lower_lets p.lets f (length m1))) s a)

after_lets : (p : Program) (m1 m2 : List Vertex) (s2 : Ports) → graph_of m1 ≡ input_vertices p.inputs → AreLowered (graph_of m1) (graph_of m2) s2 (lets_of p) → length m2 ≡ length p.inputs + length (lets_of p).made
after_lets p m1 m2 s2 e a = number_of m1 m2 (lets_of p).made a.made ∙ ap (λ k. k + length (lets_of p).made) (inputs_length p m1 e)

outputs_after : (p : Program) (m1 m2 m3 : List Vertex) (s2 : Ports) → graph_of m1 ≡ input_vertices p.inputs → AreLowered (graph_of m1) (graph_of m2) s2 (lets_of p) → graph_of m3 ≡ graph_of m2 ++ lower_outputs p.outputs s2 (length m2) → graph_of m3 ≡ graph_of m2 ++ outputs_of p
outputs_after p m1 m2 m3 s2 e a o =
    o ∙ ap₂ (λ f k. graph_of m2 ++ lower_outputs p.outputs f k) a.names (after_lets p m1 m2 s2 e a)

pub program_made : (p : Program) (m1 m2 m3 : List Vertex) (s1 s2 : Ports) → graph_of m1 ≡ input_vertices p.inputs → s1 ≡ input_ports p.inputs 0 → AreLowered (graph_of m1) (graph_of m2) s2 (lower_lets p.lets s1 (length m1)) → graph_of m3 ≡ graph_of m2 ++ lower_outputs p.outputs s2 (length m2) → graph_of m3 ≡ lowered p
unfolding lowered
program_made p m1 m2 m3 s1 s2 e s a o =
    let l = lets_made p m1 m2 s1 s2 e s a in
    let I = input_vertices p.inputs in
    let L = (lets_of p).made in
    outputs_after p m1 m2 m3 s2 e l o ∙ ap (λ g. g ++ outputs_of p) (l.made ∙ ap (λ g. g ++ L) e) ∙ append_assoc I L (outputs_of p)

program_length : (p : Program) → length (lowered p) ≡ length p.inputs + length (lets_of p).made + length (outputs_of p)
unfolding lowered
program_length p =
    let I = input_vertices p.inputs in
    let L = (lets_of p).made in
    omega (arith, length-append I (L ++ outputs_of p), length-append L (outputs_of p), length-map p.inputs (λ a. new_vertex semantics.Kind.input 0 []))

pub over_inputs : (e : LowerFault) (p : Program) → IsOver e (0 + length (input_vertices p.inputs)) → IsTooMany e → max_vertices < length (lowered p)
over_inputs e p o t = let a = o.over t in omega (arith, program_length p, length-map p.inputs (λ a. new_vertex semantics.Kind.input 0 []))

pub over_lets : (e : LowerFault) (p : Program) (m1 : List Vertex) (s1 : Ports) → graph_of m1 ≡ input_vertices p.inputs → s1 ≡ input_ports p.inputs 0 → IsOver e (length m1 + length (lower_lets p.lets s1 (length m1)).made) → IsTooMany e → max_vertices < length (lowered p)
over_lets e p m1 s1 g s o t =
    let n = inputs_length p m1 g in
    let a = (subst (λ j. IsOver e (j + length (lower_lets p.lets (input_ports p.inputs 0) j).made)) n (subst (λ f. IsOver e (length m1 + length (lower_lets p.lets f (length m1)).made)) s o)).over t in
    omega (arith, program_length p)

pub over_outputs : (e : LowerFault) (p : Program) (m1 m2 : List Vertex) (s1 s2 : Ports) → graph_of m1 ≡ input_vertices p.inputs → s1 ≡ input_ports p.inputs 0 → AreLowered (graph_of m1) (graph_of m2) s2 (lower_lets p.lets s1 (length m1)) → IsOver e (length m2 + length (lower_outputs p.outputs s2 (length m2))) → IsTooMany e → max_vertices < length (lowered p)
over_outputs e p m1 m2 s1 s2 g s a o t =
    let l = lets_made p m1 m2 s1 s2 g s a in
    let n = after_lets p m1 m2 s2 g l in
    let b = (subst (λ k. IsOver e (k + length (lower_outputs p.outputs (lets_of p).ports k))) n (subst (λ f. IsOver e (length m2 + length (lower_outputs p.outputs f (length m2)))) l.names o)).over t in
    omega (arith, program_length p)
