-- Forms of relation, where the call that makes the last vertices has answered.
use Rattle.std.proofs.Common.{◌≡◌, ℕ, suc, ◌+◌, ◌≤◌, List, [], ◌∷◌, ◌++◌, length, slice_set as set}
use Rattle.std.specs.Prelude.{Result, Ok, Err, IfOk, IfErr, OnOk}
use Rattle.semantics.specs.Query.{Loop, Name, Rel}
use Rattle.semantics.specs.FreeNames.{carried, once_names}
use Rattle.semantics.specs.Kinds as semantics
use Rattle.semantics.specs.Graph as graph
use Rattle.semantics.specs.Lower.{held_turns, gate_of, lower, Lowered, Ports, carry, new_vertex, port, then_one, then_two}
use Rattle.graph.specs.Limits.{max_vertices}
use Rattle.graph.specs.Views.{graph_of, port_of}
use Rattle.lowering.specs.Faults.{IsTooMany, IsOver}
use Rattle.lowering.specs.Loops.{inside_of}
use Rattle.lowering.specs.Steps.{IsLowered}
use Rattle.graph.specs.declared.vertex.Port.{Port}
use Rattle.graph.specs.declared.vertex.Vertex.{Vertex}
use Rattle.lowering.specs.declared.fault.LowerFault.{LowerFault}
use Rattle.lowering.proofs.Forms.{full_one, full_two, loop_lowered, one_made, over_close, two_made}

pub one_ok : (r : Result Port LowerFault) (m0 m1 m2 : List Vertex) (from : graph.Port) (l : Lowered) (kind : semantics.Kind) (d : ℕ) → IsLowered (graph_of m0) (graph_of m1) from l
    → OnOk r (graph_of m2 ≡ graph_of m1 ++ (new_vertex kind d (from ∷ []) ∷ [])) → IfOk r (λ p. port_of p ≡ port (length m1) 0)
    → IfOk r (λ p. IsLowered (graph_of m0) (graph_of m2) (port_of p) (then_one (length m0) l kind d))
one_ok (Ok p) m0 m1 m2 from l kind d i e q = one_made m0 m1 m2 from (port_of p) l kind d i e q
one_ok (Err f) m0 m1 m2 from l kind d i e q = tt

pub one_many : (r : Result Port LowerFault) (m0 m1 : List Vertex) (from : graph.Port) (l : Lowered) (kind : semantics.Kind) (d : ℕ) → IsLowered (graph_of m0) (graph_of m1) from l
    → IfErr r (λ e. IsTooMany e → max_vertices ≤ length m1) → IfErr r (λ e. IsOver e (length m0 + length (then_one (length m0) l kind d).made))
one_many (Ok p) m0 m1 from l kind d i o = tt
one_many (Err f) m0 m1 from l kind d i o = full_one f m0 m1 from l kind d i o

pub two_ok : (r : Result Port LowerFault) (m0 m1 m2 m3 : List Vertex) (a b : graph.Port) (l : Lowered) (s : ℕ → Lowered) (kind : semantics.Kind) (d : ℕ) → IsLowered (graph_of m0) (graph_of m1) a l → IsLowered (graph_of m1) (graph_of m2) b (s (length m1))
    → OnOk r (graph_of m3 ≡ graph_of m2 ++ (new_vertex kind d (a ∷ b ∷ []) ∷ [])) → IfOk r (λ p. port_of p ≡ port (length m2) 0)
    → IfOk r (λ p. IsLowered (graph_of m0) (graph_of m3) (port_of p) (then_two (length m0) l (s (length m0 + length l.made)) kind d))
two_ok (Ok p) m0 m1 m2 m3 a b l s kind d i j e q = two_made m0 m1 m2 m3 a b (port_of p) l s kind d i j e q
two_ok (Err f) m0 m1 m2 m3 a b l s kind d i j e q = tt

pub two_many : (r : Result Port LowerFault) (m0 m1 m2 : List Vertex) (a b : graph.Port) (l : Lowered) (s : ℕ → Lowered) (kind : semantics.Kind) (d : ℕ) → IsLowered (graph_of m0) (graph_of m1) a l → IsLowered (graph_of m1) (graph_of m2) b (s (length m1))
    → IfErr r (λ e. IsTooMany e → max_vertices ≤ length m2) → IfErr r (λ e. IsOver e (length m0 + length (then_two (length m0) l (s (length m0 + length l.made)) kind d).made))
two_many (Ok p) m0 m1 m2 a b l s kind d i j o = tt
two_many (Err f) m0 m1 m2 a b l s kind d i j o = full_two f m0 m1 m2 a b l s kind d i j o

pub loop_ok : (res : Result Port LowerFault) (sort : Loop) (n : ℕ) (x : Name) (r b : Rel) (ports inside : Ports) (once : List Name) (d e : ℕ) (m0 m1 m2 m3 m4 : List Vertex) (from back : graph.Port) (con : graph.Vertex)
    → IsLowered (graph_of m0) (graph_of m1) from (lower r ports once d (length m0))
    → graph_of m2 ≡ graph_of m1 ++ (new_vertex semantics.Kind.ingress d (from ∷ []) ∷ con ∷ new_vertex (gate_of sort n) (suc d) (port (suc (length m1)) 0 ∷ []) ∷ carry (held_turns n (once_names sort x b)) ports d (suc (suc (suc (length m1)))) (carried x b))
    → inside ≡ inside_of ports x (length m1) (carried x b)
    → e ≡ suc d
    → IsLowered (graph_of m2) (graph_of m3) back (lower b inside (once_names sort x b) e (length m2))
    → OnOk res (graph_of m4 ≡ set (graph_of m3) (suc (length m1)) (new_vertex semantics.Kind.concat (suc d) (port (length m1) 0 ∷ port (length m3) 0 ∷ [])) ++ (new_vertex semantics.Kind.feedback (suc d) (back ∷ []) ∷ new_vertex semantics.Kind.egress (suc d) (port (suc (suc (length m1))) 1 ∷ []) ∷ []))
    → IfOk res (λ p. port_of p ≡ port (suc (length m3)) 0)
    → IfOk res (λ p. IsLowered (graph_of m0) (graph_of m4) (port_of p) (lower (Rel.loop sort n x r b) ports once d (length m0)))
loop_ok (Ok p) sort n x r b ports inside once d e m0 m1 m2 m3 m4 from back con i o s q j c g = loop_lowered sort n x r b ports inside once d e m0 m1 m2 m3 m4 from back (port_of p) con i o s q j c g
loop_ok (Err f) sort n x r b ports inside once d e m0 m1 m2 m3 m4 from back con i o s q j c g = tt

pub loop_many : (res : Result Port LowerFault) (sort : Loop) (n : ℕ) (x : Name) (r b : Rel) (ports inside : Ports) (once : List Name) (d e : ℕ) (m0 m1 m2 m3 : List Vertex) (p back : graph.Port) (u v w : graph.Vertex)
    → IsLowered (graph_of m0) (graph_of m1) p (lower r ports once d (length m0)) → graph_of m2 ≡ graph_of m1 ++ (u ∷ v ∷ w ∷ carry (held_turns n (once_names sort x b)) ports d (suc (suc (suc (length m1)))) (carried x b))
    → inside ≡ inside_of ports x (length m1) (carried x b) → e ≡ suc d → IsLowered (graph_of m2) (graph_of m3) back (lower b inside (once_names sort x b) e (length m2))
    → IfErr res (λ f. IsOver f (length m3 + 2)) → IfErr res (λ f. IsOver f (length m0 + length (lower (Rel.loop sort n x r b) ports once d (length m0)).made))
loop_many (Ok y) sort n x r b ports inside once d e m0 m1 m2 m3 p back u v w i o s q j g = tt
loop_many (Err f) sort n x r b ports inside once d e m0 m1 m2 m3 p back u v w i o s q j g = over_close f sort n x r b ports inside once d e m0 m1 m2 m3 p back u v w i o s q j g
