-- Each form of relation, lowered by the code as by the definition.
use Rattle.std.proofs.Common.{◌≡◌, ℕ, suc, ◌+◌, ◌<◌, ◌≤◌, List, [], ◌∷◌, ◌++◌, length, refl, sym, ap, ap₂, subst, ◌∙◌, arith, append_assoc, append-nil, length-append, slice_set as set}
use Rattle.semantics.specs.Query.{Loop, Name, Rel}
use Rattle.semantics.specs.Kinds as semantics
use Rattle.semantics.specs.Graph as graph
use Rattle.semantics.specs.Lower.{held_turns, gate_of, lower, Lowered, Ports, new_vertex, port, carry, looped, after_start, then_one, then_two}
use Rattle.semantics.specs.FreeNames.{carried, once_names}
use Rattle.graph.specs.Limits.{max_vertices}
use Rattle.graph.specs.Views.{graph_of}
use Rattle.lowering.specs.Faults.{IsTooMany, IsOver}
use Rattle.lowering.specs.Loops.{inside_of}
use Rattle.lowering.specs.Steps.{IsLowered}
use Rattle.graph.specs.declared.vertex.Vertex.{Vertex}
use Rattle.lowering.specs.declared.fault.LowerFault.{LowerFault}
use Rattle.lowering.proofs.MoreVertices.{number_of}
use Rattle.graph.proofs.Numbers.{length_graph_of}

-- no vertex
pub nothing_made : (g : graph.Graph) (p : graph.Port) (l : Lowered) → l.made ≡ [] → p ≡ l.gives → IsLowered g g p l
nothing_made g p l e q = record { made = sym (append-nil g) ∙ ap (λ x. g ++ x) (sym e); gives = q }

-- one vertex after those of a relation
pub one_made : (m0 m1 m2 : List Vertex) (from out : graph.Port) (l : Lowered) (kind : semantics.Kind) (d : ℕ) → IsLowered (graph_of m0) (graph_of m1) from l → graph_of m2 ≡ graph_of m1 ++ (new_vertex kind d (from ∷ []) ∷ []) → out ≡ port (length m1) 0 → IsLowered (graph_of m0) (graph_of m2) out (then_one (length m0) l kind d)
one_made m0 m1 m2 from out l kind d i e q = record {
  made = e ∙ ap₂ (λ g p. g ++ (new_vertex kind d (p ∷ []) ∷ [])) i.made i.gives ∙ append_assoc (graph_of m0) l.made (new_vertex kind d (l.gives ∷ []) ∷ []);
  gives = q ∙ ap (λ n. port n 0) (number_of m0 m1 l.made i.made);
}

pub two_made : (m0 m1 m2 m3 : List Vertex) (a b out : graph.Port) (l : Lowered) (r : ℕ → Lowered) (kind : semantics.Kind) (d : ℕ) → IsLowered (graph_of m0) (graph_of m1) a l → IsLowered (graph_of m1) (graph_of m2) b (r (length m1)) → graph_of m3 ≡ graph_of m2 ++ (new_vertex kind d (a ∷ b ∷ []) ∷ []) → out ≡ port (length m2) 0 → IsLowered (graph_of m0) (graph_of m3) out (then_two (length m0) l (r (length m0 + length l.made)) kind d)
two_made m0 m1 m2 m3 a b out l r kind d i j e q =
    let n = number_of m0 m1 l.made i.made in
    let base : IsLowered (graph_of m0) (graph_of m3) out (then_two (length m0) l (r (length m1)) kind d) = record {
      made = e ∙ ap₂ (λ g p. g ++ (new_vertex kind d (a ∷ p ∷ []) ∷ [])) (j.made ∙ ap (λ g. g ++ (r (length m1)).made) i.made) j.gives
          ∙ ap (λ p. ((graph_of m0 ++ l.made) ++ (r (length m1)).made) ++ (new_vertex kind d (p ∷ (r (length m1)).gives ∷ []) ∷ [])) i.gives
          ∙ append_assoc (graph_of m0 ++ l.made) (r (length m1)).made (new_vertex kind d (l.gives ∷ (r (length m1)).gives ∷ []) ∷ [])
          ∙ append_assoc (graph_of m0) l.made ((r (length m1)).made ++ (new_vertex kind d (l.gives ∷ (r (length m1)).gives ∷ []) ∷ []));
      gives = q ∙ ap (λ k. port k 0) (number_of m1 m2 (r (length m1)).made j.made ∙ ap (λ k. k + length (r (length m1)).made) n);
    } in
    subst (λ k. IsLowered (graph_of m0) (graph_of m3) out (then_two (length m0) l (r k) kind d)) n base

set_second : (xs : graph.Graph) (a b v : graph.Vertex) (ys : graph.Graph) → set (xs ++ (a ∷ b ∷ ys)) (suc (length xs)) v ≡ xs ++ (a ∷ v ∷ ys)
set_second [] a b v ys = refl
set_second (x ∷ xs) a b v ys = ap (λ l. x ∷ l) (set_second xs a b v ys)

-- a loop; j is the number of its first vertex, C are the vertices of the carried names, B those of the body
loop_made : (m0 m1 m2 m3 m4 : List Vertex) (S C B T : graph.Graph) (ing con gate v : graph.Vertex) → graph_of m1 ≡ graph_of m0 ++ S → graph_of m2 ≡ graph_of m1 ++ (ing ∷ con ∷ gate ∷ C) → graph_of m3 ≡ graph_of m2 ++ B → graph_of m4 ≡ set (graph_of m3) (suc (length m1)) v ++ T → graph_of m4 ≡ graph_of m0 ++ (S ++ (ing ∷ v ∷ gate ∷ (C ++ (B ++ T))))
loop_made m0 m1 m2 m3 m4 S C B T ing con gate v e1 e2 e3 e4 =
    let g = graph_of m1 in
    let e : graph_of m3 ≡ g ++ (ing ∷ con ∷ gate ∷ (C ++ B)) = e3 ∙ ap (λ x. x ++ B) e2 ∙ append_assoc g (ing ∷ con ∷ gate ∷ C) B in
    e4 ∙ ap₂ (λ x n. set x (suc n) v ++ T) e (sym (length_graph_of m1)) ∙ ap (λ x. x ++ T) (set_second g ing con v (gate ∷ (C ++ B)))
    ∙ append_assoc g (ing ∷ v ∷ gate ∷ (C ++ B)) T ∙ ap (λ x. g ++ (ing ∷ v ∷ gate ∷ x)) (append_assoc C B T)
    ∙ ap (λ x. x ++ (ing ∷ v ∷ gate ∷ (C ++ (B ++ T)))) e1 ∙ append_assoc (graph_of m0) S (ing ∷ v ∷ gate ∷ (C ++ (B ++ T)))

pub loop_lowered : (sort : Loop) (n : ℕ) (x : Name) (r b : Rel) (ports inside : Ports) (once : List Name) (d e : ℕ) (m0 m1 m2 m3 m4 : List Vertex) (from back out : graph.Port) (con : graph.Vertex)
    → IsLowered (graph_of m0) (graph_of m1) from (lower r ports once d (length m0))
    → graph_of m2 ≡ graph_of m1 ++ (new_vertex semantics.Kind.ingress d (from ∷ []) ∷ con ∷ new_vertex (gate_of sort n) (suc d) (port (suc (length m1)) 0 ∷ []) ∷ carry (held_turns n (once_names sort x b)) ports d (suc (suc (suc (length m1)))) (carried x b))
    → inside ≡ inside_of ports x (length m1) (carried x b)
    → e ≡ suc d
    → IsLowered (graph_of m2) (graph_of m3) back (lower b inside (once_names sort x b) e (length m2))
    → graph_of m4 ≡ set (graph_of m3) (suc (length m1)) (new_vertex semantics.Kind.concat (suc d) (port (length m1) 0 ∷ port (length m3) 0 ∷ [])) ++ (new_vertex semantics.Kind.feedback (suc d) (back ∷ []) ∷ new_vertex semantics.Kind.egress (suc d) (port (suc (suc (length m1))) 1 ∷ []) ∷ [])
    → out ≡ port (suc (length m3)) 0
    → IsLowered (graph_of m0) (graph_of m4) out (lower (Rel.loop sort n x r b) ports once d (length m0))
unfolding lower
loop_lowered sort n x r b ports inside once d e m0 m1 m2 m3 m4 from back out con i o s q j c p =
    let S = lower r ports once d (length m0) in
    let k = length m0 in
    let j1 = length m1 in
    let ys = carried x b in
    let C = carry (held_turns n (once_names sort x b)) ports d (suc (suc (suc j1))) ys in
    let e1 : j1 ≡ k + length S.made = number_of m0 m1 S.made i.made in
    let body : IsLowered (graph_of m2) (graph_of m3) back (lower b (inside_of ports x j1 ys) (once_names sort x b) (suc d) (length m2)) =
    subst (λ f. IsLowered (graph_of m2) (graph_of m3) back (lower b f (once_names sort x b) (suc d) (length m2))) s (subst (λ a. IsLowered (graph_of m2) (graph_of m3) back (lower b inside (once_names sort x b) a (length m2))) q j) in
    let B = lower b (inside_of ports x j1 ys) (once_names sort x b) (suc d) (length m2) in
    let n2 : length m2 ≡ suc (suc (suc j1)) + length C = omega (arith, number_of m1 m2 _ o) in
    let n3 : length m3 ≡ suc (suc (suc j1)) + length C + length B.made = omega (arith, n2, number_of m2 m3 B.made body.made) in
    let base : IsLowered (graph_of m0) (graph_of m4) out (after_start S (looped sort n j1 (once_names sort x b) S ports d ys B)) = record {
      made = loop_made m0 m1 m2 m3 m4 S.made C B.made (new_vertex semantics.Kind.feedback (suc d) (B.gives ∷ []) ∷ new_vertex semantics.Kind.egress (suc d) (port (suc (suc j1)) 1 ∷ []) ∷ []) (new_vertex semantics.Kind.ingress d (S.gives ∷ [])) con (new_vertex (gate_of sort n) (suc d) (port (suc j1) 0 ∷ [])) (new_vertex semantics.Kind.concat (suc d) (port j1 0 ∷ port (suc (suc (suc j1)) + length C + length B.made) 0 ∷ []))
          i.made
          (o ∙ ap (λ w. graph_of m1 ++ (new_vertex semantics.Kind.ingress d (w ∷ []) ∷ con ∷ new_vertex (gate_of sort n) (suc d) (port (suc j1) 0 ∷ []) ∷ C)) i.gives)
          body.made
          (c ∙ ap₂ (λ z w. set (graph_of m3) (suc j1) (new_vertex semantics.Kind.concat (suc d) (port j1 0 ∷ port z 0 ∷ [])) ++ (new_vertex semantics.Kind.feedback (suc d) (w ∷ []) ∷ new_vertex semantics.Kind.egress (suc d) (port (suc (suc j1)) 1 ∷ []) ∷ [])) n3 body.gives);
      gives = p ∙ ap (λ z. port (suc z) 0) n3;
    } in
    subst (λ z. IsLowered (graph_of m0) (graph_of m4) out (after_start S (looped sort n z (once_names sort x b) S ports d ys (lower b (inside_of ports x z ys) (once_names sort x b) (suc d) (suc (suc (suc z)) + length (carry (held_turns n (once_names sort x b)) ports d (suc (suc (suc z))) ys)))))) e1
    (subst (λ z. IsLowered (graph_of m0) (graph_of m4) out (after_start S (looped sort n j1 (once_names sort x b) S ports d ys (lower b (inside_of ports x j1 ys) (once_names sort x b) (suc d) z)))) n2 base)

-- ---- where there is no graph

pub is_over : (e : LowerFault) (n m : ℕ) → IsOver e n → n ≤ m → IsOver e m
is_over e n m o h = record { over = λ t. (let a = o.over t in omega arith) }

pub full_over : (e : LowerFault) (n m : ℕ) → (IsTooMany e → max_vertices ≤ n) → n < m → IsOver e m
full_over e n m o h = record { over = λ t. (let a = o t in omega arith) }

pub over_one : (e : LowerFault) (k : ℕ) (l : Lowered) (kind : semantics.Kind) (d : ℕ) → IsOver e (k + length l.made) → IsOver e (k + length (then_one k l kind d).made)
over_one e k l kind d o = is_over e _ _ o (omega (arith, length-append l.made (new_vertex kind d (l.gives ∷ []) ∷ [])))

pub full_one : (e : LowerFault) (m0 m1 : List Vertex) (p : graph.Port) (l : Lowered) (kind : semantics.Kind) (d : ℕ) → IsLowered (graph_of m0) (graph_of m1) p l → (IsTooMany e → max_vertices ≤ length m1) → IsOver e (length m0 + length (then_one (length m0) l kind d).made)
full_one e m0 m1 p l kind d i o = full_over e (length m1) _ o (omega (arith, number_of m0 m1 l.made i.made, length-append l.made (new_vertex kind d (l.gives ∷ []) ∷ [])))

-- how many vertices two relations and one more have
two_length : (k : ℕ) (l r : Lowered) (kind : semantics.Kind) (d : ℕ) → length (then_two k l r kind d).made ≡ length l.made + length r.made + 1
two_length k l r kind d = omega (arith, length-append l.made (r.made ++ (new_vertex kind d (l.gives ∷ r.gives ∷ []) ∷ [])), length-append r.made (new_vertex kind d (l.gives ∷ r.gives ∷ []) ∷ []))

pub over_left : (e : LowerFault) (k : ℕ) (l r : Lowered) (kind : semantics.Kind) (d : ℕ) → IsOver e (k + length l.made) → IsOver e (k + length (then_two k l r kind d).made)
over_left e k l r kind d o = is_over e _ _ o (omega (arith, two_length k l r kind d))

pub over_right : (e : LowerFault) (m0 m1 : List Vertex) (p : graph.Port) (l : Lowered) (r : ℕ → Lowered) (kind : semantics.Kind) (d : ℕ) → IsLowered (graph_of m0) (graph_of m1) p l → IsOver e (length m1 + length (r (length m1)).made) → IsOver e (length m0 + length (then_two (length m0) l (r (length m0 + length l.made)) kind d).made)
over_right e m0 m1 p l r kind d i o =
    let n = number_of m0 m1 l.made i.made in
    subst (λ k. IsOver e (length m0 + length (then_two (length m0) l (r k) kind d).made)) n (is_over e _ _ o (omega (arith, n, two_length (length m0) l (r (length m1)) kind d)))

pub full_two : (e : LowerFault) (m0 m1 m2 : List Vertex) (p q : graph.Port) (l : Lowered) (r : ℕ → Lowered) (kind : semantics.Kind) (d : ℕ) → IsLowered (graph_of m0) (graph_of m1) p l → IsLowered (graph_of m1) (graph_of m2) q (r (length m1)) → (IsTooMany e → max_vertices ≤ length m2) → IsOver e (length m0 + length (then_two (length m0) l (r (length m0 + length l.made)) kind d).made)
full_two e m0 m1 m2 p q l r kind d i j o =
    let n = number_of m0 m1 l.made i.made in
    subst (λ k. IsOver e (length m0 + length (then_two (length m0) l (r k) kind d).made)) n (full_over e (length m2) _ o (omega (arith, n, number_of m1 m2 (r (length m1)).made j.made, two_length (length m0) l (r (length m1)) kind d)))

-- how many vertices a loop has
loop_length : (sort : Loop) (n k : ℕ) (once : List Name) (S : Lowered) (ports : Ports) (d : ℕ) (ys : List Name) (B : Lowered) → length (after_start S (looped sort n k once S ports d ys B)).made ≡ length S.made + (5 + length (carry (held_turns n once) ports d (suc (suc (suc k))) ys) + length B.made)
loop_length sort n k once S ports d ys B =
    let C = carry (held_turns n once) ports d (suc (suc (suc k))) ys in
    omega (arith, length-append S.made (looped sort n k once S ports d ys B).made, length-append C (B.made ++ (new_vertex semantics.Kind.feedback (suc d) (B.gives ∷ []) ∷ new_vertex semantics.Kind.egress (suc d) (port (suc (suc k)) 1 ∷ []) ∷ [])), length-append B.made (new_vertex semantics.Kind.feedback (suc d) (B.gives ∷ []) ∷ new_vertex semantics.Kind.egress (suc d) (port (suc (suc k)) 1 ∷ []) ∷ []))

-- the number of vertices, the loop's first given by its number
abbrev total : Loop → ℕ → Name → Rel → Rel → Ports → List Name → ℕ → ℕ → ℕ → ℕ
total sort n x r b ports once d k z =
    let S = lower r ports once d k in
    k + length (after_start S (looped sort n z (once_names sort x b) S ports d (carried x b) (lower b (inside_of ports x z (carried x b)) (once_names sort x b) (suc d) (suc (suc (suc z)) + length (carry (held_turns n (once_names sort x b)) ports d (suc (suc (suc z))) (carried x b)))))).made

pub over_start : (e : LowerFault) (sort : Loop) (n : ℕ) (x : Name) (r b : Rel) (ports : Ports) (once : List Name) (d k : ℕ) → IsOver e (k + length (lower r ports once d k).made) → IsOver e (k + length (lower (Rel.loop sort n x r b) ports once d k).made)
unfolding lower
over_start e sort n x r b ports once d k o =
    let S = lower r ports once d k in
    let z = k + length S.made in
    is_over e _ _ o (omega (arith, loop_length sort n z (once_names sort x b) S ports d (carried x b) (lower b (inside_of ports x z (carried x b)) (once_names sort x b) (suc d) (suc (suc (suc z)) + length (carry (held_turns n (once_names sort x b)) ports d (suc (suc (suc z))) (carried x b))))))

pub over_open : (e : LowerFault) (sort : Loop) (n : ℕ) (x : Name) (r b : Rel) (ports : Ports) (once : List Name) (d : ℕ) (m0 m1 : List Vertex) (p : graph.Port) → IsLowered (graph_of m0) (graph_of m1) p (lower r ports once d (length m0)) → IsOver e (length m1 + suc (suc (suc (length (carry (held_turns n (once_names sort x b)) ports d (suc (suc (suc (length m1)))) (carried x b)))))) → IsOver e (length m0 + length (lower (Rel.loop sort n x r b) ports once d (length m0)).made)
unfolding lower
over_open e sort n x r b ports once d m0 m1 p i o =
    let S = lower r ports once d (length m0) in
    let z = length m1 in
    let h : z ≡ length m0 + length S.made = number_of m0 m1 S.made i.made in
    subst (λ j. IsOver e (total sort n x r b ports once d (length m0) j)) h
    (is_over e _ _ o (omega (arith, h, loop_length sort n z (once_names sort x b) S ports d (carried x b) (lower b (inside_of ports x z (carried x b)) (once_names sort x b) (suc d) (suc (suc (suc z)) + length (carry (held_turns n (once_names sort x b)) ports d (suc (suc (suc z))) (carried x b)))))))

pub over_body : (f : LowerFault) (sort : Loop) (n : ℕ) (x : Name) (r b : Rel) (ports inside : Ports) (once : List Name) (d e : ℕ) (m0 m1 m2 : List Vertex) (p : graph.Port) (u v w : graph.Vertex) → IsLowered (graph_of m0) (graph_of m1) p (lower r ports once d (length m0)) → graph_of m2 ≡ graph_of m1 ++ (u ∷ v ∷ w ∷ carry (held_turns n (once_names sort x b)) ports d (suc (suc (suc (length m1)))) (carried x b)) → inside ≡ inside_of ports x (length m1) (carried x b) → e ≡ suc d → IsOver f (length m2 + length (lower b inside (once_names sort x b) e (length m2)).made) → IsOver f (length m0 + length (lower (Rel.loop sort n x r b) ports once d (length m0)).made)
unfolding lower
over_body f sort n x r b ports inside once d e m0 m1 m2 p u v w i o s q g =
    let S = lower r ports once d (length m0) in
    let z = length m1 in
    let C = carry (held_turns n (once_names sort x b)) ports d (suc (suc (suc z))) (carried x b) in
    let h : z ≡ length m0 + length S.made = number_of m0 m1 S.made i.made in
    let n2 : length m2 ≡ suc (suc (suc z)) + length C = omega (arith, number_of m1 m2 _ o) in
    let g1 : IsOver f (length m2 + length (lower b (inside_of ports x z (carried x b)) (once_names sort x b) (suc d) (length m2)).made) =
    subst (λ y. IsOver f (length m2 + length (lower b y (once_names sort x b) (suc d) (length m2)).made)) s (subst (λ a. IsOver f (length m2 + length (lower b inside (once_names sort x b) a (length m2)).made)) q g) in
    let g2 : IsOver f (suc (suc (suc z)) + length C + length (lower b (inside_of ports x z (carried x b)) (once_names sort x b) (suc d) (suc (suc (suc z)) + length C)).made) =
    subst (λ a. IsOver f (a + length (lower b (inside_of ports x z (carried x b)) (once_names sort x b) (suc d) a).made)) n2 g1 in
    subst (λ j. IsOver f (total sort n x r b ports once d (length m0) j)) h
    (is_over f _ _ g2 (omega (arith, h, loop_length sort n z (once_names sort x b) S ports d (carried x b) (lower b (inside_of ports x z (carried x b)) (once_names sort x b) (suc d) (suc (suc (suc z)) + length C)))))

pub over_close : (f : LowerFault) (sort : Loop) (n : ℕ) (x : Name) (r b : Rel) (ports inside : Ports) (once : List Name) (d e : ℕ) (m0 m1 m2 m3 : List Vertex) (p back : graph.Port) (u v w : graph.Vertex) → IsLowered (graph_of m0) (graph_of m1) p (lower r ports once d (length m0)) → graph_of m2 ≡ graph_of m1 ++ (u ∷ v ∷ w ∷ carry (held_turns n (once_names sort x b)) ports d (suc (suc (suc (length m1)))) (carried x b)) → inside ≡ inside_of ports x (length m1) (carried x b) → e ≡ suc d → IsLowered (graph_of m2) (graph_of m3) back (lower b inside (once_names sort x b) e (length m2)) → IsOver f (length m3 + 2) → IsOver f (length m0 + length (lower (Rel.loop sort n x r b) ports once d (length m0)).made)
unfolding lower
over_close f sort n x r b ports inside once d e m0 m1 m2 m3 p back u v w i o s q j g =
    let S = lower r ports once d (length m0) in
    let z = length m1 in
    let C = carry (held_turns n (once_names sort x b)) ports d (suc (suc (suc z))) (carried x b) in
    let h : z ≡ length m0 + length S.made = number_of m0 m1 S.made i.made in
    let n2 : length m2 ≡ suc (suc (suc z)) + length C = omega (arith, number_of m1 m2 _ o) in
    let body : IsLowered (graph_of m2) (graph_of m3) back (lower b (inside_of ports x z (carried x b)) (once_names sort x b) (suc d) (length m2)) =
    subst (λ y. IsLowered (graph_of m2) (graph_of m3) back (lower b y (once_names sort x b) (suc d) (length m2))) s (subst (λ a. IsLowered (graph_of m2) (graph_of m3) back (lower b inside (once_names sort x b) a (length m2))) q j) in
    let n3 : length m3 ≡ length m2 + length (lower b (inside_of ports x z (carried x b)) (once_names sort x b) (suc d) (length m2)).made = number_of m2 m3 _ body.made in
    let n4 : length m3 ≡ suc (suc (suc z)) + length C + length (lower b (inside_of ports x z (carried x b)) (once_names sort x b) (suc d) (suc (suc (suc z)) + length C)).made = subst (λ a. length m3 ≡ a + length (lower b (inside_of ports x z (carried x b)) (once_names sort x b) (suc d) a).made) n2 n3 in
    subst (λ y. IsOver f (total sort n x r b ports once d (length m0) y)) h
    (is_over f _ _ g (omega (arith, h, n4, loop_length sort n z (once_names sort x b) S ports d (carried x b) (lower b (inside_of ports x z (carried x b)) (once_names sort x b) (suc d) (suc (suc (suc z)) + length C)))))
