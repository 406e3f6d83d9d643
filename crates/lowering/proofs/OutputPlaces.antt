-- The outputs among the first vertices of a graph.
use Rattle.std.proofs.Common.{◌≡◌, ℕ, zero, suc, ◌+◌, ◌<◌, Bool, true, false, cond, List, [], ◌∷◌, ◌++◌, length, get_or, take, refl, sym, ap, ◌∙◌, arith}
use Rattle.semantics.specs.Graph.{output_numbers, outputs_from}
use Rattle.semantics.specs.Kinds.{is_output}
use Rattle.graph.specs.Views.{graph_of, kind_of}
use Rattle.graph.specs.declared.vertex.Vertex.{Vertex}

cond_append : (b : Bool) (x : ℕ) (ys zs : List ℕ) → cond b (x ∷ (ys ++ zs)) (ys ++ zs) ≡ cond b (x ∷ ys) ys ++ zs
cond_append true x ys zs = refl
cond_append false x ys zs = refl

step_from : (n : ℕ) (vs : List Vertex) (i : ℕ) (v : Vertex) → i < length vs → v ≡ get_or vs i v → outputs_from n (graph_of (take (suc i) vs)) ≡ outputs_from n (graph_of (take i vs)) ++ cond (is_output (kind_of v.kind)) ((n + i) ∷ []) []
step_from n [] i v h e = absurd (omega arith)
step_from n (w ∷ vs) zero v h e =
    let k : n ≡ n + 0 = omega arith in
    ap (λ (x : Vertex). cond (is_output (kind_of x.kind)) (n ∷ []) []) (sym e) ∙ ap (λ j. cond (is_output (kind_of v.kind)) (j ∷ []) []) k
step_from n (w ∷ vs) (suc i) v h e =
    let k : suc n + i ≡ n + suc i = omega arith in
    let b = is_output (kind_of w.kind) in
    let rest = outputs_from (suc n) (graph_of (take i vs)) in
    ap (λ l. cond b (n ∷ l) l) (step_from (suc n) vs i v (omega arith) e ∙ ap (λ j. rest ++ cond (is_output (kind_of v.kind)) (j ∷ []) []) k)
    ∙ cond_append b n rest (cond (is_output (kind_of v.kind)) ((n + suc i) ∷ []) [])

-- one vertex more
pub one_vertex_more : (vs : List Vertex) (i : ℕ) (v : Vertex) → i < length vs → v ≡ get_or vs i v → output_numbers (graph_of (take (i + 1) vs)) ≡ output_numbers (graph_of (take i vs)) ++ cond (is_output (kind_of v.kind)) (i ∷ []) []
one_vertex_more vs i v h e =
    let k : i + 1 ≡ suc i = omega arith in
    let z : 0 + i ≡ i = omega arith in
    ap (λ j. output_numbers (graph_of (take j vs))) k ∙ step_from 0 vs i v h e ∙ ap (λ j. output_numbers (graph_of (take i vs)) ++ cond (is_output (kind_of v.kind)) (j ∷ []) []) z
