-- What vertices in memory show after a few more, or after one that was changed.
use Rattle.std.proofs.Common.{◌≡◌, ℕ, zero, suc, ◌+◌, ◌<◌, List, [], ◌∷◌, ◌++◌, length, refl, sym, ap, ap₂, ◌∙◌, arith, append_assoc, length-append, slice_set as set}
use Rattle.std.proofs.lemmas.List.{set-append_left}
use Rattle.semantics.specs.Graph as graph
use Rattle.graph.specs.Views.{graph_of, vertex_of}
use Rattle.graph.specs.declared.vertex.Vertex.{Vertex}
use Rattle.graph.proofs.Numbers.{length_graph_of}

pub number_of : (m n : List Vertex) (l : List graph.Vertex) → graph_of n ≡ graph_of m ++ l → length n ≡ length m + length l
number_of m n l e = omega (arith, sym (length_graph_of n) ∙ ap length e ∙ length-append (graph_of m) l, length_graph_of m)

pub graph_of_set : (vs : List Vertex) (i : ℕ) (v : Vertex) → graph_of (set vs i v) ≡ set (graph_of vs) i (vertex_of v)
graph_of_set [] i v = refl
graph_of_set (w ∷ vs) zero v = refl
graph_of_set (w ∷ vs) (suc i) v = ap (λ l. vertex_of w ∷ l) (graph_of_set vs i v)

pub closed_made : (m0 m1 m2 m3 : List Vertex) (i : ℕ) (f v w e : graph.Vertex) → i < length m0 → graph_of m1 ≡ graph_of m0 ++ (f ∷ []) → graph_of m2 ≡ set (graph_of m1) i v → graph_of m3 ≡ graph_of m2 ++ (e ∷ []) → v ≡ w → graph_of m3 ≡ set (graph_of m0) i w ++ (f ∷ e ∷ [])
closed_made m0 m1 m2 m3 i f v w e h a b c q =
    let n : i < length (graph_of m0) = omega (arith, length_graph_of m0) in
    c ∙ ap (λ l. l ++ (e ∷ [])) (b ∙ ap (λ l. set l i v) a ∙ set-append_left (graph_of m0) (f ∷ []) i v n ∙ ap (λ u. set (graph_of m0) i u ++ (f ∷ [])) q)
    ∙ append_assoc (set (graph_of m0) i w) (f ∷ []) (e ∷ [])

-- ---- four vertices more, or three and a list

pub four_more : (g0 g1 g2 g3 g4 : graph.Graph) (u v v' w w' : graph.Vertex) (l l' : graph.Graph) → g1 ≡ g0 ++ (u ∷ []) → g2 ≡ g1 ++ (v ∷ []) → g3 ≡ g2 ++ (w ∷ []) → g4 ≡ g3 ++ l → v ≡ v' → w ≡ w' → l ≡ l' → g4 ≡ g0 ++ (u ∷ v' ∷ w' ∷ l')
four_more g0 g1 g2 g3 g4 u v v' w w' l l' a b c d e f h =
    let three : g3 ≡ ((g0 ++ (u ∷ [])) ++ (v ∷ [])) ++ (w ∷ []) = c ∙ ap (λ g. g ++ (w ∷ [])) (b ∙ ap (λ g. g ++ (v ∷ [])) a) in
    let flat : (((g0 ++ (u ∷ [])) ++ (v ∷ [])) ++ (w ∷ [])) ++ l ≡ g0 ++ (u ∷ v ∷ w ∷ l) = simp append_assoc in
    d ∙ ap (λ g. g ++ l) three ∙ flat ∙ ap (λ r. g0 ++ (u ∷ r)) (ap₂ (λ x r. x ∷ r) e (ap₂ (λ x r. x ∷ r) f h))
