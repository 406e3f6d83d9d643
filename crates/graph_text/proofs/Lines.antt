-- One line more.
use Rattle.std.proofs.Common.{◌≡◌, ℕ, zero, suc, ◌+◌, ◌<◌, List, [], ◌∷◌, ◌++◌, length, get_or, take, sym, ap, ◌∙◌, arith, append-nil, append_assoc}
use Rattle.semantics.specs.Query.{Name}
use Rattle.graph.specs.Views.{graph_of, vertex_of}
use Rattle.graph_text.specs.Text.{line, lines}
use Rattle.graph.specs.declared.vertex.Vertex.{Vertex}

step_from : (names : ℕ → Name) (n : ℕ) (vs : List Vertex) (i : ℕ) (v : Vertex) → i < length vs → v ≡ get_or vs i v → lines n (graph_of (take (suc i) vs)) names ≡ lines n (graph_of (take i vs)) names ++ line (n + i) (vertex_of v) (names (n + i))
step_from names n [] i v h e = absurd (omega arith)
step_from names n (w ∷ vs) zero v h e =
    let k : n ≡ n + 0 = omega arith in
    append-nil (line n (vertex_of w) (names n)) ∙ ap (λ x. line n (vertex_of x) (names n)) (sym e) ∙ ap (λ j. line j (vertex_of v) (names j)) k
step_from names n (w ∷ vs) (suc i) v h e =
    let k : suc n + i ≡ n + suc i = omega arith in
    let first = line n (vertex_of w) (names n) in
    let rest = lines (suc n) (graph_of (take i vs)) names in
    ap (λ l. first ++ l) (step_from names (suc n) vs i v (omega arith) e ∙ ap (λ j. rest ++ line j (vertex_of v) (names j)) k)
    ∙ sym (append_assoc first rest (line (n + suc i) (vertex_of v) (names (n + suc i))))

pub one_line_more : (names : ℕ → Name) (vs : List Vertex) (i : ℕ) (v : Vertex) → i < length vs → v ≡ get_or vs i v → lines 0 (graph_of (take (i + 1) vs)) names ≡ lines 0 (graph_of (take i vs)) names ++ line i (vertex_of v) (names i)
one_line_more names vs i v h e =
    let k : i + 1 ≡ suc i = omega arith in
    let z : 0 + i ≡ i = omega arith in
    ap (λ j. lines 0 (graph_of (take j vs)) names) k ∙ step_from names 0 vs i v h e ∙ ap (λ j. lines 0 (graph_of (take i vs)) names ++ line j (vertex_of v) (names j)) z

-- four texts one after another
pub four_texts : (t0 t1 t2 t3 t4 a b c d : List ℕ) → t1 ≡ t0 ++ a → t2 ≡ t1 ++ b → t3 ≡ t2 ++ c → t4 ≡ t3 ++ d → t4 ≡ t0 ++ (a ++ (b ++ (c ++ d)))
four_texts t0 t1 t2 t3 t4 a b c d e f g h =
    let flat : (((t0 ++ a) ++ b) ++ c) ++ d ≡ t0 ++ (a ++ (b ++ (c ++ d))) = simp append_assoc in
    h ∙ ap (λ t. t ++ d) (g ∙ ap (λ t. t ++ c) (f ∙ ap (λ t. t ++ b) e)) ∙ flat
