-- The edges of a graph in memory are those of the graph that it shows.
use Rattle.std.proofs.Common.{◌≡◌, ℕ, zero, suc, ◌+◌, ◌-◌, ◌*◌, ◌≤◌, ◌<◌, nat_lt, Bool, true, false, cond, List, [], ◌∷◌, ◌++◌, map, length, get_or, take, slice_index_or, refl, sym, ap, ap₂, subst, ◌∙◌, arith, append_assoc, append-nil, length-append, ltb-true, ltb-false}
use Rattle.std.proofs.lemmas.List.{length-map, get_or-append_right, get_or_append_left}
use Rattle.semantics.specs.Graph as graph
use Rattle.semantics.specs.Graph.{vertex, source, edge_count, edge_source, target, in_port, no_port}
use Rattle.graph.specs.Views.{graph_of, sources_of}
use Rattle.graph.specs.declared.edges.Edge.{Edge}
use Rattle.graph.specs.declared.vertex.Vertex.{Vertex}
use Rattle.graph.specs.declared.vertex.Sources.{Sources}
use Rattle.graph.specs.declared.vertex.Sources.TheVariants.{Nothing, One, Two}
use Rattle.graph.specs.Edges.{ends, no_ends, edge_of, entering, edge_list}

-- the edges into one vertex more
step_from : (n : ℕ) (vs : List Vertex) (i : ℕ) (v : Vertex) → i < length vs → v ≡ get_or vs i v → edge_list n (graph_of (take (suc i) vs)) ≡ edge_list n (graph_of (take i vs)) ++ entering (n + i) 0 (sources_of v.ins)
step_from n [] i v h e = absurd (omega arith)
step_from n (w ∷ vs) zero v h e =
    let k : n ≡ n + 0 = omega arith in
    append-nil (entering n 0 (sources_of w.ins)) ∙ ap (λ (x : Vertex). entering n 0 (sources_of x.ins)) (sym e) ∙ ap (λ j. entering j 0 (sources_of v.ins)) k
step_from n (w ∷ vs) (suc i) v h e =
    let k : suc n + i ≡ n + suc i = omega arith in
    ap (λ l. entering n 0 (sources_of w.ins) ++ l) (step_from (suc n) vs i v (omega arith) e ∙ ap (λ j. edge_list (suc n) (graph_of (take i vs)) ++ entering j 0 (sources_of v.ins)) k)
    ∙ sym (append_assoc (entering n 0 (sources_of w.ins)) (edge_list (suc n) (graph_of (take i vs))) (entering (n + suc i) 0 (sources_of v.ins)))

pub one_vertex_more : (vs : List Vertex) (i : ℕ) (v : Vertex) → i < length vs → v ≡ get_or vs i v → edge_list 0 (graph_of (take (i + 1) vs)) ≡ edge_list 0 (graph_of (take i vs)) ++ entering i 0 (sources_of v.ins)
one_vertex_more vs i v h e =
    let k : i + 1 ≡ suc i = omega arith in
    let z : 0 + i ≡ i = omega arith in
    ap (λ j. edge_list 0 (graph_of (take j vs))) k ∙ step_from 0 vs i v h e ∙ ap (λ j. edge_list 0 (graph_of (take i vs)) ++ entering j 0 (sources_of v.ins)) z

length-entering : (w i : ℕ) (ps : List graph.Port) → length (entering w i ps) ≡ length ps
length-entering w i [] = refl
length-entering w i (p ∷ ps) = ap suc (length-entering w (suc i) ps)

length-edge_list : (n : ℕ) (g : graph.Graph) → length (edge_list n g) ≡ edge_count g
length-edge_list n [] = refl
length-edge_list n (x ∷ g) = length-append (entering n 0 x.ins) (edge_list (suc n) g) ∙ ap₂ (λ a b. a + b) (length-entering n 0 x.ins) (length-edge_list (suc n) g)

entering_at : (w i e : ℕ) (ps : List graph.Port) → e < length ps → get_or (entering w i ps) e no_ends ≡ ends (slice_index_or ps e no_port) w (i + e)
entering_at w i e [] h = absurd (omega arith)
entering_at w i zero (p ∷ ps) h = let k : i ≡ i + 0 = omega arith in ap (λ j. ends p w j) k
entering_at w i (suc e) (p ∷ ps) h = let k : suc i + e ≡ i + suc e = omega arith in entering_at w (suc i) e ps (omega arith) ∙ ap (λ j. ends (slice_index_or ps e no_port) w j) k

-- each edge of the list is the edge of that number
pub edge_at : (n : ℕ) (g : graph.Graph) (e : ℕ) → e < edge_count g → get_or (edge_list n g) e no_ends ≡ ends (edge_source g e) (n + target g e) (in_port g e)
unfolding vertex source
edge_at n [] e h = absurd (omega arith)
edge_at n (x ∷ g) e h = go (nat_lt e (length x.ins)) refl (edge_at (suc n) g (e - length x.ins))
  where
    go : (b : Bool) → nat_lt e (length x.ins) ≡ b → (e - length x.ins < edge_count g → get_or (edge_list (suc n) g) (e - length x.ins) no_ends ≡ ends (edge_source g (e - length x.ins)) (suc n + target g (e - length x.ins)) (in_port g (e - length x.ins))) → get_or (entering n 0 x.ins ++ edge_list (suc n) g) e no_ends ≡ ends (source (x ∷ g) (cond b 0 (suc (target g (e - length x.ins)))) (cond b e (in_port g (e - length x.ins)))) (n + cond b 0 (suc (target g (e - length x.ins)))) (cond b e (in_port g (e - length x.ins)))
    go true s rest =
        let l : e < length x.ins = ltb-true e (length x.ins) s in
        let m : e < length (entering n 0 x.ins) = omega (arith, length-entering n 0 x.ins) in
        let k : n ≡ n + 0 = omega arith in
        let z : 0 + e ≡ e = omega arith in
        get_or_append_left (entering n 0 x.ins) (edge_list (suc n) g) no_ends e m ∙ entering_at n 0 e x.ins l ∙ ap₂ (λ a b. ends (slice_index_or x.ins e no_port) a b) k z
    go false s rest =
        let l : length x.ins ≤ e = ltb-false e (length x.ins) s in
        let k : suc n + target g (e - length x.ins) ≡ n + suc (target g (e - length x.ins)) = omega arith in
        get_or-append_right (entering n 0 x.ins) (edge_list (suc n) g) (length x.ins) e no_ends (length-entering n 0 x.ins) l
        ∙ rest (omega arith) ∙ ap (λ j. ends (edge_source g (e - length x.ins)) j (in_port g (e - length x.ins))) k

pub few_edges : (vs : List Vertex) → edge_count (graph_of vs) ≤ 2 * length vs
few_edges [] = omega arith
few_edges (v ∷ vs) = let r = few_edges vs in let a = few_sources v.ins in omega arith
  where
    few_sources : (s : Sources) → length (sources_of s) ≤ 2
    few_sources Nothing = omega arith
    few_sources (One p) = omega arith
    few_sources (Two p q) = omega arith

-- an edge in memory by its number
pub edge_in : (es : List Edge) (i : ℕ) (e : Edge) → i < length es → e ≡ get_or es i e → edge_of e ≡ slice_index_or (map edge_of es) i no_ends
edge_in [] i e h q = absurd (omega arith)
edge_in (x ∷ es) zero e h q = ap edge_of q
edge_in (x ∷ es) (suc i) e h q = edge_in es i e (omega arith) q

pub count_edges : (es : List Edge) (g : graph.Graph) → map edge_of es ≡ edge_list 0 g → length es ≡ edge_count g
count_edges es g q = sym (length-map es edge_of) ∙ ap length q ∙ length-edge_list 0 g

pub edge_shown : (es : List Edge) (g : graph.Graph) (i : ℕ) (e : Edge) → map edge_of es ≡ edge_list 0 g → i < edge_count g → e ≡ get_or es i e → edge_of e ≡ ends (edge_source g i) (target g i) (in_port g i)
edge_shown es g i e q h r =
    let l : i < length es = subst (λ n. i < n) (sym (count_edges es g q)) h in
    let z : 0 + target g i ≡ target g i = omega arith in
    edge_in es i e l r ∙ ap (λ xs. slice_index_or xs i no_ends) q ∙ edge_at 0 g i h ∙ ap (λ w. ends (edge_source g i) w (in_port g i)) z
