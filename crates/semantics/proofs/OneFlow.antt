-- A graph has one flow if the rank rises along its steps.
use Rattle.std.proofs.Common.{◌≡◌, ℕ, zero, suc, ◌+◌, ◌-◌, ◌*◌, ◌≤◌, ◌<◌, nat_lt, nat_eq, Bool, true, false, cond, ◌&&◌, List, [], ◌∷◌, ◌++◌, map, flat_map, length, refl, ap, sym, ◌∙◌, arith, lt-ltb, ltb-true, ltb-false, eq-eqb, inl, inr, ◌⊎◌}
use Rattle.std.proofs.lemmas.Bool.{and_from, or_left, or_right, true≢false}
use Rattle.std.specs.List.{AllByRecursion}
use Rattle.semantics.specs.Limits.{max_loops}
use Rattle.semantics.specs.Multiset.{Record, ◌≈◌}
use Rattle.semantics.specs.Dataflow.{IsWired}
use Rattle.semantics.specs.Flow.{IsEdgeTime, Inputs, Flow, sent_by, sent_or_fed, port_flow, HasOneFlow}
use Rattle.semantics.specs.Kinds.{Kind, action, in_ports, looks_back}
use Rattle.semantics.specs.Graph.{Graph, vertex, source}
use Rattle.semantics.specs.Meaning.{only_left, holds, value}
use Rattle.semantics.specs.Op.{places, reads_back, reads_if, reads, op}
use Rattle.semantics.specs.Rank.{woven}
use Rattle.semantics.specs.Time.{Time, times_before, earlier_turns, last_from, front_from, last, front, deeper, outer, below, is_before}
use Rattle.semantics.proofs.MultisetSums.{≈-refl, append_same, linear_same, map_linear, filter_linear}
use Rattle.semantics.proofs.ExceptAndIntersect.{only_left_same, in_both_same}
use Rattle.semantics.proofs.KeyedParts.{paired_same}
use Rattle.semantics.proofs.RecursiveEquations.{one_solution, solution, solution_solves}
use Rattle.semantics.proofs.LexicographicOrder.{lex_cases}
use Rattle.semantics.proofs.DistinctAndGroups.{distinct_same, grouped_same}

-- ---- ranks, by the vertex that an edge enters

-- of a vertex; `loops v` are the egresses of the loops around v, outermost first
abbrev pub vertex_rank : (ℕ → List ℕ) → ℕ → Time → List ℕ
vertex_rank loops v t = t.epoch ∷ woven (loops v) t.counters (2 * v + 1)

-- of an edge that enters w
abbrev pub edge_rank : (ℕ → List ℕ) → ℕ → Time → List ℕ
edge_rank loops w t = t.epoch ∷ woven (loops w) t.counters (2 * w)

-- the most fields of a rank
abbrev pub longest_rank : ℕ
longest_rank = 2 * max_loops + 2

-- along each step from a vertex to an edge, the time has its vertex's depth, and the rank rises; a vertex's depth is the number of its loops
pub record Rises (g : Graph) (loops : ℕ → List ℕ) : Type 0 where
  pub steps : (w i : ℕ) (u : Time) → IsEdgeTime g w i u → AllByRecursion (λ t. (length t.counters ≡ (vertex g (source g w i).vertex).depth) × (is_before (vertex_rank loops (source g w i).vertex t) (edge_rank loops w u) ≡ true)) (times_before (action (vertex g (source g w i).vertex).kind) u)
  pub homes : (v : ℕ) → v < length g → length (loops v) ≡ (vertex g v).depth

-- ---- order of ranks

pub lex_head : (x y : ℕ) (xs ys : List ℕ) → x < y → is_before (x ∷ xs) (y ∷ ys) ≡ true
lex_head x y xs ys h = or_left (nat_lt x y) (nat_eq x y && is_before xs ys) (lt-ltb x y h)

pub lex_tail : (x y : ℕ) (xs ys : List ℕ) → x ≡ y → is_before xs ys ≡ true → is_before (x ∷ xs) (y ∷ ys) ≡ true
lex_tail x y xs ys e h = or_right (nat_lt x y) (nat_eq x y && is_before xs ys) (and_from (nat_eq x y) (is_before xs ys) (eq-eqb x y e) h)

pub lex_trans : (xs ys zs : List ℕ) → is_before xs ys ≡ true → is_before ys zs ≡ true → is_before xs zs ≡ true
lex_trans [] [] zs h k = absurd (true≢false (sym h))
lex_trans [] (y ∷ ys) [] h k = k
lex_trans [] (y ∷ ys) (z ∷ zs) h k = refl
lex_trans (x ∷ xs) [] zs h k = absurd (true≢false (sym h))
lex_trans (x ∷ xs) (y ∷ ys) [] h k = k
lex_trans (x ∷ xs) (y ∷ ys) (z ∷ zs) h k = go (lex_cases x y xs ys h) (lex_cases y z ys zs k) (lex_trans xs ys zs)
  where
    go : (x < y) ⊎ ((x ≡ y) × (is_before xs ys ≡ true)) → (y < z) ⊎ ((y ≡ z) × (is_before ys zs ≡ true)) → (is_before xs ys ≡ true → is_before ys zs ≡ true → is_before xs zs ≡ true) → is_before (x ∷ xs) (z ∷ zs) ≡ true
    go (inl a) (inl b) t = lex_head x z xs zs (omega arith)
    go (inl a) (inr b) t = lex_head x z xs zs (let e = b.0 in omega arith)
    go (inr a) (inl b) t = lex_head x z xs zs (let e = a.0 in omega arith)
    go (inr a) (inr b) t = lex_tail x z xs zs (a.0 ∙ b.0) (t a.1 b.1)

pub woven_lower : (es cs : List ℕ) (p q : ℕ) → p < q → is_before (woven es cs p) (woven es cs q) ≡ true
woven_lower [] cs p q h = lex_head p q [] [] h
woven_lower (e ∷ es) [] p q h = lex_head p q [] [] h
woven_lower (e ∷ es) (c ∷ cs) p q h = lex_tail (2 * e + 1) (2 * e + 1) (c ∷ woven es cs p) (c ∷ woven es cs q) refl (lex_tail c c (woven es cs p) (woven es cs q) refl (woven_lower es cs p q h))

pub edge_below : (loops : ℕ → List ℕ) (v : ℕ) (t : Time) → is_before (edge_rank loops v t) (vertex_rank loops v t) ≡ true
edge_below loops v t = lex_tail t.epoch t.epoch (woven (loops v) t.counters (2 * v)) (woven (loops v) t.counters (2 * v + 1)) refl (woven_lower (loops v) t.counters (2 * v) (2 * v + 1) (omega arith))

pub length-woven : (es cs : List ℕ) (p : ℕ) → length (woven es cs p) ≤ 2 * length cs + 1
length-woven [] cs p = omega arith
length-woven (e ∷ es) [] p = omega arith
length-woven (e ∷ es) (c ∷ cs) p = omega (arith, length-woven es cs p)

-- ---- earlier turns

-- s has the depth of t, and what comes to a vertex then has a lower rank than the vertex at t
abbrev pub IsLower : (ℕ → List ℕ) → ℕ → Time → Time → Type 0
IsLower loops v t s = (length s.counters ≡ length t.counters) × (is_before (edge_rank loops v s) (vertex_rank loops v t) ≡ true)

push_all : (P : Time → Type 0) (u : Time) (cs : List ℕ) (c : ℕ) → AllByRecursion P (map (deeper u) cs) → P (deeper u c) → AllByRecursion P (map (deeper u) (cs ++ (c ∷ [])))
push_all P u [] c a h = (h, tt)
push_all P u (x ∷ xs) c a h = (a.0, push_all P u xs c a.1 h)

pub all_below : (P : Time → Type 0) (u : Time) (n : ℕ) → ((c : ℕ) → c < n → P (deeper u c)) → AllByRecursion P (map (deeper u) (below n))
all_below P u zero h = tt
all_below P u (suc n) h = push_all P u (below n) n (all_below P u n (λ c l. h c (omega arith))) (h n (omega arith))

earlier_length : (b : ℕ) (cs : List ℕ) (c : ℕ) → length (front_from b cs ++ (c ∷ [])) ≡ suc (length cs)
earlier_length b [] c = refl
earlier_length b (d ∷ ds) c = ap suc (earlier_length d ds c)

earlier_woven : (es : List ℕ) (b : ℕ) (cs : List ℕ) (c p q : ℕ) → length es ≡ suc (length cs) → c < last_from b cs → is_before (woven es (front_from b cs ++ (c ∷ [])) p) (woven es (b ∷ cs) q) ≡ true
earlier_woven [] b cs c p q l h = absurd (omega arith)
earlier_woven (e ∷ es) b [] c p q l h = lex_tail (2 * e + 1) (2 * e + 1) (c ∷ woven es [] p) (b ∷ woven es [] q) refl (lex_head c b (woven es [] p) (woven es [] q) h)
earlier_woven (e ∷ es) b (d ∷ ds) c p q l h = lex_tail (2 * e + 1) (2 * e + 1) (b ∷ woven es (front_from d ds ++ (c ∷ [])) p) (b ∷ woven es (d ∷ ds) q) refl (lex_tail b b (woven es (front_from d ds ++ (c ∷ [])) p) (woven es (d ∷ ds) q) refl (earlier_woven es d ds c p q (omega arith) h))

earlier_lower : (loops : ℕ → List ℕ) (v ep : ℕ) (cs : List ℕ) → length (loops v) ≡ length cs → (c : ℕ) → c < last cs → IsLower loops v (record { epoch = ep; counters = cs }) (record { epoch = ep; counters = front cs ++ (c ∷ []) })
earlier_lower loops v ep [] l c h = absurd (omega arith)
earlier_lower loops v ep (b ∷ cs) l c h = (earlier_length b cs c, lex_tail ep ep (woven (loops v) (front_from b cs ++ (c ∷ [])) (2 * v)) (woven (loops v) (b ∷ cs) (2 * v + 1)) refl (earlier_woven (loops v) b cs c (2 * v) (2 * v + 1) l h))

pub earlier_all_lower : (loops : ℕ → List ℕ) (v : ℕ) (t : Time) → length (loops v) ≡ length t.counters → AllByRecursion (IsLower loops v t) (earlier_turns t)
earlier_all_lower loops v t l = all_below (IsLower loops v t) (outer t) (last t.counters) (λ c h. earlier_lower loops v t.epoch t.counters l c h)

pub cond_same : (b : Bool) (xs ys : List Record) → xs ≈ ys → cond b xs [] ≈ cond b ys []
cond_same true xs ys h = h
cond_same false xs ys h = ≈-refl []

-- ---- the equation of a vertex depends on its in ports, at one time

pub op_same : (kind : Kind) (t : Time) (xs ys : ℕ → List Record) (out : ℕ) → ((i : ℕ) → i < places kind → xs i ≈ ys i) → op kind t xs out ≈ op kind t ys out
op_same Kind.input t xs ys out h = ≈-refl []
op_same Kind.output t xs ys out h = ≈-refl []
op_same Kind.concat t xs ys out h = append_same (xs 0) (ys 0) (xs 1) (ys 1) (h 0 (omega arith)) (h 1 (omega arith))
op_same Kind.distinct t xs ys out h = distinct_same (xs 0) (ys 0) (h 0 (omega arith))
op_same Kind.except t xs ys out h = only_left_same (xs 0) (ys 0) (xs 1) (ys 1) (h 0 (omega arith)) (h 1 (omega arith))
op_same Kind.intersect t xs ys out h = in_both_same (xs 0) (ys 0) (xs 1) (ys 1) (h 0 (omega arith)) (h 1 (omega arith))
op_same Kind.ingress t xs ys out h = h 0 (omega arith)
op_same Kind.egress t xs ys out h = h 0 (omega arith)
op_same Kind.feedback t xs ys out h = h 0 (omega arith)
op_same (Kind.select ss) t xs ys out h = linear_same (map (λ r. map (λ s. value s r) ss)) (map_linear (λ r. map (λ s. value s r) ss)) (xs 0) (ys 0) (h 0 (omega arith))
op_same (Kind.filter c) t xs ys out h = linear_same _ (filter_linear (holds c)) (xs 0) (ys 0) (h 0 (omega arith))
op_same (Kind.join ps) t xs ys out h = paired_same ps (xs 0) (ys 0) (xs 1) (ys 1) (h 0 (omega arith)) (h 1 (omega arith))
op_same (Kind.lookup ps) t xs ys out h = paired_same ps (xs 0) (ys 0) (xs 1 ++ xs 2) (ys 1 ++ ys 2) (h 0 (omega arith)) (append_same (xs 1) (ys 1) (xs 2) (ys 2) (h 1 (omega arith)) (h 2 (omega arith)))
op_same (Kind.group ks as') t xs ys out h = grouped_same ks as' (xs 0) (ys 0) (h 0 (omega arith))
op_same (Kind.gate n) t xs ys zero h = cond_same (nat_lt (last t.counters) n) (xs 0) (ys 0) (h 0 (omega arith))
op_same (Kind.gate n) t xs ys (suc out) h = cond_same (nat_eq (last t.counters) n) (xs 0) (ys 0) (h 0 (omega arith))
op_same (Kind.unseen n) t xs ys zero h = cond_same (nat_lt (last t.counters) n) (only_left (xs 0) (xs 1)) (only_left (ys 0) (ys 1)) (only_left_same (xs 0) (ys 0) (xs 1) (ys 1) (h 0 (omega arith)) (h 1 (omega arith)))
op_same (Kind.unseen n) t xs ys (suc out) h = only_left_same (xs 0) (ys 0) (xs 1) (ys 1) (h 0 (omega arith)) (h 1 (omega arith))
op_same (Kind.hold n) t xs ys zero h = cond_same (nat_lt (last t.counters) n) (xs 0) (ys 0) (h 0 (omega arith))
op_same (Kind.hold n) t xs ys (suc out) h = cond_same (nat_lt (last t.counters + 1) n) (xs 0) (ys 0) (h 0 (omega arith))

pub flat_same : (f h : Time → List Record) (P : Time → Type 0) (ts : List Time) → AllByRecursion P ts → ((t : Time) → P t → f t ≈ h t) → flat_map f ts ≈ flat_map h ts
flat_same f h P [] a k = ≈-refl []
flat_same f h P (t ∷ ts) a k = append_same (f t) (h t) (flat_map f ts) (flat_map h ts) (k t a.0) (flat_same f h P ts a.1 k)

-- ---- what an equation reads

-- a kind that looks back has an in port
pub some_port : (kind : Kind) → looks_back kind ≡ true → 0 < in_ports kind
some_port Kind.input e = absurd (true≢false (sym e))
some_port Kind.output e = absurd (true≢false (sym e))
some_port Kind.concat e = absurd (true≢false (sym e))
some_port Kind.distinct e = absurd (true≢false (sym e))
some_port Kind.except e = absurd (true≢false (sym e))
some_port Kind.intersect e = absurd (true≢false (sym e))
some_port Kind.ingress e = absurd (true≢false (sym e))
some_port Kind.egress e = absurd (true≢false (sym e))
some_port Kind.feedback e = absurd (true≢false (sym e))
some_port (Kind.select ss) e = absurd (true≢false (sym e))
some_port (Kind.filter c) e = absurd (true≢false (sym e))
some_port (Kind.join ps) e = absurd (true≢false (sym e))
some_port (Kind.group ks as') e = absurd (true≢false (sym e))
some_port (Kind.gate n) e = absurd (true≢false (sym e))
some_port (Kind.hold n) e = absurd (true≢false (sym e))
some_port (Kind.unseen n) e = omega arith
some_port (Kind.lookup ps) e = omega arith

-- at an in port's place, what comes there at the time
pub reads_now : (kind : Kind) (at : ℕ → Time → List Record) (t : Time) (p : ℕ) → p < in_ports kind → reads kind at t p ≡ at p t
reads_now kind at t p l = go (looks_back kind)
  where
    go : (b : Bool) → reads_if b (in_ports kind) at t p ≡ at p t
    go false = refl
    go true = ap (λ b. cond b (at p t) (flat_map (at (in_ports kind - 1)) (earlier_turns t))) (lt-ltb p (in_ports kind) l)

pub back_all : (kind : Kind) (P : Time → Type 0) (t : Time) → AllByRecursion P (earlier_turns t) → AllByRecursion P (reads_back kind t)
back_all kind P t a = go (looks_back kind)
  where
    go : (b : Bool) → AllByRecursion P (cond b (earlier_turns t) [])
    go true = a
    go false = tt

pub reads_same : (kind : Kind) (t : Time) (a b : ℕ → Time → List Record) → ((p : ℕ) → p < in_ports kind → a p t ≈ b p t) → ((p : ℕ) → p < in_ports kind → flat_map (a p) (reads_back kind t) ≈ flat_map (b p) (reads_back kind t)) → (p : ℕ) → p < places kind → reads kind a t p ≈ reads kind b t p
reads_same kind t a b h k p l = go (looks_back kind) refl k l
  where
    behind : (0 < in_ports kind) → (c : Bool) → nat_lt p (in_ports kind) ≡ c → flat_map (a (in_ports kind - 1)) (earlier_turns t) ≈ flat_map (b (in_ports kind - 1)) (earlier_turns t)
        → cond c (a p t) (flat_map (a (in_ports kind - 1)) (earlier_turns t)) ≈ cond c (b p t) (flat_map (b (in_ports kind - 1)) (earlier_turns t))
    behind z true e k = h p (ltb-true p (in_ports kind) e)
    behind z false e k = k

    go : (c : Bool) → looks_back kind ≡ c → ((p : ℕ) → p < in_ports kind → flat_map (a p) (cond c (earlier_turns t) []) ≈ flat_map (b p) (cond c (earlier_turns t) [])) → p < cond c (suc (in_ports kind)) (in_ports kind) → reads_if c (in_ports kind) a t p ≈ reads_if c (in_ports kind) b t p
    go false e k l = h p l
    go true e k l = let z = some_port kind e in behind z (nat_lt p (in_ports kind)) refl (k (in_ports kind - 1) (omega arith))

sends_same : (inputs : Inputs) (kind : Kind) (f h : Flow) (v out : ℕ) (u : Time) → sent_by kind f v out u ≈ sent_by kind h v out u → sent_or_fed inputs kind f v out u ≈ sent_or_fed inputs kind h v out u
sends_same inputs Kind.input f h v out u k = ≈-refl (inputs v u.epoch)
sends_same inputs Kind.output f h v out u k = k
sends_same inputs Kind.concat f h v out u k = k
sends_same inputs Kind.distinct f h v out u k = k
sends_same inputs Kind.except f h v out u k = k
sends_same inputs Kind.intersect f h v out u k = k
sends_same inputs Kind.ingress f h v out u k = k
sends_same inputs Kind.egress f h v out u k = k
sends_same inputs Kind.feedback f h v out u k = k
sends_same inputs (Kind.select ss) f h v out u k = k
sends_same inputs (Kind.filter c) f h v out u k = k
sends_same inputs (Kind.join ps) f h v out u k = k
sends_same inputs (Kind.lookup ps) f h v out u k = k
sends_same inputs (Kind.group ks as') f h v out u k = k
sends_same inputs (Kind.gate n) f h v out u k = k
sends_same inputs (Kind.unseen n) f h v out u k = k
sends_same inputs (Kind.hold n) f h v out u k = k

-- ---- the theorem

pub record EdgeTime : Type 0 where
  pub into : ℕ
  pub port : ℕ
  pub time : Time

module _ (g : Graph) (loops : ℕ → List ℕ) (wired : IsWired g) (rises : Rises g loops) (inputs : Inputs) where
  abbrev rank : EdgeTime → List ℕ
  rank p = edge_rank loops p.into p.time

  abbrev Valid : EdgeTime → Type 0
  Valid p = IsEdgeTime g p.into p.port p.time

  abbrev eqn : (EdgeTime → List Record) → EdgeTime → List Record
  eqn f p = port_flow g inputs (λ w i u. f (record { into = w; port = i; time = u })) (source g p.into p.port) p.time

  short : (p : EdgeTime) → Valid p → length (rank p) ≤ longest_rank
  short p v = omega (arith, length-woven (loops p.into) p.time.counters (2 * p.into), wired.shallow p.into v.is_vertex, v.has_depth)

  depends : (f h : EdgeTime → List Record) (p : EdgeTime) → Valid p → ((q : EdgeTime) → Valid q → is_before (rank q) (rank p) ≡ true → f q ≈ h q) → eqn f p ≈ eqn h p
  unfolding port_flow
  depends f h p v k =
      let s = source g p.into p.port in
      let x = vertex g s.vertex in
      sends_same inputs x.kind _ _ s.vertex s.out p.time
      (flat_same _ _ _ (times_before (action x.kind) p.time) (rises.steps p.into p.port p.time v) (λ t a.
      let known : s.vertex < length g = wired.fed p.into p.port v.is_vertex v.is_port in
      let lower : (i : ℕ) → i < in_ports x.kind → (t' : Time) → IsLower loops s.vertex t t' → f (record { into = s.vertex; port = i; time = t' }) ≈ h (record { into = s.vertex; port = i; time = t' }) = λ i l t' b.
      k (record { into = s.vertex; port = i; time = t' })
      (record { is_vertex = known; is_port = omega (arith, wired.full s.vertex known, l); has_depth = b.0 ∙ a.0 })
      (lex_trans (edge_rank loops s.vertex t') (vertex_rank loops s.vertex t) (rank p) b.1 a.1) in
      op_same x.kind t _ _ s.out (reads_same x.kind t _ _
      (λ i l. lower i l t (refl, edge_below loops s.vertex t))
      (λ i l. flat_same _ _ (IsLower loops s.vertex t) (reads_back x.kind t) (back_all x.kind _ t (earlier_all_lower loops s.vertex t (rises.homes s.vertex known ∙ sym a.0))) (lower i l)))))

  abbrev at : Flow → EdgeTime → List Record
  at f p = f p.into p.port p.time

  pub one_flow : HasOneFlow g inputs
  one_flow =
      let f : Flow = λ w i u. solution rank longest_rank Valid short eqn depends (record { into = w; port = i; time = u }) in
      record {
        flow = f;
        is_only = record {
          is_flow = record { equations = λ w i u v. solution_solves rank longest_rank Valid short eqn depends (record { into = w; port = i; time = u }) v };
          only = λ h ih w i u v. one_solution rank longest_rank Valid short eqn depends (at h) (at f) (λ p v. ih.equations p.into p.port p.time v) (λ p v. solution_solves rank longest_rank Valid short eqn depends p v) (record { into = w; port = i; time = u }) v;
        };
      }
