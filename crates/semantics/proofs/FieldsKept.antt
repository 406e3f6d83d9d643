-- Vertices keep to the arities of their ports; so in a flow on inputs of the right arities, each edge's records have their port's arity.
use Rattle.std.proofs.Common.{◌≡◌, ℕ, zero, suc, ◌+◌, ◌-◌, ◌*◌, ◌≤◌, ◌<◌, nat_lt, nat_eq, Bool, true, false, cond, List, [], ◌∷◌, ◌++◌, map, filter, flat_map, length, refl, sym, ap, subst, ◌∙◌, arith, lt-ltb, ltb-true, length-append}
use Rattle.std.specs.List.{AllByRecursion}
use Rattle.semantics.specs.Multiset.{Record, same, one_if, count, each_once}
use Rattle.semantics.specs.Query.{Scalar, Agg, Pair}
use Rattle.semantics.specs.Meaning.{project, left_columns, right_columns, value, holds, paired, only_left, grouped, aggregate, with_key}
use Rattle.semantics.specs.Time.{Time, last, earlier_turns, times_before, is_before}
use Rattle.semantics.specs.Kinds.{Kind, action, in_ports, looks_back}
use Rattle.semantics.specs.Graph.{Graph, vertex, source}
use Rattle.semantics.specs.Op.{places, port_at, reads_back, reads_if, reads, op}
use Rattle.semantics.specs.PortArity.{HaveFields, PortsFit, IsTyped}
use Rattle.semantics.specs.Flow.{Inputs, Flow, IsFlow, IsEdgeTime, sent_by, sent_or_fed, port_flow}
use Rattle.semantics.specs.Dataflow.{IsDataflow, IsWired}
use Rattle.semantics.proofs.MultisetSums.{Decides-same, count_here}
use Rattle.semantics.proofs.RecursiveEquations.{by_rank}
use Rattle.semantics.proofs.OneFlow.{EdgeTime, vertex_rank, edge_rank, longest_rank, lex_trans, edge_below, length-woven, Rises, IsLower, some_port, back_all, earlier_all_lower}
use Rattle.semantics.proofs.RankRises.{rises_from_nested}

-- each record of the list has n fields
abbrev Each : ℕ → List Record → Type 0
Each n xs = AllByRecursion (λ (r : Record). length r ≡ n) xs

each_from : (n : ℕ) (xs : List Record) → HaveFields n xs → Each n xs
each_from n [] h = tt
each_from n (x ∷ xs) h = (h x (count_here x xs), each_from n xs (λ r k. h r (omega arith)))

have_from : (n : ℕ) (xs : List Record) → Each n xs → HaveFields n xs
have_from n [] a r k = absurd (omega arith)
have_from n (x ∷ xs) a r k = go (same x r) refl (have_from n xs a.1 r)
  where
    go : (b : Bool) → same x r ≡ b → (0 < count r xs → length r ≡ n) → length r ≡ n
    go true e ih = subst (λ z. length z ≡ n) ((Decides-same x r).0 e) a.0
    go false e ih = ih (let z : 0 < one_if false + count r xs = subst (λ b. 0 < one_if b + count r xs) e k in omega arith)

each_append : (n : ℕ) (xs ys : List Record) → Each n xs → Each n ys → Each n (xs ++ ys)
each_append n [] ys a b = b
each_append n (x ∷ xs) ys a b = (a.0, each_append n xs ys a.1 b)

each_filter : (n : ℕ) (p : Record → Bool) (xs : List Record) → Each n xs → Each n (filter p xs)
each_filter n p [] a = tt
each_filter n p (x ∷ xs) a = go (p x) (each_filter n p xs a.1)
  where
    go : (b : Bool) → Each n (filter p xs) → Each n (cond b (x ∷ filter p xs) (filter p xs))
    go true ih = (a.0, ih)
    go false ih = ih

each_present : (n : ℕ) (xs : List Record) → Each n xs → Each n (each_once xs)
each_present n [] a = tt
each_present n (x ∷ xs) a = go (nat_lt 0 (count x xs)) (each_present n xs a.1)
  where
    go : (b : Bool) → Each n (each_once xs) → Each n (cond b (each_once xs) (x ∷ each_once xs))
    go true ih = ih
    go false ih = (a.0, ih)

each_cond : (n : ℕ) (b : Bool) (xs : List Record) → Each n xs → Each n (cond b xs [])
each_cond n true xs a = a
each_cond n false xs a = tt

each_map : (n : ℕ) (f : Record → Record) → ((r : Record) → length (f r) ≡ n) → (xs : List Record) → Each n (map f xs)
each_map n f h [] = tt
each_map n f h (x ∷ xs) = (h x, each_map n f h xs)

length-values : (ss : List Scalar) (r : Record) → length (map (λ s. value s r) ss) ≡ length ss
length-values [] r = refl
length-values (s ∷ ss) r = ap suc (length-values ss r)

length-project : (cs : List ℕ) (r : Record) → length (project cs r) ≡ length cs
length-project [] r = refl
length-project (c ∷ cs) r = ap suc (length-project cs r)

length-aggregates : (as' : List Agg) (xs : List Record) → length (map (λ a. aggregate a xs) as') ≡ length as'
length-aggregates [] xs = refl
length-aggregates (a ∷ as') xs = ap suc (length-aggregates as' xs)

each_joined : (l m : ℕ) (a : Record) (bs : List Record) → length a ≡ l → Each m bs → Each (l + m) (map (λ b. a ++ b) bs)
each_joined l m a [] e h = tt
each_joined l m a (b ∷ bs) e h = (omega (arith, length-append a b, e, h.0), each_joined l m a bs e h.1)

each_paired : (l m : ℕ) (ps : List Pair) (xs ys : List Record) → Each l xs → Each m ys → Each (l + m) (paired ps xs ys)
each_paired l m ps [] ys a b = tt
each_paired l m ps (x ∷ xs) ys a b =
    let meets = λ (y : Record). same (project (left_columns ps) x) (project (right_columns ps) y) in
    each_append (l + m) (map (λ y. x ++ y) (filter meets ys)) (paired ps xs ys) (each_joined l m x (filter meets ys) a.0 (each_filter m meets ys b)) (each_paired l m ps xs ys a.1 b)

each_grouped : (ks : List ℕ) (as' : List Agg) (xs : List Record) → Each (length ks + length as') (grouped ks as' xs)
each_grouped ks as' xs = go (each_once (map (project ks) xs)) (each_present (length ks) (map (project ks) xs) (each_map (length ks) (project ks) (length-project ks) xs))
  where
    go : (keys : List Record) → Each (length ks) keys → Each (length ks + length as') (map (λ k. k ++ map (λ a. aggregate a (with_key ks k xs)) as') keys)
    go [] a = tt
    go (k ∷ keys) a = (omega (arith, length-append k (map (λ a. aggregate a (with_key ks k xs)) as'), a.0, length-aggregates as' (with_key ks k xs)), go keys a.1)

-- ---- the equation of a vertex

each_left : (n : ℕ) (xs ys : List Record) → Each n xs → Each n (only_left xs ys)
each_left n xs ys h = each_present n _ (each_filter n _ xs h)

each_op : (kind : Kind) (arity : ℕ → ℕ) (n : ℕ) → PortsFit kind arity n → (t : Time) (ins : ℕ → List Record) → ((i : ℕ) → i < places kind → Each (arity (port_at kind i)) (ins i)) → (out : ℕ) → Each n (op kind t ins out)
each_op Kind.input arity n fit t ins h out = tt
each_op Kind.output arity n fit t ins h out = tt
each_op (Kind.select ss) arity n fit t ins h out = each_map n _ (λ r. length-values ss r ∙ sym fit.1) (ins 0)
each_op (Kind.filter c) arity n fit t ins h out = each_filter n (holds c) (ins 0) (subst (λ m. Each m (ins 0)) (sym fit.1) (h 0 (omega arith)))
each_op Kind.concat arity n fit t ins h out = each_append n (ins 0) (ins 1) (subst (λ m. Each m (ins 0)) (sym fit.0) (h 0 (omega arith))) (subst (λ m. Each m (ins 1)) (sym fit.1) (h 1 (omega arith)))
each_op (Kind.join ps) arity n fit t ins h out = subst (λ m. Each m (paired ps (ins 0) (ins 1))) (sym fit.1) (each_paired (arity 0) (arity 1) ps (ins 0) (ins 1) (h 0 (omega arith)) (h 1 (omega arith)))
each_op (Kind.lookup ps) arity n fit t ins h out = subst (λ m. Each m (paired ps (ins 0) (ins 1 ++ ins 2))) (sym fit.1) (each_paired (arity 0) (arity 1) ps (ins 0) (ins 1 ++ ins 2) (h 0 (omega arith)) (each_append (arity 1) (ins 1) (ins 2) (h 1 (omega arith)) (h 2 (omega arith))))
each_op (Kind.group ks as') arity n fit t ins h out = subst (λ m. Each m (grouped ks as' (ins 0))) (sym fit.2) (each_grouped ks as' (ins 0))
each_op Kind.distinct arity n fit t ins h out = each_present n (ins 0) (subst (λ m. Each m (ins 0)) (sym fit) (h 0 (omega arith)))
each_op Kind.except arity n fit t ins h out = each_present n _ (each_filter n _ (ins 0) (subst (λ m. Each m (ins 0)) (sym fit.0) (h 0 (omega arith))))
each_op Kind.intersect arity n fit t ins h out = each_present n _ (each_filter n _ (ins 0) (subst (λ m. Each m (ins 0)) (sym fit.0) (h 0 (omega arith))))
each_op Kind.ingress arity n fit t ins h out = subst (λ m. Each m (ins 0)) (sym fit) (h 0 (omega arith))
each_op Kind.egress arity n fit t ins h out = subst (λ m. Each m (ins 0)) (sym fit) (h 0 (omega arith))
each_op Kind.feedback arity n fit t ins h out = subst (λ m. Each m (ins 0)) (sym fit) (h 0 (omega arith))
each_op (Kind.gate k) arity n fit t ins h zero = each_cond n (nat_lt (last t.counters) k) (ins 0) (subst (λ m. Each m (ins 0)) (sym fit) (h 0 (omega arith)))
each_op (Kind.gate k) arity n fit t ins h (suc out) = each_cond n (nat_eq (last t.counters) k) (ins 0) (subst (λ m. Each m (ins 0)) (sym fit) (h 0 (omega arith)))
each_op (Kind.unseen k) arity n fit t ins h zero = each_cond n (nat_lt (last t.counters) k) (only_left (ins 0) (ins 1)) (each_left n (ins 0) (ins 1) (subst (λ m. Each m (ins 0)) (sym fit) (h 0 (omega arith))))
each_op (Kind.unseen k) arity n fit t ins h (suc out) = each_left n (ins 0) (ins 1) (subst (λ m. Each m (ins 0)) (sym fit) (h 0 (omega arith)))
each_op (Kind.hold k) arity n fit t ins h zero = each_cond n (nat_lt (last t.counters) k) (ins 0) (subst (λ m. Each m (ins 0)) (sym fit) (h 0 (omega arith)))
each_op (Kind.hold k) arity n fit t ins h (suc out) = each_cond n (nat_lt (last t.counters + 1) k) (ins 0) (subst (λ m. Each m (ins 0)) (sym fit) (h 0 (omega arith)))

-- what a vertex makes of records of the right arities has its own arity
pub op_fields : (kind : Kind) (arity : ℕ → ℕ) (n : ℕ) → PortsFit kind arity n → (t : Time) (ins : ℕ → List Record) → ((i : ℕ) → i < places kind → HaveFields (arity (port_at kind i)) (ins i)) → (out : ℕ) → HaveFields n (op kind t ins out)
op_fields kind arity n fit t ins h out = have_from n (op kind t ins out) (each_op kind arity n fit t ins (λ i l. each_from (arity (port_at kind i)) (ins i) (h i l)) out)

-- what is read of records of the right arities has them
each_read : (kind : Kind) (arity : ℕ → ℕ) (at : ℕ → Time → List Record) (t : Time) → ((p : ℕ) → p < in_ports kind → Each (arity p) (at p t)) → ((p : ℕ) → p < in_ports kind → Each (arity p) (flat_map (at p) (reads_back kind t)))
    → (i : ℕ) → i < places kind → Each (arity (port_at kind i)) (reads kind at t i)
each_read kind arity at t now back i l = go (looks_back kind) refl back l
  where
    behind : (0 < in_ports kind) → (c : Bool) → nat_lt i (in_ports kind) ≡ c → Each (arity (in_ports kind - 1)) (flat_map (at (in_ports kind - 1)) (earlier_turns t))
        → Each (arity (cond c i (in_ports kind - 1))) (cond c (at i t) (flat_map (at (in_ports kind - 1)) (earlier_turns t)))
    behind z true e k = now i (ltb-true i (in_ports kind) e)
    behind z false e k = k

    go : (b : Bool) → looks_back kind ≡ b → ((p : ℕ) → p < in_ports kind → Each (arity p) (flat_map (at p) (cond b (earlier_turns t) []))) → i < cond b (suc (in_ports kind)) (in_ports kind) → Each (arity (port_at kind i)) (reads_if b (in_ports kind) at t i)
    go false e back l = subst (λ p. Each (arity p) (at i t)) (sym (ap (λ b. cond b i (in_ports kind - 1)) (lt-ltb i (in_ports kind) l))) (now i l)
    go true e back l = let z = some_port kind e in behind z (nat_lt i (in_ports kind)) refl (back (in_ports kind - 1) (omega arith))

-- ---- flows

each_flat : (n : ℕ) (f : Time → List Record) (P : Time → Type 0) (ts : List Time) → AllByRecursion P ts → ((t : Time) → P t → Each n (f t)) → Each n (flat_map f ts)
each_flat n f P [] a k = tt
each_flat n f P (t ∷ ts) a k = each_append n (f t) (flat_map f ts) (k t a.0) (each_flat n f P ts a.1 k)

each_sent : (inputs : Inputs) (kind : Kind) (f : Flow) (v out n : ℕ) (u : Time) → (kind ≡ Kind.input → Each n (inputs v u.epoch)) → Each n (sent_by kind f v out u) → Each n (sent_or_fed inputs kind f v out u)
each_sent inputs Kind.input f v out n u e k = e refl
each_sent inputs Kind.output f v out n u e k = k
each_sent inputs Kind.concat f v out n u e k = k
each_sent inputs Kind.distinct f v out n u e k = k
each_sent inputs Kind.except f v out n u e k = k
each_sent inputs Kind.intersect f v out n u e k = k
each_sent inputs Kind.ingress f v out n u e k = k
each_sent inputs Kind.egress f v out n u e k = k
each_sent inputs Kind.feedback f v out n u e k = k
each_sent inputs (Kind.select ss) f v out n u e k = k
each_sent inputs (Kind.filter c) f v out n u e k = k
each_sent inputs (Kind.join ps) f v out n u e k = k
each_sent inputs (Kind.lookup ps) f v out n u e k = k
each_sent inputs (Kind.group ks as') f v out n u e k = k
each_sent inputs (Kind.gate m) f v out n u e k = k
each_sent inputs (Kind.unseen m) f v out n u e k = k
each_sent inputs (Kind.hold m) f v out n u e k = k

module _ (g : Graph) (loops : ℕ → List ℕ) (wired : IsWired g) (rises : Rises g loops) (arity : ℕ → ℕ) (typed : IsTyped g arity) (inputs : Inputs) (given : (v epoch : ℕ) → v < length g → (vertex g v).kind ≡ Kind.input → HaveFields (arity v) (inputs v epoch)) (f : Flow) (flow : IsFlow g inputs f) where
  abbrev Claim : EdgeTime → Type 0
  Claim p = HaveFields (arity (source g p.into p.port).vertex) (f p.into p.port p.time)

  keeps : (p : EdgeTime) → IsEdgeTime g p.into p.port p.time → ((q : EdgeTime) → IsEdgeTime g q.into q.port q.time → is_before (edge_rank loops q.into q.time) (edge_rank loops p.into p.time) ≡ true → Claim q) → Claim p
  unfolding port_flow
  keeps p v below r k =
      let s = source g p.into p.port in
      let x = vertex g s.vertex in
      let known : s.vertex < length g = wired.fed p.into p.port v.is_vertex v.is_port in
      have_from (arity s.vertex) (port_flow g inputs f s p.time)
      (each_sent inputs x.kind f s.vertex s.out (arity s.vertex) p.time (λ e. each_from (arity s.vertex) (inputs s.vertex p.time.epoch) (given s.vertex p.time.epoch known e))
      (each_flat (arity s.vertex) _ _ (times_before (action x.kind) p.time) (rises.steps p.into p.port p.time v) (λ t a.
      let is_there : (i : ℕ) → i < in_ports x.kind → (t' : Time) → IsLower loops s.vertex t t' → Each (arity (source g s.vertex i).vertex) (f s.vertex i t') = λ i l t' b.
      each_from (arity (source g s.vertex i).vertex) (f s.vertex i t') (below (record { into = s.vertex; port = i; time = t' })
      (record { is_vertex = known; is_port = omega (arith, wired.full s.vertex known, l); has_depth = b.0 ∙ a.0 })
      (lex_trans (edge_rank loops s.vertex t') (vertex_rank loops s.vertex t) (edge_rank loops p.into p.time) b.1 a.1)) in
      each_op x.kind (λ i. arity (source g s.vertex i).vertex) (arity s.vertex) (typed.ports s.vertex known) t _
      (each_read x.kind (λ i. arity (source g s.vertex i).vertex) (f s.vertex) t (λ i l. is_there i l t (refl, edge_below loops s.vertex t))
      (λ i l. each_flat (arity (source g s.vertex i).vertex) _ (IsLower loops s.vertex t) (reads_back x.kind t) (back_all x.kind _ t (earlier_all_lower loops s.vertex t (rises.homes s.vertex known ∙ sym a.0))) (is_there i l))) s.out)))
      r (subst (λ n. 0 < n) ((flow.equations p.into p.port p.time v).counts r) k)

  pub flow_fields : (w i : ℕ) (u : Time) → IsEdgeTime g w i u → HaveFields (arity (source g w i).vertex) (f w i u)
  flow_fields w i u v = by_rank (λ (p : EdgeTime). edge_rank loops p.into p.time) longest_rank (λ p. IsEdgeTime g p.into p.port p.time) short Claim keeps (record { into = w; port = i; time = u }) v
    where
      short : (p : EdgeTime) → IsEdgeTime g p.into p.port p.time → length (edge_rank loops p.into p.time) ≤ longest_rank
      short p v = omega (arith, length-woven (loops p.into) p.time.counters (2 * p.into), wired.shallow p.into v.is_vertex, v.has_depth)

-- in a flow on inputs of the right arities each edge's records have the arity of the port where it begins
pub dataflow_fields : (g : Graph) → IsDataflow g → (arity : ℕ → ℕ) → IsTyped g arity → (inputs : Inputs) → ((v epoch : ℕ) → v < length g → (vertex g v).kind ≡ Kind.input → HaveFields (arity v) (inputs v epoch)) → (f : Flow) → IsFlow g inputs f → (w i : ℕ) (u : Time) → IsEdgeTime g w i u → HaveFields (arity (source g w i).vertex) (f w i u)
dataflow_fields g d arity typed inputs given f flow = flow_fields g d.loops d.wired (rises_from_nested g d.loops d.nested d.wired) arity typed inputs given f flow
