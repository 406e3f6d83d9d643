-- Rows of a table: what each step of making them keeps, and what the last tests show.
use Rattle.std.proofs.Common.{◌≡◌, ◌⊎◌, inl, inr, ℕ, zero, suc, ◌+◌, ◌<◌, true, List, [], ◌∷◌, ◌++◌, length, Option, Some, slice_get, slice_set, slice_index_or, refl, sym, ap, subst, ◌∙◌, arith}
use Rattle.std.proofs.lemmas.Option.{slice_get_within, same_Some}
use Rattle.semantics.specs.Time.{Time, after_action}
use Rattle.semantics.specs.Kinds.{action}
use Rattle.semantics.specs.Graph.{Graph, vertex, edge_count, target, edge_source}
use Rattle.semantics.specs.Could.{Location, PathStep, step_to, step_time, IsPath, path_time}
use Rattle.semantics.specs.Summary.{Summary, then_action}
use Rattle.semantics.proofs.PathSummaries.{MayTake}
use Rattle.semantics.proofs.Cases.{item_there, below_or_last}
use Rattle.path_summary.specs.Carried.{carried, identity, Sits}
use Rattle.path_summary.specs.Linking.{Link, Links, link_in, Draws}
use Rattle.path_summary.specs.Tables.{IsOfPath, Reaches}
use Rattle.path_summary.specs.Rows.{is_below, entry, HasBelow, IsClosed}
use Rattle.path_summary.specs.Walks.{HaveLoops, Walk, every}
use Rattle.path_summary.proofs.Passes.{may_by}
use Rattle.path_summary.proofs.InOrder.{after_is}
use Rattle.path_summary.proofs.Carrying.{carried-identity, carried_then, sits_then, below_from}

-- ---- entries

pub entry_set : (row : List (Option Summary)) (i : ℕ) (o : Option Summary) (x : ℕ) (f : Summary) → entry (slice_set row i o) x ≡ Some f → (entry row x ≡ Some f) ⊎ ((x ≡ i) × (o ≡ Some f))
entry_set [] i o x f h = inl h
entry_set (r ∷ row) zero o zero f h = inr (refl, h)
entry_set (r ∷ row) zero o (suc x) f h = inl h
entry_set (r ∷ row) (suc i) o zero f h = inl h
entry_set (r ∷ row) (suc i) o (suc x) f h = go (entry_set row i o x f h)
  where
    go : (entry row x ≡ Some f) ⊎ ((x ≡ i) × (o ≡ Some f)) → (entry row x ≡ Some f) ⊎ ((suc x ≡ suc i) × (o ≡ Some f))
    go (inl a) = inl a
    go (inr a) = inr (ap suc a.0, a.1)

-- ---- rows

identity_path : (g : Graph) (v : ℕ) → IsOfPath g v v (identity (vertex g v).depth)
identity_path g v = record {
  path = [];
  leads = refl;
  does = λ t l. ap (λ (cs : List ℕ). record { epoch = t.epoch; counters = cs }) (sym (carried-identity (vertex g v).depth t.counters l));
  sits = record { short = omega arith; still = λ e. refl };
}

-- ---- one edge further

pub link_at : (w : Links) (g : Graph) → Draws w g → (e : ℕ) → e < edge_count g → slice_get w.edges e ≡ Some (link_in g e)
link_at w g draws e n =
    let k = item_there w.edges e (omega (arith, draws.edges)) in
    k.1 ∙ ap (λ (z : Link). Some z) (draws.edge e k.0 k.1 n)

module _ (g : Graph) where
  path_over : (path : List PathStep) (e : ℕ) (l : Location) → IsPath g l path (Location.vertex (edge_source g e).vertex) → e < edge_count g → IsPath g l (path ++ (PathStep.leaves e ∷ PathStep.enters e ∷ [])) (Location.vertex (target g e))
  path_over [] e l h k = (k, h, (k, refl, refl))
  path_over (s ∷ path) e l h k = (h.0, h.1, path_over path e (step_to g s) h.2 k)

  over_time : (path : List PathStep) (e : ℕ) (t : Time) → path_time g (path ++ (PathStep.leaves e ∷ PathStep.enters e ∷ [])) t ≡ after_action (action (vertex g (edge_source g e).vertex).kind) (path_time g path t)
  over_time [] e t = refl
  over_time (s ∷ path) e t = over_time path e (step_time g s t)

  -- a path that is extended over an edge
  path_one_more : (v e : ℕ) (f : Summary) → e < edge_count g → MayTake (action (vertex g (edge_source g e).vertex).kind) f → IsOfPath g v (edge_source g e).vertex f → IsOfPath g v (target g e) (then_action (action (vertex g (edge_source g e).vertex).kind) f)
  path_one_more v e f k m o =
      let a = action (vertex g (edge_source g e).vertex).kind in
      record {
        path = o.path ++ (PathStep.leaves e ∷ PathStep.enters e ∷ []);
        leads = path_over o.path e (Location.vertex v) o.leads k;
        does = λ t d.
            over_time o.path e t ∙ ap (after_action a) (o.does t d) ∙ after_is a (record { epoch = t.epoch; counters = carried f t.counters })
            ∙ ap (λ (cs : List ℕ). record { epoch = t.epoch; counters = cs }) (sym (carried_then a f t.counters (subst (λ n. Sits n f) (sym d) o.sits) m));
        sits = sits_then a f (vertex g v).depth o.sits m;
      }

-- a walk is a path in any graph that has these edges
pub walk_path : (w : Links) → ∥ HaveLoops w ∥₁ → (v : ℕ) → v < length w.depths → (g : Graph) → Draws w g → v < length g → (n x : ℕ) (f : Summary) → Walk w v every n x f → IsOfPath g v x f
walk_path w some v known g draws l zero x f h =
    subst (λ (y : ℕ). IsOfPath g v y f) (sym h.0)
    (subst (λ (z : Summary). IsOfPath g v v z) (ap identity (sym (draws.depth v l)) ∙ sym h.1) (identity_path g v))
walk_path w some v known g draws l (suc n) x f h =
    let e = h.0 in
    let k = h.1 in
    let m : e < edge_count g = omega (arith, slice_get_within w.edges e k h.3, draws.edges) in
    let i = draws.edge e k h.3 m in
    let may = may_by w some v known n e k h.2 h.3 (record { steps = n; few = omega arith; walk = h.4 }) in
    let o : IsOfPath g v (edge_source g e).vertex h.2 = subst (λ (y : ℕ). IsOfPath g v y h.2) (ap (λ (z : Link). z.source) i) (walk_path w some v known g draws l n k.source h.2 h.4) in
    let p = path_one_more g v e h.2 m (subst (λ (z : Link). MayTake z.acts h.2) i may) o in
    subst (λ (y : ℕ). IsOfPath g v y f) (sym (h.5 ∙ ap (λ (z : Link). z.target) i))
    (subst (λ (z : Summary). IsOfPath g v (target g e) z) (ap (λ (z : Link). then_action z.acts h.2) (sym i) ∙ sym h.6) p)

-- ---- what a whole row shows

pub row_closed : (w : Links) (v : ℕ) (row : List (Option Summary)) (g : Graph) → Draws w g → v < length g → ((x : ℕ) (f : Summary) → entry row x ≡ Some f → IsOfPath g v x f) → IsClosed w row → (e : ℕ) (f : Summary) → e < edge_count g → entry row (edge_source g e).vertex ≡ Some f → Reaches (vertex g v).depth (entry row (target g e)) (then_action (action (vertex g (edge_source g e).vertex).kind) f)
row_closed w v row g draws l r c e f n q =
    let s = (c.steps e (link_in g e) (link_at w g draws e n)).step f q in
    let b = s.1 in
    record {
      least = b.least;
      known = b.known;
      below = below_from (vertex g v).depth b.least (then_action (action (vertex g (edge_source g e).vertex).kind) f)
          (r (target g e) b.least b.known).sits
          (sits_then (action (vertex g (edge_source g e).vertex).kind) f (vertex g v).depth (r (edge_source g e).vertex f q).sits s.0)
          b.below;
    }

pub row_reached : (w : Links) (v : ℕ) (row : List (Option Summary)) (g : Graph) → Draws w g → v < length g → ((x : ℕ) (f : Summary) → entry row x ≡ Some f → IsOfPath g v x f) → HasBelow row v (identity (slice_index_or w.depths v 0)) → Reaches (vertex g v).depth (entry row v) (identity (vertex g v).depth)
row_reached w v row g draws l r b =
    record {
      least = b.least;
      known = b.known;
      below = below_from (vertex g v).depth b.least (identity (vertex g v).depth) (r v b.least b.known).sits (identity_path g v).sits
          (subst (λ n. is_below b.least (identity n) ≡ true) (draws.depth v l) b.below);
    }

-- ---- the edges one by one

-- ---- depths and edges of a graph, one by one

depth_push : (ds : List ℕ) (d v : ℕ) → v < length ds → slice_index_or (ds ++ (d ∷ [])) v 0 ≡ slice_index_or ds v 0
depth_push [] d v l = absurd (omega arith)
depth_push (x ∷ ds) d zero l = refl
depth_push (x ∷ ds) d (suc v) l = depth_push ds d v (omega arith)

depth_last : (ds : List ℕ) (d : ℕ) → slice_index_or (ds ++ (d ∷ [])) (length ds) 0 ≡ d
depth_last [] d = refl
depth_last (x ∷ ds) d = depth_last ds d

pub depths_more : (g : Graph) (ds : List ℕ) (n d : ℕ) → length ds ≡ n → ((v : ℕ) → v < n → slice_index_or ds v 0 ≡ (vertex g v).depth) → d ≡ (vertex g n).depth → (v : ℕ) → v < n + 1 → slice_index_or (ds ++ (d ∷ [])) v 0 ≡ (vertex g v).depth
depths_more g ds n d l all e v m = go (below_or_last v n m)
  where
    go : (v < n) ⊎ (v ≡ n) → slice_index_or (ds ++ (d ∷ [])) v 0 ≡ (vertex g v).depth
    go (inl a) = depth_push ds d v (omega arith) ∙ all v a
    go (inr a) = ap (λ (i : ℕ). slice_index_or (ds ++ (d ∷ [])) i 0) (a ∙ sym l) ∙ depth_last ds d ∙ e ∙ ap (λ (i : ℕ). (vertex g i).depth) (sym a)

link_push : (es : List Link) (x : Link) (e : ℕ) (k : Link) → slice_get (es ++ (x ∷ [])) e ≡ Some k → (slice_get es e ≡ Some k) ⊎ ((e ≡ length es) × (x ≡ k))
link_push [] x zero k h = inr (refl, same_Some x k h)
link_push [] x (suc e) k h = inl h
link_push (y ∷ es) x zero k h = inl h
link_push (y ∷ es) x (suc e) k h = go (link_push es x e k h)
  where
    go : (slice_get es e ≡ Some k) ⊎ ((e ≡ length es) × (x ≡ k)) → (slice_get es e ≡ Some k) ⊎ ((suc e ≡ suc (length es)) × (x ≡ k))
    go (inl a) = inl a
    go (inr a) = inr (ap suc a.0, a.1)

pub links_more : (g : Graph) (es : List Link) (n : ℕ) (x : Link) → length es ≡ n → ((e : ℕ) (k : Link) → slice_get es e ≡ Some k → k ≡ link_in g e) → x ≡ link_in g n → (e : ℕ) (k : Link) → slice_get (es ++ (x ∷ [])) e ≡ Some k → k ≡ link_in g e
links_more g es n x l all h e k q = go (link_push es x e k q)
  where
    go : (slice_get es e ≡ Some k) ⊎ ((e ≡ length es) × (x ≡ k)) → k ≡ link_in g e
    go (inl a) = all e k a
    go (inr a) = sym a.1 ∙ h ∙ ap (link_in g) (sym l ∙ sym a.0)

pub no_links : (g : Graph) (e : ℕ) (k : Link) → slice_get [] e ≡ Some k → k ≡ link_in g e
no_links g e k h = absurd (let l = slice_get_within [] e k h in omega arith)
