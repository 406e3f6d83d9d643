-- A table decides exactly what could result in what.
use Rattle.std.proofs.Common.{◌≡◌, inl, inr, ℕ, ◌≤◌, ◌<◌, List, [], ◌∷◌, ◌++◌, length, Option, Some, refl, sym, ap, subst, ◌∙◌, arith}
use Rattle.semantics.specs.Time.{Time, Action, IsAtMost, after_action}
use Rattle.semantics.specs.Kinds.{action}
use Rattle.semantics.specs.Graph.{Graph, vertex, edge_count, target, in_port, edge_source}
use Rattle.semantics.specs.Could.{Location, Pointstamp, IsTimeAt, PathStep, step_edge, step_from, step_to, step_time, IsPath, path_time, CouldResultIn}
use Rattle.semantics.specs.Dataflow.{IsDataflow}
use Rattle.semantics.specs.Summary.{Summary, then_action}
use Rattle.semantics.proofs.EdgeNumbers.{entered}
use Rattle.semantics.proofs.CouldRises.{at_most_refl, at_most_trans, path_fits, step_fits}
use Rattle.semantics.proofs.PathSummaries.{MayTake, may_take}
use Rattle.path_summary.specs.Order.{Later}
use Rattle.path_summary.specs.Carried.{carried, counters_after, Sits}
use Rattle.path_summary.specs.Tables.{IsTable, home_of, Decided}
use Rattle.path_summary.proofs.InOrder.{later_trans, later_after, after_is}
use Rattle.path_summary.proofs.Carrying.{carried-identity, carried_then, length-carried}

module _ (g : Graph) (T : ℕ → ℕ → Option Summary) (table : IsTable g T) where
  acts : ℕ → Action
  acts e = action (vertex g (edge_source g e).vertex).kind

  home_fits : (l : Location) (t : Time) → IsTimeAt g l t → IsTimeAt g (Location.vertex (home_of g l)) t
  home_fits (Location.edge e) t f = ((entered g e f.0).known, f.1)
  home_fits (Location.vertex v) t f = f

  -- ---- what is decided could result

  from_home : (l : Location) (t : Time) → IsTimeAt g l t → (path : List PathStep) (m : Location) → IsPath g (Location.vertex (home_of g l)) path m → (more : List PathStep) × IsPath g l more m × (path_time g more t ≡ path_time g path t)
  from_home (Location.edge e) t f path m h = (PathStep.enters e ∷ path, (f.0, refl, h), refl)
  from_home (Location.vertex v) t f path m h = (path, h, refl)

  path_push : (path : List PathStep) (e : ℕ) (l : Location) → IsPath g l path (Location.vertex (edge_source g e).vertex) → e < edge_count g → IsPath g l (path ++ (PathStep.leaves e ∷ [])) (Location.edge e)
  path_push [] e l h k = (k, h, refl)
  path_push (s ∷ path) e l h k = (h.0, h.1, path_push path e (step_to g s) h.2 k)

  push_time : (path : List PathStep) (e : ℕ) (t : Time) → path_time g (path ++ (PathStep.leaves e ∷ [])) t ≡ after_action (action (vertex g (edge_source g e).vertex).kind) (path_time g path t)
  push_time [] e t = refl
  push_time (s ∷ path) e t = push_time path e (step_time g s t)

  -- at or before in time, by the counters
  by_counters : (t u v : Time) (cs : List ℕ) → v ≡ record { epoch = t.epoch; counters = cs } → t.epoch ≤ u.epoch → Later cs u.counters → IsAtMost v u
  by_counters t u v cs e n h = subst (λ (x : Time). IsAtMost x u) (sym e) (record { epochs = n; counters = h })

  pub decided_could_at : (p q : Pointstamp) → IsTimeAt g p.location p.time → IsTimeAt g q.location q.time → Decided g T p q.location q.time → CouldResultIn g p q
  decided_could_at p q f h d = go q.location q.time refl h d
    where
      end : (m : Location) (u : Time) → q ≡ record { time = u; location = m } → IsTimeAt g m u → (path : List PathStep) → IsPath g p.location path m → IsAtMost (path_time g path p.time) u → CouldResultIn g p q
      end m u e h path leads a = subst (λ (x : Pointstamp). CouldResultIn g p x) (sym e) (record { starts = f; ends = h; path = path; leads = leads; in_time = a })

      go : (m : Location) (u : Time) → q ≡ record { time = u; location = m } → IsTimeAt g m u → Decided g T p m u → CouldResultIn g p q
      go (Location.vertex x) u e h d =
          let home = home_of g p.location in
          let at_home = home_fits p.location p.time f in
          let o = table.sound home x d.least at_home.0 d.known in
          let w = from_home p.location p.time f o.path (Location.vertex x) o.leads in
          end (Location.vertex x) u e h w.0 w.1
          (by_counters p.time u (path_time g w.0 p.time) (carried d.least p.time.counters) (w.2 ∙ o.does p.time at_home.1) d.epochs d.counters)
      go (Location.edge e) u q' h (inl stays) = end (Location.edge e) u q' h [] stays.same stays.in_time
      go (Location.edge e) u q' h (inr d) =
          let home = home_of g p.location in
          let at_home = home_fits p.location p.time f in
          let o = table.sound home (edge_source g e).vertex d.least at_home.0 d.known in
          let w = from_home p.location p.time f o.path (Location.vertex (edge_source g e).vertex) o.leads in
          let a = action (vertex g (edge_source g e).vertex).kind in
          let more = w.0 ++ (PathStep.leaves e ∷ []) in
          let is = push_time w.0 e p.time ∙ ap (after_action a) (w.2 ∙ o.does p.time at_home.1) ∙ after_is a (record { epoch = p.time.epoch; counters = carried d.least p.time.counters }) in
          end (Location.edge e) u q' h more (path_push w.0 e p.location w.1 h.0)
          (by_counters p.time u (path_time g more p.time) (counters_after a (carried d.least p.time.counters)) is d.epochs d.counters)

  -- ---- what could result is decided

  module _ (flow : IsDataflow g) (p : Pointstamp) (fits : IsTimeAt g p.location p.time) where
    home : ℕ
    home = home_of g p.location

    at_home : IsTimeAt g (Location.vertex home) p.time
    unfolding home
    at_home = home_fits p.location p.time fits

    -- the result of an entry has the depth of the vertex
    reached_length : (x : ℕ) (f : Summary) → T home x ≡ Some f → length (carried f p.time.counters) ≡ (vertex g x).depth
    reached_length x f k =
        let o = table.sound home x f at_home.0 k in
        ap (λ (t : Time). length t.counters) (sym (o.does p.time at_home.1))
        ∙ (path_fits g flow.loops flow.wired flow.nested o.path (Location.vertex home) (Location.vertex x) p.time o.leads at_home).1

    opens : (l : Location) → p.location ≡ l → Decided g T p l p.time
    opens (Location.edge e) q = inl (record { same = q; in_time = at_most_refl p.time })
    opens (Location.vertex v) q =
        let f = subst (λ (m : Location). IsTimeAt g m p.time) q fits in
        let i = table.self v f.0 in
        record {
          epochs = omega arith;
          least = i.least;
          known = ap (λ (m : Location). T (home_of g m) v) q ∙ i.known;
          counters = subst (Later (carried i.least p.time.counters)) (carried-identity (vertex g v).depth p.time.counters f.1) (i.below.at p.time.counters f.1);
        }

    -- an entry to the vertex that an edge leaves may be followed by that vertex's action
    may_act : (e : ℕ) → e < edge_count g → (f : Summary) → T home (edge_source g e).vertex ≡ Some f → MayTake (action (vertex g (edge_source g e).vertex).kind) f
    may_act e l f k =
        let v = (edge_source g e).vertex in
        let i = entered g e l in
        let o = table.sound home v f at_home.0 k in
        may_take flow.loops v (target g e) (action (vertex g v).kind) (flow.nested.goes (target g e) (in_port g e) i.known i.port) f
        (sym (length-carried f p.time.counters (omega (arith, o.sits.short, at_home.1))) ∙ reached_length v f k ∙ sym (flow.nested.homes v (flow.wired.fed (target g e) (in_port g e) i.known i.port)))

    enter_from : (e : ℕ) (u : Time) → e < edge_count g → Decided g T p (Location.edge e) u → Decided g T p (Location.vertex (target g e)) u
    unfolding home
    enter_from e u l (inl stays) =
        let q = stays.same in
        let i = table.self (target g e) (entered g e l).known in
        let f : IsTimeAt g (Location.edge e) p.time = subst (λ (m : Location). IsTimeAt g m p.time) q fits in
        record {
          epochs = stays.in_time.epochs;
          least = i.least;
          known = ap (λ (m : Location). T (home_of g m) (target g e)) q ∙ i.known;
          counters = later_trans (carried i.least p.time.counters) p.time.counters u.counters
              (subst (Later (carried i.least p.time.counters)) (carried-identity (vertex g (target g e)).depth p.time.counters f.1) (i.below.at p.time.counters f.1))
              stays.in_time.counters;
        }
    enter_from e u l (inr covers) =
        let f = covers.least in
        let a = action (vertex g (edge_source g e).vertex).kind in
        let o = table.sound home (edge_source g e).vertex f at_home.0 covers.known in
        let r = table.closed home e f at_home.0 l covers.known in
        record {
          epochs = covers.epochs;
          least = r.least;
          known = r.known;
          counters = later_trans (carried r.least p.time.counters) (carried (then_action a f) p.time.counters) u.counters
              (r.below.at p.time.counters at_home.1)
              (subst (λ (x : List ℕ). Later x u.counters)
              (sym (carried_then a f p.time.counters (subst (λ n. Sits n f) (sym at_home.1) o.sits) (may_act e l f covers.known)))
              covers.counters);
        }

    goes_on : (s : PathStep) (u : Time) → step_edge s < edge_count g → IsTimeAt g (step_from g s) u → Decided g T p (step_from g s) u → Decided g T p (step_to g s) (step_time g s u)
    unfolding home
    goes_on (PathStep.enters e) u l f d = enter_from e u l d
    goes_on (PathStep.leaves e) u l f d =
        let a = action (vertex g (edge_source g e).vertex).kind in
        inr (record {
          epochs = subst (λ (x : Time). p.time.epoch ≤ x.epoch) (sym (after_is a u)) d.epochs;
          least = d.least;
          known = d.known;
          counters = subst (λ (x : Time). Later (counters_after a (carried d.least p.time.counters)) x.counters) (sym (after_is a u))
              (later_after a (carried d.least p.time.counters) u.counters (reached_length (edge_source g e).vertex d.least d.known ∙ sym f.1) d.counters);
        })

    along : (path : List PathStep) (l m : Location) (u : Time) → IsPath g l path m → IsTimeAt g l u → Decided g T p l u → Decided g T p m (path_time g path u)
    along [] l m u h f d = subst (λ (x : Location). Decided g T p x u) h d
    along (s ∷ path) l m u h f d =
        let f' = subst (λ (x : Location). IsTimeAt g x u) h.1 f in
        along path (step_to g s) m (step_time g s u) h.2 (step_fits g flow.loops flow.wired flow.nested s u h.0 f') (goes_on s u h.0 f' (subst (λ (x : Location). Decided g T p x u) h.1 d))

    later_decided : (l : Location) (t u : Time) → IsAtMost t u → Decided g T p l t → Decided g T p l u
    later_decided (Location.vertex x) t u h d = record { epochs = omega (arith, d.epochs, h.epochs); least = d.least; known = d.known; counters = later_trans (carried d.least p.time.counters) t.counters u.counters d.counters h.counters }
    later_decided (Location.edge e) t u h (inl stays) = inl (record { same = stays.same; in_time = at_most_trans p.time t u stays.in_time h })
    later_decided (Location.edge e) t u h (inr d) = inr (record { epochs = omega (arith, d.epochs, h.epochs); least = d.least; known = d.known; counters = later_trans (counters_after (action (vertex g (edge_source g e).vertex).kind) (carried d.least p.time.counters)) t.counters u.counters d.counters h.counters })

  pub could_decided_at : (p q : Pointstamp) → IsDataflow g → CouldResultIn g p q → Decided g T p q.location q.time
  could_decided_at p q flow c =
      later_decided flow p c.starts q.location (path_time g c.path p.time) q.time c.in_time
      (along flow p c.starts c.path p.location q.location p.time c.leads c.starts (opens flow p c.starts p.location refl))

-- what the table decides could result
pub decided_could : (g : Graph) (T : ℕ → ℕ → Option Summary) → IsTable g T → (p q : Pointstamp) → IsTimeAt g p.location p.time → IsTimeAt g q.location q.time → Decided g T p q.location q.time → CouldResultIn g p q
decided_could g T table p q = decided_could_at g T table p q

-- the table decides what could result
pub could_decided : (g : Graph) (T : ℕ → ℕ → Option Summary) → IsTable g T → IsDataflow g → (p q : Pointstamp) → CouldResultIn g p q → Decided g T p q.location q.time
could_decided g T table flow p q c = could_decided_at g T table p q flow c
