-- The laws of a network, on which the theorems about runs rest.
use Rattle.std.specs.Prelude.{◌≡◌, ◌≢◌, ◌<◌, ℕ, ◌+◌, cond, List, [], ◌⊎◌}
use mathlib.Core.WellFounded.{Acc}
use Rattle.semantics.specs.Multiset.{total, Record, count, end_to_end, ◌≈◌, IsPartOf, IsAmong}
use Rattle.semantics.specs.Time.{Time, same_time, at_epoch}
use Rattle.semantics.specs.Could.{Pointstamp, on_edge, at_vertex}
use Rattle.machine.specs.Network.{Network}
use Rattle.machine.specs.Active.{sum_below}
use Rattle.semantics.specs.Kinds.{Role}

-- how often t is in the list
abbrev pub times_in : Time → List Time → ℕ
times_in t ts = total (λ u. cond (same_time t u) 1 0) ts

-- what comes to the in ports is the sum of the workers' parts
abbrev pub all_parts : Network → (ℕ → ℕ → Time → List Record) → ℕ → Time → List Record
all_parts g part p t = end_to_end (λ k. part k p t) g.workers

-- where the vertex sends by key, each worker's part has only records that belong there
abbrev pub AtHome : Network → ℕ → ℕ → List Record → Type 0
AtHome g k e records = (r : Record) → 0 < count r records → (sender : ℕ) → g.home sender e r ≡ k

-- the parts of a vertex's in ports are cut by key, or the vertex has no keys
abbrev pub CutByKey : Network → ℕ → (ℕ → ℕ → List Record) → Type 0
CutByKey g v part = (k p : ℕ) → k < g.workers → p < g.ports v → AtHome g k (g.edge_into v p) (part k p)

-- at t the vertex reads what came at s
abbrev pub IsRead : Network → ℕ → Time → Time → Type 0
IsRead g v t s = (s ≡ t) ⊎ IsAmong s (g.reads_back v t)

-- a different pointstamp that could result in q
abbrev pub Lower : Network → Pointstamp → Pointstamp → Type 0
Lower g p q = g.Could p q × (p ≢ q)

-- an output vertex of the graph; beyond the last vertex there are no ports
abbrev pub IsOutput : Network → ℕ → Type 0
IsOutput g v = (g.role v ≡ Role.output) × (0 < g.ports v)

pub record IsNetwork (g : Network) : Type 0 where
  -- edges and ports
  pub target_ports : (e : ℕ) → e < g.edges → g.in_port e < g.ports (g.target e)
  pub into_target : (e : ℕ) → e < g.edges → g.edge_into (g.target e) (g.in_port e) ≡ e
  pub into_is_edge : (v p : ℕ) → p < g.ports v → g.edge_into v p < g.edges
  pub target_into : (v p : ℕ) → p < g.ports v → g.target (g.edge_into v p) ≡ v
  pub port_into : (v p : ℕ) → p < g.ports v → g.in_port (g.edge_into v p) ≡ p
  pub no_input_target : (e : ℕ) → e < g.edges → g.role (g.target e) ≢ Role.input
  pub no_output_source : (e : ℕ) → e < g.edges → g.role (g.source e) ≢ Role.output
  pub output_port : (v : ℕ) → IsOutput g v → g.ports v ≡ 1
  pub input_has_role : (i : ℕ) → i < g.inputs → g.role i ≡ Role.input
  pub role_is_input : (i : ℕ) → g.role i ≡ Role.input → i < g.inputs
  pub has_worker : 0 < g.workers
  pub routed : (k e : ℕ) (r : Record) → k < g.workers → g.home k e r < g.workers
  -- if the vertex has keys, a record is routed by its key only
  pub by_key : (k j e : ℕ) (r : Record) → (g.role (g.target e) ≡ Role.stateful) ⊎ (g.role (g.target e) ≡ Role.notified) → g.home k e r ≡ g.home j e r
  pub input_act : (v : ℕ) (t : Time) → g.role v ≡ Role.input → g.act v t ≡ t
  -- each time is at most once among those that its action's value comes from
  pub before_once : (v : ℕ) (t u : Time) → times_in t (g.times_before v u) ≡ 0 ⊎ times_in t (g.times_before v u) ≡ 1
  pub before_acts : (e : ℕ) (t u : Time) → e < g.edges → g.IsPointstamp (on_edge e u) → 0 < times_in t (g.times_before (g.source e) u) → g.act (g.source e) t ≡ u
  -- only a vertex that waits for its notification reads what came at other times
  pub only_notified : (v : ℕ) (t s : Time) → IsAmong s (g.reads_back v t) → g.role v ≡ Role.notified
  -- a vertex that doesn't wait for its notification reads what comes at the time
  pub reads_now : (v : ℕ) (a : ℕ → Time → List Record) (t : Time) → g.role v ≢ Role.notified → g.reads v a t ≡ (λ p. a p t)
  -- op depends on the multisets that are read only
  pub op_same : (v q : ℕ) (t : Time) (a b : ℕ → Time → List Record) → ((p : ℕ) (s : Time) → p < g.ports v → IsRead g v t s → (a p s) ≈ (b p s)) → (g.op v q t (g.reads v a t)) ≈ (g.op v q t (g.reads v b t))
  -- op makes nothing where nothing comes at the time
  pub op_nothing : (v q : ℕ) (t : Time) (a : ℕ → Time → List Record) → ((p : ℕ) → p < g.ports v → a p t ≡ []) → g.op v q t (g.reads v a t) ≡ []
  -- op of parts without a common key, or of a vertex without keys
  pub op_stateless : (v q : ℕ) (t : Time) (part : ℕ → ℕ → List Record) (n : ℕ) → g.role v ≡ Role.stateless → (r : Record) → count r (g.op v q t (λ p. end_to_end (λ k. part k p) n)) ≡ sum_below n (λ k. count r (g.op v q t (part k)))
  pub op_cut : (v q : ℕ) (t : Time) (part : ℕ → ℕ → Time → List Record) → g.role v ≡ Role.stateful ⊎ g.role v ≡ Role.notified → ((s : Time) → CutByKey g v (λ k p. part k p s)) → (r : Record) → count r (g.op v q t (g.reads v (all_parts g part) t)) ≡ sum_below g.workers (λ k. count r (g.op v q t (g.reads v (part k) t)))
  -- op makes more from more
  pub op_more : (v q : ℕ) (t : Time) (a b : ℕ → List Record) → g.role v ≢ Role.notified → ((p : ℕ) → p < g.ports v → IsPartOf (a p) (b p)) → IsPartOf (g.op v q t a) (g.op v q t b)
  -- depths
  pub fits_enter : (e : ℕ) (t : Time) → e < g.edges → g.IsPointstamp (on_edge e t) → g.IsPointstamp (at_vertex (g.target e) t)
  pub fits_into : (v p : ℕ) (t : Time) → p < g.ports v → g.IsPointstamp (at_vertex v t) → g.IsPointstamp (on_edge (g.edge_into v p) t)
  pub fits_leave : (e : ℕ) (t : Time) → e < g.edges → g.IsPointstamp (at_vertex (g.source e) t) → g.IsPointstamp (on_edge e (g.act (g.source e) t))
  pub fits_back : (e : ℕ) (t u : Time) → e < g.edges → g.IsPointstamp (on_edge e u) → 0 < times_in t (g.times_before (g.source e) u) → g.IsPointstamp (at_vertex (g.source e) t)
  pub fits_read : (v : ℕ) (t s : Time) → IsAmong s (g.reads_back v t) → g.IsPointstamp (at_vertex v t) → g.IsPointstamp (at_vertex v s)
  pub fits_input : (v n : ℕ) → g.role v ≡ Role.input → g.IsPointstamp (at_vertex v (at_epoch n))
  pub fits_output : (v n : ℕ) → IsOutput g v → g.IsPointstamp (at_vertex v (at_epoch n))
  -- could result in
  pub could_self : (p : Pointstamp) → g.IsPointstamp p → g.Could p p
  pub could_on : (p q s : Pointstamp) → g.Could p q → g.Could q s → g.Could p s
  pub could_fits : (p q : Pointstamp) → g.Could p q → g.IsPointstamp q
  pub could_enter : (e : ℕ) (t : Time) → e < g.edges → g.IsPointstamp (on_edge e t) → g.Could (on_edge e t) (at_vertex (g.target e) t)
  pub could_leave : (e : ℕ) (t : Time) → e < g.edges → g.IsPointstamp (at_vertex (g.source e) t) → g.Could (at_vertex (g.source e) t) (on_edge e (g.act (g.source e) t))
  pub could_read : (v : ℕ) (t s : Time) → IsAmong s (g.reads_back v t) → g.IsPointstamp (at_vertex v s) → g.Could (at_vertex v s) (at_vertex v t)
  pub could_later : (v n : ℕ) → g.role v ≡ Role.input → g.Could (at_vertex v (at_epoch n)) (at_vertex v (at_epoch (n + 1)))
  -- there is no infinite descent
  pub founded : (p : Pointstamp) → Acc (Lower g) p
