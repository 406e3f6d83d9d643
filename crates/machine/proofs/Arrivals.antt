-- A commit of a message keeps the facts that hold in every reached world.
use Rattle.std.proofs.Common.{◌≡◌, ◌≢◌, ◌≤◌, ◌<◌, ℕ, zero, suc, ◌+◌, Bool, true, false, cond, eqb, List, [], ◌∷◌, ◌++◌, ◌⊎◌, inl, inr, refl, sym, ap, ◌∙◌, subst, ap₂, arith, append-nil}
use Rattle.std.proofs.lemmas.Bool.Decides.{eqb_tells}
use Rattle.semantics.specs.Multiset.{total, Record, count, end_to_end, ◌≈◌, one_if, IsAmong}
use Rattle.semantics.specs.Could.{at_vertex}
use Rattle.semantics.specs.Time.{Time, same_time, at_epoch}
use Rattle.semantics.proofs.MultisetSums.{≈-from, total-append}
use Rattle.semantics.specs.Kinds.{Role}
use Rattle.machine.specs.Network.{Network}
use Rattle.machine.specs.World.{Message, Event, Held, World}
use Rattle.machine.specs.Active.{sum_below, IsActive, message_pointstamp}
use Rattle.machine.specs.Sending.{parcels}
use Rattle.machine.specs.Processing.{absorbed_then, emitted_by, emitted_after, asked, MakesBy}
use Rattle.machine.specs.Step.{Step, Allowed, absorbed_after, after_step, put}
use Rattle.machine.proofs.NetFlow.{ins}
use Rattle.machine.proofs.Kept.{done_at, each}
use Rattle.semantics.specs.Shard.{Absorbed, absorbed_by, only_at, with_records}
use Rattle.machine.proofs.Absorbing.{absorbed_there, shard_elsewhere, shard_same, with_shard}
use Rattle.machine.proofs.Commits.{once, way_after, vertex_after}
use Rattle.machine.proofs.Counting.{eqb_self, below_one, below_changed, count-append, count_either}
use Rattle.machine.proofs.Kept.{done_at, History, carried, held_records, under_way, one_if_at, held_notifications, open_requests, some, made, Due, Kept, GoodMessage, GoodRequest, GoodHeld}
use Rattle.machine.proofs.Ports.{end_same, some_append, some_of_port}
use Rattle.machine.proofs.Laws.{IsNetwork, IsRead, IsOutput, AtHome, times_in}
use Rattle.machine.proofs.Rank.{op_now}
use Rattle.machine.proofs.NetFlow.{HasFlows}
use Rattle.machine.proofs.Notifications.{some_row}
use Rattle.machine.proofs.Places.{same_time_tells, same_time_self, edge_not_vertex}
use Rattle.machine.proofs.Progress.{put_tells, held_good, asked_first, asked_by}
use Rattle.machine.proofs.Sending.{Parcel, parcels_good, fits_sent, each-append, each_more}
use Rattle.machine.proofs.Steps.{good_of, settled_after, way_sent, sent_elsewhere}

-- the message was processed
abbrev pub done_after : History → ℕ → Message → ℕ → ℕ → Time → List Record
done_after h k0 m k e t = h.done k e t ++ cond (eqb k k0) (cond (eqb m.edge e) (cond (same_time m.time t) m.records []) []) []

abbrev pub history_done : History → ℕ → Message → History
history_done h k0 m = record { done = done_after h k0 m; notified = h.notified }

pub record DoneHere (h : History) (k0 : ℕ) (m : Message) (k e : ℕ) (t : Time) : Type 0 where
  pub worker : k ≡ k0
  pub edge : m.edge ≡ e
  pub time : m.time ≡ t
  pub is : done_after h k0 m k e t ≡ h.done k e t ++ m.records

pub record DoneElsewhere (h : History) (k0 : ℕ) (m : Message) (k e : ℕ) (t : Time) : Type 0 where
  pub other : k ≡ k0 → m.edge ≡ e → m.time ≡ t → ⊥
  pub is : done_after h k0 m k e t ≡ h.done k e t

pub done_tells : (h : History) (k0 : ℕ) (m : Message) (k e : ℕ) (t : Time) → DoneHere h k0 m k e t ⊎ DoneElsewhere h k0 m k e t
done_tells h k0 m k e t = go (eqb_tells k k0) (eqb_tells m.edge e) (same_time_tells m.time t)
  where
    go : ((eqb k k0 ≡ true) × (k ≡ k0)) ⊎ ((eqb k k0 ≡ false) × (k ≢ k0)) → ((eqb m.edge e ≡ true) × (m.edge ≡ e)) ⊎ ((eqb m.edge e ≡ false) × (m.edge ≢ e)) → ((same_time m.time t ≡ true) × (m.time ≡ t)) ⊎ ((same_time m.time t ≡ false) × (m.time ≢ t)) → DoneHere h k0 m k e t ⊎ DoneElsewhere h k0 m k e t
    go (inl (a, b)) (inl (c, d)) (inl (x, y)) = inl (record { worker = b; edge = d; time = y; is = rw (a, c, x) refl })
    go (inl (a, b)) (inl (c, d)) (inr (x, y)) = inr (record { other = λ _ _ z. y z; is = rw (a, c, x) (append-nil (h.done k e t)) })
    go (inl (a, b)) (inr (c, d)) s = inr (record { other = λ _ z _. d z; is = rw (a, c) (append-nil (h.done k e t)) })
    go (inr (a, b)) r s = inr (record { other = λ z _ _. b z; is = rw a (append-nil (h.done k e t)) })

-- these records at one port and time of one shard
abbrev absorbed_with : World → (worker vertex port : ℕ) → Time → List Record → (worker vertex : ℕ) → Absorbed
absorbed_with w k v p t records = with_shard w k v (with_records (w.absorbed k v) p t records)

record AbsorbedHere (w : World) (k0 v0 p0 : ℕ) (t0 : Time) (records : List Record) (k v p : ℕ) (t : Time) : Type 0 where
  worker : k ≡ k0
  vertex : v ≡ v0
  port : p0 ≡ p
  time : t0 ≡ t
  is : absorbed_with w k0 v0 p0 t0 records k v p t ≡ w.absorbed k v p t ++ records

record AbsorbedElsewhere (w : World) (k0 v0 p0 : ℕ) (t0 : Time) (records : List Record) (k v p : ℕ) (t : Time) : Type 0 where
  other : k ≡ k0 → v ≡ v0 → p0 ≡ p → t0 ≡ t → ⊥
  is : absorbed_with w k0 v0 p0 t0 records k v p t ≡ w.absorbed k v p t

absorbed_tells : (w : World) (k0 v0 p0 : ℕ) (t0 : Time) (records : List Record) (k v p : ℕ) (t : Time) → AbsorbedHere w k0 v0 p0 t0 records k v p t ⊎ AbsorbedElsewhere w k0 v0 p0 t0 records k v p t
absorbed_tells w k0 v0 p0 t0 records k v p t = go (eqb_tells k k0) (eqb_tells v v0) (eqb_tells p0 p) (same_time_tells t0 t)
  where
    elsewhere : (k ≢ k0) ⊎ (v ≢ v0) → absorbed_with w k0 v0 p0 t0 records k v p t ≡ w.absorbed k v p t
    elsewhere ne = ap (λ (a : Absorbed). a p t) (shard_elsewhere w k0 v0 (with_records (w.absorbed k0 v0) p0 t0 records) k v ne)

    there : k ≡ k0 → v ≡ v0 → absorbed_with w k0 v0 p0 t0 records k v p t ≡ w.absorbed k v p t ++ cond (eqb p0 p) (cond (same_time t0 t) records []) []
    there a b = rw (a, b, eqb_self k0, eqb_self v0) refl

    go : ((eqb k k0 ≡ true) × (k ≡ k0)) ⊎ ((eqb k k0 ≡ false) × (k ≢ k0)) → ((eqb v v0 ≡ true) × (v ≡ v0)) ⊎ ((eqb v v0 ≡ false) × (v ≢ v0)) → ((eqb p0 p ≡ true) × (p0 ≡ p)) ⊎ ((eqb p0 p ≡ false) × (p0 ≢ p)) → ((same_time t0 t ≡ true) × (t0 ≡ t)) ⊎ ((same_time t0 t ≡ false) × (t0 ≢ t)) → AbsorbedHere w k0 v0 p0 t0 records k v p t ⊎ AbsorbedElsewhere w k0 v0 p0 t0 records k v p t
    go (inl (a, b)) (inl (c, d)) (inl (i, j)) (inl (x, y)) = inl (record { worker = b; vertex = d; port = j; time = y; is = there b d ∙ rw (i, x) refl })
    go (inl (a, b)) (inl (c, d)) (inl (i, j)) (inr (x, y)) = inr (record { other = λ _ _ _ z. y z; is = there b d ∙ rw (i, x) (append-nil (w.absorbed k v p t)) })
    go (inl (a, b)) (inl (c, d)) (inr (i, j)) s = inr (record { other = λ _ _ z _. j z; is = there b d ∙ rw i (append-nil (w.absorbed k v p t)) })
    go (inl (a, b)) (inr (c, d)) r s = inr (record { other = λ _ z _ _. d z; is = elsewhere (inr d) })
    go (inr (a, b)) q r s = inr (record { other = λ z _ _ _. b z; is = elsewhere (inl b) })

abbrev Keyed : Role → Type 0
Keyed role = (role ≡ Role.stateful) ⊎ (role ≡ Role.notified)

keyed_absorbed : (role : Role) (a : Absorbed) (p : ℕ) (t : Time) (records : List Record) →
    (Keyed role × (absorbed_by role a p t records ≡ with_records a p t records)) ⊎ ((Keyed role → ⊥) × (absorbed_by role a p t records ≡ a))
keyed_absorbed Role.input a p t records = inr (λ s. neither s, refl)
  where
    neither : Keyed Role.input → ⊥
    neither (inl e) = absurd cc
    neither (inr e) = absurd cc
keyed_absorbed Role.stateless a p t records = inr (λ s. neither s, refl)
  where
    neither : Keyed Role.stateless → ⊥
    neither (inl e) = absurd cc
    neither (inr e) = absurd cc
keyed_absorbed Role.stateful a p t records = inl (inl refl, refl)
keyed_absorbed Role.notified a p t records = inl (inr refl, refl)
keyed_absorbed Role.output a p t records = inr (λ s. neither s, refl)
  where
    neither : Keyed Role.output → ⊥
    neither (inl e) = absurd cc
    neither (inr e) = absurd cc

output_emitted : (role : Role) (w : World) (v : ℕ) (t : Time) (records : List Record) (v' n : ℕ) →
    ((role ≡ Role.output) × (emitted_by role w v t records v' n ≡ w.emitted v' n ++ cond (eqb v v') (cond (same_time t (at_epoch n)) records []) [])) ⊎ ((role ≢ Role.output) × (emitted_by role w v t records v' n ≡ w.emitted v' n))
output_emitted Role.input w v t records v' n = inr (λ e. cc, refl)
output_emitted Role.stateless w v t records v' n = inr (λ e. cc, refl)
output_emitted Role.stateful w v t records v' n = inr (λ e. cc, refl)
output_emitted Role.notified w v t records v' n = inr (λ e. cc, refl)
output_emitted Role.output w v t records v' n = inl (refl, refl)

notified_asked : (role : Role) (v : ℕ) (t : Time) (xs : List Record) → ((role ≡ Role.notified) × (asked_by role v t xs ≡ asked_first v t xs)) ⊎ ((role ≢ Role.notified) × (asked_by role v t xs ≡ []))
notified_asked Role.input v t xs = inr (λ e. cc, refl)
notified_asked Role.stateless v t xs = inr (λ e. cc, refl)
notified_asked Role.stateful v t xs = inr (λ e. cc, refl)
notified_asked Role.notified v t xs = inl (refl, refl)
notified_asked Role.output v t xs = inr (λ e. cc, refl)

module _ (g : Network) (law : IsNetwork g) (w : World) (h : History) (keeps : Kept g w h) (flows : HasFlows g) (k0 : ℕ) (m : Message) (out : ℕ → List Record) (ok : Allowed g w (Step.commit k0 (Event.arrival m) out)) where
  good_message : GoodMessage g k0 m
  good_message = held_good g law w (good_of g law w h keeps) k0 (Event.arrival m) ok.0 ok.1

  here : g.IsPointstamp (at_vertex (g.target m.edge) m.time)
  here = law.fits_enter m.edge m.time good_message.0 good_message.3

  edge_here : g.edge_into (g.target m.edge) (g.in_port m.edge) ≡ m.edge
  edge_here = law.into_target m.edge good_message.0

  vertex_of : (v p : ℕ) → p < g.ports v → m.edge ≡ g.edge_into v p → g.target m.edge ≡ v
  vertex_of v p lp e = ap g.target e ∙ law.target_into v p lp

  port_of : (v p : ℕ) → p < g.ports v → m.edge ≡ g.edge_into v p → g.in_port m.edge ≡ p
  port_of v p lp e = ap g.in_port e ∙ law.port_into v p lp

  -- no worker was notified that nothing more comes
  not_notified : g.role (g.target m.edge) ≡ Role.notified → (k : ℕ) → k < g.workers → h.notified k (g.target m.edge) m.time ≡ false
  not_notified s k lk = go (h.notified k (g.target m.edge) m.time) refl
    where
      go : (b : Bool) → h.notified k (g.target m.edge) m.time ≡ b → h.notified k (g.target m.edge) m.time ≡ false
      go false e = e
      go true e = absurd (edge_not_vertex m.edge (g.target m.edge) m.time m.time (keeps.settled k (g.target m.edge) m.time lk s (inl e) (message_pointstamp m) (IsActive.of_held k0 false (Event.arrival m) ok.0 ok.1) (law.could_enter m.edge m.time good_message.0 good_message.3)))

  counted_once : times_in m.time (g.times_before (g.target m.edge) (g.act (g.target m.edge) m.time)) ≡ 1
  counted_once =
      let r = some_row m.records good_message.1 in
      let b = keeps.balance m.edge m.time r.0 good_message.0 in
      let c : under_way w m.edge m.time r.0 k0 ≤ sum_below g.workers (under_way w m.edge m.time r.0) = below_one g.workers k0 (under_way w m.edge m.time r.0) ok.0 in
      let d : held_records m.edge m.time r.0 (w.held k0) ≡ count r.0 m.records = ap (held_records m.edge m.time r.0) ok.1 ∙ rw (eqb_self m.edge, same_time_self m.time) refl in
      let l : 0 < count r.0 m.records = r.1 in
      once g law w h keeps flows m.edge m.time r.0 good_message.0 good_message.3 (omega arith)

  done_other : (k v p : ℕ) (t : Time) → ((k ≢ k0) ⊎ ((v ≢ g.target m.edge) ⊎ (t ≢ m.time))) → p < g.ports v → done_after h k0 m k (g.edge_into v p) t ≡ h.done k (g.edge_into v p) t
  done_other k v p t ne lp = go (done_tells h k0 m k (g.edge_into v p) t) ne
    where
      go : DoneHere h k0 m k (g.edge_into v p) t ⊎ DoneElsewhere h k0 m k (g.edge_into v p) t → ((k ≢ k0) ⊎ ((v ≢ g.target m.edge) ⊎ (t ≢ m.time))) → done_after h k0 m k (g.edge_into v p) t ≡ h.done k (g.edge_into v p) t
      go (inr x) ne = x.is
      go (inl x) (inl a) = absurd (a x.worker)
      go (inl x) (inr (inl a)) = absurd (a (sym (vertex_of v p lp x.edge)))
      go (inl x) (inr (inr a)) = absurd (a (sym x.time))

  rest : (k v q : ℕ) (t : Time) (r : Record) → ((k ≢ k0) ⊎ ((v ≢ g.target m.edge) ⊎ (t ≢ m.time))) → made g (history_done h k0 m) v q t r k ≡ made g h v q t r k
  rest k v q t r ne = go (h.notified k v t) refl
    where
      -- nothing more comes at a time that a notified vertex has read
      settled_read : h.notified k v t ≡ true → k ≡ k0 → g.target m.edge ≡ v → IsAmong m.time (g.reads_back v t) → ⊥
      settled_read e a b i =
          let fits : g.IsPointstamp (at_vertex v m.time) = subst (λ (x : ℕ). g.IsPointstamp (at_vertex x m.time)) b here in
          let enter : g.Could (message_pointstamp m) (at_vertex v m.time) = subst (λ (x : ℕ). g.Could (message_pointstamp m) (at_vertex x m.time)) b (law.could_enter m.edge m.time good_message.0 good_message.3) in
          edge_not_vertex m.edge v m.time t
          (keeps.settled k v t (subst (λ (x : ℕ). x < g.workers) (sym a) ok.0) (law.only_notified v t m.time i) (inl e) (message_pointstamp m) (IsActive.of_held k0 false (Event.arrival m) ok.0 ok.1)
          (law.could_on (message_pointstamp m) (at_vertex v m.time) (at_vertex v t) enter (law.could_read v t m.time i fits)))

      same_read : h.notified k v t ≡ true → (p : ℕ) (s : Time) → p < g.ports v → IsRead g v t s → DoneHere h k0 m k (g.edge_into v p) s ⊎ DoneElsewhere h k0 m k (g.edge_into v p) s → done_after h k0 m k (g.edge_into v p) s ≡ h.done k (g.edge_into v p) s
      same_read e p s lp rd (inr x) = x.is
      same_read e p s lp (inl i) (inl x) = subst (λ (u : Time). done_after h k0 m k (g.edge_into v p) u ≡ h.done k (g.edge_into v p) u) (sym i) (done_other k v p t ne lp)
      same_read e p s lp (inr i) (inl x) = absurd (settled_read e x.worker (vertex_of v p lp x.edge) (subst (λ (u : Time). IsAmong u (g.reads_back v t)) (sym x.time) i))

      go : (b : Bool) → h.notified k v t ≡ b → made g (history_done h k0 m) v q t r k ≡ made g h v q t r k
      go true e = ap (λ n. cond (h.notified k v t) n 0) ((law.op_same v q t (λ p. done_after h k0 m k (g.edge_into v p)) (λ p. h.done k (g.edge_into v p)) (λ p s lp rd. ≈-from (same_read e p s lp rd (done_tells h k0 m k (g.edge_into v p) s)))).counts r)
      go false e = rw e refl

  -- what the workers have processed
  done_sum : (e : ℕ) (t : Time) (r : Record) → sum_below g.workers (λ k. count r (done_after h k0 m k e t)) ≡ sum_below g.workers (λ k. count r (h.done k e t)) + carried e t r m
  done_sum e t r =
      let a : sum_below g.workers (λ k. count r (done_after h k0 m k e t)) + count r (h.done k0 e t) ≡ sum_below g.workers (λ k. count r (h.done k e t)) + count r (done_after h k0 m k0 e t) =
      below_changed g.workers k0 (λ k. count r (h.done k e t)) (λ k. count r (done_after h k0 m k e t)) ok.0 (λ j lj ne. other j ne (done_tells h k0 m j e t)) in
      let b : count r (done_after h k0 m k0 e t) ≡ count r (h.done k0 e t) + carried e t r m = here (eqb m.edge e) (same_time m.time t) in
      omega arith
    where
      other : (j : ℕ) → j ≢ k0 → DoneHere h k0 m j e t ⊎ DoneElsewhere h k0 m j e t → count r (done_after h k0 m j e t) ≡ count r (h.done j e t)
      other j ne (inl x) = absurd (ne x.worker)
      other j ne (inr x) = ap (count r) x.is

      here : (b c : Bool) → count r (h.done k0 e t ++ cond (eqb k0 k0) (cond b (cond c m.records []) []) []) ≡ count r (h.done k0 e t) + cond b (cond c (count r m.records) 0) 0
      here true true = rw (eqb_self k0) (count-append r (h.done k0 e t) m.records)
      here true false = rw (eqb_self k0) (count-append r (h.done k0 e t) [])
      here false c = rw (eqb_self k0) (count-append r (h.done k0 e t) [])

  shards_after : (k v p : ℕ) (t : Time) → k < g.workers → p < g.ports v → Keyed (g.role v) → absorbed_after g w k0 (Event.arrival m) k v p t ≡ done_after h k0 m k (g.edge_into v p) t
  shards_after k v p t lk lp s = go (keyed_absorbed (g.role (g.target m.edge)) (w.absorbed k0 (g.target m.edge)) (g.in_port m.edge) m.time m.records)
    where
      both : AbsorbedHere w k0 (g.target m.edge) (g.in_port m.edge) m.time m.records k v p t ⊎ AbsorbedElsewhere w k0 (g.target m.edge) (g.in_port m.edge) m.time m.records k v p t
          → DoneHere h k0 m k (g.edge_into v p) t ⊎ DoneElsewhere h k0 m k (g.edge_into v p) t → absorbed_with w k0 (g.target m.edge) (g.in_port m.edge) m.time m.records k v p t ≡ done_after h k0 m k (g.edge_into v p) t
      both (inl x) (inl y) = x.is ∙ ap (λ z. z ++ m.records) (keeps.shards k v p t lk lp s) ∙ sym y.is
      both (inl x) (inr y) = absurd (y.other x.worker (sym edge_here ∙ ap₂ g.edge_into (sym x.vertex) x.port) x.time)
      both (inr x) (inl y) = absurd (x.other y.worker (sym (vertex_of v p lp y.edge)) (port_of v p lp y.edge) y.time)
      both (inr x) (inr y) = x.is ∙ keeps.shards k v p t lk lp s ∙ sym y.is

      plain : (Keyed (g.role (g.target m.edge)) → ⊥) → DoneHere h k0 m k (g.edge_into v p) t ⊎ DoneElsewhere h k0 m k (g.edge_into v p) t → w.absorbed k v p t ≡ done_after h k0 m k (g.edge_into v p) t
      plain never (inl y) = absurd (never (subst (λ (x : ℕ). Keyed (g.role x)) (sym (vertex_of v p lp y.edge)) s))
      plain never (inr y) = keeps.shards k v p t lk lp s ∙ sym y.is

      go : (Keyed (g.role (g.target m.edge)) × (absorbed_then g w k0 m ≡ with_records (w.absorbed k0 (g.target m.edge)) (g.in_port m.edge) m.time m.records)) ⊎ ((Keyed (g.role (g.target m.edge)) → ⊥) × (absorbed_then g w k0 m ≡ w.absorbed k0 (g.target m.edge)))
          → absorbed_after g w k0 (Event.arrival m) k v p t ≡ done_after h k0 m k (g.edge_into v p) t
      go (inl (a, b)) = ap (λ z. with_shard w k0 (g.target m.edge) z k v p t) b ∙ both (absorbed_tells w k0 (g.target m.edge) (g.in_port m.edge) m.time m.records k v p t) (done_tells h k0 m k (g.edge_into v p) t)
      go (inr (a, b)) =
          ap (λ z. with_shard w k0 (g.target m.edge) z k v p t) b
          ∙ ap (λ (z : Absorbed). z p t) (shard_same w k0 (g.target m.edge) k v)
          ∙ plain a (done_tells h k0 m k (g.edge_into v p) t)

  -- the same of the shard that takes the message
  shard_after : (p : ℕ) → p < g.ports (g.target m.edge) → Keyed (g.role (g.target m.edge)) → absorbed_then g w k0 m p m.time ≡ done_after h k0 m k0 (g.edge_into (g.target m.edge) p) m.time
  shard_after p lp s = ap (λ (a : Absorbed). a p m.time) (sym (absorbed_there g w k0 m)) ∙ shards_after k0 (g.target m.edge) p m.time ok.0 lp s

  notified_same : (q : ℕ) (r : Record) → h.notified k0 (g.target m.edge) m.time ≡ true → made g h (g.target m.edge) q m.time r k0 ≡ count r (g.op (g.target m.edge) q m.time (ins g (h.done k0) (g.target m.edge) m.time))
  notified_same q r e = ap (λ b. cond b (count r (g.op (g.target m.edge) q m.time (ins g (h.done k0) (g.target m.edge) m.time))) 0) e

  notified_more : (q : ℕ) (r : Record) → h.notified k0 (g.target m.edge) m.time ≡ true → made g (history_done h k0 m) (g.target m.edge) q m.time r k0 ≡ count r (g.op (g.target m.edge) q m.time (ins g (done_after h k0 m k0) (g.target m.edge) m.time))
  notified_more q r e = ap (λ b. cond b (count r (g.op (g.target m.edge) q m.time (ins g (done_after h k0 m k0) (g.target m.edge) m.time))) 0) e

  always : g.role (g.target m.edge) ≢ Role.notified → h.notified k0 (g.target m.edge) m.time ≡ true
  always s = keeps.always_notified k0 (g.target m.edge) m.time s

  -- at a port: what was there, plus the message
  done_split : (p : ℕ) → p < g.ports (g.target m.edge) → (done_after h k0 m k0 (g.edge_into (g.target m.edge) p) m.time) ≈ (([] ++ h.done k0 (g.edge_into (g.target m.edge) p) m.time) ++ only_at (g.in_port m.edge) m.records p)
  done_split p lp = record { counts = λ r. go r (done_tells h k0 m k0 (g.edge_into (g.target m.edge) p) m.time) (eqb_tells p (g.in_port m.edge)) }
    where
      go : (r : Record) → DoneHere h k0 m k0 (g.edge_into (g.target m.edge) p) m.time ⊎ DoneElsewhere h k0 m k0 (g.edge_into (g.target m.edge) p) m.time → ((eqb p (g.in_port m.edge) ≡ true) × (p ≡ g.in_port m.edge)) ⊎ ((eqb p (g.in_port m.edge) ≡ false) × (p ≢ g.in_port m.edge)) → count r (done_after h k0 m k0 (g.edge_into (g.target m.edge) p) m.time) ≡ count r (h.done k0 (g.edge_into (g.target m.edge) p) m.time ++ only_at (g.in_port m.edge) m.records p)
      go r (inl x) (inl (a, b)) = ap (count r) (x.is ∙ ap (λ z. h.done k0 (g.edge_into (g.target m.edge) p) m.time ++ z) (rw a refl))
      go r (inl x) (inr (a, b)) = absurd (b (sym (port_of (g.target m.edge) p lp x.edge)))
      go r (inr x) (inl (a, b)) = absurd (x.other refl (sym edge_here ∙ ap (g.edge_into (g.target m.edge)) (sym b)) refl)
      go r (inr x) (inr (a, b)) = ap (count r) (x.is ∙ sym (append-nil (h.done k0 (g.edge_into (g.target m.edge) p) m.time)) ∙ ap (λ z. h.done k0 (g.edge_into (g.target m.edge) p) m.time ++ z) (rw a refl))

  two_parts : ℕ → ℕ → List Record
  two_parts zero p = h.done k0 (g.edge_into (g.target m.edge) p) m.time
  two_parts (suc k) p = only_at (g.in_port m.edge) m.records p

  gain_stateless : g.role (g.target m.edge) ≡ Role.stateless → MakesBy Role.stateless g w k0 m out → (q : ℕ) (r : Record) → made g (history_done h k0 m) (g.target m.edge) q m.time r k0 ≡ made g h (g.target m.edge) q m.time r k0 + count r (out q)
  unfolding two_parts
  gain_stateless s makes q r =
      let now : g.role (g.target m.edge) ≢ Role.notified = λ e. let x : Role.stateless ≡ Role.notified = sym s ∙ e in cc in
      let notified : h.notified k0 (g.target m.edge) m.time ≡ true = always now in
      let i : count r (g.op (g.target m.edge) q m.time (ins g (h.done k0) (g.target m.edge) m.time)) ≡ count r (g.op (g.target m.edge) q m.time (two_parts 0)) =
      ap (λ z. count r (g.op (g.target m.edge) q m.time z)) (law.reads_now (g.target m.edge) (λ p. h.done k0 (g.edge_into (g.target m.edge) p)) m.time now) in
      let a = notified_same q r notified in
      let b = notified_more q r notified in
      let c = (makes q).counts r in
      let d : count r (g.op (g.target m.edge) q m.time (λ p. end_to_end (λ k. two_parts k p) 2)) ≡ (0 + count r (g.op (g.target m.edge) q m.time (two_parts 0))) + count r (g.op (g.target m.edge) q m.time (two_parts 1)) =
      law.op_stateless (g.target m.edge) q m.time two_parts 2 s r in
      let f : count r (g.op (g.target m.edge) q m.time (ins g (done_after h k0 m k0) (g.target m.edge) m.time)) ≡ count r (g.op (g.target m.edge) q m.time (λ p. end_to_end (λ k. two_parts k p) 2)) =
      ap (λ z. count r (g.op (g.target m.edge) q m.time z)) (law.reads_now (g.target m.edge) (λ p. done_after h k0 m k0 (g.edge_into (g.target m.edge) p)) m.time now)
      ∙ (op_now g law (g.target m.edge) q m.time (λ p. done_after h k0 m k0 (g.edge_into (g.target m.edge) p) m.time) (λ p. end_to_end (λ k. two_parts k p) 2) now done_split).counts r in
      omega arith

  gain_stateful : g.role (g.target m.edge) ≡ Role.stateful → MakesBy Role.stateful g w k0 m out → (q : ℕ) (r : Record) → made g (history_done h k0 m) (g.target m.edge) q m.time r k0 ≡ made g h (g.target m.edge) q m.time r k0 + count r (out q)
  gain_stateful s makes q r =
      let now : g.role (g.target m.edge) ≢ Role.notified = λ e. let x : Role.stateful ≡ Role.notified = sym s ∙ e in cc in
      let notified : h.notified k0 (g.target m.edge) m.time ≡ true = always now in
      let a = notified_same q r notified in
      let b = notified_more q r notified in
      let before : List Record = g.op (g.target m.edge) q m.time (λ p. w.absorbed k0 (g.target m.edge) p m.time) in
      let c : count r (out q ++ before) ≡ count r (g.op (g.target m.edge) q m.time (λ p. absorbed_then g w k0 m p m.time)) = (makes q).counts r in
      let d : count r (out q ++ before) ≡ count r (out q) + count r before = count-append r (out q) before in
      let e : count r before ≡ count r (g.op (g.target m.edge) q m.time (ins g (h.done k0) (g.target m.edge) m.time)) =
      (op_now g law (g.target m.edge) q m.time (λ p. w.absorbed k0 (g.target m.edge) p m.time) (λ p. h.done k0 (g.edge_into (g.target m.edge) p) m.time) now (λ p lp. ≈-from (keeps.shards k0 (g.target m.edge) p m.time ok.0 lp (inl s)))).counts r
      ∙ sym (ap (λ z. count r (g.op (g.target m.edge) q m.time z)) (law.reads_now (g.target m.edge) (λ p. h.done k0 (g.edge_into (g.target m.edge) p)) m.time now)) in
      let f : count r (g.op (g.target m.edge) q m.time (λ p. absorbed_then g w k0 m p m.time)) ≡ count r (g.op (g.target m.edge) q m.time (ins g (done_after h k0 m k0) (g.target m.edge) m.time)) =
      (op_now g law (g.target m.edge) q m.time (λ p. absorbed_then g w k0 m p m.time) (λ p. done_after h k0 m k0 (g.edge_into (g.target m.edge) p) m.time) now (λ p lp. ≈-from (shard_after p lp (inl s)))).counts r
      ∙ sym (ap (λ z. count r (g.op (g.target m.edge) q m.time z)) (law.reads_now (g.target m.edge) (λ p. done_after h k0 m k0 (g.edge_into (g.target m.edge) p)) m.time now)) in
      omega arith

  gain_grouping : g.role (g.target m.edge) ≡ Role.notified → MakesBy Role.notified g w k0 m out → (q : ℕ) (r : Record) → made g (history_done h k0 m) (g.target m.edge) q m.time r k0 ≡ made g h (g.target m.edge) q m.time r k0 + count r (out q)
  gain_grouping s makes q r =
      let u = not_notified s k0 ok.0 in
      let a : made g h (g.target m.edge) q m.time r k0 ≡ 0 = ap (λ b. cond b (count r (g.op (g.target m.edge) q m.time (ins g (h.done k0) (g.target m.edge) m.time))) 0) u in
      let b : made g (history_done h k0 m) (g.target m.edge) q m.time r k0 ≡ 0 = ap (λ b. cond b (count r (g.op (g.target m.edge) q m.time (ins g (done_after h k0 m k0) (g.target m.edge) m.time))) 0) u in
      let c : count r (out q) ≡ 0 = ap (count r) (makes q) in
      omega arith

  gain : (q : ℕ) (r : Record) → g.role (g.target m.edge) ≢ Role.output → made g (history_done h k0 m) (g.target m.edge) q m.time r k0 ≡ made g h (g.target m.edge) q m.time r k0 + count r (out q)
  gain q r ns = go (g.role (g.target m.edge)) refl ok.2
    where
      go : (role : Role) → g.role (g.target m.edge) ≡ role → MakesBy role g w k0 m out → made g (history_done h k0 m) (g.target m.edge) q m.time r k0 ≡ made g h (g.target m.edge) q m.time r k0 + count r (out q)
      go Role.input e makes = absurd makes
      go Role.stateless e makes = gain_stateless e makes q r
      go Role.stateful e makes = gain_stateful e makes q r
      go Role.notified e makes = gain_grouping e makes q r
      go Role.output e makes = absurd (ns e)

  -- what an output emits
  emits : (v n : ℕ) (r : Record) → IsOutput g v → count r (emitted_after g w (Event.arrival m) v n) ≡ count r (w.emitted v n) + carried (g.edge_into v 0) (at_epoch n) r m
  emits v n r is = go (output_emitted (g.role (g.target m.edge)) w (g.target m.edge) m.time m.records v n) (eqb_tells m.edge (g.edge_into v 0)) (eqb_tells (g.target m.edge) v)
    where
      output_edge : g.target m.edge ≡ v → m.edge ≡ g.edge_into v 0
      output_edge e =
          let p : g.in_port m.edge < g.ports (g.target m.edge) = law.target_ports m.edge good_message.0 in
          let o : g.ports (g.target m.edge) ≡ 1 = ap g.ports e ∙ law.output_port v is in
          let z : g.in_port m.edge ≡ 0 = omega arith in
          sym edge_here ∙ ap₂ g.edge_into e z

      here : (c : Bool) → count r (w.emitted v n ++ cond c m.records []) ≡ count r (w.emitted v n) + cond c (count r m.records) 0
      here true = count-append r (w.emitted v n) m.records
      here false = count-append r (w.emitted v n) []

      nothing : eqb m.edge (g.edge_into v 0) ≡ false → count r (w.emitted v n) ≡ count r (w.emitted v n) + carried (g.edge_into v 0) (at_epoch n) r m
      nothing c = let z : carried (g.edge_into v 0) (at_epoch n) r m ≡ 0 = rw c refl in omega arith

      go : ((g.role (g.target m.edge) ≡ Role.output) × (emitted_by (g.role (g.target m.edge)) w (g.target m.edge) m.time m.records v n ≡ w.emitted v n ++ cond (eqb (g.target m.edge) v) (cond (same_time m.time (at_epoch n)) m.records []) []))
          ⊎ ((g.role (g.target m.edge) ≢ Role.output) × (emitted_by (g.role (g.target m.edge)) w (g.target m.edge) m.time m.records v n ≡ w.emitted v n))
          → ((eqb m.edge (g.edge_into v 0) ≡ true) × (m.edge ≡ g.edge_into v 0)) ⊎ ((eqb m.edge (g.edge_into v 0) ≡ false) × (m.edge ≢ g.edge_into v 0))
          → ((eqb (g.target m.edge) v ≡ true) × (g.target m.edge ≡ v)) ⊎ ((eqb (g.target m.edge) v ≡ false) × (g.target m.edge ≢ v))
          → count r (emitted_after g w (Event.arrival m) v n) ≡ count r (w.emitted v n) + carried (g.edge_into v 0) (at_epoch n) r m
      go (inl (a, b)) (inl (c, d)) (inl (x, y)) = ap (count r) (b ∙ ap (λ z. w.emitted v n ++ cond z (cond (same_time m.time (at_epoch n)) m.records []) []) x) ∙ here (same_time m.time (at_epoch n)) ∙ rw c refl
      go (inl (a, b)) (inl (c, d)) (inr (x, y)) = absurd (y (vertex_of v 0 is.1 d))
      go (inl (a, b)) (inr (c, d)) (inl (x, y)) = absurd (d (output_edge y))
      go (inl (a, b)) (inr (c, d)) (inr (x, y)) = ap (count r) (b ∙ ap (λ z. w.emitted v n ++ cond z (cond (same_time m.time (at_epoch n)) m.records []) []) x ∙ append-nil (w.emitted v n)) ∙ nothing c
      go (inr (a, b)) (inl (c, d)) z = absurd (a (ap g.role (vertex_of v 0 is.1 d) ∙ is.0))
      go (inr (a, b)) (inr (c, d)) z = ap (count r) b ∙ nothing c

  abbrev at_any : List Record
  at_any = end_to_end (λ p. w.absorbed k0 (g.target m.edge) p m.time) (g.ports (g.target m.edge))

  any_is : g.role (g.target m.edge) ≡ Role.notified → at_any ≡ done_at g h k0 (g.target m.edge) m.time
  any_is s = end_same (λ p. w.absorbed k0 (g.target m.edge) p m.time) (λ p. h.done k0 (g.edge_into (g.target m.edge) p) m.time) (g.ports (g.target m.edge)) (λ p lp. keeps.shards k0 (g.target m.edge) p m.time ok.0 lp (inr s))

  -- at another vertex or time, nothing more was processed
  done_same : (k v : ℕ) (t : Time) → (k ≡ k0 → g.target m.edge ≡ v → m.time ≡ t → ⊥) → done_at g (history_done h k0 m) k v t ≡ done_at g h k v t
  done_same k v t never = end_same (λ p. done_after h k0 m k (g.edge_into v p) t) (λ p. h.done k (g.edge_into v p) t) (g.ports v) (λ p lp. go p lp (done_tells h k0 m k (g.edge_into v p) t))
    where
      go : (p : ℕ) → p < g.ports v → DoneHere h k0 m k (g.edge_into v p) t ⊎ DoneElsewhere h k0 m k (g.edge_into v p) t → done_after h k0 m k (g.edge_into v p) t ≡ h.done k (g.edge_into v p) t
      go p lp (inl x) = absurd (never x.worker (vertex_of v p lp x.edge) x.time)
      go p lp (inr x) = x.is

  -- at the message's own vertex and time, something was processed now
  done_some : (v : ℕ) (t : Time) → g.target m.edge ≡ v → m.time ≡ t → some (done_at g (history_done h k0 m) k0 v t) ≡ 1
  done_some v t a b = some_of_port (λ p. done_after h k0 m k0 (g.edge_into v p) t) (g.ports v) (g.in_port m.edge) (subst (λ (x : ℕ). g.in_port m.edge < g.ports x) a (law.target_ports m.edge good_message.0)) (go (done_tells h k0 m k0 (g.edge_into v (g.in_port m.edge)) t))
    where
      go : DoneHere h k0 m k0 (g.edge_into v (g.in_port m.edge)) t ⊎ DoneElsewhere h k0 m k0 (g.edge_into v (g.in_port m.edge)) t → 0 < some (done_after h k0 m k0 (g.edge_into v (g.in_port m.edge)) t)
      go (inl x) = let z : some (done_after h k0 m k0 (g.edge_into v (g.in_port m.edge)) t) ≡ 1 = ap some x.is ∙ some_append (h.done k0 (g.edge_into v (g.in_port m.edge)) t) m.records good_message.1 in omega arith
      go (inr x) = absurd (x.other refl (sym edge_here ∙ ap (λ z. g.edge_into z (g.in_port m.edge)) a) b)

  -- what is asked for matches what was processed
  asked_matches : (v : ℕ) (t : Time) → g.role v ≡ Role.notified → total (one_if_at v t) (asked g w k0 (Event.arrival m)) + some (done_at g h k0 v t) ≡ some (done_at g (history_done h k0 m) k0 v t)
  asked_matches v t s = go (notified_asked (g.role (g.target m.edge)) (g.target m.edge) m.time at_any) (eqb_tells (g.target m.edge) v) (same_time_tells m.time t)
    where
      first_in : (xs : List Record) → g.target m.edge ≡ v → m.time ≡ t → total (one_if_at v t) (asked_first (g.target m.edge) m.time xs) + some xs ≡ 1
      first_in [] a b = rw (a, b, eqb_self v, same_time_self t) refl
      first_in (x ∷ xs) a b = omega arith

      first_out : (xs : List Record) → ((g.target m.edge ≡ v) → m.time ≡ t → ⊥) → total (one_if_at v t) (asked_first (g.target m.edge) m.time xs) ≡ 0
      first_out (x ∷ xs) never = refl
      first_out [] never = at (eqb_tells (g.target m.edge) v) (same_time_tells m.time t)
        where
          at : ((eqb (g.target m.edge) v ≡ true) × (g.target m.edge ≡ v)) ⊎ ((eqb (g.target m.edge) v ≡ false) × (g.target m.edge ≢ v)) → ((same_time m.time t ≡ true) × (m.time ≡ t)) ⊎ ((same_time m.time t ≡ false) × (m.time ≢ t)) → total (one_if_at v t) (asked_first (g.target m.edge) m.time []) ≡ 0
          at (inl (a, b)) (inl (c, d)) = absurd (never b d)
          at (inl (a, b)) (inr (c, d)) = rw (a, c) refl
          at (inr (a, b)) z = rw a refl

      nothing : (g.target m.edge ≡ v → m.time ≡ t → ⊥) → ((g.role (g.target m.edge) ≡ Role.notified) × (asked g w k0 (Event.arrival m) ≡ asked_first (g.target m.edge) m.time at_any)) ⊎ ((g.role (g.target m.edge) ≢ Role.notified) × (asked g w k0 (Event.arrival m) ≡ [])) → total (one_if_at v t) (asked g w k0 (Event.arrival m)) ≡ 0
      nothing never (inl (a, b)) = ap (λ z. total (one_if_at v t) z) b ∙ first_out at_any never
      nothing never (inr (a, b)) = ap (λ z. total (one_if_at v t) z) b

      same : (g.target m.edge ≡ v → m.time ≡ t → ⊥) → ((g.role (g.target m.edge) ≡ Role.notified) × (asked g w k0 (Event.arrival m) ≡ asked_first (g.target m.edge) m.time at_any)) ⊎ ((g.role (g.target m.edge) ≢ Role.notified) × (asked g w k0 (Event.arrival m) ≡ [])) → total (one_if_at v t) (asked g w k0 (Event.arrival m)) + some (done_at g h k0 v t) ≡ some (done_at g (history_done h k0 m) k0 v t)
      same never x =
          let a = nothing never x in
          let b : some (done_at g (history_done h k0 m) k0 v t) ≡ some (done_at g h k0 v t) = ap some (done_same k0 v t (λ e. never)) in
          omega arith

      go : ((g.role (g.target m.edge) ≡ Role.notified) × (asked g w k0 (Event.arrival m) ≡ asked_first (g.target m.edge) m.time at_any)) ⊎ ((g.role (g.target m.edge) ≢ Role.notified) × (asked g w k0 (Event.arrival m) ≡ []))
          → ((eqb (g.target m.edge) v ≡ true) × (g.target m.edge ≡ v)) ⊎ ((eqb (g.target m.edge) v ≡ false) × (g.target m.edge ≢ v)) → ((same_time m.time t ≡ true) × (m.time ≡ t)) ⊎ ((same_time m.time t ≡ false) × (m.time ≢ t))
          → total (one_if_at v t) (asked g w k0 (Event.arrival m)) + some (done_at g h k0 v t) ≡ some (done_at g (history_done h k0 m) k0 v t)
      go x (inr (c, d)) z = same (λ e f. d e) x
      go x (inl (c, d)) (inr (i, j)) = same (λ e f. j f) x
      go (inr (a, b)) (inl (c, d)) (inl (i, j)) = absurd (a (ap g.role d ∙ s))
      go (inl (a, b)) (inl (c, d)) (inl (i, j)) =
          let u : at_any ≡ done_at g h k0 v t = any_is a ∙ ap₂ (λ x y. done_at g h k0 x y) d j in
          let n : total (one_if_at v t) (asked g w k0 (Event.arrival m)) ≡ total (one_if_at v t) (asked_first (g.target m.edge) m.time (done_at g h k0 v t)) = ap (λ z. total (one_if_at v t) z) (b ∙ ap (asked_first (g.target m.edge) m.time) u) in
          let f = first_in (done_at g h k0 v t) d j in
          let y = done_some v t d j in
          omega arith

  asked_good : each (GoodRequest g) (asked g w k0 (Event.arrival m))
  asked_good = go (notified_asked (g.role (g.target m.edge)) (g.target m.edge) m.time at_any)
    where
      first : g.role (g.target m.edge) ≡ Role.notified → (xs : List Record) → each (GoodRequest g) (asked_first (g.target m.edge) m.time xs)
      first s [] = ((s, here), tt)
      first s (x ∷ xs) = tt

      go : ((g.role (g.target m.edge) ≡ Role.notified) × (asked g w k0 (Event.arrival m) ≡ asked_first (g.target m.edge) m.time at_any)) ⊎ ((g.role (g.target m.edge) ≢ Role.notified) × (asked g w k0 (Event.arrival m) ≡ [])) → each (GoodRequest g) (asked g w k0 (Event.arrival m))
      go (inl (a, b)) = subst (each (GoodRequest g)) (sym b) (first a at_any)
      go (inr (a, b)) = subst (each (GoodRequest g)) (sym b) tt

  pub keep_arrival : Kept g (after_step g w (Step.commit k0 (Event.arrival m) out)) (history_done h k0 m)
  keep_arrival =
      record {
        balance = λ e t r le.
            let a = way_sent g law w h keeps k0 (g.target m.edge) (g.act (g.target m.edge) m.time) out e t r ok.0 le in
            let b = keeps.balance e t r le in
            let c : sum_below g.workers (under_way (after_step g w (Step.commit k0 (Event.arrival m) out)) e t r) + carried e t r m ≡ sum_below g.workers (under_way w e t r) + sum_below g.workers (λ k. total (carried e t r) (parcels g k0 (g.target m.edge) (g.act (g.target m.edge) m.time) out k g.edges)) = way_after g law w h keeps k0 (Event.arrival m) out ok e t r in
            let d = done_sum e t r in
            omega arith;
        from_input = λ e t le s. record { counts = λ r. sent_elsewhere g law w h keeps (g.target m.edge) (g.act (g.target m.edge) m.time) out e t r (λ x. law.no_input_target m.edge good_message.0 (sym (ap g.role x) ∙ s)) ∙ (keeps.from_input e t le s).counts r };
        from_vertex = λ e u r le fits s. vertex_after g law w h keeps k0 (Event.arrival m) out ok (history_done h k0 m) counted_once rest gain e u r le fits s;
        notifications = λ k v t lk s. notifications k v t lk s (put_tells w.held k0 Held.nothing k) (put_tells w.requests k0 (w.requests k0 ++ asked g w k0 (Event.arrival m)) k);
        always_notified = keeps.always_notified;
        settled = λ k v t lk s due. settled_after g law w h keeps (Step.commit k0 (Event.arrival m) out) ok k v t lk s (was_due k v t due (put_tells w.held k0 Held.nothing k));
        at_home = λ k e t lk le s. home k e t lk le s (done_tells h k0 m k e t);
        good_mail = λ k lk. each-append (GoodMessage g k) (w.mail k) _ (keeps.good_mail k lk) (each_more (Parcel g (g.target m.edge) (g.act (g.target m.edge) m.time) k) (GoodMessage g k) _ (λ m p. p.good) (parcels_good g law k0 (g.target m.edge) (g.act (g.target m.edge) m.time) out k g.edges (fits_sent g law (g.target m.edge) m.time here) (omega arith)));
        good_requests = λ k lk. requests k lk (put_tells w.requests k0 (w.requests k0 ++ asked g w k0 (Event.arrival m)) k);
        good_held = λ k lk. good k lk (put_tells w.held k0 Held.nothing k);
        shards = λ k v p t lk lp s. shards_after k v p t lk lp s;
        output = λ v n r is. let a = emits v n r is in let b = keeps.output v n r is in let c = done_sum (g.edge_into v 0) (at_epoch n) r in omega arith;
      }
    where
      notifications : (k v : ℕ) (t : Time) → k < g.workers → g.role v ≡ Role.notified → ((k ≡ k0) × (put w.held k0 Held.nothing k ≡ Held.nothing)) ⊎ ((k ≢ k0) × (put w.held k0 Held.nothing k ≡ w.held k))
          → ((k ≡ k0) × (put w.requests k0 (w.requests k0 ++ asked g w k0 (Event.arrival m)) k ≡ w.requests k0 ++ asked g w k0 (Event.arrival m))) ⊎ ((k ≢ k0) × (put w.requests k0 (w.requests k0 ++ asked g w k0 (Event.arrival m)) k ≡ w.requests k))
          → open_requests (after_step g w (Step.commit k0 (Event.arrival m) out)) v t k + one_if (h.notified k v t) ≡ some (done_at g (history_done h k0 m) k v t)
      notifications k v t lk s (inl (a, b)) (inl (c, d)) =
          let i = keeps.notifications k v t lk s in
          let j : held_notifications v t (w.held k) ≡ 0 = ap (held_notifications v t) (ap w.held a ∙ ok.1) in
          let l : held_notifications v t (put w.held k0 Held.nothing k) ≡ 0 = ap (held_notifications v t) b in
          let n : total (one_if_at v t) (put w.requests k0 (w.requests k0 ++ asked g w k0 (Event.arrival m)) k) ≡ total (one_if_at v t) (w.requests k0) + total (one_if_at v t) (asked g w k0 (Event.arrival m)) = ap (λ z. total (one_if_at v t) z) d ∙ total-append (one_if_at v t) (w.requests k0) (asked g w k0 (Event.arrival m)) in
          let q : total (one_if_at v t) (w.requests k) ≡ total (one_if_at v t) (w.requests k0) = ap (λ z. total (one_if_at v t) (w.requests z)) a in
          let f = asked_matches v t s in
          let y : some (done_at g (history_done h k0 m) k v t) ≡ some (done_at g (history_done h k0 m) k0 v t) = ap (λ z. some (done_at g (history_done h k0 m) z v t)) a in
          let z : some (done_at g h k v t) ≡ some (done_at g h k0 v t) = ap (λ z. some (done_at g h z v t)) a in
          omega arith
      notifications k v t lk s (inl (a, b)) (inr (c, d)) = absurd (c a)
      notifications k v t lk s (inr (a, b)) (inl (c, d)) = absurd (a c)
      notifications k v t lk s (inr (a, b)) (inr (c, d)) =
          let i = keeps.notifications k v t lk s in
          let l : held_notifications v t (put w.held k0 Held.nothing k) ≡ held_notifications v t (w.held k) = ap (held_notifications v t) b in
          let n : total (one_if_at v t) (put w.requests k0 (w.requests k0 ++ asked g w k0 (Event.arrival m)) k) ≡ total (one_if_at v t) (w.requests k) = ap (λ z. total (one_if_at v t) z) d in
          let y : some (done_at g (history_done h k0 m) k v t) ≡ some (done_at g h k v t) = ap some (done_same k v t (λ e _ _. a e)) in
          omega arith

      was_due : (k v : ℕ) (t : Time) → Due (after_step g w (Step.commit k0 (Event.arrival m) out)) (history_done h k0 m) k v t → ((k ≡ k0) × (put w.held k0 Held.nothing k ≡ Held.nothing)) ⊎ ((k ≢ k0) × (put w.held k0 Held.nothing k ≡ w.held k)) → Due w h k v t
      was_due k v t (inl notified) z = inl notified
      was_due k v t (inr due) (inl (x, y)) = absurd (let a : held_notifications v t (put w.held k0 Held.nothing k) ≡ 0 = ap (held_notifications v t) y in omega arith)
      was_due k v t (inr due) (inr (x, y)) = let a : held_notifications v t (put w.held k0 Held.nothing k) ≡ held_notifications v t (w.held k) = ap (held_notifications v t) y in inr (omega arith)

      home : (k e : ℕ) (t : Time) → k < g.workers → e < g.edges → (g.role (g.target e) ≡ Role.stateful) ⊎ (g.role (g.target e) ≡ Role.notified) → DoneHere h k0 m k e t ⊎ DoneElsewhere h k0 m k e t → AtHome g k e (done_after h k0 m k e t)
      home k e t lk le s (inr x) = subst (AtHome g k e) (sym x.is) (keeps.at_home k e t lk le s)
      home k e t lk le s (inl x) = subst (AtHome g k e) (sym x.is) (λ r l. either r (count_either r (h.done k e t) m.records l))
        where
          at_k0 : AtHome g k0 m.edge m.records
          at_k0 = good_message.2 (subst (λ (z : ℕ). (g.role (g.target z) ≡ Role.stateful) ⊎ (g.role (g.target z) ≡ Role.notified)) (sym x.edge) s)

          either : (r : Record) → (0 < count r (h.done k e t)) ⊎ (0 < count r m.records) → (sender : ℕ) → g.home sender e r ≡ k
          either r (inl l) = keeps.at_home k e t lk le s r l
          either r (inr l) = λ sender. ap (λ z. g.home sender z r) (sym x.edge) ∙ at_k0 r l sender ∙ sym x.worker

      requests : (k : ℕ) → k < g.workers → ((k ≡ k0) × (put w.requests k0 (w.requests k0 ++ asked g w k0 (Event.arrival m)) k ≡ w.requests k0 ++ asked g w k0 (Event.arrival m))) ⊎ ((k ≢ k0) × (put w.requests k0 (w.requests k0 ++ asked g w k0 (Event.arrival m)) k ≡ w.requests k)) → each (GoodRequest g) (put w.requests k0 (w.requests k0 ++ asked g w k0 (Event.arrival m)) k)
      requests k lk (inl (a, b)) = subst (each (GoodRequest g)) (sym b) (each-append (GoodRequest g) (w.requests k0) (asked g w k0 (Event.arrival m)) (keeps.good_requests k0 ok.0) asked_good)
      requests k lk (inr (a, b)) = subst (each (GoodRequest g)) (sym b) (keeps.good_requests k lk)

      good : (k : ℕ) → k < g.workers → ((k ≡ k0) × (put w.held k0 Held.nothing k ≡ Held.nothing)) ⊎ ((k ≢ k0) × (put w.held k0 Held.nothing k ≡ w.held k)) → GoodHeld g k (put w.held k0 Held.nothing k)
      good k lk (inl (x, y)) = subst (GoodHeld g k) (sym y) tt
      good k lk (inr (x, y)) = subst (GoodHeld g k) (sym y) (keeps.good_held k lk)
