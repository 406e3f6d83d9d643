-- A commit of a notification keeps the facts that hold in every reached world.
use Rattle.std.proofs.Common.{◌≡◌, ◌≢◌, ◌≤◌, ◌<◌, ℕ, ◌+◌, Bool, true, false, cond, eqb, List, [], ◌∷◌, ◌++◌, ◌⊎◌, inl, inr, refl, sym, ap, ◌∙◌, subst, arith, append-nil}
use Rattle.std.proofs.lemmas.Bool.Decides.{eqb_tells}
use Rattle.semantics.specs.Multiset.{total, Record, count, one_if}
use Rattle.semantics.specs.Could.{at_vertex}
use Rattle.semantics.specs.Time.{Time, same_time}
use Rattle.semantics.proofs.MultisetSums.{same-refl, ≈-from}
use Rattle.semantics.specs.Kinds.{Role}
use Rattle.machine.specs.Network.{Network}
use Rattle.machine.specs.World.{Request, Event, Held, World}
use Rattle.machine.specs.Active.{sum_below}
use Rattle.machine.specs.Sending.{parcels}
use Rattle.machine.specs.Step.{Step, Allowed, after_step, put}
use Rattle.machine.proofs.NetFlow.{ins}
use Rattle.machine.proofs.Kept.{done_at, each}
use Rattle.machine.proofs.Commits.{once, way_after, vertex_after}
use Rattle.machine.proofs.Counting.{eqb_self, below_one}
use Rattle.machine.proofs.Kept.{done_at, History, carried, under_way, one_if_at, held_notifications, open_requests, some, made, Due, Kept, GoodMessage, GoodRequest, GoodHeld}
use Rattle.machine.proofs.Ports.{port_of_some}
use Rattle.machine.proofs.Laws.{IsNetwork, times_in}
use Rattle.machine.proofs.NetFlow.{HasFlows}
use Rattle.machine.proofs.Places.{same_time_tells, same_time_self}
use Rattle.machine.proofs.Progress.{put_tells, held_good}
use Rattle.machine.proofs.Sending.{Parcel, parcels_good, fits_sent, each-append, each_more}
use Rattle.machine.proofs.Steps.{good_of, settled_after, way_sent, sent_elsewhere}

-- the notification was processed
abbrev pub notified_after : History → ℕ → Request → ℕ → ℕ → Time → Bool
notified_after h k0 n k v t = cond (eqb k k0) (cond (eqb n.vertex v) (cond (same_time n.time t) true (h.notified k v t)) (h.notified k v t)) (h.notified k v t)

abbrev pub history_notified : History → ℕ → Request → History
history_notified h k0 n = record { done = h.done; notified = notified_after h k0 n }

-- it is this notification, or nothing has changed
pub notified_tells : (h : History) (k0 : ℕ) (n : Request) (k v : ℕ) (t : Time) →
    ((k ≡ k0) × (n.vertex ≡ v) × (n.time ≡ t) × (notified_after h k0 n k v t ≡ true) × (one_if_at v t n ≡ 1))
    ⊎ (((k ≢ k0) ⊎ ((v ≢ n.vertex) ⊎ (t ≢ n.time))) × (notified_after h k0 n k v t ≡ h.notified k v t) × ((k ≡ k0) → one_if_at v t n ≡ 0))
notified_tells h k0 n k v t = go (eqb_tells k k0) (eqb_tells n.vertex v) (same_time_tells n.time t)
  where
    go : ((eqb k k0 ≡ true) × (k ≡ k0)) ⊎ ((eqb k k0 ≡ false) × (k ≢ k0)) → ((eqb n.vertex v ≡ true) × (n.vertex ≡ v)) ⊎ ((eqb n.vertex v ≡ false) × (n.vertex ≢ v)) → ((same_time n.time t ≡ true) × (n.time ≡ t)) ⊎ ((same_time n.time t ≡ false) × (n.time ≢ t)) →
        ((k ≡ k0) × (n.vertex ≡ v) × (n.time ≡ t) × (notified_after h k0 n k v t ≡ true) × (one_if_at v t n ≡ 1))
        ⊎ (((k ≢ k0) ⊎ ((v ≢ n.vertex) ⊎ (t ≢ n.time))) × (notified_after h k0 n k v t ≡ h.notified k v t) × ((k ≡ k0) → one_if_at v t n ≡ 0))
    go (inl (a, b)) (inl (c, d)) (inl (e, f)) = inl (b, d, f, rw (a, c, e) refl, rw (c, e) refl)
    go (inl (a, b)) (inl (c, d)) (inr (e, f)) = inr (inr (inr (λ x. f (sym x))), rw (a, c, e) refl, λ _. rw (c, e) refl)
    go (inl (a, b)) (inr (c, d)) s = inr (inr (inl (λ x. d (sym x))), rw (a, c) refl, λ _. rw c refl)
    go (inr (a, b)) r s = inr (inl b, rw a refl, λ x. absurd (b x))

some_le : (xs : List Record) → some xs ≤ 1
some_le [] = omega arith
some_le (x ∷ xs) = omega arith

-- a list that isn't empty has a record
pub some_row : (xs : List Record) → 0 < some xs → (r : Record) × (0 < count r xs)
some_row [] l = absurd (omega arith)
some_row (x ∷ xs) l = (x, rw (same-refl x) (omega arith))

module _ (g : Network) (law : IsNetwork g) (w : World) (h : History) (keeps : Kept g w h) (flows : HasFlows g) (k0 : ℕ) (n : Request) (out : ℕ → List Record) (ok : Allowed g w (Step.commit k0 (Event.notification n) out)) where
  group : g.role n.vertex ≡ Role.notified
  group = let x : GoodRequest g n = held_good g law w (good_of g law w h keeps) k0 (Event.notification n) ok.0 ok.1 in x.0

  here : g.IsPointstamp (at_vertex n.vertex n.time)
  here = let x : GoodRequest g n = held_good g law w (good_of g law w h keeps) k0 (Event.notification n) ok.0 ok.1 in x.1

  -- the worker had asked, and was not notified yet
  held_here : held_notifications n.vertex n.time (w.held k0) ≡ 1
  held_here = ap (held_notifications n.vertex n.time) ok.1 ∙ rw (eqb_self n.vertex, same_time_self n.time) refl

  not_notified : h.notified k0 n.vertex n.time ≡ false
  not_notified = go (h.notified k0 n.vertex n.time) refl
    where
      go : (b : Bool) → h.notified k0 n.vertex n.time ≡ b → h.notified k0 n.vertex n.time ≡ false
      go false e = e
      go true e =
          let a = keeps.notifications k0 n.vertex n.time ok.0 group in
          let b : one_if (h.notified k0 n.vertex n.time) ≡ 1 = ap one_if e in
          let c = some_le (done_at g h k0 n.vertex n.time) in
          let d = held_here in
          absurd (omega arith)

  counted_once : times_in n.time (g.times_before n.vertex (g.act n.vertex n.time)) ≡ 1
  counted_once =
      let a = keeps.notifications k0 n.vertex n.time ok.0 group in
      let d = held_here in
      let p = port_of_some (λ p. h.done k0 (g.edge_into n.vertex p) n.time) (g.ports n.vertex) (omega arith) in
      let e : ℕ = g.edge_into n.vertex p.0 in
      let is_edge : e < g.edges = law.into_is_edge n.vertex p.0 p.1 in
      let r = some_row (h.done k0 e n.time) p.2 in
      let b = keeps.balance e n.time r.0 is_edge in
      let c : count r.0 (h.done k0 e n.time) ≤ sum_below g.workers (λ k. count r.0 (h.done k e n.time)) = below_one g.workers k0 (λ k. count r.0 (h.done k e n.time)) ok.0 in
      let l : 0 < count r.0 (h.done k0 e n.time) = r.1 in
      subst (λ (v : ℕ). times_in n.time (g.times_before v (g.act v n.time)) ≡ 1) (law.target_into n.vertex p.0 p.1) (once g law w h keeps flows e n.time r.0 is_edge (law.fits_into n.vertex p.0 n.time p.1 here) (omega arith))

  rest : (k v q : ℕ) (t : Time) (r : Record) → ((k ≢ k0) ⊎ ((v ≢ n.vertex) ⊎ (t ≢ n.time))) → made g (history_notified h k0 n) v q t r k ≡ made g h v q t r k
  rest k v q t r ne = go (notified_tells h k0 n k v t) ne
    where
      go : ((k ≡ k0) × (n.vertex ≡ v) × (n.time ≡ t) × (notified_after h k0 n k v t ≡ true) × (one_if_at v t n ≡ 1))
          ⊎ (((k ≢ k0) ⊎ ((v ≢ n.vertex) ⊎ (t ≢ n.time))) × (notified_after h k0 n k v t ≡ h.notified k v t) × ((k ≡ k0) → one_if_at v t n ≡ 0)) → ((k ≢ k0) ⊎ ((v ≢ n.vertex) ⊎ (t ≢ n.time))) → made g (history_notified h k0 n) v q t r k ≡ made g h v q t r k
      go (inr x) ne = ap (λ b. cond b (count r (g.op v q t (ins g (h.done k) v t))) 0) x.1
      go (inl x) (inl a) = absurd (a x.0)
      go (inl x) (inr (inl a)) = absurd (a (sym x.1))
      go (inl x) (inr (inr a)) = absurd (a (sym x.2))

  told_here : notified_after h k0 n k0 n.vertex n.time ≡ true
  told_here = rw (eqb_self k0, eqb_self n.vertex, same_time_self n.time) refl

  gain : (q : ℕ) (r : Record) → g.role n.vertex ≢ Role.output → made g (history_notified h k0 n) n.vertex q n.time r k0 ≡ made g h n.vertex q n.time r k0 + count r (out q)
  gain q r ns =
      let a : made g (history_notified h k0 n) n.vertex q n.time r k0 ≡ count r (g.op n.vertex q n.time (ins g (h.done k0) n.vertex n.time)) = ap (λ b. cond b (count r (g.op n.vertex q n.time (ins g (h.done k0) n.vertex n.time))) 0) told_here in
      let b : made g h n.vertex q n.time r k0 ≡ 0 = ap (λ b. cond b (count r (g.op n.vertex q n.time (ins g (h.done k0) n.vertex n.time))) 0) not_notified in
      let c : count r (out q) ≡ count r (g.op n.vertex q n.time (g.reads n.vertex (w.absorbed k0 n.vertex) n.time)) = (ok.2 q).counts r in
      let d : count r (g.op n.vertex q n.time (g.reads n.vertex (w.absorbed k0 n.vertex) n.time)) ≡ count r (g.op n.vertex q n.time (ins g (h.done k0) n.vertex n.time)) =
      (law.op_same n.vertex q n.time (w.absorbed k0 n.vertex) (λ p. h.done k0 (g.edge_into n.vertex p)) (λ p s lp rd. ≈-from (keeps.shards k0 n.vertex p s ok.0 lp (inr group)))).counts r in
      omega arith

  pub keep_notification : Kept g (after_step g w (Step.commit k0 (Event.notification n) out)) (history_notified h k0 n)
  keep_notification =
      record {
        balance = λ e t r le.
            let a = way_sent g law w h keeps k0 n.vertex (g.act n.vertex n.time) out e t r ok.0 le in
            let b = keeps.balance e t r le in
            let c : sum_below g.workers (under_way (after_step g w (Step.commit k0 (Event.notification n) out)) e t r) + 0 ≡ sum_below g.workers (under_way w e t r) + sum_below g.workers (λ k. total (carried e t r) (parcels g k0 n.vertex (g.act n.vertex n.time) out k g.edges)) = way_after g law w h keeps k0 (Event.notification n) out ok e t r in
            omega arith;
        from_input = λ e t le s. record { counts = λ r. sent_elsewhere g law w h keeps n.vertex (g.act n.vertex n.time) out e t r (λ x. let y : Role.input ≡ Role.notified = sym s ∙ ap g.role x ∙ group in absurd cc) ∙ (keeps.from_input e t le s).counts r };
        from_vertex = λ e u r le fits s. vertex_after g law w h keeps k0 (Event.notification n) out ok (history_notified h k0 n) counted_once rest gain e u r le fits s;
        notifications = λ k v t lk s. notifications k v t lk s (notified_tells h k0 n k v t) (put_tells w.held k0 Held.nothing k) (put_tells w.requests k0 (w.requests k0 ++ []) k);
        always_notified = λ k v t s. always k v t s (notified_tells h k0 n k v t);
        settled = λ k v t lk s due. settled_after g law w h keeps (Step.commit k0 (Event.notification n) out) ok k v t lk s (was_due k v t due (notified_tells h k0 n k v t) (put_tells w.held k0 Held.nothing k));
        at_home = keeps.at_home;
        good_mail = λ k lk. each-append (GoodMessage g k) (w.mail k) _ (keeps.good_mail k lk) (each_more (Parcel g n.vertex (g.act n.vertex n.time) k) (GoodMessage g k) _ (λ m p. p.good) (parcels_good g law k0 n.vertex (g.act n.vertex n.time) out k g.edges (fits_sent g law n.vertex n.time here) (omega arith)));
        good_requests = λ k lk. requests k lk (put_tells w.requests k0 (w.requests k0 ++ []) k);
        good_held = λ k lk. good k lk (put_tells w.held k0 Held.nothing k);
        shards = keeps.shards;
        output = keeps.output;
      }
    where
      Notified : ℕ → ℕ → Time → Type 0
      Notified k v t = ((k ≡ k0) × (n.vertex ≡ v) × (n.time ≡ t) × (notified_after h k0 n k v t ≡ true) × (one_if_at v t n ≡ 1))
          ⊎ (((k ≢ k0) ⊎ ((v ≢ n.vertex) ⊎ (t ≢ n.time))) × (notified_after h k0 n k v t ≡ h.notified k v t) × ((k ≡ k0) → one_if_at v t n ≡ 0))

      always : (k v : ℕ) (t : Time) → g.role v ≢ Role.notified → Notified k v t → notified_after h k0 n k v t ≡ true
      always k v t s (inl x) = x.3
      always k v t s (inr x) = x.1 ∙ keeps.always_notified k v t s

      was_due : (k v : ℕ) (t : Time) → Due (after_step g w (Step.commit k0 (Event.notification n) out)) (history_notified h k0 n) k v t → Notified k v t → ((k ≡ k0) × (put w.held k0 Held.nothing k ≡ Held.nothing)) ⊎ ((k ≢ k0) × (put w.held k0 Held.nothing k ≡ w.held k)) → Due w h k v t
      was_due k v t (inl notified) (inr x) z = inl (sym x.1 ∙ notified)
      was_due k v t (inl notified) (inl x) z =
          let a : held_notifications v t (w.held k) ≡ held_notifications v t (Held.holding false (Event.notification n)) = ap (held_notifications v t) (ap w.held x.0 ∙ ok.1) in
          let b : one_if_at v t n ≡ 1 = x.4 in
          inr (omega arith)
      was_due k v t (inr due) z (inl (x, y)) = absurd (let a : held_notifications v t (put w.held k0 Held.nothing k) ≡ 0 = ap (held_notifications v t) y in omega arith)
      was_due k v t (inr due) z (inr (x, y)) = let a : held_notifications v t (put w.held k0 Held.nothing k) ≡ held_notifications v t (w.held k) = ap (held_notifications v t) y in inr (omega arith)

      asked_none : (k : ℕ) → ((k ≡ k0) × (put w.requests k0 (w.requests k0 ++ []) k ≡ w.requests k0 ++ [])) ⊎ ((k ≢ k0) × (put w.requests k0 (w.requests k0 ++ []) k ≡ w.requests k)) → put w.requests k0 (w.requests k0 ++ []) k ≡ w.requests k
      asked_none k (inl (x, y)) = y ∙ append-nil (w.requests k0) ∙ sym (ap w.requests x)
      asked_none k (inr (x, y)) = y

      notifications : (k v : ℕ) (t : Time) → k < g.workers → g.role v ≡ Role.notified → Notified k v t → ((k ≡ k0) × (put w.held k0 Held.nothing k ≡ Held.nothing)) ⊎ ((k ≢ k0) × (put w.held k0 Held.nothing k ≡ w.held k))
          → ((k ≡ k0) × (put w.requests k0 (w.requests k0 ++ []) k ≡ w.requests k0 ++ [])) ⊎ ((k ≢ k0) × (put w.requests k0 (w.requests k0 ++ []) k ≡ w.requests k))
          → open_requests (after_step g w (Step.commit k0 (Event.notification n) out)) v t k + one_if (notified_after h k0 n k v t) ≡ some (done_at g h k v t)
      notifications k v t lk s (inl x) (inl (c, d)) r =
          let a = keeps.notifications k v t lk s in
          let b : held_notifications v t (w.held k) ≡ one_if_at v t n = ap (held_notifications v t) (ap w.held c ∙ ok.1) in
          let f : held_notifications v t (put w.held k0 Held.nothing k) ≡ 0 = ap (held_notifications v t) d in
          let i : total (one_if_at v t) (put w.requests k0 (w.requests k0 ++ []) k) ≡ total (one_if_at v t) (w.requests k) = ap (λ z. total (one_if_at v t) z) (asked_none k r) in
          let j : one_if (notified_after h k0 n k v t) ≡ 1 = ap one_if x.3 in
          let y : one_if_at v t n ≡ 1 = x.4 in
          let l = some_le (done_at g h k v t) in
          omega arith
      notifications k v t lk s (inl x) (inr (c, d)) r = absurd (c x.0)
      notifications k v t lk s (inr x) (inl (c, d)) r =
          let a = keeps.notifications k v t lk s in
          let b : held_notifications v t (w.held k) ≡ one_if_at v t n = ap (held_notifications v t) (ap w.held c ∙ ok.1) in
          let f : held_notifications v t (put w.held k0 Held.nothing k) ≡ 0 = ap (held_notifications v t) d in
          let i : total (one_if_at v t) (put w.requests k0 (w.requests k0 ++ []) k) ≡ total (one_if_at v t) (w.requests k) = ap (λ z. total (one_if_at v t) z) (asked_none k r) in
          let j : one_if (notified_after h k0 n k v t) ≡ one_if (h.notified k v t) = ap one_if x.1 in
          let y : one_if_at v t n ≡ 0 = x.2 c in
          omega arith
      notifications k v t lk s (inr x) (inr (c, d)) r =
          let a = keeps.notifications k v t lk s in
          let f : held_notifications v t (put w.held k0 Held.nothing k) ≡ held_notifications v t (w.held k) = ap (held_notifications v t) d in
          let i : total (one_if_at v t) (put w.requests k0 (w.requests k0 ++ []) k) ≡ total (one_if_at v t) (w.requests k) = ap (λ z. total (one_if_at v t) z) (asked_none k r) in
          let j : one_if (notified_after h k0 n k v t) ≡ one_if (h.notified k v t) = ap one_if x.1 in
          omega arith

      requests : (k : ℕ) → k < g.workers → ((k ≡ k0) × (put w.requests k0 (w.requests k0 ++ []) k ≡ w.requests k0 ++ [])) ⊎ ((k ≢ k0) × (put w.requests k0 (w.requests k0 ++ []) k ≡ w.requests k)) → each (GoodRequest g) (put w.requests k0 (w.requests k0 ++ []) k)
      requests k lk r = subst (each (GoodRequest g)) (sym (asked_none k r)) (keeps.good_requests k lk)

      good : (k : ℕ) → k < g.workers → ((k ≡ k0) × (put w.held k0 Held.nothing k ≡ Held.nothing)) ⊎ ((k ≢ k0) × (put w.held k0 Held.nothing k ≡ w.held k)) → GoodHeld g k (put w.held k0 Held.nothing k)
      good k lk (inl (x, y)) = subst (GoodHeld g k) (sym y) tt
      good k lk (inr (x, y)) = subst (GoodHeld g k) (sym y) (keeps.good_held k lk)
