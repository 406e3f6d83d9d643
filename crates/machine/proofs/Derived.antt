-- What the kept facts imply at a world: the parts of the headline.
use Rattle.std.proofs.Common.{◌≡◌, ◌≢◌, ◌≤◌, ◌<◌, ℕ, ◌+◌, Bool, true, false, eqb, List, [], ◌∷◌, ◌⊎◌, inl, inr, refl, sym, ap, ◌∙◌, subst, arith, slice_get, Some}
use Rattle.std.proofs.lemmas.Bool.Decides.{eqb_tells}
use mathlib.Core.WellFounded.{Acc}
use Rattle.semantics.specs.Multiset.{total, Record, count, ◌≈◌, IsPartOf, end_to_end, one_if}
use Rattle.semantics.specs.Could.{Pointstamp, on_edge, at_vertex}
use Rattle.semantics.specs.Time.{Time, same_time, at_epoch}
use Rattle.semantics.specs.Kinds.{Role}
use Rattle.machine.specs.Network.{Network}
use Rattle.machine.specs.World.{Message, Request, Event, Held, World}
use Rattle.machine.specs.Active.{sum_below, IsActive, message_pointstamp, request_pointstamp}
use Rattle.machine.specs.Frontier.{NoneBefore}
use Rattle.machine.proofs.NetFlow.{ins}
use Rattle.machine.proofs.Counting.{below_same, below_more, below_zero, counted-end_to_end}
use Rattle.machine.proofs.Kept.{done_at, History, carried, carried_by, held_records, under_way, one_if_at, one_if_notifies, held_notifications, open_requests, some, made, Due, Kept, Headline}
use Rattle.machine.proofs.Ports.{each_empty}
use Rattle.machine.proofs.Laws.{Lower, IsRead, times_in, IsNetwork, IsOutput, CutByKey}
use Rattle.machine.proofs.NetFlow.{IsNetFlow}
use Rattle.machine.proofs.Places.{same_time_tells, total_zero, total_times, total_times_more, is_input_role, is_notified_role, inner_kind, edge_not_vertex, some_below}
use Rattle.machine.proofs.Rank.{could_back, lower, read_fits, read_could, edge_could, lower_read}

-- a message of this edge and time is there, or it carries nothing there
pub carried_place : (e : ℕ) (t : Time) (r : Record) (m : Message) → (carried e t r m ≡ 0) ⊎ (message_pointstamp m ≡ on_edge e t)
carried_place e t r m = go (eqb_tells m.edge e) (same_time_tells m.time t)
  where
    go : ((eqb m.edge e ≡ true) × (m.edge ≡ e)) ⊎ ((eqb m.edge e ≡ false) × (m.edge ≢ e)) → ((same_time m.time t ≡ true) × (m.time ≡ t)) ⊎ ((same_time m.time t ≡ false) × (m.time ≢ t)) → (carried e t r m ≡ 0) ⊎ (message_pointstamp m ≡ on_edge e t)
    go (inl (a, b)) (inl (c, d)) = inr (λ i. on_edge (b i) (d i))
    go (inl (a, b)) (inr (c, d)) = inl (rw (a, c) refl)
    go (inr (a, b)) s = inl (rw a refl)

pub request_place : (v : ℕ) (t : Time) (n : Request) → (one_if_at v t n ≡ 0) ⊎ (request_pointstamp n ≡ at_vertex v t)
request_place v t n = go (eqb_tells n.vertex v) (same_time_tells n.time t)
  where
    go : ((eqb n.vertex v ≡ true) × (n.vertex ≡ v)) ⊎ ((eqb n.vertex v ≡ false) × (n.vertex ≢ v)) → ((same_time n.time t ≡ true) × (n.time ≡ t)) ⊎ ((same_time n.time t ≡ false) × (n.time ≢ t)) → (one_if_at v t n ≡ 0) ⊎ (request_pointstamp n ≡ at_vertex v t)
    go (inl (a, b)) (inl (c, d)) = inr (λ i. at_vertex (b i) (d i))
    go (inl (a, b)) (inr (c, d)) = inl (rw (a, c) refl)
    go (inr (a, b)) s = inl (rw a refl)

module _ (g : Network) (law : IsNetwork g) (w : World) where
  -- nothing is under way on an edge if no active pointstamp could result there
  pub nothing_under_way : (e : ℕ) (t : Time) (r : Record) → g.IsPointstamp (on_edge e t) → NoneBefore g w (on_edge e t) → sum_below g.workers (under_way w e t r) ≡ 0
  nothing_under_way e t r fits none = below_zero g.workers (under_way w e t r) (λ k l. worker k l)
    where
      not_here : (p : Pointstamp) → IsActive g w p → p ≡ on_edge e t → ⊥
      not_here p a s = none p a (subst (λ (q : Pointstamp). g.Could q (on_edge e t)) (sym s) (law.could_self (on_edge e t) fits))

      message : (k at : ℕ) (m : Message) → k < g.workers → slice_get (w.mail k) at ≡ Some m → (carried e t r m ≡ 0) ⊎ (message_pointstamp m ≡ on_edge e t) → carried e t r m ≡ 0
      message k at m l s (inl z) = z
      message k at m l s (inr p) = absurd (not_here (message_pointstamp m) (IsActive.of_mail k at m l s) p)

      event : (k : ℕ) (up : Bool) (x : Event) → k < g.workers → w.held k ≡ Held.holding up x → carried_by e t r x ≡ 0
      event k up (Event.notification n) l s = refl
      event k up (Event.arrival m) l s = held (carried_place e t r m)
        where
          held : (carried e t r m ≡ 0) ⊎ (message_pointstamp m ≡ on_edge e t) → carried e t r m ≡ 0
          held (inl z) = z
          held (inr p) = absurd (not_here (message_pointstamp m) (IsActive.of_held k up (Event.arrival m) l s) p)

      hand : (k : ℕ) (x : Held) → k < g.workers → w.held k ≡ x → held_records e t r x ≡ 0
      hand k Held.nothing l s = refl
      hand k (Held.holding up x) l s = event k up x l s

      worker : (k : ℕ) → k < g.workers → under_way w e t r k ≡ 0
      worker k l =
          let a : total (carried e t r) (w.mail k) ≡ 0 = total_zero (w.mail k) (carried e t r) (λ at m s. message k at m l s (carried_place e t r m)) in
          let b : held_records e t r (w.held k) ≡ 0 = hand k (w.held k) l refl in
          omega arith

  -- no notification of a vertex and time is waited for if no active pointstamp could result there
  pub nothing_open : (v : ℕ) (t : Time) → ((p : Pointstamp) → IsActive g w p → p ≡ at_vertex v t → ⊥) → (k : ℕ) → k < g.workers → open_requests w v t k ≡ 0
  nothing_open v t not_here k l =
      let a : total (one_if_at v t) (w.requests k) ≡ 0 = total_zero (w.requests k) (one_if_at v t) (λ at n s. request at n s (request_place v t n)) in
      let b : held_notifications v t (w.held k) ≡ 0 = hand (w.held k) refl in
      omega arith
    where
      request : (at : ℕ) (n : Request) → slice_get (w.requests k) at ≡ Some n → (one_if_at v t n ≡ 0) ⊎ (request_pointstamp n ≡ at_vertex v t) → one_if_at v t n ≡ 0
      request at n s (inl z) = z
      request at n s (inr p) = absurd (not_here (request_pointstamp n) (IsActive.of_request k at n l s) p)

      event : (up : Bool) (x : Event) → w.held k ≡ Held.holding up x → one_if_notifies v t x ≡ 0
      event up (Event.arrival m) s = refl
      event up (Event.notification n) s = held (request_place v t n)
        where
          held : (one_if_at v t n ≡ 0) ⊎ (request_pointstamp n ≡ at_vertex v t) → one_if_at v t n ≡ 0
          held (inl z) = z
          held (inr p) = absurd (not_here (request_pointstamp n) (IsActive.of_held k up (Event.notification n) l s) p)

      hand : (x : Held) → w.held k ≡ x → held_notifications v t x ≡ 0
      hand Held.nothing s = refl
      hand (Held.holding up x) s = event up x s

module _ (g : Network) (law : IsNetwork g) (w : World) (h : History) (keeps : Kept g w h) where
  -- what all workers have processed
  abbrev pub all_done : ℕ → Time → List Record
  all_done e t = end_to_end (λ k. h.done k e t) g.workers

  -- what the workers' parts have made is `op` of their sum, if each part of a group that absorbed something has had its notification
  pub parts_make : (v q : ℕ) (t : Time) (r : Record) → g.role v ≢ Role.input → g.role v ≢ Role.output
      → sum_below g.workers (λ k. count r (g.op v q t (ins g (h.done k) v t))) ≡ count r (g.op v q t (ins g all_done v t))
  parts_make v q t r a b = go (inner_kind (g.role v) a b)
    where
      cut : (g.role v ≡ Role.stateful) ⊎ (g.role v ≡ Role.notified) → (s : Time) → CutByKey g v (λ k p. h.done k (g.edge_into v p) s)
      cut s u k p lk lp = keeps.at_home k (g.edge_into v p) u lk (law.into_is_edge v p lp) (subst (λ (x : ℕ). (g.role x ≡ Role.stateful) ⊎ (g.role x ≡ Role.notified)) (sym (law.target_into v p lp)) s)

      go : (g.role v ≡ Role.stateless) ⊎ ((g.role v ≡ Role.stateful) ⊎ (g.role v ≡ Role.notified)) → sum_below g.workers (λ k. count r (g.op v q t (ins g (h.done k) v t))) ≡ count r (g.op v q t (ins g all_done v t))
      go (inl s) =
          let now : g.role v ≢ Role.notified = λ e. let z : Role.stateless ≡ Role.notified = sym s ∙ e in cc in
          below_same g.workers _ _ (λ k lk. ap (λ x. count r (g.op v q t x)) (law.reads_now v (λ p. h.done k (g.edge_into v p)) t now))
          ∙ sym (law.op_stateless v q t (λ k p. h.done k (g.edge_into v p) t) g.workers s r)
          ∙ sym (ap (λ x. count r (g.op v q t x)) (law.reads_now v (λ p. all_done (g.edge_into v p)) t now))
      go (inr s) = sym (law.op_cut v q t (λ k p. h.done k (g.edge_into v p)) s (cut s) r)

  -- at most that, in any case
  pub made_le : (v q : ℕ) (t : Time) (r : Record) (k : ℕ) → made g h v q t r k ≤ count r (g.op v q t (ins g (h.done k) v t))
  made_le v q t r k = go (h.notified k v t) refl
    where
      go : (b : Bool) → h.notified k v t ≡ b → made g h v q t r k ≤ count r (g.op v q t (ins g (h.done k) v t))
      go true e = rw e (omega arith)
      go false e = rw e (omega arith)

  -- a part that waits for no notification has made everything that `op` gives for it
  pub made_all : (v q : ℕ) (t : Time) (r : Record) (k : ℕ) → k < g.workers → (g.role v ≡ Role.notified → open_requests w v t k ≡ 0) → made g h v q t r k ≡ count r (g.op v q t (ins g (h.done k) v t))
  made_all v q t r k l none = go (h.notified k v t) refl (is_notified_role (g.role v))
    where
      empty : (xs : List Record) → some xs ≡ 0 → xs ≡ []
      empty [] e = refl
      empty (x ∷ xs) e = absurd cc

      go : (b : Bool) → h.notified k v t ≡ b → (g.role v ≡ Role.notified) ⊎ (g.role v ≢ Role.notified) → made g h v q t r k ≡ count r (g.op v q t (ins g (h.done k) v t))
      go true e s = rw e refl
      go false e (inr s) = absurd (let x : h.notified k v t ≡ true = keeps.always_notified k v t s in let y : true ≡ false = sym x ∙ e in cc)
      go false e (inl s) =
          let n : open_requests w v t k + one_if (h.notified k v t) ≡ some (done_at g h k v t) = keeps.notifications k v t l s in
          let z : open_requests w v t k ≡ 0 = none s in
          let y : one_if (h.notified k v t) ≡ 0 = ap one_if e in
          let d : done_at g h k v t ≡ [] = empty (done_at g h k v t) (omega arith) in
          let o : g.op v q t (ins g (h.done k) v t) ≡ [] = law.op_nothing v q t (λ p. h.done k (g.edge_into v p)) (λ p lp. each_empty (λ x. h.done k (g.edge_into v x) t) (g.ports v) d p lp) in
          rw e (sym (ap (count r) o))

  module _ (flow : ℕ → Time → List Record) (flows : IsNetFlow g w.fed flow) where
    -- what isn't under way any more was processed
    pub processed : (e : ℕ) (t : Time) → e < g.edges → g.IsPointstamp (on_edge e t) → NoneBefore g w (on_edge e t) → (w.sent e t) ≈ (flow e t) → (r : Record) → sum_below g.workers (λ k. count r (h.done k e t)) ≡ count r (flow e t)
    processed e t l fits none s r =
        let b : count r (w.sent e t) ≡ sum_below g.workers (λ k. count r (h.done k e t)) + sum_below g.workers (under_way w e t r) = keeps.balance e t r l in
        let z : sum_below g.workers (under_way w e t r) ≡ 0 = nothing_under_way g law w e t r fits none in
        let f : count r (w.sent e t) ≡ count r (flow e t) = s.counts r in
        omega arith

    pub none_through : (e : ℕ) (t u : Time) → e < g.edges → g.IsPointstamp (at_vertex (g.source e) t) → g.act (g.source e) t ≡ u → NoneBefore g w (on_edge e u) → NoneBefore g w (at_vertex (g.source e) t)
    none_through e t u l fits a none q active c = none q active (law.could_on q (at_vertex (g.source e) t) (on_edge e u) c (subst (λ (x : Time). g.Could (at_vertex (g.source e) t) (on_edge e x)) a (law.could_leave e t l fits)))

    pub none_before_edge : (v p : ℕ) (t : Time) → p < g.ports v → g.IsPointstamp (at_vertex v t) → NoneBefore g w (at_vertex v t) → NoneBefore g w (on_edge (g.edge_into v p) t)
    none_before_edge v p t lp fits none q active c = none q active (law.could_on q (on_edge (g.edge_into v p) t) (at_vertex v t) c (subst (λ (x : ℕ). g.Could (on_edge (g.edge_into v p) t) (at_vertex x t)) (law.target_into v p lp) (law.could_enter (g.edge_into v p) t (law.into_is_edge v p lp) (law.fits_into v p t lp fits))))

    -- a vertex with all its in ports processed in full has made what the flow has
    pub vertex_whole : (v q : ℕ) (t : Time) (r : Record) → g.role v ≢ Role.input → g.role v ≢ Role.output
        → ((p : ℕ) (u : Time) → p < g.ports v → IsRead g v t u → (s : Record) → sum_below g.workers (λ k. count s (h.done k (g.edge_into v p) u)) ≡ count s (flow (g.edge_into v p) u))
        → sum_below g.workers (λ k. count r (g.op v q t (ins g (h.done k) v t))) ≡ count r (g.op v q t (ins g flow v t))
    vertex_whole v q t r a b all =
        parts_make v q t r a b
        ∙ (law.op_same v q t (λ p. all_done (g.edge_into v p)) (λ p. flow (g.edge_into v p)) (λ p u lp rd. record { counts = λ s. counted-end_to_end (λ k. h.done k (g.edge_into v p) u) g.workers s ∙ all p u lp rd s })).counts r

    abbrev WholeBelow : Pointstamp → ℕ → Type 0
    WholeBelow p v = (p' : ℕ) (t' : Time) → Lower g (on_edge (g.edge_into v p') t') p → g.edge_into v p' < g.edges → g.IsPointstamp (on_edge (g.edge_into v p') t') → NoneBefore g w (on_edge (g.edge_into v p') t') → (w.sent (g.edge_into v p') t') ≈ (flow (g.edge_into v p') t')

    -- what was sent equals the flow at a pointstamp in which no active pointstamp could result
    pub whole_at : (p : Pointstamp) → Acc (Lower g) p → (e : ℕ) (t : Time) → p ≡ on_edge e t → e < g.edges → g.IsPointstamp (on_edge e t) → NoneBefore g w (on_edge e t) → (w.sent e t) ≈ (flow e t)
    whole_at p (Acc.intro x low) e u is l fits none = record { counts = λ r. go r (is_input_role (g.role (g.source e))) (λ p' t' a. whole_at (on_edge (g.edge_into (g.source e) p') t') (low (on_edge (g.edge_into (g.source e) p') t') a) (g.edge_into (g.source e) p') t' refl) }
      where
        at : (r : Record) → g.role (g.source e) ≢ Role.input → WholeBelow p (g.source e) → (t : Time) → 0 < times_in t (g.times_before (g.source e) u) → sum_below g.workers (made g h (g.source e) (g.out_port e) t r) ≡ count r (g.op (g.source e) (g.out_port e) t (ins g flow (g.source e) t))
        at r s ih t in_list =
            let a : g.act (g.source e) t ≡ u = law.before_acts e t u l fits in_list in
            let ft : g.IsPointstamp (at_vertex (g.source e) t) = law.fits_back e t u l fits in_list in
            let nv : NoneBefore g w (at_vertex (g.source e) t) = none_through e t u l ft a none in
            let m : sum_below g.workers (made g h (g.source e) (g.out_port e) t r) ≡ sum_below g.workers (λ k. count r (g.op (g.source e) (g.out_port e) t (ins g (h.done k) (g.source e) t))) =
            below_same g.workers _ _ (λ k lk. made_all (g.source e) (g.out_port e) t r k lk (λ _. nothing_open g law w (g.source e) t (λ q active c. nv q active (subst (λ (x : Pointstamp). g.Could x (at_vertex (g.source e) t)) (sym c) (law.could_self (at_vertex (g.source e) t) ft))) k lk)) in
            m ∙ vertex_whole (g.source e) (g.out_port e) t r s (law.no_output_source e l) (λ p' u' lp rd s'.
            let fu : g.IsPointstamp (at_vertex (g.source e) u') = read_fits g law (g.source e) t u' rd ft in
            let nu : NoneBefore g w (at_vertex (g.source e) u') = λ q active c. nv q active (law.could_on q (at_vertex (g.source e) u') (at_vertex (g.source e) t) c (read_could g law (g.source e) t u' rd ft)) in
            let ne : NoneBefore g w (on_edge (g.edge_into (g.source e) p') u') = none_before_edge (g.source e) p' u' lp fu nu in
            let fe : g.IsPointstamp (on_edge (g.edge_into (g.source e) p') u') = law.fits_into (g.source e) p' u' lp fu in
            let le : g.edge_into (g.source e) p' < g.edges = law.into_is_edge (g.source e) p' lp in
            processed (g.edge_into (g.source e) p') u' le fe ne (ih p' u' (subst (λ (x : Pointstamp). Lower g (on_edge (g.edge_into (g.source e) p') u') x) (ap (on_edge e) a ∙ sym is) (lower_read g law p' e t u' l lp rd ft)) le fe ne) s')

        go : (r : Record) → (g.role (g.source e) ≡ Role.input) ⊎ (g.role (g.source e) ≢ Role.input) → WholeBelow p (g.source e) → count r (w.sent e u) ≡ count r (flow e u)
        go r (inl s) ih = (keeps.from_input e u l s).counts r ∙ sym ((flows.from_input e u l fits s).counts r)
        go r (inr s) ih = keeps.from_vertex e u r l fits s ∙ total_times (g.times_before (g.source e) u) _ _ (at r s ih) ∙ sym (flows.from_vertex e u l fits s r)

    pub whole : (e : ℕ) (t : Time) → e < g.edges → g.IsPointstamp (on_edge e t) → NoneBefore g w (on_edge e t) → (w.sent e t) ≈ (flow e t)
    whole e t l fits none = whole_at (on_edge e t) (law.founded (on_edge e t)) e t refl l fits none

    abbrev PartBelow : Pointstamp → ℕ → Type 0
    PartBelow p v = (p' : ℕ) (t' : Time) → Lower g (on_edge (g.edge_into v p') t') p → g.edge_into v p' < g.edges → g.IsPointstamp (on_edge (g.edge_into v p') t') → IsPartOf (w.sent (g.edge_into v p') t') (flow (g.edge_into v p') t')

    -- a group that has had its notification at some worker has everything that it will ever get
    pub none_before_notified : (v : ℕ) (t : Time) (k : ℕ) → k < g.workers → g.IsPointstamp (at_vertex v t) → g.role v ≡ Role.notified → Due w h k v t → (p : ℕ) (u : Time) → p < g.ports v → IsRead g v t u → NoneBefore g w (on_edge (g.edge_into v p) u)
    none_before_notified v t k lk fits s due p u lp rd q active c =
        let enter : g.Could (on_edge (g.edge_into v p) u) (at_vertex v t) = edge_could g law v p t u lp rd fits in
        let is : q ≡ at_vertex v t = keeps.settled k v t lk s due q active (law.could_on q (on_edge (g.edge_into v p) u) (at_vertex v t) c enter) in
        let back : g.Could (at_vertex v t) (on_edge (g.edge_into v p) u) = subst (λ (x : Pointstamp). g.Could x (on_edge (g.edge_into v p) u)) is c in
        edge_not_vertex (g.edge_into v p) v u t (could_back g law (on_edge (g.edge_into v p) u) (at_vertex v t) enter back)

    -- what was sent is part of the flow
    pub part_at : (p : Pointstamp) → Acc (Lower g) p → (e : ℕ) (t : Time) → p ≡ on_edge e t → e < g.edges → g.IsPointstamp (on_edge e t) → IsPartOf (w.sent e t) (flow e t)
    part_at p (Acc.intro x low) e u is l fits = record { within = λ r. go r (is_input_role (g.role (g.source e))) (λ p' t' a. part_at (on_edge (g.edge_into (g.source e) p') t') (low (on_edge (g.edge_into (g.source e) p') t') a) (g.edge_into (g.source e) p') t' refl) }
      where
        monotone : (r : Record) → g.role (g.source e) ≢ Role.input → g.role (g.source e) ≢ Role.notified → PartBelow p (g.source e) → (t : Time) → g.IsPointstamp (at_vertex (g.source e) t) → g.act (g.source e) t ≡ u → sum_below g.workers (made g h (g.source e) (g.out_port e) t r) ≤ count r (g.op (g.source e) (g.out_port e) t (ins g flow (g.source e) t))
        monotone r s sg ih t ft a =
            let m : sum_below g.workers (made g h (g.source e) (g.out_port e) t r) ≤ sum_below g.workers (λ k. count r (g.op (g.source e) (g.out_port e) t (ins g (h.done k) (g.source e) t))) =
            below_more g.workers _ _ (λ k lk. made_le (g.source e) (g.out_port e) t r k) in
            let j : sum_below g.workers (λ k. count r (g.op (g.source e) (g.out_port e) t (ins g (h.done k) (g.source e) t))) ≡ count r (g.op (g.source e) (g.out_port e) t (ins g all_done (g.source e) t)) =
            parts_make (g.source e) (g.out_port e) t r s (law.no_output_source e l) in
            let x : count r (g.op (g.source e) (g.out_port e) t (ins g all_done (g.source e) t)) ≡ count r (g.op (g.source e) (g.out_port e) t (λ p. all_done (g.edge_into (g.source e) p) t)) =
            ap (λ z. count r (g.op (g.source e) (g.out_port e) t z)) (law.reads_now (g.source e) (λ p. all_done (g.edge_into (g.source e) p)) t sg) in
            let y : count r (g.op (g.source e) (g.out_port e) t (ins g flow (g.source e) t)) ≡ count r (g.op (g.source e) (g.out_port e) t (λ p. flow (g.edge_into (g.source e) p) t)) =
            ap (λ z. count r (g.op (g.source e) (g.out_port e) t z)) (law.reads_now (g.source e) (λ p. flow (g.edge_into (g.source e) p)) t sg) in
            let o : count r (g.op (g.source e) (g.out_port e) t (λ p. all_done (g.edge_into (g.source e) p) t)) ≤ count r (g.op (g.source e) (g.out_port e) t (λ p. flow (g.edge_into (g.source e) p) t)) =
            (law.op_more (g.source e) (g.out_port e) t (λ p. all_done (g.edge_into (g.source e) p) t) (λ p. flow (g.edge_into (g.source e) p) t) sg (λ p' lp. record {
              within = λ s'.
                  let le : g.edge_into (g.source e) p' < g.edges = law.into_is_edge (g.source e) p' lp in
                  let i : count s' (w.sent (g.edge_into (g.source e) p') t) ≤ count s' (flow (g.edge_into (g.source e) p') t) = (ih p' t (subst (λ (x : Pointstamp). Lower g (on_edge (g.edge_into (g.source e) p') t) x) (ap (on_edge e) a ∙ sym is) (lower g law p' e t l lp ft)) le (law.fits_into (g.source e) p' t lp ft)).within s' in
                  let b : count s' (w.sent (g.edge_into (g.source e) p') t) ≡ sum_below g.workers (λ k. count s' (h.done k (g.edge_into (g.source e) p') t)) + sum_below g.workers (under_way w (g.edge_into (g.source e) p') t s') = keeps.balance (g.edge_into (g.source e) p') t s' le in
                  let c : count s' (end_to_end (λ k. h.done k (g.edge_into (g.source e) p') t) g.workers) ≡ sum_below g.workers (λ k. count s' (h.done k (g.edge_into (g.source e) p') t)) = counted-end_to_end (λ k. h.done k (g.edge_into (g.source e) p') t) g.workers s' in
                  omega arith;
            })).within r in
            omega arith

        grouping : (r : Record) → g.role (g.source e) ≢ Role.input → g.role (g.source e) ≡ Role.notified → (t : Time) → g.IsPointstamp (at_vertex (g.source e) t) → ((k : ℕ) × (k < g.workers) × (h.notified k (g.source e) t ≡ true)) ⊎ ((k : ℕ) → k < g.workers → h.notified k (g.source e) t ≡ false) → sum_below g.workers (made g h (g.source e) (g.out_port e) t r) ≤ count r (g.op (g.source e) (g.out_port e) t (ins g flow (g.source e) t))
        grouping r s sg t ft (inr nobody) =
            let z : sum_below g.workers (made g h (g.source e) (g.out_port e) t r) ≡ 0 = below_zero g.workers _ (λ k lk. rw (nobody k lk) refl) in
            omega arith
        grouping r s sg t ft (inl (k, lk, notified)) =
            let m : sum_below g.workers (made g h (g.source e) (g.out_port e) t r) ≤ sum_below g.workers (λ k. count r (g.op (g.source e) (g.out_port e) t (ins g (h.done k) (g.source e) t))) =
            below_more g.workers _ _ (λ k' lk'. made_le (g.source e) (g.out_port e) t r k') in
            let v : sum_below g.workers (λ k. count r (g.op (g.source e) (g.out_port e) t (ins g (h.done k) (g.source e) t))) ≡ count r (g.op (g.source e) (g.out_port e) t (ins g flow (g.source e) t)) =
            vertex_whole (g.source e) (g.out_port e) t r s (law.no_output_source e l) (λ p' u' lp rd s'.
            let le : g.edge_into (g.source e) p' < g.edges = law.into_is_edge (g.source e) p' lp in
            let ne : NoneBefore g w (on_edge (g.edge_into (g.source e) p') u') = none_before_notified (g.source e) t k lk ft sg (inl notified) p' u' lp rd in
            let fe : g.IsPointstamp (on_edge (g.edge_into (g.source e) p') u') = law.fits_into (g.source e) p' u' lp (read_fits g law (g.source e) t u' rd ft) in
            processed (g.edge_into (g.source e) p') u' le fe ne (whole (g.edge_into (g.source e) p') u' le fe ne) s') in
            omega arith

        go : (r : Record) → (g.role (g.source e) ≡ Role.input) ⊎ (g.role (g.source e) ≢ Role.input) → PartBelow p (g.source e) → count r (w.sent e u) ≤ count r (flow e u)
        go r (inl s) ih = let a : count r (w.sent e u) ≡ count r (flow e u) = (keeps.from_input e u l s).counts r ∙ sym ((flows.from_input e u l fits s).counts r) in omega arith
        go r (inr s) ih =
            let a : count r (w.sent e u) ≡ total (λ t. sum_below g.workers (made g h (g.source e) (g.out_port e) t r)) (g.times_before (g.source e) u) = keeps.from_vertex e u r l fits s in
            let b : total (λ t. sum_below g.workers (made g h (g.source e) (g.out_port e) t r)) (g.times_before (g.source e) u) ≤ total (λ t. count r (g.op (g.source e) (g.out_port e) t (ins g flow (g.source e) t))) (g.times_before (g.source e) u) =
            total_times_more (g.times_before (g.source e) u) _ _ (λ t in_list. at t (law.fits_back e t u l fits in_list) (law.before_acts e t u l fits in_list) (is_notified_role (g.role (g.source e)))) in
            let c : count r (flow e u) ≡ total (λ t. count r (g.op (g.source e) (g.out_port e) t (ins g flow (g.source e) t))) (g.times_before (g.source e) u) = flows.from_vertex e u l fits s r in
            omega arith
          where
            at : (t : Time) → g.IsPointstamp (at_vertex (g.source e) t) → g.act (g.source e) t ≡ u → (g.role (g.source e) ≡ Role.notified) ⊎ (g.role (g.source e) ≢ Role.notified) → sum_below g.workers (made g h (g.source e) (g.out_port e) t r) ≤ count r (g.op (g.source e) (g.out_port e) t (ins g flow (g.source e) t))
            at t ft a (inl sg) = grouping r s sg t ft (some_below g.workers (λ k. h.notified k (g.source e) t))
            at t ft a (inr sg) = monotone r s sg ih t ft a

    pub headline : Headline g w flow
    headline =
        record {
          part = λ e t l fits. part_at (on_edge e t) (law.founded (on_edge e t)) e t refl l fits;
          whole = whole;
          emitted_part = λ v n is. record {
            within = λ r.
                let s : count r (w.sent (g.edge_into v 0) (at_epoch n)) ≤ count r (flow (g.edge_into v 0) (at_epoch n)) = (part_at (on_edge (g.edge_into v 0) (at_epoch n)) (law.founded _) (g.edge_into v 0) (at_epoch n) refl (out_edge v is) (out_fits v n is)).within r in
                let b : count r (w.sent (g.edge_into v 0) (at_epoch n)) ≡ sum_below g.workers (λ k. count r (h.done k (g.edge_into v 0) (at_epoch n))) + sum_below g.workers (under_way w (g.edge_into v 0) (at_epoch n) r) = keeps.balance (g.edge_into v 0) (at_epoch n) r (out_edge v is) in
                let c : count r (w.emitted v n) ≡ sum_below g.workers (λ k. count r (h.done k (g.edge_into v 0) (at_epoch n))) = keeps.output v n r is in
                omega arith;
          };
          emitted_whole = λ v n is passed. record {
            counts = λ r.
                let none : NoneBefore g w (on_edge (g.edge_into v 0) (at_epoch n)) = none_before_edge v 0 (at_epoch n) is.1 (law.fits_output v n is) passed in
                keeps.output v n r is ∙ processed (g.edge_into v 0) (at_epoch n) (out_edge v is) (out_fits v n is) none (whole (g.edge_into v 0) (at_epoch n) (out_edge v is) (out_fits v n is) none) r;
          };
        }
      where
        out_edge : (v : ℕ) → IsOutput g v → g.edge_into v 0 < g.edges
        out_edge v is = law.into_is_edge v 0 is.1

        out_fits : (v n : ℕ) → IsOutput g v → g.IsPointstamp (on_edge (g.edge_into v 0) (at_epoch n))
        out_fits v n is = law.fits_into v 0 (at_epoch n) is.1 (law.fits_output v n is)
