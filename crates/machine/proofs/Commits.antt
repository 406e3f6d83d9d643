-- A commit keeps the facts that hold in every reached world.
use Rattle.std.proofs.Common.{◌≡◌, ◌≢◌, ◌≤◌, ◌<◌, ℕ, ◌+◌, ◌*◌, true, false, cond, eqb, List, [], ◌⊎◌, inl, inr, sym, ap, ◌∙◌, subst, arith}
use Rattle.std.proofs.lemmas.Bool.Decides.{eqb_tells}
use Rattle.semantics.specs.Multiset.{total, Record, count}
use Rattle.semantics.specs.Could.{on_edge}
use Rattle.semantics.specs.Time.{Time, same_time}
use Rattle.semantics.specs.Kinds.{Role}
use Rattle.machine.specs.Network.{Network}
use Rattle.machine.specs.World.{Event, Held, World}
use Rattle.machine.specs.Active.{sum_below}
use Rattle.machine.specs.Sending.{parcels, sent_after}
use Rattle.machine.specs.Processing.{event_vertex, event_time}
use Rattle.machine.specs.Step.{Step, Allowed, after_step, put}
use Rattle.semantics.proofs.MultisetSums.{total-append}
use Rattle.machine.proofs.Counting.{below_same, below_add, below_changed, count-append}
use Rattle.machine.proofs.Derived.{headline}
use Rattle.machine.proofs.Kept.{History, carried, carried_by, held_records, under_way, some, made, Kept}
use Rattle.machine.proofs.Laws.{IsNetwork, times_in}
use Rattle.machine.proofs.NetFlow.{HasFlows}
use Rattle.machine.proofs.Places.{same_time_tells, total_times, total_times_changed}
use Rattle.machine.proofs.Progress.{put_tells, put_here}
use Rattle.machine.proofs.Steps.{sent_elsewhere}

module _ (g : Network) (law : IsNetwork g) (w : World) (h : History) (keeps : Kept g w h) where
  -- the records that were sent are among those at the vertex's counted times
  pub once : HasFlows g → (e : ℕ) (t : Time) (r : Record) → e < g.edges → g.IsPointstamp (on_edge e t) → 0 < count r (w.sent e t) → times_in t (g.times_before (g.target e) (g.act (g.target e) t)) ≡ 1
  once flows e t r le fits some = go (law.before_once (g.target e) t (g.act (g.target e) t))
    where
      go : (times_in t (g.times_before (g.target e) (g.act (g.target e) t)) ≡ 0) ⊎ (times_in t (g.times_before (g.target e) (g.act (g.target e) t)) ≡ 1) → times_in t (g.times_before (g.target e) (g.act (g.target e) t)) ≡ 1
      go (inr x) = x
      go (inl x) =
          let f = flows w.fed in
          let p : count r (w.sent e t) ≤ count r (f.0 e t) = ((headline g law w h keeps f.0 f.1).part e t le fits).within r in
          let z : count r (f.0 e t) ≡ 0 = ap (count r) (f.1.within e t le fits x) in
          absurd (omega arith)

  module _ (k0 : ℕ) (event : Event) (out : ℕ → List Record) (ok : Allowed g w (Step.commit k0 event out)) where
    -- what was held is gone, and the parcels are under way
    pub way_after : (e : ℕ) (t : Time) (r : Record) → sum_below g.workers (under_way (after_step g w (Step.commit k0 event out)) e t r) + carried_by e t r event
        ≡ sum_below g.workers (under_way w e t r) + sum_below g.workers (λ k. total (carried e t r) (parcels g k0 (event_vertex g event) (g.act (event_vertex g event) (event_time event)) out k g.edges))
    way_after e t r =
        let a : sum_below g.workers (under_way (after_step g w (Step.commit k0 event out)) e t r) ≡ sum_below g.workers (λ k. (total (carried e t r) (w.mail k) + held_records e t r (put w.held k0 Held.nothing k)) + total (carried e t r) (parcels g k0 (event_vertex g event) (g.act (event_vertex g event) (event_time event)) out k g.edges)) =
        below_same g.workers _ _ (λ k lk. let o = total-append (carried e t r) (w.mail k) (parcels g k0 (event_vertex g event) (g.act (event_vertex g event) (event_time event)) out k g.edges) in omega arith) in
        let b = below_add g.workers (λ k. total (carried e t r) (w.mail k) + held_records e t r (put w.held k0 Held.nothing k)) (λ k. total (carried e t r) (parcels g k0 (event_vertex g event) (g.act (event_vertex g event) (event_time event)) out k g.edges)) in
        let c : sum_below g.workers (λ k. total (carried e t r) (w.mail k) + held_records e t r (put w.held k0 Held.nothing k)) + (total (carried e t r) (w.mail k0) + held_records e t r (w.held k0)) ≡ sum_below g.workers (under_way w e t r) + (total (carried e t r) (w.mail k0) + held_records e t r (put w.held k0 Held.nothing k0)) =
        below_changed g.workers k0 (under_way w e t r) (λ k. total (carried e t r) (w.mail k) + held_records e t r (put w.held k0 Held.nothing k)) ok.0 (λ j lj ne. other j ne (put_tells w.held k0 Held.nothing j)) in
        let d : held_records e t r (w.held k0) ≡ carried_by e t r event = ap (held_records e t r) ok.1 in
        let f : held_records e t r (put w.held k0 Held.nothing k0) ≡ 0 = ap (held_records e t r) (put_here w.held k0 Held.nothing) in
        omega arith
      where
        other : (j : ℕ) → j ≢ k0 → ((j ≡ k0) × (put w.held k0 Held.nothing j ≡ Held.nothing)) ⊎ ((j ≢ k0) × (put w.held k0 Held.nothing j ≡ w.held j)) → total (carried e t r) (w.mail j) + held_records e t r (put w.held k0 Held.nothing j) ≡ under_way w e t r j
        other j ne (inl (x, y)) = absurd (ne x)
        other j ne (inr (x, y)) = ap (λ z. total (carried e t r) (w.mail j) + held_records e t r z) y

    -- what the vertices have made, if only this worker's part of this vertex made more, at this time
    pub vertex_after : (h' : History) → (once : times_in (event_time event) (g.times_before (event_vertex g event) (g.act (event_vertex g event) (event_time event))) ≡ 1)
        → ((k v q : ℕ) (t : Time) (r : Record) → ((k ≢ k0) ⊎ ((v ≢ event_vertex g event) ⊎ (t ≢ event_time event))) → made g h' v q t r k ≡ made g h v q t r k)
        → ((q : ℕ) (r : Record) → g.role (event_vertex g event) ≢ Role.output → made g h' (event_vertex g event) q (event_time event) r k0 ≡ made g h (event_vertex g event) q (event_time event) r k0 + count r (out q))
        → (e : ℕ) (u : Time) (r : Record) → e < g.edges → g.IsPointstamp (on_edge e u) → g.role (g.source e) ≢ Role.input →
        count r (sent_after g w (event_vertex g event) (g.act (event_vertex g event) (event_time event)) out e u) ≡ total (λ t. sum_below g.workers (made g h' (g.source e) (g.out_port e) t r)) (g.times_before (g.source e) u)
    vertex_after h' one rest gain e u r le fits s = go (eqb_tells (g.source e) (event_vertex g event))
      where
        v : ℕ
        v = event_vertex g event

        t0 : Time
        t0 = event_time event

        Q : ℕ
        Q = g.out_port e

        go : ((eqb (g.source e) v ≡ true) × (g.source e ≡ v)) ⊎ ((eqb (g.source e) v ≡ false) × (g.source e ≢ v)) → count r (sent_after g w v (g.act v t0) out e u) ≡ total (λ t. sum_below g.workers (made g h' (g.source e) (g.out_port e) t r)) (g.times_before (g.source e) u)
        go (inr (a, b)) =
            sent_elsewhere g law w h keeps v (g.act v t0) out e u r b ∙ keeps.from_vertex e u r le fits s
            ∙ total_times (g.times_before (g.source e) u) _ _ (λ t l. below_same g.workers _ _ (λ k lk. sym (rest k (g.source e) (g.out_port e) t r (inr (inl b)))))
        go (inl (a, b)) =
            let grown : sum_below g.workers (made g h' v Q t0 r) + made g h v Q t0 r k0 ≡ sum_below g.workers (made g h v Q t0 r) + made g h' v Q t0 r k0 =
            below_changed g.workers k0 (made g h v Q t0 r) (made g h' v Q t0 r) ok.0 (λ j lj ne. rest j v Q t0 r (inl ne)) in
            let more : made g h' v Q t0 r k0 ≡ made g h v Q t0 r k0 + count r (out Q) = gain Q r (λ x. law.no_output_source e le (ap g.role b ∙ x)) in
            let old : count r (w.sent e u) ≡ total (λ t. sum_below g.workers (made g h v Q t r)) (g.times_before v u) =
            keeps.from_vertex e u r le fits s ∙ ap (λ x. total (λ t. sum_below g.workers (made g h x Q t r)) (g.times_before x u)) b in
            let change : total (λ t. sum_below g.workers (made g h' v Q t r)) (g.times_before v u) + times_in t0 (g.times_before v u) * sum_below g.workers (made g h v Q t0 r) ≡ total (λ t. sum_below g.workers (made g h v Q t r)) (g.times_before v u) + times_in t0 (g.times_before v u) * sum_below g.workers (made g h' v Q t0 r) =
            total_times_changed (g.times_before v u) t0 (λ t. sum_below g.workers (made g h v Q t r)) (λ t. sum_below g.workers (made g h' v Q t r)) (λ t ne. below_same g.workers _ _ (λ k lk. rest k v Q t r (inr (inr ne)))) in
            let back : total (λ t. sum_below g.workers (made g h' (g.source e) Q t r)) (g.times_before (g.source e) u) ≡ total (λ t. sum_below g.workers (made g h' v Q t r)) (g.times_before v u) = ap (λ x. total (λ t. sum_below g.workers (made g h' x Q t r)) (g.times_before x u)) b in
            rw a (count-append r (w.sent e u) _ ∙ final (same_time_tells (g.act v t0) u) old change grown more ∙ sym back)
          where
            final : ((same_time (g.act v t0) u ≡ true) × (g.act v t0 ≡ u)) ⊎ ((same_time (g.act v t0) u ≡ false) × (g.act v t0 ≢ u))
                → count r (w.sent e u) ≡ total (λ t. sum_below g.workers (made g h v Q t r)) (g.times_before v u)
                → total (λ t. sum_below g.workers (made g h' v Q t r)) (g.times_before v u) + times_in t0 (g.times_before v u) * sum_below g.workers (made g h v Q t0 r) ≡ total (λ t. sum_below g.workers (made g h v Q t r)) (g.times_before v u) + times_in t0 (g.times_before v u) * sum_below g.workers (made g h' v Q t0 r)
                → sum_below g.workers (made g h' v Q t0 r) + made g h v Q t0 r k0 ≡ sum_below g.workers (made g h v Q t0 r) + made g h' v Q t0 r k0
                → made g h' v Q t0 r k0 ≡ made g h v Q t0 r k0 + count r (out Q)
                → count r (w.sent e u) + count r (cond (same_time (g.act v t0) u) (out Q) []) ≡ total (λ t. sum_below g.workers (made g h' v Q t r)) (g.times_before v u)
            final (inl (c, d)) old change grown more =
                let n : times_in t0 (g.times_before v u) ≡ 1 = subst (λ (x : Time). times_in t0 (g.times_before v x) ≡ 1) d one in
                let change' = rw n at change in
                rw c (omega arith)
            final (inr (c, d)) old change grown more =
                let n : times_in t0 (g.times_before v u) ≡ 0 = never (law.before_once v t0 u) in
                let change' = rw n at change in
                rw c (omega arith)
              where
                never : (times_in t0 (g.times_before v u) ≡ 0) ⊎ (times_in t0 (g.times_before v u) ≡ 1) → times_in t0 (g.times_before v u) ≡ 0
                never (inl x) = x
                never (inr x) = absurd (d (subst (λ (z : ℕ). g.act z t0 ≡ u) b (law.before_acts e t0 u le fits (subst (λ (z : ℕ). 0 < times_in t0 (g.times_before z u)) (sym b) (omega arith)))))
