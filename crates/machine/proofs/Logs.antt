-- The log of a run justifies each pointstamp that a step makes active.
use Rattle.std.proofs.Common.{◌≡◌, ◌≢◌, ◌≤◌, ◌<◌, ℕ, zero, suc, ◌+◌, Bool, false, List, [], ◌∷◌, ◌⊎◌, inl, inr, refl, sym, ap, ◌∙◌, subst, arith, slice_get, Some}
use Rattle.semantics.specs.Multiset.{total, Record}
use Rattle.semantics.specs.Could.{Pointstamp, Location, on_edge, at_vertex}
use Rattle.semantics.specs.Time.{Time, at_epoch}
use Rattle.machine.specs.Network.{Network}
use Rattle.machine.specs.World.{Request, Event, World, opening}
use Rattle.machine.specs.Active.{one_if_same, active_count, IsActive, message_pointstamp, request_pointstamp, event_pointstamp}
use Rattle.machine.specs.Sending.{parcels}
use Rattle.machine.specs.Processing.{event_vertex, event_time, asked}
use Rattle.machine.specs.Step.{Step, Allowed, after_step}
use Rattle.machine.specs.Run.{Run}
use Rattle.machine.specs.Changes.{parcel_count, step_adds, step_removes, step_sender}
use Rattle.machine.specs.Views.{all_adds, all_removes, IsThere}
use Rattle.machine.specs.Posting.{AtInput, MayPost, content_after, ArePosted}
use Rattle.machine.specs.RunViews.{changes_of, log_of}
use Rattle.semantics.specs.Kinds.{Role}
use Rattle.machine.proofs.Active.{one_tells, active, one_is, one_self, below_some, total_some, counted, count_step}
use Rattle.machine.proofs.Posted.{posted_same}
use Rattle.machine.proofs.Kept.{History, Kept, GoodEvent}
use Rattle.machine.proofs.Laws.{Lower, IsNetwork}
use Rattle.machine.proofs.NetFlow.{HasFlows}
use Rattle.machine.proofs.Places.{edge_not_vertex}
use Rattle.machine.proofs.Progress.{Good, reaches_vertex, vertex_fits, held_good, asked_place}
use Rattle.machine.proofs.Rank.{lower_through}
use Rattle.machine.proofs.Runs.{keep_step, keep_opening, start}
use Rattle.machine.proofs.Sending.{Parcel, parcels_good, fits_sent, each_at}
use Rattle.machine.proofs.Steps.{good_of}

-- a pointstamp that the step removes or, for the feeder's steps, an active one of an input
abbrev From : Network → World → Step → Pointstamp → Type 0
From g w step p = (0 < step_removes g w step p) ⊎ ((step_sender g step ≡ g.workers) × AtInput g.inputs p × (0 < active_count g w p))

module _ (g : Network) (law : IsNetwork g) (w : World) (good : Good g w) where
  higher : (p q : Pointstamp) → g.Could p q → (p ≡ q → ⊥) → Lower g p q
  higher p q c ne = lower_through g law p q q c (law.could_self q (fits_of p q c)) ne
    where
      fits_of : (p q : Pointstamp) → g.Could p q → g.IsPointstamp q
      fits_of p q c = law.could_fits p q c

  -- a message that is sent
  sent_from : (sender v : ℕ) (t : Time) (out : ℕ → List Record) → g.IsPointstamp (at_vertex v t) → (q : Pointstamp) → 0 < parcel_count g sender v (g.act v t) out q → (e : ℕ) × (u : Time) × (q ≡ on_edge e u) × g.Could (at_vertex v t) q
  sent_from sender v t out fits q l =
      let a = below_some g.workers (λ to. total (λ m. one_if_same q (message_pointstamp m)) (parcels g sender v (g.act v t) out to g.edges)) l in
      let b = total_some (parcels g sender v (g.act v t) out a.0 g.edges) (λ m. one_if_same q (message_pointstamp m)) a.2 in
      let p : Parcel g v (g.act v t) a.0 b.1 = each_at _ _ b.0 b.1 (parcels_good g law sender v (g.act v t) out a.0 g.edges (fits_sent g law v t fits) (omega arith)) b.2 in
      let is : q ≡ message_pointstamp b.1 = one_is q (message_pointstamp b.1) b.3 in
      let c : g.Could (at_vertex (g.source b.1.edge) t) (on_edge b.1.edge (g.act (g.source b.1.edge) t)) = law.could_leave b.1.edge t p.good.0 (subst (λ (x : ℕ). g.IsPointstamp (at_vertex x t)) (sym p.from) fits) in
      let c' = subst (λ (x : ℕ). g.Could (at_vertex x t) (on_edge b.1.edge (g.act x t))) p.from c in
      let c'' = subst (λ (x : Time). g.Could (at_vertex v t) (on_edge b.1.edge x)) (sym p.when) c' in
      (b.1.edge, b.1.time, is, subst (λ (x : Pointstamp). g.Could (at_vertex v t) x) (sym is) c'')

  from_feed : (i : ℕ) (rs : List Record) → Allowed g w (Step.feed i rs) → (q : Pointstamp) → 0 < step_adds g w (Step.feed i rs) q → (p : Pointstamp) × Lower g p q × g.Could p q × From g w (Step.feed i rs) p
  from_feed i rs ok q l =
      let u : Time = at_epoch (w.open_epoch i) in
      let l' : 0 < parcel_count g 0 i (g.act i u) (λ q. rs) q = subst (λ (x : Time). 0 < parcel_count g 0 i x (λ q. rs) q) (sym (law.input_act i u ok.0.0)) l in
      let a = sent_from 0 i u (λ q. rs) (law.fits_input i (w.open_epoch i) ok.0.0) q l' in
      (at_vertex i u, higher (at_vertex i u) q a.3 (λ e. edge_not_vertex a.0 i a.1 u (sym (e ∙ a.2))), a.3, inr (refl, (i, law.role_is_input i ok.0.0, refl), counted g law w (at_vertex i u) (IsActive.of_input i ok.0.0 ok.0.1)))

  from_seal : (i : ℕ) → Allowed g w (Step.seal i) → (q : Pointstamp) → 0 < step_adds g w (Step.seal i) q → (p : Pointstamp) × Lower g p q × g.Could p q × From g w (Step.seal i) p
  from_seal i ok q l =
      let is : q ≡ at_vertex i (at_epoch (w.open_epoch i + 1)) = one_is q (at_vertex i (at_epoch (w.open_epoch i + 1))) l in
      let p : Pointstamp = at_vertex i (at_epoch (w.open_epoch i)) in
      let c : g.Could p q = subst (λ (x : Pointstamp). g.Could (at_vertex i (at_epoch (w.open_epoch i))) x) (sym is) (law.could_later i (w.open_epoch i) ok.0) in
      let s = one_self (at_vertex i (at_epoch (w.open_epoch i))) in
      (p, higher p q c (λ e. let x : w.open_epoch i ≡ w.open_epoch i + 1 = ap (λ (x : Pointstamp). x.time.epoch) (e ∙ is) in omega arith), c, inl (omega arith))

  from_commit : (k : ℕ) (event : Event) (out : ℕ → List Record) → Allowed g w (Step.commit k event out) → (q : Pointstamp) → 0 < step_adds g w (Step.commit k event out) q → (p : Pointstamp) × Lower g p q × g.Could p q × From g w (Step.commit k event out) p
  from_commit k event out ok q l = go (parcel_count g k (event_vertex g event) (g.act (event_vertex g event) (event_time event)) out q) refl
    where
      fine : GoodEvent g k event
      fine = held_good g law w good k event ok.0 ok.1

      here : g.IsPointstamp (at_vertex (event_vertex g event) (event_time event))
      here = vertex_fits g law w good k event fine

      reach : g.Could (event_pointstamp event) (at_vertex (event_vertex g event) (event_time event))
      reach = reaches_vertex g law w good k event fine

      gone : 0 < step_removes g w (Step.commit k event out) (event_pointstamp event)
      gone = let s = one_self (event_pointstamp event) in omega arith

      message : (x : Event) (e : ℕ) (u : Time) → g.Could (event_pointstamp x) (at_vertex (event_vertex g x) (event_time x)) → g.Could (at_vertex (event_vertex g x) (event_time x)) (on_edge e u) → Lower g (event_pointstamp x) (on_edge e u)
      message (Event.arrival m) e u a b = lower_through g law (message_pointstamp m) (at_vertex (g.target m.edge) m.time) (on_edge e u) a b (edge_not_vertex m.edge (g.target m.edge) m.time m.time)
      message (Event.notification n) e u a b = higher (request_pointstamp n) (on_edge e u) b (λ z. edge_not_vertex e n.vertex u n.time (sym z))

      request : (x : Event) (at : ℕ) (n : Request) → slice_get (asked g w k x) at ≡ Some n → request_pointstamp n ≡ at_vertex (event_vertex g x) (event_time x) → g.Could (event_pointstamp x) (at_vertex (event_vertex g x) (event_time x)) → Lower g (event_pointstamp x) (at_vertex (event_vertex g x) (event_time x))
      request (Event.arrival m) at n s is a = higher (message_pointstamp m) (at_vertex (g.target m.edge) m.time) a (edge_not_vertex m.edge (g.target m.edge) m.time m.time)
      request (Event.notification x) at n s is a = absurd cc

      go : (n : ℕ) → parcel_count g k (event_vertex g event) (g.act (event_vertex g event) (event_time event)) out q ≡ n → (p : Pointstamp) × Lower g p q × g.Could p q × From g w (Step.commit k event out) p
      go (suc n) e =
          let a = sent_from k (event_vertex g event) (event_time event) out here q (omega arith) in
          let b : g.Could (at_vertex (event_vertex g event) (event_time event)) (on_edge a.0 a.1) = subst (λ (x : Pointstamp). g.Could (at_vertex (event_vertex g event) (event_time event)) x) a.2 a.3 in
          (event_pointstamp event, subst (λ (x : Pointstamp). Lower g (event_pointstamp event) x) (sym a.2) (message event a.0 a.1 reach b), law.could_on (event_pointstamp event) (at_vertex (event_vertex g event) (event_time event)) q reach a.3, inl gone)
      go zero e =
          let b = total_some (asked g w k event) (λ n. one_if_same q (request_pointstamp n)) (omega arith) in
          let is : q ≡ at_vertex (event_vertex g event) (event_time event) = one_is q (request_pointstamp b.1) b.3 ∙ asked_place g law w good k event b.0 b.1 b.2 in
          (event_pointstamp event, subst (λ (x : Pointstamp). Lower g (event_pointstamp event) x) (sym is) (request event b.0 b.1 b.2 (asked_place g law w good k event b.0 b.1 b.2) reach), subst (λ (x : Pointstamp). g.Could (event_pointstamp event) x) (sym is) reach, inl gone)

  from_step : (step : Step) → Allowed g w step → (q : Pointstamp) → 0 < step_adds g w step q → (p : Pointstamp) × Lower g p q × g.Could p q × From g w step p
  from_step (Step.feed i rs) ok q l = from_feed i rs ok q l
  from_step (Step.seal i) ok q l = from_seal i ok q l
  from_step (Step.close i) ok q l = absurd (omega arith)
  from_step (Step.claim_message k at m) ok q l = absurd (omega arith)
  from_step (Step.claim_request k at n) ok q l = absurd (omega arith)
  from_step (Step.merge k at m n) ok q l = absurd (omega arith)
  from_step (Step.commit k event out) ok q l = from_commit k event out ok q l
  from_step (Step.abandon k event) ok q l = absurd (omega arith)

  -- a step's changes may be posted
  pub may_post : (step : Step) → Allowed g w step → (applied : Bool) → MayPost g.Could g.inputs g.workers (active_count g w) (changes_of g w step applied)
  may_post step ok applied = record { there = λ p. there step ok p; justified = λ q l. go q (from_step step ok q l); feeder_only = λ p at l. feeder step ok p at l }
    where
      go : (q : Pointstamp) → (p : Pointstamp) × Lower g p q × g.Could p q × From g w step p → (p : Pointstamp) × (p ≢ q) × g.Could p q × From g w step p
      go q (p, low, c, f) = (p, low.1, c, f)

      one : (p q : Pointstamp) → IsActive g w q → ((one_if_same p q ≡ 1) × (p ≡ q)) ⊎ ((one_if_same p q ≡ 0) × (p ≢ q)) → one_if_same p q ≤ active_count g w p
      one p q a (inl (x, y)) = let c : 0 < active_count g w p = counted g law w p (subst (IsActive g w) (sym y) a) in omega arith
      one p q a (inr (x, y)) = omega arith

      there : (step : Step) → Allowed g w step → (p : Pointstamp) → step_removes g w step p ≤ active_count g w p
      there (Step.feed i rs) ok p = omega arith
      there (Step.seal i) ok p = one p (at_vertex i (at_epoch (w.open_epoch i))) (IsActive.of_input i ok.0 ok.1) (one_tells p (at_vertex i (at_epoch (w.open_epoch i))))
      there (Step.close i) ok p = one p (at_vertex i (at_epoch (w.open_epoch i))) (IsActive.of_input i ok.0 ok.1) (one_tells p (at_vertex i (at_epoch (w.open_epoch i))))
      there (Step.claim_message k at m) ok p = omega arith
      there (Step.claim_request k at n) ok p = omega arith
      there (Step.merge k at m n) ok p = one p (message_pointstamp n) (IsActive.of_mail k (suc at) n ok.0.0 ok.2) (one_tells p (message_pointstamp n))
      there (Step.commit k event out) ok p = one p (event_pointstamp event) (IsActive.of_held k false event ok.0 ok.1) (one_tells p (event_pointstamp event))
      there (Step.abandon k event) ok p = omega arith

      -- no event is at an input, and none comes there
      elsewhere : (p : Pointstamp) (e : ℕ) (u : Time) → AtInput g.inputs p → p ≡ on_edge e u → ⊥
      elsewhere p e u at is = let z : Location.edge e ≡ Location.vertex at.0 = sym (ap (λ (x : Pointstamp). x.location) is) ∙ at.2 in cc

      input : (v : ℕ) (u : Time) (p : Pointstamp) → g.role v ≢ Role.input → AtInput g.inputs p → p ≡ at_vertex v u → ⊥
      input v u p ne at is =
          let z : Location.vertex v ≡ Location.vertex at.0 = sym (ap (λ (x : Pointstamp). x.location) is) ∙ at.2 in
          let e : v ≡ at.0 = cc in
          ne (ap g.role e ∙ law.input_has_role at.0 at.1)

      removed : (k : ℕ) (event : Event) → GoodEvent g k event → (p : Pointstamp) → AtInput g.inputs p → p ≡ event_pointstamp event → ⊥
      removed k (Event.arrival m) fine p at is = elsewhere p m.edge m.time at is
      removed k (Event.notification n) fine p at is = input n.vertex n.time p (λ e. let z : Role.notified ≡ Role.input = sym fine.0 ∙ e in cc) at is

      requested : (k : ℕ) (event : Event) → GoodEvent g k event → (p : Pointstamp) → AtInput g.inputs p → 0 < total (λ n. one_if_same p (request_pointstamp n)) (asked g w k event) → ⊥
      requested k (Event.notification n) fine p at l = omega arith
      requested k (Event.arrival m) fine p at l =
          let b = total_some (asked g w k (Event.arrival m)) (λ n. one_if_same p (request_pointstamp n)) l in
          input (g.target m.edge) m.time p (law.no_input_target m.edge fine.0) at (one_is p (request_pointstamp b.1) b.3 ∙ asked_place g law w good k (Event.arrival m) b.0 b.1 b.2)

      by_commit : (k : ℕ) (event : Event) (out : ℕ → List Record) → Allowed g w (Step.commit k event out) → (p : Pointstamp) → AtInput g.inputs p → (a b : ℕ)
          → parcel_count g k (event_vertex g event) (g.act (event_vertex g event) (event_time event)) out p ≡ a → total (λ n. one_if_same p (request_pointstamp n)) (asked g w k event) ≡ b
          → 0 < a + b + one_if_same p (event_pointstamp event) → ⊥
      by_commit k event out ok p at (suc a) b x y l =
          let fine = held_good g law w good k event ok.0 ok.1 in
          let s = sent_from k (event_vertex g event) (event_time event) out (vertex_fits g law w good k event fine) p (omega arith) in
          elsewhere p s.0 s.1 at s.2
      by_commit k event out ok p at zero (suc b) x y l = requested k event (held_good g law w good k event ok.0 ok.1) p at (omega arith)
      by_commit k event out ok p at zero zero x y l = removed k event (held_good g law w good k event ok.0 ok.1) p at (one_is p (event_pointstamp event) (omega arith))

      feeder : (step : Step) → Allowed g w step → (p : Pointstamp) → AtInput g.inputs p → 0 < step_adds g w step p + step_removes g w step p → step_sender g step ≡ g.workers
      feeder (Step.feed i rs) ok p at l = refl
      feeder (Step.seal i) ok p at l = refl
      feeder (Step.close i) ok p at l = refl
      feeder (Step.claim_message k place m) ok p at l = absurd (omega arith)
      feeder (Step.claim_request k place n) ok p at l = absurd (omega arith)
      feeder (Step.merge k place m n) ok p at l = absurd (elsewhere p n.edge n.time at (one_is p (message_pointstamp n) (omega arith)))
      feeder (Step.commit k event out) ok p at l = absurd (by_commit k event out ok p at _ _ refl refl l)
      feeder (Step.abandon k event) ok p at l = absurd (omega arith)

  -- the changes leave what is active after the step
  pub counts_after : (step : Step) → Allowed g w step → (applied : Bool) → (p : Pointstamp) → content_after (active_count g w) (changes_of g w step applied) p ≡ active_count g (after_step g w step) p
  counts_after step ok applied p =
      let a : active_count g (after_step g w step) p + step_removes g w step p ≡ active_count g w p + step_adds g w step p = count_step g law w step ok p in
      omega arith

-- the changes of a run may be posted one after the other
pub posted_run : (g : Network) (law : IsNetwork g) → HasFlows g → (steps : List Step) (flags : List Bool) (w w' : World) (h : History) → Kept g w h → Run g w steps w' → ArePosted g.Could g.inputs g.workers (active_count g w) (log_of g w steps flags)
posted_run g law flows [] flags w w' h keeps run = tt
posted_run g law flows (step ∷ steps) [] w w' h keeps run =
    let next = keep_step g law flows w h keeps step run.0 in (
      may_post g law w (good_of g law w h keeps) step run.0 false,
      posted_same g.Could g.inputs g.workers (active_count g (after_step g w step)) (content_after (active_count g w) (changes_of g w step false)) (log_of g (after_step g w step) steps [])
          (λ p. sym (counts_after g law w (good_of g law w h keeps) step run.0 false p)) (posted_run g law flows steps [] (after_step g w step) w' next.0 next.1 run.1),
    )
posted_run g law flows (step ∷ steps) (flag ∷ flags) w w' h keeps run =
    let next = keep_step g law flows w h keeps step run.0 in (
      may_post g law w (good_of g law w h keeps) step run.0 flag,
      posted_same g.Could g.inputs g.workers (active_count g (after_step g w step)) (content_after (active_count g w) (changes_of g w step flag)) (log_of g (after_step g w step) steps flags)
          (λ p. sym (counts_after g law w (good_of g law w h keeps) step run.0 flag p)) (posted_run g law flows steps flags (after_step g w step) w' next.0 next.1 run.1),
    )

-- the active pointstamps are the first ones plus what was added, without what was removed
active_total : (g : Network) (law : IsNetwork g) (steps : List Step) (flags : List Bool) (w w' : World) → Run g w steps w' → (p : Pointstamp) → active_count g w' p + all_removes (log_of g w steps flags) p ≡ all_adds (active_count g w) (log_of g w steps flags) p
active_total g law [] flags w w' run p = let a : active_count g w p ≡ active_count g w' p = ap (λ x. active_count g x p) run in omega arith
active_total g law (step ∷ steps) [] w w' run p = let a = count_step g law w step run.0 p in let b = active_total g law steps [] (after_step g w step) w' run.1 p in omega arith
active_total g law (step ∷ steps) (flag ∷ flags) w w' run p = let a = count_step g law w step run.0 p in let b = active_total g law steps flags (after_step g w step) w' run.1 p in omega arith

module _ (g : Network) (law : IsNetwork g) (flows : HasFlows g) (steps : List Step) (flags : List Bool) (w : World) (run : Run g opening steps w) where
  pub posted : ArePosted g.Could g.inputs g.workers (active_count g opening) (log_of g opening steps flags)
  posted = posted_run g law flows steps flags opening w (start g) (keep_opening g law) run

  -- a pointstamp is active exactly if it is there by the changes
  pub is_there : (q : Pointstamp) → IsActive g w q → IsThere (active_count g opening) (log_of g opening steps flags) q
  is_there q x = let a = active_total g law steps flags opening w run q in let b = counted g law w q x in omega arith

  pub is_active : (q : Pointstamp) → IsThere (active_count g opening) (log_of g opening steps flags) q → IsActive g w q
  is_active q x = let a = active_total g law steps flags opening w run q in active g law w q (omega arith)
