-- A step makes a pointstamp active only if an active pointstamp could have resulted in it before.
use Rattle.std.proofs.Common.{◌≡◌, ◌≢◌, ◌<◌, ℕ, zero, suc, ◌+◌, true, false, cond, eqb, List, [], ◌∷◌, ◌++◌, ◌⊎◌, inl, inr, refl, sym, ap, ◌∙◌, subst, arith, slice_get, remove, Some}
use Rattle.std.proofs.lemmas.Bool.Decides.{eqb_tells}
use Rattle.semantics.specs.Multiset.{Record, end_to_end}
use Rattle.semantics.specs.Could.{Pointstamp, on_edge, at_vertex}
use Rattle.semantics.specs.Time.{Time, at_epoch}
use Rattle.semantics.specs.Kinds.{Role}
use Rattle.semantics.specs.Shard.{asks}
use Rattle.machine.specs.Network.{Network}
use Rattle.machine.specs.World.{Message, Request, Event, Held, World}
use Rattle.machine.specs.Active.{IsActive, message_pointstamp, request_pointstamp, event_pointstamp}
use Rattle.machine.specs.Frontier.{NoneBefore, NoOtherBefore}
use Rattle.machine.specs.Sending.{parcels}
use Rattle.machine.specs.Processing.{event_vertex, event_time, asked}
use Rattle.machine.specs.Step.{Step, InputOpen, Allowed, after_step, merged, put}
use Rattle.machine.proofs.Kept.{each}
use Rattle.machine.proofs.Counting.{eqb_self}
use Rattle.machine.proofs.Kept.{GoodMessage, GoodRequest, GoodEvent, GoodHeld}
use Rattle.machine.proofs.Laws.{IsNetwork}
use Rattle.machine.proofs.Merges.{mail_merged, merged_from}
use Rattle.machine.proofs.Rank.{could_back}
use Rattle.machine.proofs.Sending.{Parcel, parcels_good, fits_sent, fits_fed, each_at, slice_get-append, slice_get-remove}

-- each pointstamp that is active in w' could have come from an active pointstamp of w
abbrev pub Under : Network → World → World → Type 0
Under g w w' = (q : Pointstamp) → IsActive g w' q → (p : Pointstamp) × IsActive g w p × g.Could p q

pub none_before_under : (g : Network) (law : IsNetwork g) (w w' : World) → Under g w w' → (p : Pointstamp) → NoneBefore g w p → NoneBefore g w' p
none_before_under g law w w' under p none q active c = let u = under q active in none u.0 u.1 (law.could_on u.0 q p u.2 c)

pub no_other_under : (g : Network) (law : IsNetwork g) (w w' : World) → Under g w w' → (p : Pointstamp) → NoOtherBefore g w p → NoOtherBefore g w' p
no_other_under g law w w' under p none q active c =
    let u = under q active in
    let is : u.0 ≡ p = none u.0 u.1 (law.could_on u.0 q p u.2 c) in
    could_back g law q p c (subst (λ (x : Pointstamp). g.Could x q) is u.2)

-- the request that a notified vertex's shard makes if it had absorbed these records
abbrev pub asked_first : ℕ → Time → List Record → List Request
asked_first v t before = cond (asks Role.notified before) (record { vertex = v; time = t } ∷ []) []

-- the same by role
abbrev pub asked_by : Role → ℕ → Time → List Record → List Request
asked_by role v t before = cond (asks role before) (record { vertex = v; time = t } ∷ []) []

-- a function with another value at one place
pub put_tells : {X : Type 0} (f : ℕ → X) (k : ℕ) (x : X) (j : ℕ) → ((j ≡ k) × (put f k x j ≡ x)) ⊎ ((j ≢ k) × (put f k x j ≡ f j))
put_tells f k x j = go (eqb_tells j k)
  where
    go : ((eqb j k ≡ true) × (j ≡ k)) ⊎ ((eqb j k ≡ false) × (j ≢ k)) → ((j ≡ k) × (put f k x j ≡ x)) ⊎ ((j ≢ k) × (put f k x j ≡ f j))
    go (inl (a, b)) = inl (b, rw a refl)
    go (inr (a, b)) = inr (b, rw a refl)

pub put_here : {X : Type 0} (f : ℕ → X) (k : ℕ) (x : X) → put f k x k ≡ x
put_here f k x = rw (eqb_self k) refl

-- the parts of a world are well formed
pub record Good (g : Network) (w : World) : Type 0 where
  pub mail : (k : ℕ) → k < g.workers → each (GoodMessage g k) (w.mail k)
  pub requests : (k : ℕ) → k < g.workers → each (GoodRequest g) (w.requests k)
  pub held : (k : ℕ) → k < g.workers → GoodHeld g k (w.held k)

module _ (g : Network) (law : IsNetwork g) (w : World) (good : Good g w) where
  event_fits : (k : ℕ) (event : Event) → GoodEvent g k event → g.IsPointstamp (event_pointstamp event)
  event_fits k (Event.arrival m) x = x.3
  event_fits k (Event.notification n) x = x.1

  pub active_fits : (p : Pointstamp) → IsActive g w p → g.IsPointstamp p
  active_fits p (IsActive.of_input i a b) = law.fits_input i (w.open_epoch i) a
  active_fits p (IsActive.of_mail k at m lk s) = let x : GoodMessage g k m = each_at (GoodMessage g k) (w.mail k) at m (good.mail k lk) s in x.3
  active_fits p (IsActive.of_request k at n lk s) = let x : GoodRequest g n = each_at (GoodRequest g) (w.requests k) at n (good.requests k lk) s in x.1
  active_fits p (IsActive.of_held k up event lk s) = event_fits k event (subst (GoodHeld g k) s (good.held k lk))

  stays : (p : Pointstamp) → IsActive g w p → (q : Pointstamp) × IsActive g w q × g.Could q p
  stays p a = (p, a, law.could_self p (active_fits p a))

  -- the same pointstamp under another name
  stays_as : (p q : Pointstamp) → IsActive g w p → p ≡ q → (o : Pointstamp) × IsActive g w o × g.Could o q
  stays_as p q a e = (p, a, subst (λ (x : Pointstamp). g.Could p x) e (law.could_self p (active_fits p a)))

  -- the pointstamp of an event could result in its vertex
  pub reaches_vertex : (k : ℕ) (event : Event) → GoodEvent g k event → g.Could (event_pointstamp event) (at_vertex (event_vertex g event) (event_time event))
  reaches_vertex k (Event.arrival m) x = law.could_enter m.edge m.time x.0 x.3
  reaches_vertex k (Event.notification n) x = law.could_self (request_pointstamp n) x.1

  pub vertex_fits : (k : ℕ) (event : Event) → GoodEvent g k event → g.IsPointstamp (at_vertex (event_vertex g event) (event_time event))
  vertex_fits k (Event.arrival m) x = law.fits_enter m.edge m.time x.0 x.3
  vertex_fits k (Event.notification n) x = x.1

  pub held_good : (k : ℕ) (event : Event) → k < g.workers → w.held k ≡ Held.holding false event → GoodEvent g k event
  held_good k event lk s = subst (GoodHeld g k) s (good.held k lk)

  under_feed : (i : ℕ) (rs : List Record) → InputOpen g w i → Under g w (after_step g w (Step.feed i rs))
  under_feed i rs ok q (IsActive.of_input j a b) = stays _ (IsActive.of_input j a b)
  under_feed i rs ok q (IsActive.of_request k at n lk s) = stays _ (IsActive.of_request k at n lk s)
  under_feed i rs ok q (IsActive.of_held k up event lk s) = stays _ (IsActive.of_held k up event lk s)
  under_feed i rs ok q (IsActive.of_mail k at m lk s) = go (slice_get-append (w.mail k) _ at m s)
    where
      u : Time
      u = at_epoch (w.open_epoch i)

      go : (slice_get (w.mail k) at ≡ Some m) ⊎ ((to : ℕ) × (slice_get (parcels g 0 i u (λ q. rs) k g.edges) to ≡ Some m)) → (p : Pointstamp) × IsActive g w p × g.Could p (message_pointstamp m)
      go (inl e) = stays (message_pointstamp m) (IsActive.of_mail k at m lk e)
      go (inr e) =
          let p : Parcel g i u k m = each_at _ _ e.0 m (parcels_good g law 0 i u (λ q. rs) k g.edges (fits_fed g law i (w.open_epoch i) ok.0) (omega arith)) e.1 in
          let c : g.Could (at_vertex (g.source m.edge) u) (on_edge m.edge (g.act (g.source m.edge) u)) = law.could_leave m.edge u p.good.0 (subst (λ (x : ℕ). g.IsPointstamp (at_vertex x u)) (sym p.from) (law.fits_input i (w.open_epoch i) ok.0)) in
          let c' = subst (λ (x : ℕ). g.Could (at_vertex x u) (on_edge m.edge (g.act x u))) p.from c in
          let c'' = subst (λ (x : Time). g.Could (at_vertex i u) (on_edge m.edge x)) (law.input_act i u ok.0 ∙ sym p.when) c' in
          (at_vertex i u, IsActive.of_input i ok.0 ok.1, c'')

  under_seal : (i : ℕ) → InputOpen g w i → Under g w (after_step g w (Step.seal i))
  under_seal i ok q (IsActive.of_mail k at m lk s) = stays _ (IsActive.of_mail k at m lk s)
  under_seal i ok q (IsActive.of_request k at n lk s) = stays _ (IsActive.of_request k at n lk s)
  under_seal i ok q (IsActive.of_held k up event lk s) = stays _ (IsActive.of_held k up event lk s)
  under_seal i ok q (IsActive.of_input j a b) = go (put_tells w.open_epoch i (w.open_epoch i + 1) j)
    where
      go : ((j ≡ i) × (put w.open_epoch i (w.open_epoch i + 1) j ≡ w.open_epoch i + 1)) ⊎ ((j ≢ i) × (put w.open_epoch i (w.open_epoch i + 1) j ≡ w.open_epoch j)) → (p : Pointstamp) × IsActive g w p × g.Could p (at_vertex j (at_epoch (put w.open_epoch i (w.open_epoch i + 1) j)))
      go (inl (e, f)) = (at_vertex j (at_epoch (w.open_epoch j)), IsActive.of_input j a b, subst (λ (n : ℕ). g.Could (at_vertex j (at_epoch (w.open_epoch j))) (at_vertex j (at_epoch n))) (ap (λ x. w.open_epoch x + 1) e ∙ sym f) (law.could_later j (w.open_epoch j) a))
      go (inr (e, f)) = (at_vertex j (at_epoch (w.open_epoch j)), IsActive.of_input j a b, subst (λ (n : ℕ). g.Could (at_vertex j (at_epoch (w.open_epoch j))) (at_vertex j (at_epoch n))) (sym f) (law.could_self (at_vertex j (at_epoch (w.open_epoch j))) (law.fits_input j (w.open_epoch j) a)))

  under_close : (i : ℕ) → InputOpen g w i → Under g w (after_step g w (Step.close i))
  under_close i ok q (IsActive.of_mail k at m lk s) = stays _ (IsActive.of_mail k at m lk s)
  under_close i ok q (IsActive.of_request k at n lk s) = stays _ (IsActive.of_request k at n lk s)
  under_close i ok q (IsActive.of_held k up event lk s) = stays _ (IsActive.of_held k up event lk s)
  under_close i ok q (IsActive.of_input j a b) = go (put_tells w.closed i true j)
    where
      go : ((j ≡ i) × (put w.closed i true j ≡ true)) ⊎ ((j ≢ i) × (put w.closed i true j ≡ w.closed j)) → (p : Pointstamp) × IsActive g w p × g.Could p (at_vertex j (at_epoch (w.open_epoch j)))
      go (inl (e, f)) = absurd (let z : true ≡ false = sym f ∙ b in cc)
      go (inr (e, f)) = stays _ (IsActive.of_input j a (sym f ∙ b))

  under_claim_message : (k0 at0 : ℕ) (m0 : Message) → Allowed g w (Step.claim_message k0 at0 m0) → Under g w (after_step g w (Step.claim_message k0 at0 m0))
  under_claim_message k0 at0 m0 ok q (IsActive.of_input j a b) = stays _ (IsActive.of_input j a b)
  under_claim_message k0 at0 m0 ok q (IsActive.of_request k at n lk s) = stays _ (IsActive.of_request k at n lk s)
  under_claim_message k0 at0 m0 ok q (IsActive.of_mail k at m lk s) = go (put_tells w.mail k0 (remove (w.mail k0) at0) k)
    where
      go : ((k ≡ k0) × (put w.mail k0 (remove (w.mail k0) at0) k ≡ remove (w.mail k0) at0)) ⊎ ((k ≢ k0) × (put w.mail k0 (remove (w.mail k0) at0) k ≡ w.mail k)) → (p : Pointstamp) × IsActive g w p × g.Could p (message_pointstamp m)
      go (inl (e, f)) =
          let x = slice_get-remove (w.mail k0) at0 at m (ap (λ ms. slice_get ms at) (sym f) ∙ s) in
          stays (message_pointstamp m) (IsActive.of_mail k0 x.0 m ok.0.0 x.1)
      go (inr (e, f)) = stays (message_pointstamp m) (IsActive.of_mail k at m lk (ap (λ ms. slice_get ms at) (sym f) ∙ s))
  under_claim_message k0 at0 m0 ok q (IsActive.of_held k up event lk s) = go (put_tells w.held k0 (Held.holding false (Event.arrival m0)) k)
    where
      go : ((k ≡ k0) × (put w.held k0 (Held.holding false (Event.arrival m0)) k ≡ Held.holding false (Event.arrival m0))) ⊎ ((k ≢ k0) × (put w.held k0 (Held.holding false (Event.arrival m0)) k ≡ w.held k)) → (p : Pointstamp) × IsActive g w p × g.Could p (event_pointstamp event)
      go (inl (e, f)) =
          let x : Held.holding false (Event.arrival m0) ≡ Held.holding up event = sym f ∙ s in
          let y : Event.arrival m0 ≡ event = cc in
          stays_as (message_pointstamp m0) (event_pointstamp event) (IsActive.of_mail k0 at0 m0 ok.0.0 ok.1) (ap event_pointstamp y)
      go (inr (e, f)) = stays (event_pointstamp event) (IsActive.of_held k up event lk (sym f ∙ s))

  under_claim_request : (k0 at0 : ℕ) (n0 : Request) → Allowed g w (Step.claim_request k0 at0 n0) → Under g w (after_step g w (Step.claim_request k0 at0 n0))
  under_claim_request k0 at0 n0 ok q (IsActive.of_input j a b) = stays _ (IsActive.of_input j a b)
  under_claim_request k0 at0 n0 ok q (IsActive.of_mail k at m lk s) = stays _ (IsActive.of_mail k at m lk s)
  under_claim_request k0 at0 n0 ok q (IsActive.of_request k at n lk s) = go (put_tells w.requests k0 (remove (w.requests k0) at0) k)
    where
      go : ((k ≡ k0) × (put w.requests k0 (remove (w.requests k0) at0) k ≡ remove (w.requests k0) at0)) ⊎ ((k ≢ k0) × (put w.requests k0 (remove (w.requests k0) at0) k ≡ w.requests k)) → (p : Pointstamp) × IsActive g w p × g.Could p (request_pointstamp n)
      go (inl (e, f)) =
          let x = slice_get-remove (w.requests k0) at0 at n (ap (λ ms. slice_get ms at) (sym f) ∙ s) in
          stays (request_pointstamp n) (IsActive.of_request k0 x.0 n ok.0.0 x.1)
      go (inr (e, f)) = stays (request_pointstamp n) (IsActive.of_request k at n lk (ap (λ ms. slice_get ms at) (sym f) ∙ s))
  under_claim_request k0 at0 n0 ok q (IsActive.of_held k up event lk s) = go (put_tells w.held k0 (Held.holding false (Event.notification n0)) k)
    where
      go : ((k ≡ k0) × (put w.held k0 (Held.holding false (Event.notification n0)) k ≡ Held.holding false (Event.notification n0))) ⊎ ((k ≢ k0) × (put w.held k0 (Held.holding false (Event.notification n0)) k ≡ w.held k)) → (p : Pointstamp) × IsActive g w p × g.Could p (event_pointstamp event)
      go (inl (e, f)) =
          let x : Held.holding false (Event.notification n0) ≡ Held.holding up event = sym f ∙ s in
          let y : Event.notification n0 ≡ event = cc in
          stays_as (request_pointstamp n0) (event_pointstamp event) (IsActive.of_request k0 at0 n0 ok.0.0 ok.1) (ap event_pointstamp y)
      go (inr (e, f)) = stays (event_pointstamp event) (IsActive.of_held k up event lk (sym f ∙ s))

  -- both messages have one pointstamp
  under_merge : (k0 at0 : ℕ) (m0 n0 : Message) → Allowed g w (Step.merge k0 at0 m0 n0) → Under g w (after_step g w (Step.merge k0 at0 m0 n0))
  under_merge k0 at0 m0 n0 ok q (IsActive.of_input j a b) = stays _ (IsActive.of_input j a b)
  under_merge k0 at0 m0 n0 ok q (IsActive.of_request k at n lk s) = stays _ (IsActive.of_request k at n lk s)
  under_merge k0 at0 m0 n0 ok q (IsActive.of_held k up event lk s) = stays _ (IsActive.of_held k up event lk s)
  under_merge k0 at0 m0 n0 ok q (IsActive.of_mail k at m lk s) = go (put_tells w.mail k0 (mail_merged (w.mail k0) at0 m0 n0) k)
    where
      here : (merged m0 n0 ≡ m) ⊎ ((to : ℕ) × (slice_get (w.mail k0) to ≡ Some m)) → (p : Pointstamp) × IsActive g w p × g.Could p (message_pointstamp m)
      here (inl x) = stays_as (message_pointstamp m0) (message_pointstamp m) (IsActive.of_mail k0 0 m0 ok.0.0 ok.1) (ap message_pointstamp x)
      here (inr x) = stays (message_pointstamp m) (IsActive.of_mail k0 x.0 m ok.0.0 x.1)

      go : ((k ≡ k0) × (put w.mail k0 (mail_merged (w.mail k0) at0 m0 n0) k ≡ mail_merged (w.mail k0) at0 m0 n0)) ⊎ ((k ≢ k0) × (put w.mail k0 (mail_merged (w.mail k0) at0 m0 n0) k ≡ w.mail k)) → (p : Pointstamp) × IsActive g w p × g.Could p (message_pointstamp m)
      go (inl (e, f)) = here (merged_from (w.mail k0) at0 m0 n0 at m (ap (λ ms. slice_get ms at) (sym f) ∙ s))
      go (inr (e, f)) = stays (message_pointstamp m) (IsActive.of_mail k at m lk (ap (λ ms. slice_get ms at) (sym f) ∙ s))

  under_abandon : (k0 : ℕ) (event0 : Event) → Allowed g w (Step.abandon k0 event0) → Under g w (after_step g w (Step.abandon k0 event0))
  under_abandon k0 event0 ok q (IsActive.of_input j a b) = stays _ (IsActive.of_input j a b)
  under_abandon k0 event0 ok q (IsActive.of_mail k at m lk s) = stays _ (IsActive.of_mail k at m lk s)
  under_abandon k0 event0 ok q (IsActive.of_request k at n lk s) = stays _ (IsActive.of_request k at n lk s)
  under_abandon k0 event0 ok q (IsActive.of_held k up event lk s) = go (put_tells w.held k0 (Held.holding true event0) k)
    where
      go : ((k ≡ k0) × (put w.held k0 (Held.holding true event0) k ≡ Held.holding true event0)) ⊎ ((k ≢ k0) × (put w.held k0 (Held.holding true event0) k ≡ w.held k)) → (p : Pointstamp) × IsActive g w p × g.Could p (event_pointstamp event)
      go (inl (e, f)) =
          let x : Held.holding true event0 ≡ Held.holding up event = sym f ∙ s in
          let y : event0 ≡ event = cc in
          stays_as (event_pointstamp event0) (event_pointstamp event) (IsActive.of_held k0 false event0 ok.0 ok.1) (ap event_pointstamp y)
      go (inr (e, f)) = stays (event_pointstamp event) (IsActive.of_held k up event lk (sym f ∙ s))

  -- what a group asks for is at the vertex and time of the message
  pub asked_place : (k : ℕ) (event : Event) (at : ℕ) (n : Request) → slice_get (asked g w k event) at ≡ Some n → request_pointstamp n ≡ at_vertex (event_vertex g event) (event_time event)
  asked_place k (Event.notification n0) at n s = absurd cc
  asked_place k (Event.arrival m) at n s = go (g.role (g.target m.edge)) refl
    where
      first : (xs : List Record) → slice_get (asked_first (g.target m.edge) m.time xs) at ≡ Some n → (at' : ℕ) → at' ≡ at → request_pointstamp n ≡ at_vertex (g.target m.edge) m.time
      first [] e zero z = let y : slice_get (asked_first (g.target m.edge) m.time []) zero ≡ Some n = ap (slice_get (asked_first (g.target m.edge) m.time [])) z ∙ e in ap request_pointstamp (let x : n ≡ record { vertex = g.target m.edge; time = m.time } = cc in x)
      first [] e (suc i) z = absurd (let y : slice_get (asked_first (g.target m.edge) m.time []) (suc i) ≡ Some n = ap (slice_get (asked_first (g.target m.edge) m.time [])) z ∙ e in cc)
      first (x ∷ xs) e i z = absurd cc

      go : (role : Role) → g.role (g.target m.edge) ≡ role → request_pointstamp n ≡ at_vertex (g.target m.edge) m.time
      go Role.input e = absurd (let x = rw e at s in cc)
      go Role.stateless e = absurd (let x = rw e at s in cc)
      go Role.stateful e = absurd (let x = rw e at s in cc)
      go Role.notified e = let x = rw e at s in first (end_to_end (λ p. w.absorbed k (g.target m.edge) p m.time) (g.ports (g.target m.edge))) x at refl
      go Role.output e = absurd (let x = rw e at s in cc)

  under_commit : (k0 : ℕ) (event0 : Event) (out : ℕ → List Record) → Allowed g w (Step.commit k0 event0 out) → Under g w (after_step g w (Step.commit k0 event0 out))
  under_commit k0 event0 out ok q (IsActive.of_input j a b) = stays _ (IsActive.of_input j a b)
  under_commit k0 event0 out ok q (IsActive.of_held k up event lk s) = go (put_tells w.held k0 Held.nothing k)
    where
      go : ((k ≡ k0) × (put w.held k0 Held.nothing k ≡ Held.nothing)) ⊎ ((k ≢ k0) × (put w.held k0 Held.nothing k ≡ w.held k)) → (p : Pointstamp) × IsActive g w p × g.Could p (event_pointstamp event)
      go (inl (e, f)) = absurd (let x : Held.nothing ≡ Held.holding up event = sym f ∙ s in cc)
      go (inr (e, f)) = stays (event_pointstamp event) (IsActive.of_held k up event lk (sym f ∙ s))
  under_commit k0 event0 out ok q (IsActive.of_request k at n lk s) = go (put_tells w.requests k0 (w.requests k0 ++ asked g w k0 event0) k)
    where
      old : slice_get (w.requests k) at ≡ Some n → (p : Pointstamp) × IsActive g w p × g.Could p (request_pointstamp n)
      old e = stays (request_pointstamp n) (IsActive.of_request k at n lk e)

      new : (to : ℕ) × (slice_get (asked g w k0 event0) to ≡ Some n) → (p : Pointstamp) × IsActive g w p × g.Could p (request_pointstamp n)
      new e = (event_pointstamp event0, IsActive.of_held k0 false event0 ok.0 ok.1, subst (λ (x : Pointstamp). g.Could (event_pointstamp event0) x) (sym (asked_place k0 event0 e.0 n e.1)) (reaches_vertex k0 event0 (held_good k0 event0 ok.0 ok.1)))

      here : k ≡ k0 → (slice_get (w.requests k0) at ≡ Some n) ⊎ ((to : ℕ) × (slice_get (asked g w k0 event0) to ≡ Some n)) → (p : Pointstamp) × IsActive g w p × g.Could p (request_pointstamp n)
      here e (inl x) = old (ap (λ j. slice_get (w.requests j) at) e ∙ x)
      here e (inr x) = new x

      go : ((k ≡ k0) × (put w.requests k0 (w.requests k0 ++ asked g w k0 event0) k ≡ w.requests k0 ++ asked g w k0 event0)) ⊎ ((k ≢ k0) × (put w.requests k0 (w.requests k0 ++ asked g w k0 event0) k ≡ w.requests k)) → (p : Pointstamp) × IsActive g w p × g.Could p (request_pointstamp n)
      go (inl (e, f)) = here e (slice_get-append (w.requests k0) (asked g w k0 event0) at n (ap (λ ms. slice_get ms at) (sym f) ∙ s))
      go (inr (e, f)) = old (ap (λ ms. slice_get ms at) (sym f) ∙ s)
  under_commit k0 event0 out ok q (IsActive.of_mail k at m lk s) = go (slice_get-append (w.mail k) _ at m s)
    where
      v : ℕ
      v = event_vertex g event0

      t : Time
      t = event_time event0

      here : g.IsPointstamp (at_vertex v t)
      here = vertex_fits k0 event0 (held_good k0 event0 ok.0 ok.1)

      go : (slice_get (w.mail k) at ≡ Some m) ⊎ ((to : ℕ) × (slice_get (parcels g k0 v (g.act v t) out k g.edges) to ≡ Some m)) → (p : Pointstamp) × IsActive g w p × g.Could p (message_pointstamp m)
      go (inl e) = stays (message_pointstamp m) (IsActive.of_mail k at m lk e)
      go (inr e) =
          let p : Parcel g v (g.act v t) k m = each_at _ _ e.0 m (parcels_good g law k0 v (g.act v t) out k g.edges (fits_sent g law v t here) (omega arith)) e.1 in
          let c : g.Could (at_vertex (g.source m.edge) t) (on_edge m.edge (g.act (g.source m.edge) t)) = law.could_leave m.edge t p.good.0 (subst (λ (x : ℕ). g.IsPointstamp (at_vertex x t)) (sym p.from) here) in
          let c' = subst (λ (x : ℕ). g.Could (at_vertex x t) (on_edge m.edge (g.act x t))) p.from c in
          let c'' = subst (λ (x : Time). g.Could (at_vertex v t) (on_edge m.edge x)) (sym p.when) c' in
          (event_pointstamp event0, IsActive.of_held k0 false event0 ok.0 ok.1, law.could_on (event_pointstamp event0) (at_vertex v t) (message_pointstamp m) (reaches_vertex k0 event0 (held_good k0 event0 ok.0 ok.1)) c'')

  pub under_step : (step : Step) → Allowed g w step → Under g w (after_step g w step)
  under_step (Step.feed i rs) ok = under_feed i rs ok.0
  under_step (Step.seal i) ok = under_seal i ok
  under_step (Step.close i) ok = under_close i ok
  under_step (Step.claim_message k at m) ok = under_claim_message k at m ok
  under_step (Step.claim_request k at n) ok = under_claim_request k at n ok
  under_step (Step.merge k at m n) ok = under_merge k at m n ok
  under_step (Step.commit k event out) ok = under_commit k event out ok
  under_step (Step.abandon k event) ok = under_abandon k event ok
