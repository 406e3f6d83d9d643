-- The active pointstamps as a multiset.
use Rattle.std.proofs.Common.{◌≡◌, ◌≢◌, ◌≤◌, ◌<◌, ℕ, zero, suc, ◌+◌, Bool, true, false, cond, eqb, List, [], ◌∷◌, ◌++◌, ◌⊎◌, inl, inr, refl, sym, ap, ◌∙◌, subst, ap₂, arith, slice_get, remove, Some}
use Rattle.std.proofs.lemmas.Bool.Decides.{eqb_tells}
use Rattle.semantics.specs.Multiset.{total, Record}
use Rattle.semantics.specs.Could.{Pointstamp, at_vertex, Location}
use Rattle.semantics.specs.Time.{same_time, at_epoch}
use Rattle.machine.specs.Network.{Network}
use Rattle.machine.specs.World.{Message, Request, Event, Held, World}
use Rattle.machine.specs.Active.{same_location, one_if_same, held_count, open_input_count, worker_count, active_count, sum_below, IsActive, message_pointstamp, request_pointstamp, event_pointstamp}
use Rattle.machine.specs.Sending.{parcels}
use Rattle.machine.specs.Processing.{event_vertex, event_time, asked}
use Rattle.machine.specs.Step.{Step, Allowed, after_step, put}
use Rattle.machine.specs.Changes.{step_adds, step_removes}
use Rattle.semantics.proofs.MultisetSums.{total-append}
use Rattle.machine.proofs.Counting.{below_same, below_add, below_one, below_changed, total-remove, total_one}
use Rattle.machine.proofs.Laws.{IsNetwork}
use Rattle.machine.proofs.Merges.{mail_merged, total_merged}
use Rattle.machine.proofs.Places.{same_time_tells}
use Rattle.machine.proofs.Progress.{put_tells, put_here}

same_location_tells : (a b : Location) → ((same_location a b ≡ true) × (a ≡ b)) ⊎ ((same_location a b ≡ false) × (a ≢ b))
same_location_tells (Location.edge e) (Location.edge f) = go (eqb_tells e f)
  where
    go : ((eqb e f ≡ true) × (e ≡ f)) ⊎ ((eqb e f ≡ false) × (e ≢ f)) → ((eqb e f ≡ true) × (Location.edge e ≡ Location.edge f)) ⊎ ((eqb e f ≡ false) × (Location.edge e ≢ Location.edge f))
    go (inl (a, b)) = inl (a, ap Location.edge b)
    go (inr (a, b)) = inr (a, λ x. b cc)
same_location_tells (Location.edge e) (Location.vertex v) = inr (refl, λ x. cc)
same_location_tells (Location.vertex v) (Location.edge e) = inr (refl, λ x. cc)
same_location_tells (Location.vertex v) (Location.vertex u) = go (eqb_tells v u)
  where
    go : ((eqb v u ≡ true) × (v ≡ u)) ⊎ ((eqb v u ≡ false) × (v ≢ u)) → ((eqb v u ≡ true) × (Location.vertex v ≡ Location.vertex u)) ⊎ ((eqb v u ≡ false) × (Location.vertex v ≢ Location.vertex u))
    go (inl (a, b)) = inl (a, ap Location.vertex b)
    go (inr (a, b)) = inr (a, λ x. b cc)

pub one_tells : (p q : Pointstamp) → ((one_if_same p q ≡ 1) × (p ≡ q)) ⊎ ((one_if_same p q ≡ 0) × (p ≢ q))
one_tells p q = go (same_location_tells p.location q.location) (same_time_tells p.time q.time)
  where
    go : ((same_location p.location q.location ≡ true) × (p.location ≡ q.location)) ⊎ ((same_location p.location q.location ≡ false) × (p.location ≢ q.location)) → ((same_time p.time q.time ≡ true) × (p.time ≡ q.time)) ⊎ ((same_time p.time q.time ≡ false) × (p.time ≢ q.time)) → ((one_if_same p q ≡ 1) × (p ≡ q)) ⊎ ((one_if_same p q ≡ 0) × (p ≢ q))
    go (inl (a, b)) (inl (c, d)) = inl (rw (a, c) refl, λ i. record { time = d i; location = b i })
    go (inl (a, b)) (inr (c, d)) = inr (rw (a, c) refl, λ e. d (ap (λ (x : Pointstamp). x.time) e))
    go (inr (a, b)) s = inr (rw a refl, λ e. b (ap (λ (x : Pointstamp). x.location) e))

pub one_self : (p : Pointstamp) → one_if_same p p ≡ 1
one_self p = go (one_tells p p)
  where
    go : ((one_if_same p p ≡ 1) × (p ≡ p)) ⊎ ((one_if_same p p ≡ 0) × (p ≢ p)) → one_if_same p p ≡ 1
    go (inl x) = x.0
    go (inr x) = absurd (x.1 refl)

pub one_is : (p q : Pointstamp) → 0 < one_if_same p q → p ≡ q
one_is p q l = go (one_tells p q)
  where
    go : ((one_if_same p q ≡ 1) × (p ≡ q)) ⊎ ((one_if_same p q ≡ 0) × (p ≢ q)) → p ≡ q
    go (inl x) = x.1
    go (inr x) = absurd (let e = x.0 in omega arith)

-- a sum above 0 has a term above 0
pub below_some : (n : ℕ) (f : ℕ → ℕ) → 0 < sum_below n f → (k : ℕ) × (k < n) × (0 < f k)
below_some zero f l = absurd (omega arith)
below_some (suc n) f l = go (f n) refl (below_some n f)
  where
    go : (m : ℕ) → f n ≡ m → (0 < sum_below n f → (k : ℕ) × (k < n) × (0 < f k)) → (k : ℕ) × (k < suc n) × (0 < f k)
    go (suc m) e ih = (n, omega arith, omega arith)
    go zero e ih = let x = ih (omega arith) in (x.0, (let y = x.1 in omega arith), x.2)

pub total_some : {X : Type 0} (xs : List X) (f : X → ℕ) → 0 < total f xs → (at : ℕ) × (x : X) × (slice_get xs at ≡ Some x) × (0 < f x)
total_some [] f l = absurd (omega arith)
total_some (x ∷ xs) f l = go (f x) refl (total_some xs f)
  where
    go : (m : ℕ) → f x ≡ m → (0 < total f xs → (at : ℕ) × (y : _) × (slice_get xs at ≡ Some y) × (0 < f y)) → (at : ℕ) × (y : _) × (slice_get (x ∷ xs) at ≡ Some y) × (0 < f y)
    go (suc m) e ih = (zero, x, refl, omega arith)
    go zero e ih = let y = ih (omega arith) in (suc y.0, y.1, y.2, y.3)

module _ (g : Network) (law : IsNetwork g) (w : World) where
  -- what is active is counted
  pub counted : (p : Pointstamp) → IsActive g w p → 0 < active_count g w p
  counted p (IsActive.of_input i s e) =
      let a : open_input_count w (at_vertex i (at_epoch (w.open_epoch i))) i ≡ 1 = ap (λ b. cond b 0 (one_if_same (at_vertex i (at_epoch (w.open_epoch i))) (at_vertex i (at_epoch (w.open_epoch i))))) e ∙ one_self (at_vertex i (at_epoch (w.open_epoch i))) in
      let b = below_one g.inputs i (open_input_count w (at_vertex i (at_epoch (w.open_epoch i)))) (law.role_is_input i s) in
      omega arith
  counted p (IsActive.of_mail k at m lk s) =
      let a : one_if_same (message_pointstamp m) (message_pointstamp m) ≤ total (λ x. one_if_same (message_pointstamp m) (message_pointstamp x)) (w.mail k) = total_one (λ x. one_if_same (message_pointstamp m) (message_pointstamp x)) (w.mail k) at m s in
      let b = below_one g.workers k (worker_count w (message_pointstamp m)) lk in
      let c = one_self (message_pointstamp m) in
      omega arith
  counted p (IsActive.of_request k at n lk s) =
      let a : one_if_same (request_pointstamp n) (request_pointstamp n) ≤ total (λ x. one_if_same (request_pointstamp n) (request_pointstamp x)) (w.requests k) = total_one (λ x. one_if_same (request_pointstamp n) (request_pointstamp x)) (w.requests k) at n s in
      let b = below_one g.workers k (worker_count w (request_pointstamp n)) lk in
      let c = one_self (request_pointstamp n) in
      omega arith
  counted p (IsActive.of_held k up event lk s) =
      let a : held_count (event_pointstamp event) (w.held k) ≡ one_if_same (event_pointstamp event) (event_pointstamp event) = ap (held_count (event_pointstamp event)) s in
      let b = below_one g.workers k (worker_count w (event_pointstamp event)) lk in
      let c = one_self (event_pointstamp event) in
      omega arith

  -- what is counted is active
  pub active : (p : Pointstamp) → 0 < active_count g w p → IsActive g w p
  active p l = go (sum_below g.inputs (open_input_count w p)) refl
    where
      input : (i : ℕ) → i < g.inputs → 0 < open_input_count w p i → (b : Bool) → w.closed i ≡ b → IsActive g w p
      input i li s true e = absurd (let z : open_input_count w p i ≡ 0 = rw e refl in omega arith)
      input i li s false e =
          let z : open_input_count w p i ≡ one_if_same p (at_vertex i (at_epoch (w.open_epoch i))) = rw e refl in
          subst (IsActive g w) (sym (one_is p (at_vertex i (at_epoch (w.open_epoch i))) (omega arith))) (IsActive.of_input i (law.input_has_role i li) e)

      held : (k : ℕ) → k < g.workers → (x : Held) → w.held k ≡ x → 0 < held_count p x → IsActive g w p
      held k lk Held.nothing e s = absurd (omega arith)
      held k lk (Held.holding up event) e s = subst (IsActive g w) (sym (one_is p (event_pointstamp event) s)) (IsActive.of_held k up event lk e)

      worker : (k : ℕ) → k < g.workers → 0 < worker_count w p k → (m n : ℕ) → total (λ m. one_if_same p (message_pointstamp m)) (w.mail k) ≡ m → total (λ n. one_if_same p (request_pointstamp n)) (w.requests k) ≡ n → IsActive g w p
      worker k lk s (suc m) n e f = let x = total_some (w.mail k) (λ m. one_if_same p (message_pointstamp m)) (omega arith) in subst (IsActive g w) (sym (one_is p (message_pointstamp x.1) x.3)) (IsActive.of_mail k x.0 x.1 lk x.2)
      worker k lk s zero (suc n) e f = let x = total_some (w.requests k) (λ n. one_if_same p (request_pointstamp n)) (omega arith) in subst (IsActive g w) (sym (one_is p (request_pointstamp x.1) x.3)) (IsActive.of_request k x.0 x.1 lk x.2)
      worker k lk s zero zero e f = held k lk (w.held k) refl (omega arith)

      go : (n : ℕ) → sum_below g.inputs (open_input_count w p) ≡ n → IsActive g w p
      go (suc n) e = let x = below_some g.inputs (open_input_count w p) (omega arith) in input x.0 x.1 x.2 (w.closed x.0) refl
      go zero e = let x = below_some g.workers (worker_count w p) (omega arith) in worker x.0 x.1 x.2 _ _ refl refl

  count_feed : (i : ℕ) (rs : List Record) → (p : Pointstamp) → active_count g (after_step g w (Step.feed i rs)) p + 0 ≡ active_count g w p + step_adds g w (Step.feed i rs) p
  count_feed i rs p =
      let a : sum_below g.workers (worker_count (after_step g w (Step.feed i rs)) p) ≡ sum_below g.workers (λ k. worker_count w p k + total (λ m. one_if_same p (message_pointstamp m)) (parcels g 0 i (at_epoch (w.open_epoch i)) (λ q. rs) k g.edges)) =
      below_same g.workers _ _ (λ k lk. let o = total-append (λ m. one_if_same p (message_pointstamp m)) (w.mail k) (parcels g 0 i (at_epoch (w.open_epoch i)) (λ q. rs) k g.edges) in omega arith) in
      let b = below_add g.workers (worker_count w p) (λ k. total (λ m. one_if_same p (message_pointstamp m)) (parcels g 0 i (at_epoch (w.open_epoch i)) (λ q. rs) k g.edges)) in
      omega arith

  count_seal : (i : ℕ) → i < g.inputs → w.closed i ≡ false → (p : Pointstamp) → active_count g (after_step g w (Step.seal i)) p + step_removes g w (Step.seal i) p ≡ active_count g w p + step_adds g w (Step.seal i) p
  count_seal i li e p =
      let a : sum_below g.inputs (open_input_count (after_step g w (Step.seal i)) p) + open_input_count w p i ≡ sum_below g.inputs (open_input_count w p) + open_input_count (after_step g w (Step.seal i)) p i =
      below_changed g.inputs i (open_input_count w p) (open_input_count (after_step g w (Step.seal i)) p) li (λ j lj ne. other j ne (put_tells w.open_epoch i (w.open_epoch i + 1) j)) in
      let b : open_input_count w p i ≡ one_if_same p (at_vertex i (at_epoch (w.open_epoch i))) = rw e refl in
      let c : open_input_count (after_step g w (Step.seal i)) p i ≡ one_if_same p (at_vertex i (at_epoch (w.open_epoch i + 1))) = rw e (ap (λ n. one_if_same p (at_vertex i (at_epoch n))) (put_here w.open_epoch i (w.open_epoch i + 1))) in
      omega arith
    where
      other : (j : ℕ) → j ≢ i → ((j ≡ i) × (put w.open_epoch i (w.open_epoch i + 1) j ≡ w.open_epoch i + 1)) ⊎ ((j ≢ i) × (put w.open_epoch i (w.open_epoch i + 1) j ≡ w.open_epoch j)) → open_input_count (after_step g w (Step.seal i)) p j ≡ open_input_count w p j
      other j ne (inl (x, y)) = absurd (ne x)
      other j ne (inr (x, y)) = ap (λ n. cond (w.closed j) 0 (one_if_same p (at_vertex j (at_epoch n)))) y

  count_close : (i : ℕ) → i < g.inputs → w.closed i ≡ false → (p : Pointstamp) → active_count g (after_step g w (Step.close i)) p + step_removes g w (Step.close i) p ≡ active_count g w p + 0
  count_close i li e p =
      let a : sum_below g.inputs (open_input_count (after_step g w (Step.close i)) p) + open_input_count w p i ≡ sum_below g.inputs (open_input_count w p) + open_input_count (after_step g w (Step.close i)) p i =
      below_changed g.inputs i (open_input_count w p) (open_input_count (after_step g w (Step.close i)) p) li (λ j lj ne. other j ne (put_tells w.closed i true j)) in
      let b : open_input_count w p i ≡ one_if_same p (at_vertex i (at_epoch (w.open_epoch i))) = rw e refl in
      let c : open_input_count (after_step g w (Step.close i)) p i ≡ 0 = ap (λ b. cond b 0 (one_if_same p (at_vertex i (at_epoch (w.open_epoch i))))) (put_here w.closed i true) in
      omega arith
    where
      other : (j : ℕ) → j ≢ i → ((j ≡ i) × (put w.closed i true j ≡ true)) ⊎ ((j ≢ i) × (put w.closed i true j ≡ w.closed j)) → open_input_count (after_step g w (Step.close i)) p j ≡ open_input_count w p j
      other j ne (inl (x, y)) = absurd (ne x)
      other j ne (inr (x, y)) = ap (λ b. cond b 0 (one_if_same p (at_vertex j (at_epoch (w.open_epoch j))))) y

  count_claim_message : (k0 at : ℕ) (m : Message) → Allowed g w (Step.claim_message k0 at m) → (p : Pointstamp) → active_count g (after_step g w (Step.claim_message k0 at m)) p + 0 ≡ active_count g w p + 0
  count_claim_message k0 at m ok p =
      let a : sum_below g.workers (worker_count (after_step g w (Step.claim_message k0 at m)) p) ≡ sum_below g.workers (worker_count w p) =
      below_same g.workers _ _ (λ k lk. way k (put_tells w.mail k0 (remove (w.mail k0) at) k) (put_tells w.held k0 (Held.holding false (Event.arrival m)) k)) in
      omega arith
    where
      way : (k : ℕ) → ((k ≡ k0) × (put w.mail k0 (remove (w.mail k0) at) k ≡ remove (w.mail k0) at)) ⊎ ((k ≢ k0) × (put w.mail k0 (remove (w.mail k0) at) k ≡ w.mail k)) → ((k ≡ k0) × (put w.held k0 (Held.holding false (Event.arrival m)) k ≡ Held.holding false (Event.arrival m))) ⊎ ((k ≢ k0) × (put w.held k0 (Held.holding false (Event.arrival m)) k ≡ w.held k)) → worker_count (after_step g w (Step.claim_message k0 at m)) p k ≡ worker_count w p k
      way k (inl (x, y)) (inl (x', y')) =
          let a : total (λ m. one_if_same p (message_pointstamp m)) (put w.mail k0 (remove (w.mail k0) at) k) ≡ total (λ m. one_if_same p (message_pointstamp m)) (remove (w.mail k0) at) = ap (λ ms. total (λ m. one_if_same p (message_pointstamp m)) ms) y in
          let b : total (λ m. one_if_same p (message_pointstamp m)) (remove (w.mail k0) at) + one_if_same p (message_pointstamp m) ≡ total (λ m. one_if_same p (message_pointstamp m)) (w.mail k0) = total-remove (λ m. one_if_same p (message_pointstamp m)) (w.mail k0) at m ok.1 in
          let c : total (λ m. one_if_same p (message_pointstamp m)) (w.mail k) ≡ total (λ m. one_if_same p (message_pointstamp m)) (w.mail k0) = ap (λ j. total (λ m. one_if_same p (message_pointstamp m)) (w.mail j)) x in
          let d : held_count p (put w.held k0 (Held.holding false (Event.arrival m)) k) ≡ one_if_same p (message_pointstamp m) = ap (held_count p) y' in
          let f : held_count p (w.held k) ≡ 0 = ap (held_count p) (ap w.held x ∙ ok.0.1) in
          omega arith
      way k (inl (x, y)) (inr (x', y')) = absurd (x' x)
      way k (inr (x, y)) (inl (x', y')) = absurd (x x')
      way k (inr (x, y)) (inr (x', y')) = ap₂ (λ ms z. total (λ m. one_if_same p (message_pointstamp m)) ms + total (λ n. one_if_same p (request_pointstamp n)) (w.requests k) + held_count p z) y y'

  count_claim_request : (k0 at : ℕ) (n : Request) → Allowed g w (Step.claim_request k0 at n) → (p : Pointstamp) → active_count g (after_step g w (Step.claim_request k0 at n)) p + 0 ≡ active_count g w p + 0
  count_claim_request k0 at n ok p =
      let a : sum_below g.workers (worker_count (after_step g w (Step.claim_request k0 at n)) p) ≡ sum_below g.workers (worker_count w p) =
      below_same g.workers _ _ (λ k lk. way k (put_tells w.requests k0 (remove (w.requests k0) at) k) (put_tells w.held k0 (Held.holding false (Event.notification n)) k)) in
      omega arith
    where
      way : (k : ℕ) → ((k ≡ k0) × (put w.requests k0 (remove (w.requests k0) at) k ≡ remove (w.requests k0) at)) ⊎ ((k ≢ k0) × (put w.requests k0 (remove (w.requests k0) at) k ≡ w.requests k)) → ((k ≡ k0) × (put w.held k0 (Held.holding false (Event.notification n)) k ≡ Held.holding false (Event.notification n))) ⊎ ((k ≢ k0) × (put w.held k0 (Held.holding false (Event.notification n)) k ≡ w.held k)) → worker_count (after_step g w (Step.claim_request k0 at n)) p k ≡ worker_count w p k
      way k (inl (x, y)) (inl (x', y')) =
          let a : total (λ m. one_if_same p (request_pointstamp m)) (put w.requests k0 (remove (w.requests k0) at) k) ≡ total (λ m. one_if_same p (request_pointstamp m)) (remove (w.requests k0) at) = ap (λ ms. total (λ m. one_if_same p (request_pointstamp m)) ms) y in
          let b : total (λ m. one_if_same p (request_pointstamp m)) (remove (w.requests k0) at) + one_if_same p (request_pointstamp n) ≡ total (λ m. one_if_same p (request_pointstamp m)) (w.requests k0) = total-remove (λ m. one_if_same p (request_pointstamp m)) (w.requests k0) at n ok.1 in
          let c : total (λ m. one_if_same p (request_pointstamp m)) (w.requests k) ≡ total (λ m. one_if_same p (request_pointstamp m)) (w.requests k0) = ap (λ j. total (λ m. one_if_same p (request_pointstamp m)) (w.requests j)) x in
          let d : held_count p (put w.held k0 (Held.holding false (Event.notification n)) k) ≡ one_if_same p (request_pointstamp n) = ap (held_count p) y' in
          let f : held_count p (w.held k) ≡ 0 = ap (held_count p) (ap w.held x ∙ ok.0.1) in
          omega arith
      way k (inl (x, y)) (inr (x', y')) = absurd (x' x)
      way k (inr (x, y)) (inl (x', y')) = absurd (x x')
      way k (inr (x, y)) (inr (x', y')) = ap₂ (λ ms z. total (λ m. one_if_same p (message_pointstamp m)) (w.mail k) + total (λ n. one_if_same p (request_pointstamp n)) ms + held_count p z) y y'

  -- two messages with one pointstamp are merged
  count_merge : (k0 at : ℕ) (m n : Message) → Allowed g w (Step.merge k0 at m n) → (p : Pointstamp) → active_count g (after_step g w (Step.merge k0 at m n)) p + step_removes g w (Step.merge k0 at m n) p ≡ active_count g w p + 0
  count_merge k0 at m n ok p =
      let a : sum_below g.workers (worker_count (after_step g w (Step.merge k0 at m n)) p) + worker_count w p k0 ≡ sum_below g.workers (worker_count w p) + worker_count (after_step g w (Step.merge k0 at m n)) p k0 =
      below_changed g.workers k0 (worker_count w p) (worker_count (after_step g w (Step.merge k0 at m n)) p) ok.0.0 (λ j lj ne. other j ne (put_tells w.mail k0 (mail_merged (w.mail k0) at m n) j)) in
      let b : total (λ m. one_if_same p (message_pointstamp m)) (put w.mail k0 (mail_merged (w.mail k0) at m n) k0) ≡ total (λ m. one_if_same p (message_pointstamp m)) (mail_merged (w.mail k0) at m n) =
      ap (total (λ m. one_if_same p (message_pointstamp m))) (put_here w.mail k0 (mail_merged (w.mail k0) at m n)) in
      let c : total (λ m. one_if_same p (message_pointstamp m)) (mail_merged (w.mail k0) at m n) + one_if_same p (message_pointstamp m) + one_if_same p (message_pointstamp n) ≡ total (λ m. one_if_same p (message_pointstamp m)) (w.mail k0) + one_if_same p (message_pointstamp m) =
      total_merged (λ m. one_if_same p (message_pointstamp m)) (w.mail k0) at m n ok.1 ok.2 in
      omega arith
    where
      other : (j : ℕ) → j ≢ k0 → ((j ≡ k0) × (put w.mail k0 (mail_merged (w.mail k0) at m n) j ≡ mail_merged (w.mail k0) at m n)) ⊎ ((j ≢ k0) × (put w.mail k0 (mail_merged (w.mail k0) at m n) j ≡ w.mail j))
          → worker_count (after_step g w (Step.merge k0 at m n)) p j ≡ worker_count w p j
      other j ne (inl (x, y)) = absurd (ne x)
      other j ne (inr (x, y)) = ap (λ ms. total (λ m. one_if_same p (message_pointstamp m)) ms + total (λ n. one_if_same p (request_pointstamp n)) (w.requests j) + held_count p (w.held j)) y

  count_abandon : (k0 : ℕ) (event : Event) → Allowed g w (Step.abandon k0 event) → (p : Pointstamp) → active_count g (after_step g w (Step.abandon k0 event)) p + 0 ≡ active_count g w p + 0
  count_abandon k0 event ok p =
      let a : sum_below g.workers (worker_count (after_step g w (Step.abandon k0 event)) p) ≡ sum_below g.workers (worker_count w p) =
      below_same g.workers _ _ (λ k lk. way k (put_tells w.held k0 (Held.holding true event) k)) in
      omega arith
    where
      way : (k : ℕ) → ((k ≡ k0) × (put w.held k0 (Held.holding true event) k ≡ Held.holding true event)) ⊎ ((k ≢ k0) × (put w.held k0 (Held.holding true event) k ≡ w.held k)) → worker_count (after_step g w (Step.abandon k0 event)) p k ≡ worker_count w p k
      way k (inl (x, y)) = ap (λ z. total (λ m. one_if_same p (message_pointstamp m)) (w.mail k) + total (λ n. one_if_same p (request_pointstamp n)) (w.requests k) + held_count p z) y ∙ sym (ap (λ z. total (λ m. one_if_same p (message_pointstamp m)) (w.mail k) + total (λ n. one_if_same p (request_pointstamp n)) (w.requests k) + held_count p z) (ap w.held x ∙ ok.1))
      way k (inr (x, y)) = ap (λ z. total (λ m. one_if_same p (message_pointstamp m)) (w.mail k) + total (λ n. one_if_same p (request_pointstamp n)) (w.requests k) + held_count p z) y

  count_commit : (k0 : ℕ) (event : Event) (out : ℕ → List Record) → Allowed g w (Step.commit k0 event out) → (p : Pointstamp) → active_count g (after_step g w (Step.commit k0 event out)) p + step_removes g w (Step.commit k0 event out) p ≡ active_count g w p + step_adds g w (Step.commit k0 event out) p
  count_commit k0 event out ok p =
      let middle : ℕ → ℕ = λ k. total (λ m. one_if_same p (message_pointstamp m)) (w.mail k) + total (λ n. one_if_same p (request_pointstamp n)) (put w.requests k0 (w.requests k0 ++ asked g w k0 event) k) + held_count p (put w.held k0 Held.nothing k) in
      let a : sum_below g.workers (worker_count (after_step g w (Step.commit k0 event out)) p) ≡ sum_below g.workers (λ k. middle k + total (λ m. one_if_same p (message_pointstamp m)) (parcels g k0 (event_vertex g event) (g.act (event_vertex g event) (event_time event)) out k g.edges)) =
      below_same g.workers _ _ (λ k lk. let o = total-append (λ m. one_if_same p (message_pointstamp m)) (w.mail k) (parcels g k0 (event_vertex g event) (g.act (event_vertex g event) (event_time event)) out k g.edges) in omega arith) in
      let b = below_add g.workers middle (λ k. total (λ m. one_if_same p (message_pointstamp m)) (parcels g k0 (event_vertex g event) (g.act (event_vertex g event) (event_time event)) out k g.edges)) in
      let c : sum_below g.workers middle + worker_count w p k0 ≡ sum_below g.workers (worker_count w p) + middle k0 =
      below_changed g.workers k0 (worker_count w p) middle ok.0 (λ j lj ne. other j ne (put_tells w.requests k0 (w.requests k0 ++ asked g w k0 event) j) (put_tells w.held k0 Held.nothing j)) in
      let d : middle k0 ≡ total (λ m. one_if_same p (message_pointstamp m)) (w.mail k0) + total (λ n. one_if_same p (request_pointstamp n)) (w.requests k0 ++ asked g w k0 event) + 0 =
      ap₂ (λ ms z. total (λ m. one_if_same p (message_pointstamp m)) (w.mail k0) + total (λ n. one_if_same p (request_pointstamp n)) ms + held_count p z) (put_here w.requests k0 (w.requests k0 ++ asked g w k0 event)) (put_here w.held k0 Held.nothing) in
      let f = total-append (λ n. one_if_same p (request_pointstamp n)) (w.requests k0) (asked g w k0 event) in
      let i : held_count p (w.held k0) ≡ one_if_same p (event_pointstamp event) = ap (held_count p) ok.1 in
      omega arith
    where
      other : (j : ℕ) → j ≢ k0 → ((j ≡ k0) × (put w.requests k0 (w.requests k0 ++ asked g w k0 event) j ≡ w.requests k0 ++ asked g w k0 event)) ⊎ ((j ≢ k0) × (put w.requests k0 (w.requests k0 ++ asked g w k0 event) j ≡ w.requests j)) → ((j ≡ k0) × (put w.held k0 Held.nothing j ≡ Held.nothing)) ⊎ ((j ≢ k0) × (put w.held k0 Held.nothing j ≡ w.held j))
          → total (λ m. one_if_same p (message_pointstamp m)) (w.mail j) + total (λ n. one_if_same p (request_pointstamp n)) (put w.requests k0 (w.requests k0 ++ asked g w k0 event) j) + held_count p (put w.held k0 Held.nothing j) ≡ worker_count w p j
      other j ne (inl (x, y)) z = absurd (ne x)
      other j ne (inr (x, y)) (inl (x', y')) = absurd (ne x')
      other j ne (inr (x, y)) (inr (x', y')) = ap₂ (λ ms z. total (λ m. one_if_same p (message_pointstamp m)) (w.mail j) + total (λ n. one_if_same p (request_pointstamp n)) ms + held_count p z) y y'

  -- each step changes the count by what it adds and removes
  pub count_step : (step : Step) → Allowed g w step → (p : Pointstamp) → active_count g (after_step g w step) p + step_removes g w step p ≡ active_count g w p + step_adds g w step p
  count_step (Step.feed i rs) ok p = count_feed i rs p
  count_step (Step.seal i) ok p = count_seal i (law.role_is_input i ok.0) ok.1 p
  count_step (Step.close i) ok p = count_close i (law.role_is_input i ok.0) ok.1 p
  count_step (Step.claim_message k at m) ok p = count_claim_message k at m ok p
  count_step (Step.claim_request k at n) ok p = count_claim_request k at n ok p
  count_step (Step.merge k at m n) ok p = count_merge k at m n ok p
  count_step (Step.commit k event out) ok p = count_commit k event out ok p
  count_step (Step.abandon k event) ok p = count_abandon k event ok p
