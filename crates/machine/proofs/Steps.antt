-- Each step except a commit keeps the facts that hold in every reached world.
use Rattle.std.proofs.Common.{◌≡◌, ◌≢◌, ◌<◌, ℕ, suc, ◌+◌, Bool, true, false, cond, ◌&&◌, eqb, List, [], ◌∷◌, ◌++◌, ◌⊎◌, inl, inr, sym, ap, ◌∙◌, subst, ap₂, arith, slice_get, remove}
use Rattle.std.proofs.lemmas.Bool.Decides.{eqb_tells}
use Rattle.semantics.specs.Multiset.{total, Record, count, one_if}
use Rattle.semantics.specs.Could.{Pointstamp, at_vertex}
use Rattle.semantics.specs.Time.{Time, same_counters, same_time, at_epoch}
use Rattle.semantics.specs.Kinds.{Role}
use Rattle.machine.specs.Network.{Network}
use Rattle.machine.specs.World.{Message, Request, Event, Held, World}
use Rattle.machine.specs.Active.{sum_below, request_pointstamp}
use Rattle.machine.specs.Frontier.{NoOtherBefore}
use Rattle.machine.specs.Sending.{parcels, sent_after}
use Rattle.machine.specs.Step.{Step, Allowed, after_step, merged, put}
use Rattle.machine.proofs.Kept.{each}
use Rattle.semantics.proofs.MultisetSums.{total-append}
use Rattle.machine.proofs.Counting.{below_same, below_add, total-remove, count-append}
use Rattle.machine.proofs.Derived.{request_place}
use Rattle.machine.proofs.Kept.{History, carried, held_records, under_way, one_if_at, held_notifications, open_requests, some, Due, Kept, GoodMessage, GoodRequest, GoodEvent, GoodHeld}
use Rattle.machine.proofs.Laws.{IsNetwork}
use Rattle.machine.proofs.Merges.{mail_merged, total_merged, each_merged, carried_merged, good_merged}
use Rattle.machine.proofs.NetFlow.{fed_at}
use Rattle.machine.proofs.Progress.{Good, under_step, no_other_under, put_tells}
use Rattle.machine.proofs.Sending.{Parcel, parcels_good, fits_fed, each_at, each-append, each_more, each-remove, sends_all}

fed_more : (r : Record) (rows : List Record) (f : ℕ → List Record) (n now : ℕ) (turns : List ℕ) →
    count r (cond (same_counters turns []) (f now) []) + count r (cond (eqb n now && same_counters [] turns) (rows) []) ≡ count r (cond (same_counters turns []) (put f n (f n ++ rows) now) [])
fed_more r rows f n now [] = go (eqb_tells n now) (put_tells f n (f n ++ rows) now)
  where
    go : ((eqb n now ≡ true) × (n ≡ now)) ⊎ ((eqb n now ≡ false) × (n ≢ now)) → ((now ≡ n) × (put f n (f n ++ rows) now ≡ f n ++ rows)) ⊎ ((now ≢ n) × (put f n (f n ++ rows) now ≡ f now)) → count r (f now) + count r (cond (eqb n now && true) (rows) []) ≡ count r (put f n (f n ++ rows) now)
    go (inl (a, b)) (inl (c, d)) =
        let x : count r (put f n (f n ++ rows) now) ≡ count r (f n) + count r (rows) = ap (count r) d ∙ count-append r (f n) (rows) in
        let y : count r (f n) ≡ count r (f now) = ap (λ z. count r (f z)) b in
        rw a (omega arith)
    go (inl (a, b)) (inr (c, d)) = absurd (c (sym b))
    go (inr (a, b)) (inl (c, d)) = absurd (b (sym c))
    go (inr (a, b)) (inr (c, d)) = let x : count r (put f n (f n ++ rows) now) ≡ count r (f now) = ap (count r) d in rw a (omega arith)
fed_more r rows f n now (x ∷ xs) = go (eqb n now)
  where
    go : (b : Bool) → 0 + count r (cond (b && false) (rows) []) ≡ count r []
    go true = omega arith
    go false = omega arith

module _ (g : Network) (law : IsNetwork g) (w : World) (h : History) (keeps : Kept g w h) where
  pub good_of : Good g w
  good_of = record { mail = keeps.good_mail; requests = keeps.good_requests; held = keeps.good_held }

  pub settled_after : (step : Step) → Allowed g w step → (k v : ℕ) (t : Time) → k < g.workers → g.role v ≡ Role.notified → Due w h k v t → NoOtherBefore g (after_step g w step) (at_vertex v t)
  settled_after step ok k v t lk s due = no_other_under g law w (after_step g w step) (under_step g law w good_of step ok) (at_vertex v t) (keeps.settled k v t lk s due)

  pub keep_seal : (i : ℕ) → Allowed g w (Step.seal i) → Kept g (after_step g w (Step.seal i)) h
  keep_seal i ok =
      record {
        balance = keeps.balance;
        from_input = keeps.from_input;
        from_vertex = keeps.from_vertex;
        notifications = keeps.notifications;
        always_notified = keeps.always_notified;
        settled = settled_after (Step.seal i) ok;
        at_home = keeps.at_home;
        good_mail = keeps.good_mail;
        good_requests = keeps.good_requests;
        good_held = keeps.good_held;
        shards = keeps.shards;
        output = keeps.output;
      }

  pub keep_close : (i : ℕ) → Allowed g w (Step.close i) → Kept g (after_step g w (Step.close i)) h
  keep_close i ok =
      record {
        balance = keeps.balance;
        from_input = keeps.from_input;
        from_vertex = keeps.from_vertex;
        notifications = keeps.notifications;
        always_notified = keeps.always_notified;
        settled = settled_after (Step.close i) ok;
        at_home = keeps.at_home;
        good_mail = keeps.good_mail;
        good_requests = keeps.good_requests;
        good_held = keeps.good_held;
        shards = keeps.shards;
        output = keeps.output;
      }

  -- a step that changes neither what is under way nor what is waited for at any worker
  pub keep_abandon : (k : ℕ) (event : Event) → Allowed g w (Step.abandon k event) → Kept g (after_step g w (Step.abandon k event)) h
  keep_abandon k0 event ok =
      record {
        balance = λ e t r le. keeps.balance e t r le ∙ ap (λ n. sum_below g.workers (λ k. count r (h.done k e t)) + n) (below_same g.workers _ _ (λ k lk. sym (way e t r k)));
        from_input = keeps.from_input;
        from_vertex = keeps.from_vertex;
        notifications = λ k v t lk s. ap (λ n. total (one_if_at v t) (w.requests k) + n + one_if (h.notified k v t)) (held_same v t k) ∙ keeps.notifications k v t lk s;
        always_notified = keeps.always_notified;
        settled = λ k v t lk s due. settled_after (Step.abandon k0 event) ok k v t lk s (was_due k v t due);
        at_home = keeps.at_home;
        good_mail = keeps.good_mail;
        good_requests = keeps.good_requests;
        good_held = good;
        shards = keeps.shards;
        output = keeps.output;
      }
    where
      way : (e : ℕ) (t : Time) (r : Record) (k : ℕ) → under_way (after_step g w (Step.abandon k0 event)) e t r k ≡ under_way w e t r k
      way e t r k = go (put_tells w.held k0 (Held.holding true event) k)
        where
          go : ((k ≡ k0) × (put w.held k0 (Held.holding true event) k ≡ Held.holding true event)) ⊎ ((k ≢ k0) × (put w.held k0 (Held.holding true event) k ≡ w.held k)) → total (carried e t r) (w.mail k) + held_records e t r (put w.held k0 (Held.holding true event) k) ≡ total (carried e t r) (w.mail k) + held_records e t r (w.held k)
          go (inl (x, y)) = ap (λ z. total (carried e t r) (w.mail k) + held_records e t r z) y ∙ sym (ap (λ z. total (carried e t r) (w.mail k) + held_records e t r z) (ap w.held x ∙ ok.1))
          go (inr (x, y)) = ap (λ z. total (carried e t r) (w.mail k) + held_records e t r z) y

      held_same : (v : ℕ) (t : Time) (k : ℕ) → held_notifications v t (put w.held k0 (Held.holding true event) k) ≡ held_notifications v t (w.held k)
      held_same v t k = go (put_tells w.held k0 (Held.holding true event) k)
        where
          go : ((k ≡ k0) × (put w.held k0 (Held.holding true event) k ≡ Held.holding true event)) ⊎ ((k ≢ k0) × (put w.held k0 (Held.holding true event) k ≡ w.held k)) → held_notifications v t (put w.held k0 (Held.holding true event) k) ≡ held_notifications v t (w.held k)
          go (inl (x, y)) = ap (held_notifications v t) y ∙ sym (ap (held_notifications v t) (ap w.held x ∙ ok.1))
          go (inr (x, y)) = ap (held_notifications v t) y

      was_due : (k v : ℕ) (t : Time) → Due (after_step g w (Step.abandon k0 event)) h k v t → Due w h k v t
      was_due k v t (inl x) = inl x
      was_due k v t (inr x) = let y = held_same v t k in inr (omega arith)

      good : (k : ℕ) → k < g.workers → GoodHeld g k (put w.held k0 (Held.holding true event) k)
      good k lk = go (put_tells w.held k0 (Held.holding true event) k)
        where
          go : ((k ≡ k0) × (put w.held k0 (Held.holding true event) k ≡ Held.holding true event)) ⊎ ((k ≢ k0) × (put w.held k0 (Held.holding true event) k ≡ w.held k)) → GoodHeld g k (put w.held k0 (Held.holding true event) k)
          go (inl (x, y)) = let z : GoodEvent g k event = subst (GoodHeld g k) (ap w.held x ∙ ok.1) (keeps.good_held k lk) in subst (GoodHeld g k) (sym y) z
          go (inr (x, y)) = subst (GoodHeld g k) (sym y) (keeps.good_held k lk)

  pub keep_claim_message : (k at : ℕ) (m : Message) → Allowed g w (Step.claim_message k at m) → Kept g (after_step g w (Step.claim_message k at m)) h
  keep_claim_message k0 at m ok =
      record {
        balance = λ e t r le. keeps.balance e t r le ∙ ap (λ n. sum_below g.workers (λ k. count r (h.done k e t)) + n) (below_same g.workers _ _ (λ k lk. sym (way e t r k (put_tells w.mail k0 (remove (w.mail k0) at) k) (put_tells w.held k0 (Held.holding false (Event.arrival m)) k))));
        from_input = keeps.from_input;
        from_vertex = keeps.from_vertex;
        notifications = λ k v t lk s. ap (λ n. total (one_if_at v t) (w.requests k) + n + one_if (h.notified k v t)) (held_same v t k (put_tells w.held k0 (Held.holding false (Event.arrival m)) k)) ∙ keeps.notifications k v t lk s;
        always_notified = keeps.always_notified;
        settled = λ k v t lk s due. settled_after (Step.claim_message k0 at m) ok k v t lk s (was_due k v t due);
        at_home = keeps.at_home;
        good_mail = λ k lk. mails k lk (put_tells w.mail k0 (remove (w.mail k0) at) k);
        good_requests = keeps.good_requests;
        good_held = λ k lk. good k lk (put_tells w.held k0 (Held.holding false (Event.arrival m)) k);
        shards = keeps.shards;
        output = keeps.output;
      }
    where
      way : (e : ℕ) (t : Time) (r : Record) (k : ℕ) → ((k ≡ k0) × (put w.mail k0 (remove (w.mail k0) at) k ≡ remove (w.mail k0) at)) ⊎ ((k ≢ k0) × (put w.mail k0 (remove (w.mail k0) at) k ≡ w.mail k)) → ((k ≡ k0) × (put w.held k0 (Held.holding false (Event.arrival m)) k ≡ Held.holding false (Event.arrival m))) ⊎ ((k ≢ k0) × (put w.held k0 (Held.holding false (Event.arrival m)) k ≡ w.held k)) → under_way (after_step g w (Step.claim_message k0 at m)) e t r k ≡ under_way w e t r k
      way e t r k (inl (x, y)) (inl (x', y')) =
          let a : total (carried e t r) (put w.mail k0 (remove (w.mail k0) at) k) ≡ total (carried e t r) (remove (w.mail k0) at) = ap (λ ms. total (carried e t r) ms) y in
          let b : total (carried e t r) (remove (w.mail k0) at) + carried e t r m ≡ total (carried e t r) (w.mail k0) = total-remove (carried e t r) (w.mail k0) at m ok.1 in
          let c : total (carried e t r) (w.mail k) ≡ total (carried e t r) (w.mail k0) = ap (λ j. total (carried e t r) (w.mail j)) x in
          let d : held_records e t r (put w.held k0 (Held.holding false (Event.arrival m)) k) ≡ carried e t r m = ap (held_records e t r) y' in
          let f : held_records e t r (w.held k) ≡ 0 = ap (held_records e t r) (ap w.held x ∙ ok.0.1) in
          omega arith
      way e t r k (inl (x, y)) (inr (x', y')) = absurd (x' x)
      way e t r k (inr (x, y)) (inl (x', y')) = absurd (x x')
      way e t r k (inr (x, y)) (inr (x', y')) = ap₂ (λ ms z. total (carried e t r) ms + held_records e t r z) y y'

      held_same : (v : ℕ) (t : Time) (k : ℕ) → ((k ≡ k0) × (put w.held k0 (Held.holding false (Event.arrival m)) k ≡ Held.holding false (Event.arrival m))) ⊎ ((k ≢ k0) × (put w.held k0 (Held.holding false (Event.arrival m)) k ≡ w.held k)) → held_notifications v t (put w.held k0 (Held.holding false (Event.arrival m)) k) ≡ held_notifications v t (w.held k)
      held_same v t k (inl (x, y)) = ap (held_notifications v t) y ∙ sym (ap (held_notifications v t) (ap w.held x ∙ ok.0.1))
      held_same v t k (inr (x, y)) = ap (held_notifications v t) y

      was_due : (k v : ℕ) (t : Time) → Due (after_step g w (Step.claim_message k0 at m)) h k v t → Due w h k v t
      was_due k v t (inl x) = inl x
      was_due k v t (inr x) = let y = held_same v t k (put_tells w.held k0 (Held.holding false (Event.arrival m)) k) in inr (omega arith)

      mails : (k : ℕ) → k < g.workers → ((k ≡ k0) × (put w.mail k0 (remove (w.mail k0) at) k ≡ remove (w.mail k0) at)) ⊎ ((k ≢ k0) × (put w.mail k0 (remove (w.mail k0) at) k ≡ w.mail k)) → each (GoodMessage g k) (put w.mail k0 (remove (w.mail k0) at) k)
      mails k lk (inl (x, y)) = subst (each (GoodMessage g k)) (ap (λ j. remove (w.mail j) at) x ∙ sym y) (each-remove (GoodMessage g k) (w.mail k) at (keeps.good_mail k lk))
      mails k lk (inr (x, y)) = subst (each (GoodMessage g k)) (sym y) (keeps.good_mail k lk)

      good : (k : ℕ) → k < g.workers → ((k ≡ k0) × (put w.held k0 (Held.holding false (Event.arrival m)) k ≡ Held.holding false (Event.arrival m))) ⊎ ((k ≢ k0) × (put w.held k0 (Held.holding false (Event.arrival m)) k ≡ w.held k)) → GoodHeld g k (put w.held k0 (Held.holding false (Event.arrival m)) k)
      good k lk (inl (x, y)) =
          let z : GoodMessage g k m = each_at (GoodMessage g k) (w.mail k) at m (keeps.good_mail k lk) (ap (λ j. slice_get (w.mail j) at) x ∙ ok.1) in
          subst (GoodHeld g k) (sym y) z
      good k lk (inr (x, y)) = subst (GoodHeld g k) (sym y) (keeps.good_held k lk)

  -- the records of both messages are under way in one
  pub keep_merge : (k at : ℕ) (m n : Message) → Allowed g w (Step.merge k at m n) → Kept g (after_step g w (Step.merge k at m n)) h
  keep_merge k0 at m n ok =
      record {
        balance = λ e t r le. keeps.balance e t r le ∙ ap (λ n. sum_below g.workers (λ k. count r (h.done k e t)) + n) (below_same g.workers _ _ (λ k lk. sym (way e t r k (put_tells w.mail k0 (mail_merged (w.mail k0) at m n) k))));
        from_input = keeps.from_input;
        from_vertex = keeps.from_vertex;
        notifications = keeps.notifications;
        always_notified = keeps.always_notified;
        settled = settled_after (Step.merge k0 at m n) ok;
        at_home = keeps.at_home;
        good_mail = λ k lk. mails k lk (put_tells w.mail k0 (mail_merged (w.mail k0) at m n) k);
        good_requests = keeps.good_requests;
        good_held = keeps.good_held;
        shards = keeps.shards;
        output = keeps.output;
      }
    where
      way : (e : ℕ) (t : Time) (r : Record) (k : ℕ) → ((k ≡ k0) × (put w.mail k0 (mail_merged (w.mail k0) at m n) k ≡ mail_merged (w.mail k0) at m n)) ⊎ ((k ≢ k0) × (put w.mail k0 (mail_merged (w.mail k0) at m n) k ≡ w.mail k)) → under_way (after_step g w (Step.merge k0 at m n)) e t r k ≡ under_way w e t r k
      way e t r k (inl (x, y)) =
          let a : total (carried e t r) (put w.mail k0 (mail_merged (w.mail k0) at m n) k) ≡ total (carried e t r) (mail_merged (w.mail k0) at m n) = ap (λ ms. total (carried e t r) ms) y in
          let b : total (carried e t r) (mail_merged (w.mail k0) at m n) + carried e t r m + carried e t r n ≡ total (carried e t r) (w.mail k0) + carried e t r (merged m n) = total_merged (carried e t r) (w.mail k0) at m n ok.1 ok.2 in
          let c : carried e t r (merged m n) ≡ carried e t r m + carried e t r n = carried_merged e t r m n ok.3 ok.4 in
          let d : total (carried e t r) (w.mail k) ≡ total (carried e t r) (w.mail k0) = ap (λ j. total (carried e t r) (w.mail j)) x in
          omega arith
      way e t r k (inr (x, y)) = ap (λ ms. total (carried e t r) ms + held_records e t r (w.held k)) y

      mails : (k : ℕ) → k < g.workers → ((k ≡ k0) × (put w.mail k0 (mail_merged (w.mail k0) at m n) k ≡ mail_merged (w.mail k0) at m n)) ⊎ ((k ≢ k0) × (put w.mail k0 (mail_merged (w.mail k0) at m n) k ≡ w.mail k)) → each (GoodMessage g k) (put w.mail k0 (mail_merged (w.mail k0) at m n) k)
      mails k lk (inl (x, y)) =
          let all : each (GoodMessage g k0) (w.mail k0) = keeps.good_mail k0 ok.0.0 in
          let first : GoodMessage g k0 m = each_at (GoodMessage g k0) (w.mail k0) 0 m all ok.1 in
          let second : GoodMessage g k0 n = each_at (GoodMessage g k0) (w.mail k0) (suc at) n all ok.2 in
          let z : each (GoodMessage g k0) (mail_merged (w.mail k0) at m n) = each_merged (GoodMessage g k0) (w.mail k0) at m n all (good_merged g k0 m n ok.3 first second) in
          subst (λ (j : ℕ). each (GoodMessage g j) (put w.mail k0 (mail_merged (w.mail k0) at m n) k)) (sym x) (subst (each (GoodMessage g k0)) (sym y) z)
      mails k lk (inr (x, y)) = subst (each (GoodMessage g k)) (sym y) (keeps.good_mail k lk)

  pub keep_claim_request : (k at : ℕ) (n : Request) → Allowed g w (Step.claim_request k at n) → Kept g (after_step g w (Step.claim_request k at n)) h
  keep_claim_request k0 at n ok =
      record {
        balance = λ e t r le. keeps.balance e t r le ∙ ap (λ n. sum_below g.workers (λ k. count r (h.done k e t)) + n) (below_same g.workers _ _ (λ k lk. sym (way e t r k (put_tells w.held k0 (Held.holding false (Event.notification n)) k))));
        from_input = keeps.from_input;
        from_vertex = keeps.from_vertex;
        notifications = λ k v t lk s. ap (λ n. n + one_if (h.notified k v t)) (requests_same v t k (put_tells w.requests k0 (remove (w.requests k0) at) k) (put_tells w.held k0 (Held.holding false (Event.notification n)) k)) ∙ keeps.notifications k v t lk s;
        always_notified = keeps.always_notified;
        settled = λ k v t lk s due. settled k v t lk s due (put_tells w.held k0 (Held.holding false (Event.notification n)) k);
        at_home = keeps.at_home;
        good_mail = keeps.good_mail;
        good_requests = λ k lk. requests k lk (put_tells w.requests k0 (remove (w.requests k0) at) k);
        good_held = λ k lk. good k lk (put_tells w.held k0 (Held.holding false (Event.notification n)) k);
        shards = keeps.shards;
        output = keeps.output;
      }
    where
      way : (e : ℕ) (t : Time) (r : Record) (k : ℕ) → ((k ≡ k0) × (put w.held k0 (Held.holding false (Event.notification n)) k ≡ Held.holding false (Event.notification n))) ⊎ ((k ≢ k0) × (put w.held k0 (Held.holding false (Event.notification n)) k ≡ w.held k)) → under_way (after_step g w (Step.claim_request k0 at n)) e t r k ≡ under_way w e t r k
      way e t r k (inl (x, y)) = ap (λ z. total (carried e t r) (w.mail k) + held_records e t r z) y ∙ sym (ap (λ z. total (carried e t r) (w.mail k) + held_records e t r z) (ap w.held x ∙ ok.0.1))
      way e t r k (inr (x, y)) = ap (λ z. total (carried e t r) (w.mail k) + held_records e t r z) y

      requests_same : (v : ℕ) (t : Time) (k : ℕ) → ((k ≡ k0) × (put w.requests k0 (remove (w.requests k0) at) k ≡ remove (w.requests k0) at)) ⊎ ((k ≢ k0) × (put w.requests k0 (remove (w.requests k0) at) k ≡ w.requests k)) → ((k ≡ k0) × (put w.held k0 (Held.holding false (Event.notification n)) k ≡ Held.holding false (Event.notification n))) ⊎ ((k ≢ k0) × (put w.held k0 (Held.holding false (Event.notification n)) k ≡ w.held k)) → open_requests (after_step g w (Step.claim_request k0 at n)) v t k ≡ open_requests w v t k
      requests_same v t k (inl (x, y)) (inl (x', y')) =
          let a : total (one_if_at v t) (put w.requests k0 (remove (w.requests k0) at) k) ≡ total (one_if_at v t) (remove (w.requests k0) at) = ap (λ ms. total (one_if_at v t) ms) y in
          let b : total (one_if_at v t) (remove (w.requests k0) at) + one_if_at v t n ≡ total (one_if_at v t) (w.requests k0) = total-remove (one_if_at v t) (w.requests k0) at n ok.1 in
          let c : total (one_if_at v t) (w.requests k) ≡ total (one_if_at v t) (w.requests k0) = ap (λ j. total (one_if_at v t) (w.requests j)) x in
          let d : held_notifications v t (put w.held k0 (Held.holding false (Event.notification n)) k) ≡ one_if_at v t n = ap (held_notifications v t) y' in
          let f : held_notifications v t (w.held k) ≡ 0 = ap (held_notifications v t) (ap w.held x ∙ ok.0.1) in
          omega arith
      requests_same v t k (inl (x, y)) (inr (x', y')) = absurd (x' x)
      requests_same v t k (inr (x, y)) (inl (x', y')) = absurd (x x')
      requests_same v t k (inr (x, y)) (inr (x', y')) = ap₂ (λ ms z. total (one_if_at v t) ms + held_notifications v t z) y y'

      newly : (v : ℕ) (t : Time) → 0 < one_if_at v t n → (one_if_at v t n ≡ 0) ⊎ (request_pointstamp n ≡ at_vertex v t) → NoOtherBefore g w (at_vertex v t)
      newly v t some (inl z) = absurd (omega arith)
      newly v t some (inr p) = subst (λ (x : Pointstamp). NoOtherBefore g w x) p ok.2

      settled : (k v : ℕ) (t : Time) → k < g.workers → g.role v ≡ Role.notified → Due (after_step g w (Step.claim_request k0 at n)) h k v t → ((k ≡ k0) × (put w.held k0 (Held.holding false (Event.notification n)) k ≡ Held.holding false (Event.notification n))) ⊎ ((k ≢ k0) × (put w.held k0 (Held.holding false (Event.notification n)) k ≡ w.held k)) → NoOtherBefore g (after_step g w (Step.claim_request k0 at n)) (at_vertex v t)
      settled k v t lk s (inl notified) z = settled_after (Step.claim_request k0 at n) ok k v t lk s (inl notified)
      settled k v t lk s (inr due) (inl (x, y)) =
          let a : held_notifications v t (put w.held k0 (Held.holding false (Event.notification n)) k) ≡ one_if_at v t n = ap (held_notifications v t) y in
          no_other_under g law w (after_step g w (Step.claim_request k0 at n)) (under_step g law w good_of (Step.claim_request k0 at n) ok) (at_vertex v t) (newly v t (omega arith) (request_place v t n))
      settled k v t lk s (inr due) (inr (x, y)) =
          let a : held_notifications v t (put w.held k0 (Held.holding false (Event.notification n)) k) ≡ held_notifications v t (w.held k) = ap (held_notifications v t) y in
          settled_after (Step.claim_request k0 at n) ok k v t lk s (inr (omega arith))

      requests : (k : ℕ) → k < g.workers → ((k ≡ k0) × (put w.requests k0 (remove (w.requests k0) at) k ≡ remove (w.requests k0) at)) ⊎ ((k ≢ k0) × (put w.requests k0 (remove (w.requests k0) at) k ≡ w.requests k)) → each (GoodRequest g) (put w.requests k0 (remove (w.requests k0) at) k)
      requests k lk (inl (x, y)) = subst (each (GoodRequest g)) (ap (λ j. remove (w.requests j) at) x ∙ sym y) (each-remove (GoodRequest g) (w.requests k) at (keeps.good_requests k lk))
      requests k lk (inr (x, y)) = subst (each (GoodRequest g)) (sym y) (keeps.good_requests k lk)

      good : (k : ℕ) → k < g.workers → ((k ≡ k0) × (put w.held k0 (Held.holding false (Event.notification n)) k ≡ Held.holding false (Event.notification n))) ⊎ ((k ≢ k0) × (put w.held k0 (Held.holding false (Event.notification n)) k ≡ w.held k)) → GoodHeld g k (put w.held k0 (Held.holding false (Event.notification n)) k)
      good k lk (inl (x, y)) =
          let z : GoodRequest g n = each_at (GoodRequest g) (w.requests k) at n (keeps.good_requests k lk) (ap (λ j. slice_get (w.requests j) at) x ∙ ok.1) in
          subst (GoodHeld g k) (sym y) z
      good k lk (inr (x, y)) = subst (GoodHeld g k) (sym y) (keeps.good_held k lk)

  -- what is sent is under way
  pub way_sent : (sender v : ℕ) (u : Time) (out : ℕ → List Record) (e : ℕ) (t : Time) (r : Record) → sender < g.workers → e < g.edges →
      count r (sent_after g w v u out e t) ≡ count r (w.sent e t) + sum_below g.workers (λ k. total (carried e t r) (parcels g sender v u out k g.edges))
  way_sent sender v u out e t r ls le = count-append r (w.sent e t) _ ∙ ap (λ n. count r (w.sent e t) + n) (sym (sends_all g law sender v u out e t r ls le))

  -- nothing is sent on an edge of another vertex
  pub sent_elsewhere : (v : ℕ) (u : Time) (out : ℕ → List Record) (e : ℕ) (t : Time) (r : Record) → g.source e ≢ v → count r (sent_after g w v u out e t) ≡ count r (w.sent e t)
  sent_elsewhere v u out e t r ne = go (eqb_tells (g.source e) v)
    where
      go : ((eqb (g.source e) v ≡ true) × (g.source e ≡ v)) ⊎ ((eqb (g.source e) v ≡ false) × (g.source e ≢ v)) → count r (sent_after g w v u out e t) ≡ count r (w.sent e t)
      go (inl (a, b)) = absurd (ne b)
      go (inr (a, b)) = rw a (count-append r (w.sent e t) [] ∙ omega arith)

  pub keep_feed : (i : ℕ) (rows : List Record) → Allowed g w (Step.feed i rows) → Kept g (after_step g w (Step.feed i rows)) h
  keep_feed i rows ok =
      record {
        balance = λ e t r le.
            let a = way_sent 0 i (at_epoch (w.open_epoch i)) (λ q. rows) e t r worker le in
            let b = keeps.balance e t r le in
            let c : sum_below g.workers (under_way (after_step g w (Step.feed i rows)) e t r) ≡ sum_below g.workers (λ k. under_way w e t r k + total (carried e t r) (parcels g 0 i (at_epoch (w.open_epoch i)) (λ q. rows) k g.edges)) =
            below_same g.workers _ _ (λ k lk. let o = total-append (carried e t r) (w.mail k) (parcels g 0 i (at_epoch (w.open_epoch i)) (λ q. rows) k g.edges) in omega arith) in
            let d = below_add g.workers (under_way w e t r) (λ k. total (carried e t r) (parcels g 0 i (at_epoch (w.open_epoch i)) (λ q. rows) k g.edges)) in
            omega arith;
        from_input = λ e t le s. record { counts = λ r. input e t le s r (eqb_tells (g.source e) i) };
        from_vertex = λ e u r le fits s. sent_elsewhere i (at_epoch (w.open_epoch i)) (λ q. rows) e u r (λ x. s (ap g.role x ∙ ok.0.0)) ∙ keeps.from_vertex e u r le fits s;
        notifications = keeps.notifications;
        always_notified = keeps.always_notified;
        settled = settled_after (Step.feed i rows) ok;
        at_home = keeps.at_home;
        good_mail = λ k lk. each-append (GoodMessage g k) (w.mail k) _ (keeps.good_mail k lk) (each_more (Parcel g i (at_epoch (w.open_epoch i)) k) (GoodMessage g k) _ (λ m p. p.good) (parcels_good g law 0 i (at_epoch (w.open_epoch i)) (λ q. rows) k g.edges (fits_fed g law i (w.open_epoch i) ok.0.0) (omega arith)));
        good_requests = keeps.good_requests;
        good_held = keeps.good_held;
        shards = keeps.shards;
        output = keeps.output;
      }
    where
      worker : 0 < g.workers
      worker = law.has_worker

      input : (e : ℕ) (t : Time) → e < g.edges → g.role (g.source e) ≡ Role.input → (r : Record) → ((eqb (g.source e) i ≡ true) × (g.source e ≡ i)) ⊎ ((eqb (g.source e) i ≡ false) × (g.source e ≢ i)) → count r (sent_after g w i (at_epoch (w.open_epoch i)) (λ q. rows) e t) ≡ count r (fed_at (put w.fed i (put (w.fed i) (w.open_epoch i) (w.fed i (w.open_epoch i) ++ rows))) (g.source e) t)
      input e t le s r (inr (a, b)) = rw a (count-append r (w.sent e t) [] ∙ (let x = (keeps.from_input e t le s).counts r in omega arith))
      input e t le s r (inl (a, b)) =
          let x : count r (w.sent e t) ≡ count r (cond (same_counters t.counters []) (w.fed (g.source e) t.epoch) []) = (keeps.from_input e t le s).counts r in
          let y : count r (cond (same_counters t.counters []) (w.fed (g.source e) t.epoch) []) ≡ count r (cond (same_counters t.counters []) (w.fed i t.epoch) []) = ap (λ j. count r (cond (same_counters t.counters []) (w.fed j t.epoch) [])) b in
          let z = fed_more r rows (w.fed i) (w.open_epoch i) t.epoch t.counters in
          rw a (count-append r (w.sent e t) _ ∙ ap (λ n. n + count r (cond (same_time (at_epoch (w.open_epoch i)) t) (rows) [])) (x ∙ y) ∙ z)
