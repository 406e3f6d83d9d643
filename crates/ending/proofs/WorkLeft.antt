-- Each step of a worker leaves less work.
use Rattle.std.proofs.Common.{◌≡◌, ◌≢◌, ◌≤◌, ◌<◌, ℕ, zero, suc, ◌+◌, ◌-◌, ◌*◌, Bool, true, false, cond, ◌==◌, List, [], ◌∷◌, ◌++◌, ◌⊎◌, inl, inr, ap, ap₂, arith, remove, length, length-append, filter}
use Rattle.std.proofs.lemmas.Nat.{mul-le}
use Rattle.semantics.specs.Multiset.{total, Record}
use Rattle.semantics.specs.Could.{Pointstamp}
use Rattle.semantics.specs.Time.{Time, at_epoch}
use Rattle.semantics.specs.Shard.{asks}
use Rattle.machine.specs.Network.{Network}
use Rattle.machine.specs.World.{Message, Request, Event, Held, World}
use Rattle.machine.specs.Active.{sum_below, message_pointstamp, request_pointstamp, event_pointstamp}
use Rattle.machine.specs.Sending.{as_message, parcels}
use Rattle.machine.specs.Processing.{event_vertex, event_time, asked}
use Rattle.machine.specs.Step.{Step, Allowed, after_step, put}
use Rattle.semantics.proofs.MultisetSums.{total-append}
use Rattle.machine.proofs.Counting.{below_same, below_add, below_changed, total-remove}
use Rattle.ending.proofs.Heights.{power, power_pos, power_more, total_most, below_most}
use Rattle.machine.proofs.Kept.{each}
use Rattle.machine.proofs.Merges.{mail_merged, total_merged}
use Rattle.machine.proofs.Progress.{put_tells, put_here}

-- more than a commit can send and ask for
abbrev pub factor : Network → ℕ
factor g = g.workers * g.edges + 3

-- the work of a message or request at a pointstamp
abbrev pub weight : Network → (Pointstamp → ℕ) → Pointstamp → ℕ
weight g height p = power (factor g) (suc (height p))

-- once claimed it is one step less, and once abandoned none
abbrev pub held_left : Network → (Pointstamp → ℕ) → Held → ℕ
held_left g height Held.nothing = 0
held_left g height (Held.holding true event) = 0
held_left g height (Held.holding false event) = weight g height (event_pointstamp event) - 1

abbrev pub worker_left : Network → (Pointstamp → ℕ) → World → (worker : ℕ) → ℕ
worker_left g height w k =
    total (λ m. weight g height (message_pointstamp m)) (w.mail k)
    + total (λ n. weight g height (request_pointstamp n)) (w.requests k)
    + held_left g height (w.held k)

-- no more steps of workers are left than this
abbrev pub work_left : Network → (Pointstamp → ℕ) → World → ℕ
work_left g height w = sum_below g.workers (worker_left g height w)

length_as_message : (e : ℕ) (u : Time) (records : List Record) → length (as_message e u records) ≤ 1
length_as_message e u [] = omega arith
length_as_message e u (r ∷ records) = omega arith

length_parcels : (g : Network) (sender v : ℕ) (u : Time) (out : ℕ → List Record) (to n : ℕ) → length (parcels g sender v u out to n) ≤ n
length_parcels g sender v u out to zero = omega arith
length_parcels g sender v u out to (suc n) =
    let a = length_parcels g sender v u out to n in
    let b = length-append (parcels g sender v u out to n) (one (g.source n == v)) in
    let c = short (g.source n == v) in
    omega arith
  where
    one : Bool → List Message
    one b = cond b (as_message n u (filter (λ r. g.home sender n r == to) (out (g.out_port n)))) []

    short : (b : Bool) → length (one b) ≤ 1
    short true = length_as_message n u (filter (λ r. g.home sender n r == to) (out (g.out_port n)))
    short false = omega arith

length_asked : (g : Network) (w : World) (k : ℕ) (event : Event) → length (asked g w k event) ≤ 1
length_asked g w k (Event.notification n) = omega arith
length_asked g w k (Event.arrival m) = go (asks (g.role (g.target m.edge)) _)
  where
    go : (b : Bool) → length (cond b (record { vertex = g.target m.edge; time = m.time } ∷ []) (let none : List Request = [] in none)) ≤ 1
    go true = omega arith
    go false = omega arith

-- what a commit sends and asks for is lower
pub record Falls (g : Network) (height : Pointstamp → ℕ) (w : World) (k : ℕ) (event : Event) (out : ℕ → List Record) : Type 0 where
  pub sends : (to : ℕ) → to < g.workers → each (λ m. height (message_pointstamp m) < height (event_pointstamp event)) (parcels g k (event_vertex g event) (g.act (event_vertex g event) (event_time event)) out to g.edges)
  pub asks_for : each (λ n. height (request_pointstamp n) < height (event_pointstamp event)) (asked g w k event)

each_weight : {X : Type 0} (g : Network) (height : Pointstamp → ℕ) (at : X → Pointstamp) (h : ℕ) (xs : List X) → each (λ x. height (at x) < h) xs → each (λ x. weight g height (at x) ≤ power (factor g) h) xs
each_weight g height at h [] a = tt
each_weight g height at h (x ∷ xs) a = (power_more (factor g) (suc (height (at x))) h (omega arith) (let l = a.0 in omega arith), each_weight g height at h xs a.1)

module _ (g : Network) (height : Pointstamp → ℕ) (w : World) where
  abbrev of_mail : List Message → ℕ
  of_mail ms = total (λ m. weight g height (message_pointstamp m)) ms

  abbrev of_requests : List Request → ℕ
  of_requests ns = total (λ n. weight g height (request_pointstamp n)) ns

  weight_pos : (p : Pointstamp) → 1 < weight g height p
  weight_pos p =
      let a = power_pos (factor g) (height p) (omega arith) in
      let b : 1 * 3 ≤ power (factor g) (height p) * factor g = mul-le 1 3 (power (factor g) (height p)) (factor g) (omega arith) (omega arith) in
      omega arith

  pub left_claim_message : (k0 at : ℕ) (m : Message) → Allowed g w (Step.claim_message k0 at m) → work_left g height (after_step g w (Step.claim_message k0 at m)) < work_left g height w
  left_claim_message k0 at m ok =
      let a : sum_below g.workers (worker_left g height (after_step g w (Step.claim_message k0 at m))) + worker_left g height w k0 ≡ sum_below g.workers (worker_left g height w) + worker_left g height (after_step g w (Step.claim_message k0 at m)) k0 =
      below_changed g.workers k0 (worker_left g height w) (worker_left g height (after_step g w (Step.claim_message k0 at m))) ok.0.0 (λ j lj ne. other j ne (put_tells w.mail k0 (remove (w.mail k0) at) j) (put_tells w.held k0 (Held.holding false (Event.arrival m)) j)) in
      let b : of_mail (put w.mail k0 (remove (w.mail k0) at) k0) ≡ of_mail (remove (w.mail k0) at) = ap of_mail (put_here w.mail k0 (remove (w.mail k0) at)) in
      let c : of_mail (remove (w.mail k0) at) + weight g height (message_pointstamp m) ≡ of_mail (w.mail k0) = total-remove (λ m. weight g height (message_pointstamp m)) (w.mail k0) at m ok.1 in
      let d : held_left g height (put w.held k0 (Held.holding false (Event.arrival m)) k0) ≡ weight g height (message_pointstamp m) - 1 = ap (held_left g height) (put_here w.held k0 (Held.holding false (Event.arrival m))) in
      let f : held_left g height (w.held k0) ≡ 0 = ap (held_left g height) ok.0.1 in
      let p = weight_pos (message_pointstamp m) in
      omega arith
    where
      other : (j : ℕ) → j ≢ k0 → ((j ≡ k0) × (put w.mail k0 (remove (w.mail k0) at) j ≡ remove (w.mail k0) at)) ⊎ ((j ≢ k0) × (put w.mail k0 (remove (w.mail k0) at) j ≡ w.mail j)) → ((j ≡ k0) × (put w.held k0 (Held.holding false (Event.arrival m)) j ≡ Held.holding false (Event.arrival m))) ⊎ ((j ≢ k0) × (put w.held k0 (Held.holding false (Event.arrival m)) j ≡ w.held j)) → worker_left g height (after_step g w (Step.claim_message k0 at m)) j ≡ worker_left g height w j
      other j ne (inl (x, y)) z = absurd (ne x)
      other j ne (inr (x, y)) (inl (x', y')) = absurd (ne x')
      other j ne (inr (x, y)) (inr (x', y')) = ap₂ (λ ms z. of_mail ms + of_requests (w.requests j) + held_left g height z) y y'

  pub left_claim_request : (k0 at : ℕ) (n : Request) → Allowed g w (Step.claim_request k0 at n) → work_left g height (after_step g w (Step.claim_request k0 at n)) < work_left g height w
  left_claim_request k0 at n ok =
      let a : sum_below g.workers (worker_left g height (after_step g w (Step.claim_request k0 at n))) + worker_left g height w k0 ≡ sum_below g.workers (worker_left g height w) + worker_left g height (after_step g w (Step.claim_request k0 at n)) k0 =
      below_changed g.workers k0 (worker_left g height w) (worker_left g height (after_step g w (Step.claim_request k0 at n))) ok.0.0 (λ j lj ne. other j ne (put_tells w.requests k0 (remove (w.requests k0) at) j) (put_tells w.held k0 (Held.holding false (Event.notification n)) j)) in
      let b : of_requests (put w.requests k0 (remove (w.requests k0) at) k0) ≡ of_requests (remove (w.requests k0) at) = ap of_requests (put_here w.requests k0 (remove (w.requests k0) at)) in
      let c : of_requests (remove (w.requests k0) at) + weight g height (request_pointstamp n) ≡ of_requests (w.requests k0) = total-remove (λ n. weight g height (request_pointstamp n)) (w.requests k0) at n ok.1 in
      let d : held_left g height (put w.held k0 (Held.holding false (Event.notification n)) k0) ≡ weight g height (request_pointstamp n) - 1 = ap (held_left g height) (put_here w.held k0 (Held.holding false (Event.notification n))) in
      let f : held_left g height (w.held k0) ≡ 0 = ap (held_left g height) ok.0.1 in
      let p = weight_pos (request_pointstamp n) in
      omega arith
    where
      other : (j : ℕ) → j ≢ k0 → ((j ≡ k0) × (put w.requests k0 (remove (w.requests k0) at) j ≡ remove (w.requests k0) at)) ⊎ ((j ≢ k0) × (put w.requests k0 (remove (w.requests k0) at) j ≡ w.requests j)) → ((j ≡ k0) × (put w.held k0 (Held.holding false (Event.notification n)) j ≡ Held.holding false (Event.notification n))) ⊎ ((j ≢ k0) × (put w.held k0 (Held.holding false (Event.notification n)) j ≡ w.held j)) → worker_left g height (after_step g w (Step.claim_request k0 at n)) j ≡ worker_left g height w j
      other j ne (inl (x, y)) z = absurd (ne x)
      other j ne (inr (x, y)) (inl (x', y')) = absurd (ne x')
      other j ne (inr (x, y)) (inr (x', y')) = ap₂ (λ ns z. of_mail (w.mail j) + of_requests ns + held_left g height z) y y'

  pub left_merge : (k0 at : ℕ) (m n : Message) → Allowed g w (Step.merge k0 at m n) → work_left g height (after_step g w (Step.merge k0 at m n)) < work_left g height w
  left_merge k0 at m n ok =
      let a : sum_below g.workers (worker_left g height (after_step g w (Step.merge k0 at m n))) + worker_left g height w k0 ≡ sum_below g.workers (worker_left g height w) + worker_left g height (after_step g w (Step.merge k0 at m n)) k0 =
      below_changed g.workers k0 (worker_left g height w) (worker_left g height (after_step g w (Step.merge k0 at m n))) ok.0.0 (λ j lj ne. other j ne (put_tells w.mail k0 (mail_merged (w.mail k0) at m n) j)) in
      let b : of_mail (put w.mail k0 (mail_merged (w.mail k0) at m n) k0) ≡ of_mail (mail_merged (w.mail k0) at m n) = ap of_mail (put_here w.mail k0 (mail_merged (w.mail k0) at m n)) in
      let c : of_mail (mail_merged (w.mail k0) at m n) + weight g height (message_pointstamp m) + weight g height (message_pointstamp n) ≡ of_mail (w.mail k0) + weight g height (message_pointstamp m) =
      total_merged (λ m. weight g height (message_pointstamp m)) (w.mail k0) at m n ok.1 ok.2 in
      let p = weight_pos (message_pointstamp n) in
      omega arith
    where
      other : (j : ℕ) → j ≢ k0 → ((j ≡ k0) × (put w.mail k0 (mail_merged (w.mail k0) at m n) j ≡ mail_merged (w.mail k0) at m n)) ⊎ ((j ≢ k0) × (put w.mail k0 (mail_merged (w.mail k0) at m n) j ≡ w.mail j))
          → worker_left g height (after_step g w (Step.merge k0 at m n)) j ≡ worker_left g height w j
      other j ne (inl (x, y)) = absurd (ne x)
      other j ne (inr (x, y)) = ap (λ ms. of_mail ms + of_requests (w.requests j) + held_left g height (w.held j)) y

  pub left_abandon : (k0 : ℕ) (event : Event) → Allowed g w (Step.abandon k0 event) → work_left g height (after_step g w (Step.abandon k0 event)) < work_left g height w
  left_abandon k0 event ok =
      let a : sum_below g.workers (worker_left g height (after_step g w (Step.abandon k0 event))) + worker_left g height w k0 ≡ sum_below g.workers (worker_left g height w) + worker_left g height (after_step g w (Step.abandon k0 event)) k0 =
      below_changed g.workers k0 (worker_left g height w) (worker_left g height (after_step g w (Step.abandon k0 event))) ok.0 (λ j lj ne. other j ne (put_tells w.held k0 (Held.holding true event) j)) in
      let d : held_left g height (put w.held k0 (Held.holding true event) k0) ≡ 0 = ap (held_left g height) (put_here w.held k0 (Held.holding true event)) in
      let f : held_left g height (w.held k0) ≡ weight g height (event_pointstamp event) - 1 = ap (held_left g height) ok.1 in
      let p = weight_pos (event_pointstamp event) in
      omega arith
    where
      other : (j : ℕ) → j ≢ k0 → ((j ≡ k0) × (put w.held k0 (Held.holding true event) j ≡ Held.holding true event)) ⊎ ((j ≢ k0) × (put w.held k0 (Held.holding true event) j ≡ w.held j)) → worker_left g height (after_step g w (Step.abandon k0 event)) j ≡ worker_left g height w j
      other j ne (inl (x, y)) = absurd (ne x)
      other j ne (inr (x, y)) = ap (λ z. of_mail (w.mail j) + of_requests (w.requests j) + held_left g height z) y

  pub left_commit : (k0 : ℕ) (event : Event) (out : ℕ → List Record) → Allowed g w (Step.commit k0 event out) → Falls g height w k0 event out → work_left g height (after_step g w (Step.commit k0 event out)) < work_left g height w
  left_commit k0 event out ok falls =
      let sent : ℕ → ℕ = λ k. of_mail (parcels g k0 (event_vertex g event) (g.act (event_vertex g event) (event_time event)) out k g.edges) in
      let middle : ℕ → ℕ = λ k. of_mail (w.mail k) + of_requests (put w.requests k0 (w.requests k0 ++ asked g w k0 event) k) + held_left g height (put w.held k0 Held.nothing k) in
      let a : sum_below g.workers (worker_left g height (after_step g w (Step.commit k0 event out))) ≡ sum_below g.workers (λ k. middle k + sent k) =
      below_same g.workers _ _ (λ k lk. let o = total-append (λ m. weight g height (message_pointstamp m)) (w.mail k) (parcels g k0 (event_vertex g event) (g.act (event_vertex g event) (event_time event)) out k g.edges) in omega arith) in
      let b : sum_below g.workers (λ k. middle k + sent k) ≡ sum_below g.workers middle + sum_below g.workers sent = below_add g.workers middle sent in
      let c : sum_below g.workers middle + worker_left g height w k0 ≡ sum_below g.workers (worker_left g height w) + middle k0 =
      below_changed g.workers k0 (worker_left g height w) middle ok.0 (λ j lj ne. other j ne (put_tells w.requests k0 (w.requests k0 ++ asked g w k0 event) j) (put_tells w.held k0 Held.nothing j)) in
      let d : middle k0 ≡ of_mail (w.mail k0) + of_requests (w.requests k0 ++ asked g w k0 event) + 0 =
      ap₂ (λ ns z. of_mail (w.mail k0) + of_requests ns + held_left g height z) (put_here w.requests k0 (w.requests k0 ++ asked g w k0 event)) (put_here w.held k0 Held.nothing) in
      let f : of_requests (w.requests k0 ++ asked g w k0 event) ≡ of_requests (w.requests k0) + of_requests (asked g w k0 event) = total-append (λ n. weight g height (request_pointstamp n)) (w.requests k0) (asked g w k0 event) in
      let i : held_left g height (w.held k0) ≡ power (factor g) h * factor g - 1 = ap (held_left g height) ok.1 in
      let p : 0 < power (factor g) h = power_pos (factor g) h (omega arith) in
      let s : sum_below g.workers sent ≤ g.workers * (g.edges * power (factor g) h) = below_most g.workers sent (g.edges * power (factor g) h) (λ k lk.
      total_most (λ m. weight g height (message_pointstamp m)) (parcels g k0 (event_vertex g event) (g.act (event_vertex g event) (event_time event)) out k g.edges) (power (factor g) h) g.edges
      (length_parcels g k0 (event_vertex g event) (g.act (event_vertex g event) (event_time event)) out k g.edges)
      (each_weight g height message_pointstamp h (parcels g k0 (event_vertex g event) (g.act (event_vertex g event) (event_time event)) out k g.edges) (falls.sends k lk))) in
      let q : of_requests (asked g w k0 event) ≤ 1 * power (factor g) h = total_most (λ n. weight g height (request_pointstamp n)) (asked g w k0 event) (power (factor g) h) 1 (length_asked g w k0 event) (each_weight g height request_pointstamp h (asked g w k0 event) falls.asks_for) in
      let e : power (factor g) h * factor g ≡ g.workers * (g.edges * power (factor g) h) + 3 * power (factor g) h = spread g.workers g.edges (power (factor g) h) in
      omega arith
    where
      h : ℕ
      h = height (event_pointstamp event)

      spread : (a b y : ℕ) → y * (a * b + 3) ≡ a * (b * y) + 3 * y
      spread a b y = grind arith

      other : (j : ℕ) → j ≢ k0 → ((j ≡ k0) × (put w.requests k0 (w.requests k0 ++ asked g w k0 event) j ≡ w.requests k0 ++ asked g w k0 event)) ⊎ ((j ≢ k0) × (put w.requests k0 (w.requests k0 ++ asked g w k0 event) j ≡ w.requests j)) → ((j ≡ k0) × (put w.held k0 Held.nothing j ≡ Held.nothing)) ⊎ ((j ≢ k0) × (put w.held k0 Held.nothing j ≡ w.held j))
          → of_mail (w.mail j) + of_requests (put w.requests k0 (w.requests k0 ++ asked g w k0 event) j) + held_left g height (put w.held k0 Held.nothing j) ≡ worker_left g height w j
      other j ne (inl (x, y)) z = absurd (ne x)
      other j ne (inr (x, y)) (inl (x', y')) = absurd (ne x')
      other j ne (inr (x, y)) (inr (x', y')) = ap₂ (λ ns z. of_mail (w.mail j) + of_requests ns + held_left g height z) y y'

  -- a feed adds no more than this
  pub left_feed : (i : ℕ) (records : List Record) (most : ℕ) → ((p : Pointstamp) → weight g height p ≤ most) → work_left g height (after_step g w (Step.feed i records)) ≤ work_left g height w + g.workers * (g.edges * most)
  left_feed i records most small =
      let sent : ℕ → ℕ = λ k. of_mail (parcels g 0 i (at_epoch (w.open_epoch i)) (λ q. records) k g.edges) in
      let a : sum_below g.workers (worker_left g height (after_step g w (Step.feed i records))) ≡ sum_below g.workers (λ k. worker_left g height w k + sent k) =
      below_same g.workers _ _ (λ k lk. let o = total-append (λ m. weight g height (message_pointstamp m)) (w.mail k) (parcels g 0 i (at_epoch (w.open_epoch i)) (λ q. records) k g.edges) in omega arith) in
      let b : sum_below g.workers (λ k. worker_left g height w k + sent k) ≡ sum_below g.workers (worker_left g height w) + sum_below g.workers sent = below_add g.workers (worker_left g height w) sent in
      let s : sum_below g.workers sent ≤ g.workers * (g.edges * most) = below_most g.workers sent (g.edges * most) (λ k lk.
      total_most (λ m. weight g height (message_pointstamp m)) (parcels g 0 i (at_epoch (w.open_epoch i)) (λ q. records) k g.edges) most g.edges
      (length_parcels g 0 i (at_epoch (w.open_epoch i)) (λ q. records) k g.edges)
      (each_small (parcels g 0 i (at_epoch (w.open_epoch i)) (λ q. records) k g.edges))) in
      omega arith
    where
      each_small : (ms : List Message) → each (λ m. weight g height (message_pointstamp m) ≤ most) ms
      each_small [] = tt
      each_small (m ∷ ms) = (small (message_pointstamp m), each_small ms)
