-- What a shard shows, sends and keeps is so of the same records in any other order.
use Rattle.std.proofs.Common.{◌≡◌, ℕ, ◌==◌, nat_lt, cond, ◌||◌, ◌++◌, ◌∷◌, List, [], flat_map, refl, sym, ap, ap₂, ◌∙◌, arith}
use Rattle.rows.specs.Counts.{IsOver}
use Rattle.semantics.specs.Kinds.{Kind, Role, role}
use Rattle.semantics.specs.Multiset.{Record, ◌≈◌, is_present}
use Rattle.semantics.specs.Op.{op}
use Rattle.semantics.specs.Shard.{Absorbed, SendsBy, absorbed_by, only_at, with_records}
use Rattle.semantics.specs.Time.{Time, below, deeper, same_time}
use Rattle.semantics.proofs.MultisetSums.{append_same, ≈-refl, ≈-trans, ≈-sym, ≈-from, empty_from_same}
use Rattle.semantics.proofs.OneFlow.{cond_same, op_same}
use Rattle.std.specs.Prelude.{zero, suc, nat_eq, length, slice_get, Option, Some, None}
use Rattle.vertices.specs.Lookups.{AreTurnsOf, IsFoundAt, in_loop, in_no_loop, left_of}
use Rattle.vertices.specs.declared.counted_index.CountedIndex.{CountedIndex}
use Rattle.vertices.specs.declared.join_plan.JoinPlan.{JoinPlan}
use Rattle.vertices.specs.declared.turns.Turns.{Turns}
use Rattle.vertices.specs.Kept.{kept_by}
use Rattle.vertices.specs.Outs.{Sends, WouldSendOver}
use Rattle.vertices.specs.Shards.{Shows}
use Rattle.vertices.specs.States.{AreSetsOf, AreSetsThen}
use Rattle.vertices.specs.LoopRows.{IsLoopOf, by_turn}
use Rattle.vertices.specs.declared.loop_rows.LoopRows.{LoopRows}
use Rattle.semantics.proofs.FoundByClosures.{present-append}
use Rattle.vertices.specs.declared.port_sets.PortSets.{PortSets}
use Rattle.vertices.specs.declared.shard.Shard.{Shard}
use Rattle.vertices.specs.declared.shard.Shard.TheVariants as shard
use Rattle.vertices.specs.declared.notified.Notified.{Notified}
use Rattle.vertices.specs.declared.notified.Notified.TheVariants.{Group, Except, Unseen, Lookup}
use Rattle.vertices.specs.declared.stateful.Stateful.{Stateful}
use Rattle.vertices.specs.declared.stateful.Stateful.TheVariants.{Distinct, Join, Intersect}
use Rattle.vertices.specs.Notified.{NotifiedShows}
use Rattle.vertices.specs.Stateful.{StatefulShows}
use Rattle.vertices.proofs.SameStates.{distinct_same_states, group_same_states, join_same_states, some_same, states_same}

-- ---- what is shown

-- of an intersect
sets_same : (n : ℕ) (sets : PortSets) (f g : ℕ → List Record) → ((p : ℕ) → f p ≈ g p) → AreSetsOf n sets f → AreSetsOf n sets g
sets_same n sets f g e h = record {
  left_arity = h.left_arity;
  right_arity = h.right_arity;
  lefts = ≈-trans h.lefts (e 0);
  rights = ≈-trans h.rights (e 1);
}

-- of an except
sets_then_same : (n : ℕ) (sets : PortSets) (f g : ℕ → List Record) → ((p : ℕ) → f p ≈ g p) → AreSetsThen n sets f → AreSetsThen n sets g
sets_then_same n sets f g e h = (sets_same n sets f g e h.0, some_same (f 0 ++ f 1) (g 0 ++ g 1) (append_same (f 0) (g 0) (f 1) (g 1) (e 0) (e 1)) h.1)

-- of a loop of an unseen
loop_same : (n : ℕ) (kept : LoopRows) (f g : ℕ → List Record) → ((k : ℕ) → f k ≈ g k) → IsLoopOf n kept f → IsLoopOf n kept g
loop_same n kept f g e h = record { arity_is = h.arity_is; first = λ r m. sym (present r (below m)) ∙ h.first r m; places = h.places }
  where
    present : (r : Record) (ks : List ℕ) → is_present r (flat_map f ks) ≡ is_present r (flat_map g ks)
    present r [] = refl
    present r (k ∷ ks) =
        present-append r (f k) (flat_map f ks) ∙ ap₂ (λ b c. b || c) (ap (nat_lt 0) ((e k).counts r)) (present r ks)
        ∙ sym (present-append r (g k) (flat_map g ks))

-- of a lookup
turns_same : (plan : JoinPlan) (turns : Turns) (f g : ℕ → List Record) → ((k : ℕ) → f k ≈ g k) → AreTurnsOf plan turns f → AreTurnsOf plan turns g
turns_same plan turns f g e h k = go (slice_get turns.found.items k) (h k)
  where
    go : (o : Option CountedIndex) → IsFoundAt plan o (f k) → IsFoundAt plan o (g k)
    go None none = empty_from_same (g k) (≈-trans (≈-sym (e k)) (≈-from none))
    go (Some x) found = record { columns = found.columns; arity = found.arity; whole = found.whole; all = ≈-trans found.all (e k) }

StatefulShows_same : (s : Stateful) (a b : Absorbed) → ((p : ℕ) (t : Time) → a p t ≈ b p t) → StatefulShows s a → StatefulShows s b
StatefulShows_same (Distinct s) a b e h = distinct_same_states s.arity s.times a b e h
StatefulShows_same (Join s) a b e h = join_same_states s.plan s.times a b e h
StatefulShows_same (Intersect s) a b e h = states_same (AreSetsOf s.arity) (sets_same s.arity) s.times a b e h

NotifiedShows_same : (s : Notified) (a b : Absorbed) → ((p : ℕ) (t : Time) → a p t ≈ b p t) → NotifiedShows s a → NotifiedShows s b
NotifiedShows_same (Group s) a b e h = group_same_states s.arity s.times a b e h
NotifiedShows_same (Except s) a b e h = states_same (AreSetsThen s.arity) (sets_then_same s.arity) s.times a b e h
NotifiedShows_same (Unseen s) a b e h = record {
  counted = states_same (AreSetsThen s.came.arity) (sets_then_same s.came.arity) s.came.times a b e h.counted;
  one_port = λ t. empty_from_same (b 1 t) (≈-trans (≈-sym (e 1 t)) (≈-from (h.one_port t)));
  loops = states_same (IsLoopOf s.came.arity) (loop_same s.came.arity) s.loops (by_turn a) (by_turn b) (λ k u. e 0 (deeper u k)) h.loops;
}
NotifiedShows_same (Lookup s) a b e h = record {
  left = group_same_states s.plan.left_arity s.left (left_of a) (left_of b) left h.left;
  right = states_same (AreTurnsOf s.plan) (turns_same s.plan) s.right (in_no_loop a) (in_no_loop b) flat h.right;
  loops = states_same (AreTurnsOf s.plan) (turns_same s.plan) s.loops (in_loop a) (in_loop b) (λ k u. e 1 (deeper u k)) h.loops;
}
  where
    left : (p : ℕ) (t : Time) → left_of a p t ≈ left_of b p t
    left zero t = e 0 t
    left (suc p) t = ≈-refl []

    flat : (k : ℕ) (u : Time) → in_no_loop a k u ≈ in_no_loop b k u
    flat zero u = cond_same (nat_eq (length u.counters) 0) (a 1 u) (b 1 u) (e 1 u)
    flat (suc k) u = ≈-refl []

pub Shows_same : (s : Shard) (a b : Absorbed) → ((p : ℕ) (t : Time) → a p t ≈ b p t) → Shows s a → Shows s b
Shows_same shard.Input a b e h = tt
Shows_same shard.Output a b e h = tt
Shows_same (shard.Stateless s) a b e h = tt
Shows_same (shard.Stateful s) a b e h = StatefulShows_same s.value a b e h
Shows_same (shard.Notified s) a b e h = NotifiedShows_same s.value a b e h

-- ---- what is absorbed

with_same : (a b : Absorbed) → ((p : ℕ) (t : Time) → a p t ≈ b p t) → (port : ℕ) (t : Time) (xs ys : List Record) → xs ≈ ys → (p : ℕ) (u : Time) → with_records a port t xs p u ≈ with_records b port t ys p u
with_same a b alike port t xs ys e p u =
    append_same (a p u) (b p u) (cond (port == p) (cond (same_time t u) xs []) []) (cond (port == p) (cond (same_time t u) ys []) []) (alike p u)
    (cond_same (port == p) (cond (same_time t u) xs []) (cond (same_time t u) ys []) (cond_same (same_time t u) xs ys e))

pub absorbed_same : (r : Role) (a b : Absorbed) → ((p : ℕ) (t : Time) → a p t ≈ b p t) → (port : ℕ) (t : Time) (xs ys : List Record) → xs ≈ ys → (p : ℕ) (u : Time) → absorbed_by r a port t xs p u ≈ absorbed_by r b port t ys p u
absorbed_same Role.input a b alike port t xs ys e p u = alike p u
absorbed_same Role.stateless a b alike port t xs ys e p u = alike p u
absorbed_same Role.stateful a b alike port t xs ys e p u = with_same a b alike port t xs ys e p u
absorbed_same Role.notified a b alike port t xs ys e p u = with_same a b alike port t xs ys e p u
absorbed_same Role.output a b alike port t xs ys e p u = alike p u

-- ---- what is kept

pub kept_same : (r : Role) (a b : Absorbed) → ((p : ℕ) (t : Time) → a p t ≈ b p t) → (port : ℕ) (t : Time) (xs ys : List Record) → xs ≈ ys → kept_by r a port t xs ≈ kept_by r b port t ys
kept_same Role.input a b alike port t xs ys e = ≈-refl []
kept_same Role.stateless a b alike port t xs ys e = ≈-refl []
kept_same Role.stateful a b alike port t xs ys e = append_same (a port t) (b port t) xs ys (alike port t) e
kept_same Role.notified a b alike port t xs ys e = append_same (a port t) (b port t) xs ys (alike port t) e
kept_same Role.output a b alike port t xs ys e = ≈-refl []

pub over_same : (xs ys : List Record) → xs ≈ ys → IsOver xs → IsOver ys
over_same xs ys e h = (h.0, let z = e.counts h.0 in omega (arith, z, h.1))

pub kept_over_same : (r : Role) (a : Absorbed) (port : ℕ) (t : Time) (xs ys : List Record) → xs ≈ ys → IsOver (kept_by r a port t xs) → IsOver (kept_by r a port t ys)
kept_over_same r a port t xs ys e h = over_same (kept_by r a port t xs) (kept_by r a port t ys) (kept_same r a a (λ p u. ≈-refl (a p u)) port t xs ys e) h

-- ---- what is sent

sends_by_same : (r : Role) (kind : Kind) (t : Time) (a : Absorbed) (port : ℕ) (xs ys : List Record) (would : ℕ → List Record) → xs ≈ ys →
    SendsBy r (λ q ins. op kind t ins q) (λ p. a p t) (λ p. absorbed_by r a port t xs p t) port xs would → SendsBy r (λ q ins. op kind t ins q) (λ p. a p t) (λ p. absorbed_by r a port t ys p t) port ys would
sends_by_same Role.input kind t a port xs ys would e h = h
sends_by_same Role.stateless kind t a port xs ys would e h = λ q. ≈-trans (h q) (op_same kind t (only_at port xs) (only_at port ys) q (λ p l. cond_same (p == port) xs ys e))
sends_by_same Role.stateful kind t a port xs ys would e h =
    λ q. ≈-trans (h q) (op_same kind t (λ p. with_records a port t xs p t) (λ p. with_records a port t ys p t) q (λ p l. with_same a a (λ i u. ≈-refl (a i u)) port t xs ys e p t))
sends_by_same Role.notified kind t a port xs ys would e h = h
sends_by_same Role.output kind t a port xs ys would e h = h

pub Sends_same : (kind : Kind) (t : Time) (a : Absorbed) (port : ℕ) (xs ys : List Record) (would : ℕ → List Record) → xs ≈ ys → Sends kind t a port xs would → Sends kind t a port ys would
Sends_same kind t a port xs ys would e h = sends_by_same (role kind) kind t a port xs ys would e h

pub would_send_over_same : (kind : Kind) (t : Time) (a : Absorbed) (port : ℕ) (xs ys : List Record) → xs ≈ ys → WouldSendOver kind t a port xs → WouldSendOver kind t a port ys
would_send_over_same kind t a port xs ys e h = (h.0, Sends_same kind t a port xs ys h.0 e h.1, h.2, h.3)
