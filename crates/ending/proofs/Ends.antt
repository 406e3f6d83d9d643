-- The engine of a dataflow graph takes finitely many steps between feeds.
use Rattle.std.proofs.Common.{nat_lt, nat_le, nat_eq, cond, ◌&&◌, map, lt-ltb, ltb-true, leb-true, le-leb, eqb-true, eq-eqb, ◌≡◌, ◌≤◌, ◌<◌, ℕ, zero, suc, ◌+◌, ◌*◌, true, false, List, [], ◌∷◌, ◌++◌, Bool, ◌⊎◌, inl, inr, refl, sym, ap, ◌∙◌, subst, arith, slice_get, Some, length}
use Rattle.semantics.specs.Multiset.{total, Record}
use Rattle.semantics.specs.Could.{Pointstamp, Location, on_edge, at_vertex, IsTimeAt, PathStep}
use Rattle.semantics.specs.Time.{Action, Time, after_action, front_from, last, front, turn_count, at_epoch, is_before}
use Rattle.semantics.specs.Kinds.{Kind, Role, role, action, ends_turn}
use Rattle.semantics.specs.Dataflow.{Goes, IsNested}
use Rattle.std.proofs.lemmas.Bool.{and_from, and_parts}
use Rattle.std.proofs.lemmas.Nat.{mul-le}
use Rattle.semantics.specs.Graph.{source, Graph, vertex, edge_count, edge_source, target}
use Rattle.semantics.specs.Dataflow.{IsDataflow}
use Rattle.semantics.specs.Rank.{woven, position, standing_at}
use Rattle.semantics.proofs.CouldRises.{step_fits, rank_along, same_epoch}
use Rattle.semantics.proofs.EdgeNumbers.{entered}
use Rattle.semantics.proofs.LexicographicOrder.{lex_cases}
use Rattle.semantics.proofs.OneFlow.{longest_rank, length-woven}
use Rattle.machine.specs.World.{Message, Event, Held, World, opening}
use Rattle.machine.specs.Active.{IsActive, sum_below, active_count, one_if_same, message_pointstamp, request_pointstamp, event_pointstamp}
use Rattle.machine.specs.Sending.{parcels}
use Rattle.machine.specs.Processing.{event_vertex, event_time, asked}
use Rattle.machine.specs.Changes.{parcel_count, step_adds}
use Rattle.machine.specs.Step.{Step, Allowed, after_step}
use Rattle.machine.specs.Run.{Run}
use Rattle.machine.specs.Engine.{network}
use Rattle.machine.specs.Headline.{IsRunOn}
use Rattle.machine.specs.InTransit.{IsGoodEvent}
use Rattle.ending.specs.Ending.{IsWork, AreWork, one_if_work, one_if_feed}
use Rattle.machine.proofs.Active.{one_is, below_some, total_some, counted, active, count_step}
use Rattle.machine.proofs.Counting.{below_same, below_one, below_zero}
use Rattle.ending.proofs.Heights.{placed_below, power_pos, below_most, power, power_more, short_of, short_falls, each_woven}
use Rattle.machine.proofs.InTransit.{held}
use Rattle.machine.proofs.Kept.{each, GoodEvent}
use Rattle.machine.proofs.Progress.{Good, held_good, vertex_fits, asked_place}
use Rattle.machine.proofs.Runs.{keep_reached, reached_more}
use Rattle.machine.proofs.Sending.{Parcel, parcels_good, fits_sent, fits_fed, each_at, each_more, each-append}
use Rattle.machine.proofs.Steps.{good_of}
use Rattle.machine.proofs.Tracking.{laws, have_flows}
use Rattle.ending.proofs.WorkLeft.{factor, worker_left, weight, work_left, left_feed, left_claim_message, left_claim_request, left_merge, left_commit, left_abandon}

-- each counter is at most the number of turns
abbrev pub Within : Time → Type 0
Within t = each (λ c. c ≤ turn_count) t.counters

-- ---- actions keep counters within

each_front_from : (P : ℕ → Type 0) (c : ℕ) (cs : List ℕ) → each P (c ∷ cs) → each P (front_from c cs)
each_front_from P c [] a = tt
each_front_from P c (d ∷ ds) a = (a.0, each_front_from P d ds a.1)

each_front : (P : ℕ → Type 0) (cs : List ℕ) → each P cs → each P (front cs)
each_front P [] a = tt
each_front P (c ∷ cs) a = each_front_from P c cs a

abbrev Turns : Kind → Time → Type 0
Turns kind t = ends_turn kind ≡ true → last t.counters < turn_count

within_after : (kind : Kind) (t : Time) → Turns kind t → Within t → Within (after_action (action kind) t)
within_after Kind.input t l a = a
within_after Kind.output t l a = a
within_after (Kind.select ss) t l a = a
within_after (Kind.filter c) t l a = a
within_after Kind.concat t l a = a
within_after (Kind.join ps) t l a = a
within_after (Kind.lookup ps) t l a = a
within_after (Kind.group ks as') t l a = a
within_after Kind.distinct t l a = a
within_after Kind.except t l a = a
within_after Kind.intersect t l a = a
within_after Kind.ingress t l a = each-append (λ c. c ≤ turn_count) t.counters (0 ∷ []) a (omega arith, tt)
within_after Kind.egress t l a = each_front (λ c. c ≤ turn_count) t.counters a
within_after Kind.feedback t l a = each-append (λ c. c ≤ turn_count) (front t.counters) (suc (last t.counters) ∷ []) (each_front (λ c. c ≤ turn_count) t.counters a) (l refl, tt)
within_after (Kind.gate n) t l a = a
within_after (Kind.unseen n) t l a = a
within_after (Kind.hold n) t l a = a

-- a notified vertex ends no turn
not_notified : (kind : Kind) → role kind ≡ Role.notified → ends_turn kind ≡ true → ⊥
not_notified Kind.input s e = cc
not_notified Kind.output s e = cc
not_notified (Kind.select ss) s e = cc
not_notified (Kind.filter c) s e = cc
not_notified Kind.concat s e = cc
not_notified (Kind.join ps) s e = cc
not_notified (Kind.lookup ps) s e = cc
not_notified (Kind.group ks as') s e = cc
not_notified Kind.distinct s e = cc
not_notified Kind.except s e = cc
not_notified Kind.intersect s e = cc
not_notified Kind.ingress s e = cc
not_notified Kind.egress s e = cc
not_notified Kind.feedback s e = cc
not_notified (Kind.gate n) s e = cc
not_notified (Kind.unseen n) s e = cc
not_notified (Kind.hold n) s e = cc

each_from : {X : Type 0} (P : X → Type 0) (xs : List X) → ((at : ℕ) (x : X) → slice_get xs at ≡ Some x → P x) → each P xs
each_from P [] h = tt
each_from P (x ∷ xs) h = (h zero x refl, each_from P xs (λ at y e. h (suc at) y e))

-- ---- heights

-- above each element of a rank but the epoch
base : Graph → ℕ
base g = turn_count + 4 * length g + 6

-- above each height
pub fuel : Graph → ℕ
unfolding base
fuel g = power (base g) longest_rank

-- at most n
abbrev cap : (n e : ℕ) → ℕ
cap n e = cond (nat_lt e n) e n

cap_same : (n e : ℕ) → e < n → cap n e ≡ e
cap_same n e l = rw (lt-ltb e n l) refl

cap_most : (n e : ℕ) → cap n e ≤ n
cap_most n e = go (nat_lt e n) refl
  where
    go : (b : Bool) → nat_lt e n ≡ b → cond b e n ≤ n
    go true q = let l = ltb-true e n q in omega arith
    go false q = omega arith

cap_above : (n v e : ℕ) → v < n → v < e → v < cap n e
cap_above n v e l k = go (nat_lt e n)
  where
    go : (b : Bool) → v < cond b e n
    go true = k
    go false = l

length_map : (f : ℕ → ℕ) (xs : List ℕ) → length (map f xs) ≡ length xs
length_map f [] = refl
length_map f (x ∷ xs) = ap suc (length_map f xs)

map_append : (f : ℕ → ℕ) (xs ys : List ℕ) → map f (xs ++ ys) ≡ map f xs ++ map f ys
map_append f [] ys = refl
map_append f (x ∷ xs) ys = ap (λ zs. f x ∷ zs) (map_append f xs ys)

each_map : (P : ℕ → Type 0) (f : ℕ → ℕ) (xs : List ℕ) → ((x : ℕ) → P (f x)) → each P (map f xs)
each_map P f [] h = tt
each_map P f (x ∷ xs) h = (h x, each_map P f xs h)

-- the loops, each given by a number that is at most the number of vertices
abbrev capped : Graph → (ℕ → List ℕ) → ℕ → List ℕ
capped g loops v = map (cap (length g)) (loops v)

capped_goes : (g : Graph) (loops : ℕ → List ℕ) (v w : ℕ) (a : Action) → v < length g → Goes loops v w a → Goes (capped g loops) v w a
capped_goes g loops v w a l (Goes.same_loop e h) = Goes.same_loop (ap (map (cap (length g))) e) h
capped_goes g loops v w a l (Goes.into_loop e q h) = Goes.into_loop (cap (length g) e) (ap (map (cap (length g))) q ∙ map_append (cap (length g)) (loops v) (e ∷ [])) (cap_above (length g) v e l h)
capped_goes g loops v w a l (Goes.out_of_loop q h) =
    Goes.out_of_loop (ap (map (cap (length g))) q ∙ map_append (cap (length g)) (loops w) (v ∷ []) ∙ ap (λ x. map (cap (length g)) (loops w) ++ (x ∷ [])) (cap_same (length g) v l)) h
capped_goes g loops v w a l (Goes.round_loop e h) = Goes.round_loop (ap (map (cap (length g))) e) (let z = length_map (cap (length g)) (loops v) in omega arith)

capped_nested : (g : Graph) (d : IsDataflow g) → IsNested g (capped g d.loops)
capped_nested g d =
    record {
      homes = λ v l. length_map (cap (length g)) (d.loops v) ∙ d.nested.homes v l;
      goes = λ w i l k. capped_goes g d.loops (source g w i).vertex w _ (d.wired.fed w i l k) (d.nested.goes w i l k);
    }

abbrev capped_flows : (g : Graph) → IsDataflow g → IsDataflow g
capped_flows g d = record { wired = d.wired; shaped = d.shaped; quiet = d.quiet; loops = capped g d.loops; nested = capped_nested g d }

-- each counter is within
pub all_within : List ℕ → Bool
all_within [] = true
all_within (c ∷ cs) = nat_le c turn_count && all_within cs

within_tells : (cs : List ℕ) → all_within cs ≡ true → each (λ c. c ≤ turn_count) cs
unfolding all_within
within_tells [] e = tt
within_tells (c ∷ cs) e = let p = and_parts (nat_le c turn_count) (all_within cs) e in (leb-true c turn_count p.0, within_tells cs p.1)

within_told : (cs : List ℕ) → each (λ c. c ≤ turn_count) cs → all_within cs ≡ true
unfolding all_within
within_told [] a = refl
within_told (c ∷ cs) a = and_from (nat_le c turn_count) (all_within cs) (le-leb c turn_count a.0) (within_told cs a.1)

abbrev pub act : Graph → ℕ → Time → Time
act g v t = after_action (action (vertex g v).kind) t

-- the number of paths from a location and time, by steps of edges and vertices, each of at most so many steps, whose counters are within
abbrev pub reach_at : Graph → (steps : ℕ) → Location → Time → ℕ
reach_at g zero l t = 0
reach_at g (suc n) (Location.edge e) t = suc (reach_at g n (Location.vertex (target g e)) t)
reach_at g (suc n) (Location.vertex v) t = sum_below (edge_count g) (λ e. cond (nat_eq (edge_source g e).vertex v && all_within (act g v t).counters) (suc (reach_at g n (Location.edge e) (act g v t))) 0)

-- how far a pointstamp is from the end of its epoch
abbrev pub far : Graph → Pointstamp → ℕ
far g p = reach_at g (fuel g) p.location p.time

module _ (g : Graph) (d0 : IsDataflow g) where
  abbrev d : IsDataflow g
  d = capped_flows g d0

  height : Pointstamp → ℕ
  height p = short_of (base g) longest_rank (woven (d.loops (standing_at g p.location)) p.time.counters (position g p.location))

  base_pos : 0 < base g
  unfolding base
  base_pos = omega arith

  turns_below : (c : ℕ) → c ≤ turn_count → c + 2 ≤ base g
  unfolding base
  turns_below c l = omega arith

  position_below : (v : ℕ) → v < length g → 2 * v + 3 ≤ base g
  unfolding base
  position_below v l = omega arith

  loops_below : (v : ℕ) → v < length g → each (λ e. 2 * e + 3 ≤ base g) (d.loops v)
  unfolding base
  loops_below v l = each_map (λ e. 2 * e + 3 ≤ base g) (cap (length g)) (d0.loops v) (λ e. let a = cap_most (length g) e in omega arith)

  abbrev woven_at : Pointstamp → List ℕ
  woven_at p = woven (d.loops (standing_at g p.location)) p.time.counters (position g p.location)

  known : (l : Location) (t : Time) → IsTimeAt g l t → standing_at g l < length g
  known (Location.edge e) t f = (entered g e f.0).known
  known (Location.vertex v) t f = f.0

  below : (l : Location) (t : Time) → IsTimeAt g l t → position g l + 2 ≤ base g
  below (Location.edge e) t f = let a = position_below (target g e) (entered g e f.0).known in omega arith
  below (Location.vertex v) t f = let a = position_below v f.0 in omega arith

  shallow : (l : Location) (t : Time) → IsTimeAt g l t → 2 * length t.counters + 1 ≤ longest_rank
  shallow (Location.edge e) t f = omega (arith, d.wired.shallow (target g e) (entered g e f.0).known, f.1)
  shallow (Location.vertex v) t f = omega (arith, d.wired.shallow v f.0, f.1)

  digits : (p : Pointstamp) → IsTimeAt g p.location p.time → Within p.time → each (λ x. x + 2 ≤ base g) (woven_at p)
  digits p f a = each_woven (base g) (d.loops (standing_at g p.location)) p.time.counters (position g p.location)
      (loops_below (standing_at g p.location) (known p.location p.time f))
      (each_more (λ c. c ≤ turn_count) (λ c. c + 2 ≤ base g) p.time.counters turns_below a)
      (below p.location p.time f)

  places : (p : Pointstamp) → IsTimeAt g p.location p.time → length (woven_at p) ≤ longest_rank
  places p f = let a = length-woven (d.loops (standing_at g p.location)) p.time.counters (position g p.location) in let b = shallow p.location p.time f in omega arith

  height_falls : (p q : Pointstamp) → IsTimeAt g p.location p.time → IsTimeAt g q.location q.time → Within p.time → Within q.time → is_before (woven_at p) (woven_at q) ≡ true → height q < height p
  unfolding height
  height_falls p q f f' a a' h = short_falls (base g) longest_rank (woven_at p) (woven_at q) base_pos (places p f) (places q f') (digits p f a) (digits q f' a') h

  height_most : (p : Pointstamp) → height p ≤ fuel g
  unfolding height fuel
  height_most p = omega arith

  height_pos : (p : Pointstamp) → IsTimeAt g p.location p.time → Within p.time → 0 < height p
  unfolding height
  height_pos p f a = let z = placed_below (base g) longest_rank (woven_at p) base_pos (digits p f a) in omega arith

  same_epochs : (x y : ℕ) (xs ys : List ℕ) → x ≡ y → is_before (x ∷ xs) (y ∷ ys) ≡ true → is_before xs ys ≡ true
  same_epochs x y xs ys e h = go (lex_cases x y xs ys h)
    where
      go : (x < y) ⊎ ((x ≡ y) × (is_before xs ys ≡ true)) → is_before xs ys ≡ true
      go (inl l) = absurd (omega arith)
      go (inr s) = s.1

  enter_falls : (e : ℕ) (t : Time) → e < edge_count g → IsTimeAt g (Location.edge e) t → Within t → height (at_vertex (target g e) t) < height (on_edge e t)
  enter_falls e t l f a =
      height_falls (on_edge e t) (at_vertex (target g e) t) f ((entered g e l).known, f.1) a a
      (same_epochs t.epoch t.epoch (woven_at (on_edge e t)) (woven_at (at_vertex (target g e) t)) refl (rank_along g d (PathStep.enters e) t l f))

  leave_falls : (e : ℕ) (t : Time) → e < edge_count g → IsTimeAt g (Location.vertex (edge_source g e).vertex) t → IsTimeAt g (Location.edge e) (act g (edge_source g e).vertex t) → Within t → Within (act g (edge_source g e).vertex t)
      → height (on_edge e (act g (edge_source g e).vertex t)) < height (at_vertex (edge_source g e).vertex t)
  leave_falls e t l f f' a a' =
      height_falls (at_vertex (edge_source g e).vertex t) (on_edge e (act g (edge_source g e).vertex t)) f f' a a'
      (same_epochs t.epoch (act g (edge_source g e).vertex t).epoch (woven_at (at_vertex (edge_source g e).vertex t)) (woven_at (on_edge e (act g (edge_source g e).vertex t))) (sym (same_epoch (action (vertex g (edge_source g e).vertex).kind) t)) (rank_along g d (PathStep.leaves e) t l f))

  leave_falls_at : (e v : ℕ) (t : Time) → (edge_source g e).vertex ≡ v → e < edge_count g → IsTimeAt g (Location.vertex v) t → IsTimeAt g (Location.edge e) (act g v t) → Within t → Within (act g v t)
      → height (on_edge e (act g v t)) < height (at_vertex v t)
  leave_falls_at e v t same le f f' a a' =
      subst (λ (z : ℕ). IsTimeAt g (Location.vertex z) t → IsTimeAt g (Location.edge e) (act g z t) → Within (act g z t) → height (on_edge e (act g z t)) < height (at_vertex z t)) same
      (λ f f' a'. leave_falls e t le f f' a a') f f' a'

  fits_at : (e v : ℕ) (t : Time) → (edge_source g e).vertex ≡ v → e < edge_count g → IsTimeAt g (Location.vertex v) t → IsTimeAt g (Location.edge e) (act g v t)
  fits_at e v t same le f =
      subst (λ (z : ℕ). IsTimeAt g (Location.vertex z) t → IsTimeAt g (Location.edge e) (act g z t)) same (λ f. step_fits g d.loops d.wired d.nested (PathStep.leaves e) t le f) f

  at : Location → Time → Pointstamp
  at l t = record { time = t; location = l }

  -- more steps change nothing once there are as many as the height
  stable : (n m : ℕ) (l : Location) (t : Time) → IsTimeAt g l t → Within t → height (record { time = t; location = l }) ≤ n → height (record { time = t; location = l }) ≤ m → reach_at g n l t ≡ reach_at g m l t
  stable zero m l t f a h k = absurd (let p = height_pos (record { time = t; location = l }) f a in omega arith)
  stable (suc n) zero l t f a h k = absurd (let p = height_pos (record { time = t; location = l }) f a in omega arith)
  stable (suc n) (suc m) (Location.edge e) t f a h k =
      let low = enter_falls e t f.0 f a in
      ap suc (stable n m (Location.vertex (target g e)) t ((entered g e f.0).known, f.1) a (omega arith) (omega arith))
  stable (suc n) (suc m) (Location.vertex v) t f a h k =
      below_same (edge_count g) _ _ (λ e le. one e le (λ s w. let f' = fits_at e v t s le f in let low = leave_falls_at e v t s le f f' a w in stable n m (Location.edge e) (act g v t) f' w (omega arith) (omega arith)) (nat_eq (edge_source g e).vertex v) (all_within (act g v t).counters) refl refl)
    where
      one : (e : ℕ) → e < edge_count g → ((edge_source g e).vertex ≡ v → Within (act g v t) → reach_at g n (Location.edge e) (act g v t) ≡ reach_at g m (Location.edge e) (act g v t)) → (x y : Bool) → nat_eq (edge_source g e).vertex v ≡ x → all_within (act g v t).counters ≡ y
          → cond (x && y) (suc (reach_at g n (Location.edge e) (act g v t))) 0 ≡ cond (x && y) (suc (reach_at g m (Location.edge e) (act g v t))) 0
      one e le ih true true p q = ap suc (ih (eqb-true (edge_source g e).vertex v p) (within_tells (act g v t).counters q))
      one e le ih true false p q = refl
      one e le ih false y p q = refl

  pub far_enter : (e : ℕ) (t : Time) → e < edge_count g → IsTimeAt g (Location.edge e) t → Within t → far g (at_vertex (target g e) t) < far g (on_edge e t)
  far_enter e t l f a = go (fuel g) refl
    where
      go : (n : ℕ) → fuel g ≡ n → far g (at_vertex (target g e) t) < far g (on_edge e t)
      go zero q = absurd (let p = height_pos (on_edge e t) f a in let h = height_most (on_edge e t) in omega arith)
      go (suc m) q =
          let h = height_most (on_edge e t) in
          let low = enter_falls e t l f a in
          let s : reach_at g m (Location.vertex (target g e)) t ≡ reach_at g (fuel g) (Location.vertex (target g e)) t = stable m (fuel g) (Location.vertex (target g e)) t ((entered g e l).known, f.1) a (omega arith) (omega arith) in
          let c : reach_at g (fuel g) (Location.edge e) t ≡ suc (reach_at g m (Location.vertex (target g e)) t) = ap (λ n. reach_at g n (Location.edge e) t) q in
          omega arith

  pub far_leave : (e v : ℕ) (t : Time) → (edge_source g e).vertex ≡ v → e < edge_count g → IsTimeAt g (Location.vertex v) t → IsTimeAt g (Location.edge e) (act g v t) → Within t → Within (act g v t)
      → far g (on_edge e (act g v t)) < far g (at_vertex v t)
  far_leave e v t same le f f' a a' = go (fuel g) refl
    where
      go : (n : ℕ) → fuel g ≡ n → far g (on_edge e (act g v t)) < far g (at_vertex v t)
      go zero q = absurd (let p = height_pos (at_vertex v t) f a in let h = height_most (at_vertex v t) in omega arith)
      go (suc m) q =
          let h = height_most (at_vertex v t) in
          let low = leave_falls_at e v t same le f f' a a' in
          let s : reach_at g m (Location.edge e) (act g v t) ≡ reach_at g (fuel g) (Location.edge e) (act g v t) = stable m (fuel g) (Location.edge e) (act g v t) f' a' (omega arith) (omega arith) in
          let c : reach_at g (fuel g) (Location.vertex v) t ≡ reach_at g (suc m) (Location.vertex v) t = ap (λ n. reach_at g n (Location.vertex v) t) q in
          let b = below_one (edge_count g) e (λ e. cond (nat_eq (edge_source g e).vertex v && all_within (act g v t).counters) (suc (reach_at g m (Location.edge e) (act g v t))) 0) le in
          let i : cond (nat_eq (edge_source g e).vertex v && all_within (act g v t).counters) (suc (reach_at g m (Location.edge e) (act g v t))) 0 ≡ suc (reach_at g m (Location.edge e) (act g v t)) =
          rw (and_from (nat_eq (edge_source g e).vertex v) (all_within (act g v t).counters) (eq-eqb (edge_source g e).vertex v same) (within_told (act g v t).counters a')) refl in
          omega arith

-- ---- most

reach_most : (g : Graph) (n : ℕ) (l : Location) (t : Time) → reach_at g n l t ≤ power (2 * edge_count g + 2) n
reach_most g zero l t = omega arith
reach_most g (suc n) (Location.edge e) t =
    let a = reach_most g n (Location.vertex (target g e)) t in
    let p = power_pos (2 * edge_count g + 2) n (omega arith) in
    let m = mul-le (power (2 * edge_count g + 2) n) 2 (power (2 * edge_count g + 2) n) (2 * edge_count g + 2) (omega arith) (omega arith) in
    omega arith
reach_most g (suc n) (Location.vertex v) t =
    let p = power_pos (2 * edge_count g + 2) n (omega arith) in
    let s = below_most (edge_count g) (λ e. cond (nat_eq (edge_source g e).vertex v && all_within (act g v t).counters) (suc (reach_at g n (Location.edge e) (act g v t))) 0) (2 * power (2 * edge_count g + 2) n)
    (λ e le. one e (nat_eq (edge_source g e).vertex v && all_within (act g v t).counters) (reach_most g n (Location.edge e) (act g v t))) in
    let q = spread (edge_count g) (power (2 * edge_count g + 2) n) in
    omega arith
  where
    one : (e : ℕ) (b : Bool) → reach_at g n (Location.edge e) (act g v t) ≤ power (2 * edge_count g + 2) n → cond b (suc (reach_at g n (Location.edge e) (act g v t))) 0 ≤ 2 * power (2 * edge_count g + 2) n
    one e true h = let p = power_pos (2 * edge_count g + 2) n (omega arith) in omega arith
    one e false h = omega arith

    spread : (c y : ℕ) → c * (2 * y) + 2 * y ≡ y * (2 * c + 2)
    spread c y = grind arith

module _ (g : Graph) where
  -- what one message can make of work, at most
  most_weight : (workers : ℕ) → ℕ
  most_weight workers = power (factor (network g workers)) (suc (power (2 * edge_count g + 2) (fuel g)))

  weight_most : (workers : ℕ) (p : Pointstamp) → weight (network g workers) (far g) p ≤ most_weight workers
  unfolding most_weight
  weight_most workers p = power_more (factor (network g workers)) (suc (far g p)) (suc (power (2 * edge_count g + 2) (fuel g))) (omega arith) (let a = reach_most g (fuel g) p.location p.time in omega arith)

  -- what one feed can make of work, at most
  pub most_fed : (workers : ℕ) → ℕ
  most_fed workers = workers * (edge_count g * most_weight workers)

  pub feed_adds : (workers : ℕ) (w : World) (i : ℕ) (records : List Record) → work_left (network g workers) (far g) (after_step (network g workers) w (Step.feed i records)) ≤ work_left (network g workers) (far g) w + most_fed workers
  unfolding most_fed
  feed_adds workers w i records = left_feed (network g workers) (far g) w i records (most_weight workers) (weight_most workers)

-- every active pointstamp is within
abbrev pub AllWithin : Graph → (workers : ℕ) → World → Type 0
AllWithin g workers w = (p : Pointstamp) → IsActive (network g workers) w p → Within p.time

-- ---- a commit's messages and requests

module _ (g : Graph) (workers : ℕ) (steps : List Step) (w : World) (is : IsRunOn g workers steps w) where
  good : Good (network g workers) w
  good = let kept = keep_reached (network g workers) (laws g workers steps w is) (have_flows g workers steps w is) w (steps, is.run) in good_of (network g workers) (laws g workers steps w is) w kept.0 kept.1

  turns : (event : Event) → IsGoodEvent g event → Turns (vertex g (event_vertex (network g workers) event)).kind (event_time event)
  turns (Event.arrival m) fine = fine.within
  turns (Event.notification n) fine = λ e. absurd (not_notified (vertex g n.vertex).kind fine.notified e)

  -- what a held event's vertex sends is at a time within
  act_within : (k : ℕ) (event : Event) → k < workers → w.held k ≡ Held.holding false event → Within (event_time event) → Within ((network g workers).act (event_vertex (network g workers) event) (event_time event))
  act_within k event l s a = within_after (vertex g (event_vertex (network g workers) event)).kind (event_time event) (turns event (held g workers steps w is k false event l s)) a

  event_at : (event : Event) → (event_pointstamp event).time ≡ event_time event
  event_at (Event.arrival m) = refl
  event_at (Event.notification n) = refl

  fine : (k : ℕ) (event : Event) → k < workers → w.held k ≡ Held.holding false event → GoodEvent (network g workers) k event
  fine k event l s = held_good (network g workers) (laws g workers steps w is) w good k event l s

  here : (k : ℕ) (event : Event) → k < workers → w.held k ≡ Held.holding false event → IsTimeAt g (Location.vertex (event_vertex (network g workers) event)) (event_time event)
  here k event l s = vertex_fits (network g workers) (laws g workers steps w is) w good k event (fine k event l s)

  -- what is sent at a vertex
  sent_within : (sender v : ℕ) (u : Time) (out : ℕ → List Record) → ((e : ℕ) → e < edge_count g → (network g workers).source e ≡ v → IsTimeAt g (Location.edge e) u) → Within u → (p : Pointstamp) → 0 < parcel_count (network g workers) sender v u out p → Within p.time
  sent_within sender v u out fits a p l =
      let x = below_some workers (λ to. total (λ m. one_if_same p (message_pointstamp m)) (parcels (network g workers) sender v u out to (edge_count g))) l in
      let y = total_some (parcels (network g workers) sender v u out x.0 (edge_count g)) (λ m. one_if_same p (message_pointstamp m)) x.2 in
      let q : Parcel (network g workers) v u x.0 y.1 = each_at _ _ y.0 y.1 (parcels_good (network g workers) (laws g workers steps w is) sender v u out x.0 (edge_count g) fits (omega arith)) y.2 in
      let same : p ≡ message_pointstamp y.1 = one_is p (message_pointstamp y.1) y.3 in
      subst (λ (t : Time). Within t) (sym (ap (λ (z : Pointstamp). z.time) same ∙ q.when)) a

  added_within : AllWithin g workers w → (step : Step) → Allowed (network g workers) w step → (p : Pointstamp) → 0 < step_adds (network g workers) w step p → Within p.time
  added_within all (Step.feed i rs) ok p l = sent_within 0 i (at_epoch (w.open_epoch i)) (λ q. rs) (fits_fed (network g workers) (laws g workers steps w is) i (w.open_epoch i) ok.0.0) tt p l
  added_within all (Step.seal i) ok p l = subst (λ (t : Time). Within t) (sym (ap (λ (z : Pointstamp). z.time) (one_is p (at_vertex i (at_epoch (w.open_epoch i + 1))) l))) tt
  added_within all (Step.close i) ok p l = absurd (omega arith)
  added_within all (Step.claim_message k at m) ok p l = absurd (omega arith)
  added_within all (Step.claim_request k at n) ok p l = absurd (omega arith)
  added_within all (Step.merge k at m n) ok p l = absurd (omega arith)
  added_within all (Step.abandon k event) ok p l = absurd (omega arith)
  added_within all (Step.commit k event out) ok p l = go (parcel_count (network g workers) k v u out p) refl
    where
      v : ℕ
      v = event_vertex (network g workers) event

      u : Time
      u = (network g workers).act (event_vertex (network g workers) event) (event_time event)

      held_within : Within (event_time event)
      held_within = subst (λ (t : Time). Within t) (event_at event) (all (event_pointstamp event) (IsActive.of_held k false event ok.0 ok.1))

      go : (n : ℕ) → parcel_count (network g workers) k v u out p ≡ n → Within p.time
      go (suc n) e = sent_within k v u out (fits_sent (network g workers) (laws g workers steps w is) v (event_time event) (here k event ok.0 ok.1)) (act_within k event ok.0 ok.1 held_within) p (omega arith)
      go zero e =
          let b = total_some (asked (network g workers) w k event) (λ n. one_if_same p (request_pointstamp n)) (omega arith) in
          let same : p ≡ at_vertex v (event_time event) = one_is p (request_pointstamp b.1) b.3 ∙ asked_place (network g workers) (laws g workers steps w is) w good k event b.0 b.1 b.2 in
          subst (λ (t : Time). Within t) (sym (ap (λ (z : Pointstamp). z.time) same)) held_within

  pub within_step : AllWithin g workers w → (step : Step) → Allowed (network g workers) w step → AllWithin g workers (after_step (network g workers) w step)
  within_step all step ok p a = go (active_count (network g workers) w p) refl
    where
      go : (n : ℕ) → active_count (network g workers) w p ≡ n → Within p.time
      go (suc n) e = all p (active (network g workers) (laws g workers steps w is) w p (omega arith))
      go zero e =
          let c = counted (network g workers) (laws g workers steps w is) (after_step (network g workers) w step) p a in
          let s = count_step (network g workers) (laws g workers steps w is) w step ok p in
          added_within all step ok p (omega arith)

  -- the run, with one more step
  pub further : (step : Step) → Allowed (network g workers) w step → (more : List Step) × IsRunOn g workers more (after_step (network g workers) w step)
  further step ok = let r = reached_more (network g workers) w step (steps, is.run) ok in (r.0, record { flows = is.flows; some = is.some; run = r.1 })

  module _ (all : AllWithin g workers w) where
    vertex_low : (k : ℕ) (event : Event) → k < workers → w.held k ≡ Held.holding false event → far g (at_vertex (event_vertex (network g workers) event) (event_time event)) ≤ far g (event_pointstamp event)
    vertex_low k (Event.notification n) l s = omega arith
    vertex_low k (Event.arrival m) l s =
        let good = fine k (Event.arrival m) l s in
        let a = far_enter g is.flows m.edge m.time good.0 good.3 (all (message_pointstamp m) (IsActive.of_held k false (Event.arrival m) l s)) in
        omega arith

    sends_lower : (k : ℕ) (event : Event) (out : ℕ → List Record) (to : ℕ) → k < workers → w.held k ≡ Held.holding false event →
        each (λ m. far g (message_pointstamp m) < far g (event_pointstamp event)) (parcels (network g workers) k (event_vertex (network g workers) event) ((network g workers).act (event_vertex (network g workers) event) (event_time event)) out to (edge_count g))
    sends_lower k event out to l s =
        each_more (Parcel (network g workers) v u to) (λ m. far g (message_pointstamp m) < far g (event_pointstamp event)) (parcels (network g workers) k v u out to (edge_count g)) lower
        (parcels_good (network g workers) (laws g workers steps w is) k v u out to (edge_count g) (fits_sent (network g workers) (laws g workers steps w is) v t (here k event l s)) (omega arith))
      where
        v : ℕ
        v = event_vertex (network g workers) event

        t : Time
        t = event_time event

        u : Time
        u = (network g workers).act v t

        held_within : Within t
        held_within = subst (λ (t : Time). Within t) (event_at event) (all (event_pointstamp event) (IsActive.of_held k false event l s))

        lower : (m : Message) → Parcel (network g workers) v u to m → far g (message_pointstamp m) < far g (event_pointstamp event)
        lower m p =
            let a : far g (on_edge m.edge u) < far g (at_vertex v t) = far_leave g is.flows m.edge v t p.from p.good.0 (here k event l s) (subst (λ (z : Time). IsTimeAt g (Location.edge m.edge) z) p.when p.good.3) held_within (act_within k event l s held_within) in
            let b = vertex_low k event l s in
            let c : far g (message_pointstamp m) ≡ far g (on_edge m.edge u) = ap (λ (z : Time). far g (on_edge m.edge z)) p.when in
            omega arith

    asks_lower : (k : ℕ) (event : Event) → k < workers → w.held k ≡ Held.holding false event → each (λ n. far g (request_pointstamp n) < far g (event_pointstamp event)) (asked (network g workers) w k event)
    asks_lower k (Event.notification n) l s = tt
    asks_lower k (Event.arrival m) l s = each_from (λ n. far g (request_pointstamp n) < far g (message_pointstamp m)) (asked (network g workers) w k (Event.arrival m)) (λ at n e.
        let good' = fine k (Event.arrival m) l s in
        let a = far_enter g is.flows m.edge m.time good'.0 good'.3 (all (message_pointstamp m) (IsActive.of_held k false (Event.arrival m) l s)) in
        let c : far g (request_pointstamp n) ≡ far g (at_vertex (target g m.edge) m.time) = ap (far g) (asked_place (network g workers) (laws g workers steps w is) w good k (Event.arrival m) at n e) in
        omega arith)

    -- each step of a worker leaves less work
    pub less_left : (step : Step) → IsWork step → Allowed (network g workers) w step → work_left (network g workers) (far g) (after_step (network g workers) w step) < work_left (network g workers) (far g) w
    less_left (Step.feed i rs) work ok = absurd work
    less_left (Step.seal i) work ok = absurd work
    less_left (Step.close i) work ok = absurd work
    less_left (Step.claim_message k at m) work ok = left_claim_message (network g workers) (far g) w k at m ok
    less_left (Step.claim_request k at n) work ok = left_claim_request (network g workers) (far g) w k at n ok
    less_left (Step.merge k at m n) work ok = left_merge (network g workers) (far g) w k at m n ok
    less_left (Step.abandon k event) work ok = left_abandon (network g workers) (far g) w k event ok
    less_left (Step.commit k event out) work ok = left_commit (network g workers) (far g) w k event out ok
        (record { sends = λ to lt. sends_lower k event out to ok.0 ok.1; asks_for = asks_lower k event ok.0 ok.1 })

-- ---- whole runs

module _ (g : Graph) (workers : ℕ) (d : IsDataflow g) (some : 0 < workers) where
  nothing_active : (p : Pointstamp) → IsActive (network g workers) opening p → Within p.time
  nothing_active p (IsActive.of_input i s e) = tt
  nothing_active p (IsActive.of_mail k at m l s) = absurd cc
  nothing_active p (IsActive.of_request k at n l s) = absurd cc
  nothing_active p (IsActive.of_held k up event l s) = absurd cc

  within_on : (rest : List Step) (steps : List Step) (w w' : World) → IsRunOn g workers steps w → AllWithin g workers w → Run (network g workers) w rest w' → AllWithin g workers w'
  within_on [] steps w w' is all run = subst (λ (x : World). AllWithin g workers x) run all
  within_on (step ∷ rest) steps w w' is all run =
      let next = further g workers steps w is step run.0 in
      within_on rest next.0 (after_step (network g workers) w step) w' next.1 (within_step g workers steps w is all step run.0) run.1

  pub all_within_run : (steps : List Step) (w : World) → IsRunOn g workers steps w → AllWithin g workers w
  all_within_run steps w is = within_on steps [] opening w (record { flows = d; some = some; run = refl }) nothing_active is.run

  -- so many steps of workers, and the work that is left after them, are no more than the work before
  pub no_longer : (more : List Step) (steps : List Step) (w w' : World) → IsRunOn g workers steps w → Run (network g workers) w more w' → AreWork more
      → length more + work_left (network g workers) (far g) w' ≤ work_left (network g workers) (far g) w
  no_longer [] steps w w' is run work = let e : work_left (network g workers) (far g) w ≡ work_left (network g workers) (far g) w' = ap (work_left (network g workers) (far g)) run in omega arith
  no_longer (step ∷ more) steps w w' is run work =
      let next = further g workers steps w is step run.0 in
      let a = less_left g workers steps w is (all_within_run steps w is) step work.0 run.0 in
      let b = no_longer more next.0 (after_step (network g workers) w step) w' next.1 run.1 work.1 in
      omega arith

pub ends : (g : Graph) (workers : ℕ) (steps : List Step) (w : World) → IsRunOn g workers steps w → (most : ℕ) × ((more : List Step) (w' : World) → Run (network g workers) w more w' → AreWork more → length more ≤ most)
ends g workers steps w is = (work_left (network g workers) (far g) w, λ more w' run work. let a = no_longer g workers is.flows is.some more steps w w' is run work in omega arith)

-- ---- runs with feeds

module _ (g : Graph) (workers : ℕ) (d : IsDataflow g) where
  abbrev left : World → ℕ
  left w = work_left (network g workers) (far g) w

  step_left : (steps : List Step) (w : World) → IsRunOn g workers steps w → (step : Step) → Allowed (network g workers) w step → one_if_work step + left (after_step (network g workers) w step) ≤ left w + one_if_feed step * most_fed g workers
  step_left steps w is (Step.feed i rs) ok = let a = feed_adds g workers w i rs in omega arith
  step_left steps w is (Step.seal i) ok = omega arith
  step_left steps w is (Step.close i) ok = omega arith
  step_left steps w is (Step.claim_message k at m) ok = let a = less_left g workers steps w is (all_within_run g workers d is.some steps w is) (Step.claim_message k at m) tt ok in omega arith
  step_left steps w is (Step.claim_request k at n) ok = let a = less_left g workers steps w is (all_within_run g workers d is.some steps w is) (Step.claim_request k at n) tt ok in omega arith
  step_left steps w is (Step.merge k at m n) ok = let a = less_left g workers steps w is (all_within_run g workers d is.some steps w is) (Step.merge k at m n) tt ok in omega arith
  step_left steps w is (Step.commit k event out) ok = let a = less_left g workers steps w is (all_within_run g workers d is.some steps w is) (Step.commit k event out) tt ok in omega arith
  step_left steps w is (Step.abandon k event) ok = let a = less_left g workers steps w is (all_within_run g workers d is.some steps w is) (Step.abandon k event) tt ok in omega arith

  linear_on : (rest : List Step) (steps : List Step) (w w' : World) → IsRunOn g workers steps w → Run (network g workers) w rest w' → total one_if_work rest + left w' ≤ left w + total one_if_feed rest * most_fed g workers
  linear_on [] steps w w' is run = let e : left w ≡ left w' = ap left run in omega arith
  linear_on (step ∷ rest) steps w w' is run =
      let next = further g workers steps w is step run.0 in
      let a = step_left steps w is step run.0 in
      let b = linear_on rest next.0 (after_step (network g workers) w step) w' next.1 run.1 in
      let c = spread (one_if_feed step) (total one_if_feed rest) (most_fed g workers) in
      omega arith
    where
      spread : (a b c : ℕ) → (a + b) * c ≡ a * c + b * c
      spread a b c = grind arith

-- ---- for the laws

-- the work that is left in a world
pub measured : (g : Graph) → IsDataflow g → (workers : ℕ) → (left : World → ℕ) × ((steps : List Step) (w : World) → IsRunOn g workers steps w → (step : Step) → IsWork step → Allowed (network g workers) w step → left (after_step (network g workers) w step) < left w)
measured g d workers = (work_left (network g workers) (far g), λ steps w is step work ok. less_left g workers steps w is (all_within_run g workers d is.some steps w is) step work ok)

pub linear : (g : Graph) → IsDataflow g → (workers : ℕ) → (most : ℕ) × ((steps : List Step) (w : World) → IsRunOn g workers steps w → total one_if_work steps ≤ total one_if_feed steps * most)
linear g d workers = (
  most_fed g workers,
  λ steps w is.
      let a = linear_on g workers d steps [] opening w (record { flows = is.flows; some = is.some; run = refl }) is.run in
      let b : work_left (network g workers) (far g) opening ≡ 0 = below_zero workers (worker_left (network g workers) (far g) opening) (λ k l. refl) in
      omega arith,
)
