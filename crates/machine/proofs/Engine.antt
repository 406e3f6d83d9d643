-- The network of a dataflow graph keeps the laws of networks, and has flows.
use Rattle.std.proofs.Common.{◌≡◌, ◌≢◌, ◌≤◌, ◌<◌, ℕ, zero, suc, ◌+◌, ◌-◌, nat_lt, Bool, true, false, cond, List, [], ◌∷◌, ◌++◌, ◌⊎◌, inl, inr, refl, sym, ap, ◌∙◌, subst, arith, map, flat_map, length, slice_index_or, Some, ltb-true, ltb-false}
use Rattle.std.specs.List.{AllByRecursion}
use Rattle.semantics.specs.Multiset.{Record, same, one_if, total, count, end_to_end, ◌≈◌, IsPartOf, IsAmong}
use Rattle.semantics.specs.Could.{IsTimeAt, PathStep, Location}
use Rattle.semantics.specs.Kinds.{route_key, Kind, action, ends_turn, in_ports, out_ports, looks_back, is_input, role, Role}
use Rattle.semantics.specs.Op.{IsCut, places, reads_back, reads_if, reads, op}
use Rattle.semantics.specs.Dataflow.{Goes, IsDataflow}
use Rattle.semantics.specs.Flow.{edge_flow, Inputs, Flow, sent_by, sent_or_fed, port_flow, IsEdgeTime, IsFlow}
use Rattle.semantics.specs.Graph.{edge_count, target, in_port, edge_into, edge_source, Vertex, Graph, no_vertex, vertex}
use Rattle.semantics.specs.Route.{route, home_by, home}
use Rattle.semantics.specs.Time.{in_first_turn, Time, last_from, front_from, front, earlier_turns, is_before, last, deeper, outer, Action, after_action, times_before, below, turn_count, same_counters, same_time, at_epoch}
use Rattle.semantics.proofs.MultisetSums.{Decides-same, ≈-refl, ≈-trans, ≈-from, total-append, empty_from_same, count_here}
use Rattle.semantics.proofs.MonotoneVertices.{Grows, op_part}
use Rattle.semantics.proofs.TimesBefore.{Among, Defined, times_before_all, Reached, times_before_only}
use Rattle.semantics.proofs.CouldRises.{step_fits, at_most_refl, could_self, could_on, could_founded}
use Rattle.semantics.proofs.EdgeNumbers.{entered, into}
use Rattle.semantics.proofs.InputNumbers.{input_kind}
use Rattle.semantics.proofs.OneFlow.{op_same, one_flow, lex_head, lex_tail, all_below, flat_same, reads_same}
use Rattle.semantics.proofs.WhatIsRead.{read_from, op_of_nothing, op_of_parts}
use Rattle.semantics.proofs.VertexLaws.{op_cut}
use Rattle.semantics.proofs.RoutedParts.{home_below}
use Rattle.semantics.proofs.RankRises.{StepRises, step_rises, rises_from_nested}
use Rattle.semantics.proofs.VertexFlows.{last-deeper}
use Rattle.machine.specs.Network.{Network}
use Rattle.machine.specs.Active.{sum_below}
use Rattle.machine.specs.Engine.{network}
use Rattle.machine.proofs.NetFlow.{ins}
use Rattle.machine.proofs.Counting.{count-append, counted-end_to_end, total_same}
use Rattle.machine.proofs.Laws.{IsRead, IsOutput, IsNetwork, times_in, all_parts, CutByKey}
use Rattle.machine.proofs.NetFlow.{IsNetFlow, HasFlows}
use Rattle.machine.proofs.Places.{same_time_tells, same_time_self}

-- ---- roles

role_input : (k : Kind) → role k ≡ Role.input → k ≡ Kind.input
role_input Kind.input e = refl
role_input Kind.output e = absurd cc
role_input Kind.concat e = absurd cc
role_input Kind.distinct e = absurd cc
role_input Kind.except e = absurd cc
role_input Kind.intersect e = absurd cc
role_input Kind.ingress e = absurd cc
role_input Kind.egress e = absurd cc
role_input Kind.feedback e = absurd cc
role_input (Kind.select ss) e = absurd cc
role_input (Kind.filter c) e = absurd cc
role_input (Kind.join ps) e = absurd cc
role_input (Kind.lookup ps) e = absurd cc
role_input (Kind.group ks as') e = absurd cc
role_input (Kind.gate n) e = absurd cc
role_input (Kind.unseen n) e = absurd cc
role_input (Kind.hold n) e = absurd cc

pub role_output : (k : Kind) → role k ≡ Role.output → k ≡ Kind.output
role_output Kind.input e = absurd cc
role_output Kind.output e = refl
role_output Kind.concat e = absurd cc
role_output Kind.distinct e = absurd cc
role_output Kind.except e = absurd cc
role_output Kind.intersect e = absurd cc
role_output Kind.ingress e = absurd cc
role_output Kind.egress e = absurd cc
role_output Kind.feedback e = absurd cc
role_output (Kind.select ss) e = absurd cc
role_output (Kind.filter c) e = absurd cc
role_output (Kind.join ps) e = absurd cc
role_output (Kind.lookup ps) e = absurd cc
role_output (Kind.group ks as') e = absurd cc
role_output (Kind.gate n) e = absurd cc
role_output (Kind.unseen n) e = absurd cc
role_output (Kind.hold n) e = absurd cc

role_grows : (k : Kind) → role k ≢ Role.notified → Grows k
role_grows (Kind.group ks as') n = absurd (n refl)
role_grows Kind.input n = tt
role_grows Kind.output n = tt
role_grows Kind.concat n = tt
role_grows Kind.distinct n = tt
role_grows Kind.except n = absurd (n refl)
role_grows Kind.intersect n = tt
role_grows Kind.ingress n = tt
role_grows Kind.egress n = tt
role_grows Kind.feedback n = tt
role_grows (Kind.select ss) n = tt
role_grows (Kind.filter c) n = tt
role_grows (Kind.join ps) n = tt
role_grows (Kind.lookup ps) n = absurd (n refl)
role_grows (Kind.gate m) n = tt
role_grows (Kind.unseen m) n = absurd (n refl)
role_grows (Kind.hold m) n = tt

abbrev HasKeys : Kind → Type 0
HasKeys k = (role k ≡ Role.stateful) ⊎ (role k ≡ Role.notified)

neither : (r : Role) → r ≡ Role.stateless → (r ≡ Role.stateful) ⊎ (r ≡ Role.notified) → ⊥
neither r e (inl h) = let x : Role.stateless ≡ Role.stateful = sym e ∙ h in cc
neither r e (inr h) = let x : Role.stateless ≡ Role.notified = sym e ∙ h in cc

source_no_keys : (k : Kind) → k ≡ Kind.input → HasKeys k → ⊥
source_no_keys k e (inl h) = let x : Role.input ≡ Role.stateful = sym (ap role e) ∙ h in cc
source_no_keys k e (inr h) = let x : Role.input ≡ Role.notified = sym (ap role e) ∙ h in cc

output_no_keys : (k : Kind) → k ≡ Kind.output → HasKeys k → ⊥
output_no_keys k e (inl h) = let x : Role.output ≡ Role.stateful = sym (ap role e) ∙ h in cc
output_no_keys k e (inr h) = let x : Role.output ≡ Role.notified = sym (ap role e) ∙ h in cc

has_route_key : (k : Kind) → HasKeys k → (port : ℕ) → (key : Record → Record) × (route_key k port ≡ Some key)
has_route_key (Kind.join ps) h zero = (_, refl)
has_route_key (Kind.join ps) h (suc port) = (_, refl)
has_route_key (Kind.lookup ps) h zero = (_, refl)
has_route_key (Kind.lookup ps) h (suc port) = (_, refl)
has_route_key (Kind.group ks as') h port = (_, refl)
has_route_key Kind.distinct h port = (_, refl)
has_route_key Kind.except h port = (_, refl)
has_route_key Kind.intersect h port = (_, refl)
has_route_key (Kind.unseen n) h port = (_, refl)
has_route_key Kind.input h port = absurd (source_no_keys Kind.input refl h)
has_route_key Kind.output h port = absurd (output_no_keys Kind.output refl h)
has_route_key Kind.concat h port = absurd (neither Role.stateless refl h)
has_route_key Kind.ingress h port = absurd (neither Role.stateless refl h)
has_route_key Kind.egress h port = absurd (neither Role.stateless refl h)
has_route_key Kind.feedback h port = absurd (neither Role.stateless refl h)
has_route_key (Kind.select ss) h port = absurd (neither Role.stateless refl h)
has_route_key (Kind.filter c) h port = absurd (neither Role.stateless refl h)
has_route_key (Kind.gate n) h port = absurd (neither Role.stateless refl h)
has_route_key (Kind.hold n) h port = absurd (neither Role.stateless refl h)

no_route_key : (k : Kind) → role k ≡ Role.stateless → (port : ℕ) (key : Record → Record) → route_key k port ≡ Some key → ⊥
no_route_key (Kind.join ps) h port key e = cc
no_route_key (Kind.lookup ps) h port key e = cc
no_route_key (Kind.group ks as') h port key e = cc
no_route_key Kind.distinct h port key e = cc
no_route_key Kind.except h port key e = cc
no_route_key Kind.intersect h port key e = cc
no_route_key (Kind.unseen n) h port key e = cc
no_route_key Kind.input h port key e = cc
no_route_key Kind.output h port key e = cc
no_route_key Kind.concat h port key e = cc
no_route_key Kind.ingress h port key e = cc
no_route_key Kind.egress h port key e = cc
no_route_key Kind.feedback h port key e = cc
no_route_key (Kind.select ss) h port key e = cc
no_route_key (Kind.filter c) h port key e = cc
no_route_key (Kind.gate n) h port key e = cc
no_route_key (Kind.hold n) h port key e = cc

-- ---- vertices

known_or_none : (g : Graph) (v : ℕ) → (v < length g) ⊎ (vertex g v ≡ no_vertex)
unfolding vertex
known_or_none [] v = inr refl
known_or_none (x ∷ g) zero = inl (omega arith)
known_or_none (x ∷ g) (suc v) = go (known_or_none g v)
  where
    go : (v < length g) ⊎ (slice_index_or g v no_vertex ≡ no_vertex) → (suc v < suc (length g)) ⊎ (slice_index_or g v no_vertex ≡ no_vertex)
    go (inl l) = inl (omega arith)
    go (inr e) = inr e

known_kind : (g : Graph) (v : ℕ) → (vertex g v).kind ≢ Kind.output → v < length g
known_kind g v n = go (known_or_none g v)
  where
    go : (v < length g) ⊎ (vertex g v ≡ no_vertex) → v < length g
    go (inl l) = l
    go (inr e) = absurd (n (ap (λ (x : Vertex). x.kind) e))

goes_up : (loops : ℕ → List ℕ) (v w : ℕ) (a : Action) → Goes loops v w a → a ≡ Action.stay → v < w
goes_up loops v w a (Goes.same_loop e h) s = h
goes_up loops v w a (Goes.into_loop e q h) s = absurd cc
goes_up loops v w a (Goes.out_of_loop e h) s = absurd cc
goes_up loops v w a (Goes.round_loop e h) s = absurd cc

goes_flat : (loops : ℕ → List ℕ) (v w : ℕ) (a : Action) → Goes loops v w a → a ≡ Action.stay → loops w ≡ loops v
goes_flat loops v w a (Goes.same_loop e h) s = e
goes_flat loops v w a (Goes.into_loop e q h) s = absurd cc
goes_flat loops v w a (Goes.out_of_loop e h) s = absurd cc
goes_flat loops v w a (Goes.round_loop e h) s = absurd cc

goes_reached : (loops : ℕ → List ℕ) (v w : ℕ) (a : Action) → Goes loops v w a → (u : Time) → length u.counters ≡ length (loops w) → Reached a u
goes_reached loops v w a (Goes.same_loop e h) u l = tt
goes_reached loops v w a (Goes.into_loop e q h) u l = deep (loops v) (loops w) e q (length u.counters) l
  where
    deep : (es ds : List ℕ) (e : ℕ) → ds ≡ es ++ (e ∷ []) → (n : ℕ) → n ≡ length ds → 0 < n
    deep [] ds e q n l = let k : length ds ≡ 1 = ap length q in omega arith
    deep (x ∷ es) ds e q n l = let k : length ds ≡ suc (length (es ++ (e ∷ []))) = ap length q in omega arith
goes_reached loops v w a (Goes.out_of_loop e h) u l = tt
goes_reached loops v w a (Goes.round_loop e h) u l = let k : length (loops w) ≡ length (loops v) = ap length e in omega arith

-- ---- the times that an action's value comes from

among_times : (t : Time) (ts : List Time) → Among t ts → 0 < times_in t ts
among_times t [] h = absurd h
among_times t (x ∷ ts) (inl e) = let k : cond {A = ℕ} (same_time t x) 1 0 ≡ 1 = ap (λ b. cond {A = ℕ} b 1 0) (ap (same_time t) e ∙ same_time_self t) in omega arith
among_times t (x ∷ ts) (inr h) = let k = among_times t ts h in omega arith

times_among : (t : Time) (ts : List Time) → 0 < times_in t ts → Among t ts
times_among t [] h = absurd (omega arith)
times_among t (x ∷ ts) h = go (same_time_tells t x) (times_among t ts)
  where
    go : ((same_time t x ≡ true) × (t ≡ x)) ⊎ ((same_time t x ≡ false) × (t ≢ x)) → (0 < times_in t ts → Among t ts) → (x ≡ t) ⊎ Among t ts
    go (inl (a, b)) ih = inl (sym b)
    go (inr (a, b)) ih = let k : cond {A = ℕ} (same_time t x) 1 0 ≡ 0 = ap (λ b. cond {A = ℕ} b 1 0) a in inr (ih (omega arith))

among_all : (P : Time → Type 0) (t : Time) (ts : List Time) → AllByRecursion P ts → Among t ts → P t
among_all P t [] a h = absurd h
among_all P t (x ∷ ts) a (inl e) = subst P e a.0
among_all P t (x ∷ ts) a (inr h) = among_all P t ts a.1 h

abbrev OnceAtMost : Time → List Time → Type 0
OnceAtMost t ts = (times_in t ts ≡ 0) ⊎ (times_in t ts ≡ 1)

once_one : (t x : Time) → OnceAtMost t (x ∷ [])
once_one t x = go (same_time t x)
  where
    go : (b : Bool) → (cond {A = ℕ} b 1 0 + 0 ≡ 0) ⊎ (cond {A = ℕ} b 1 0 + 0 ≡ 1)
    go true = inr refl
    go false = inl refl

once_cond : (t x : Time) (b : Bool) → OnceAtMost t (cond b (x ∷ []) [])
once_cond t x true = once_one t x
once_cond t x false = inl refl

map-append : (u : Time) (xs ys : List ℕ) → map (deeper u) (xs ++ ys) ≡ map (deeper u) xs ++ map (deeper u) ys
map-append u [] ys = refl
map-append u (x ∷ xs) ys = ap (λ z. deeper u x ∷ z) (map-append u xs ys)

times_push : (t u : Time) (n : ℕ) → times_in t (map (deeper u) (below n ++ (n ∷ []))) ≡ times_in t (map (deeper u) (below n)) + times_in t (deeper u n ∷ [])
times_push t u n = ap (times_in t) (map-append u (below n) (n ∷ [])) ∙ total-append (λ x. cond (same_time t x) 1 0) (map (deeper u) (below n)) (deeper u n ∷ [])

none_below : (t u : Time) (m n : ℕ) → n ≤ m → t ≡ deeper u m → times_in t (map (deeper u) (below n)) ≡ 0
none_below t u m zero l e = refl
none_below t u m (suc n) l e = go (same_time_tells t (deeper u n)) (none_below t u m n (omega arith) e) (times_push t u n)
  where
    go : ((same_time t (deeper u n) ≡ true) × (t ≡ deeper u n)) ⊎ ((same_time t (deeper u n) ≡ false) × (t ≢ deeper u n)) → times_in t (map (deeper u) (below n)) ≡ 0 → times_in t (map (deeper u) (below n ++ (n ∷ []))) ≡ times_in t (map (deeper u) (below n)) + times_in t (deeper u n ∷ []) → times_in t (map (deeper u) (below n ++ (n ∷ []))) ≡ 0
    go (inl (a, b)) ih p =
        let x : last t.counters ≡ m = ap (λ (z : Time). last z.counters) e ∙ last-deeper u m in
        let y : last t.counters ≡ n = ap (λ (z : Time). last z.counters) b ∙ last-deeper u n in
        absurd (omega arith)
    go (inr (a, b)) ih p = let k : cond {A = ℕ} (same_time t (deeper u n)) 1 0 ≡ 0 = ap (λ b. cond {A = ℕ} b 1 0) a in omega arith

once_below : (t u : Time) (n : ℕ) → OnceAtMost t (map (deeper u) (below n))
once_below t u zero = inl refl
once_below t u (suc n) = go (same_time_tells t (deeper u n)) (once_below t u n) (times_push t u n)
  where
    go : ((same_time t (deeper u n) ≡ true) × (t ≡ deeper u n)) ⊎ ((same_time t (deeper u n) ≡ false) × (t ≢ deeper u n)) → OnceAtMost t (map (deeper u) (below n)) → times_in t (map (deeper u) (below n ++ (n ∷ []))) ≡ times_in t (map (deeper u) (below n)) + times_in t (deeper u n ∷ []) → (times_in t (map (deeper u) (below n ++ (n ∷ []))) ≡ 0) ⊎ (times_in t (map (deeper u) (below n ++ (n ∷ []))) ≡ 1)
    go (inl (a, b)) ih p =
        let z = none_below t u n n (omega arith) b in
        let k : cond {A = ℕ} (same_time t (deeper u n)) 1 0 ≡ 1 = ap (λ b. cond {A = ℕ} b 1 0) a in inr (omega arith)
    go (inr (a, b)) (inl z) p = let k : cond {A = ℕ} (same_time t (deeper u n)) 1 0 ≡ 0 = ap (λ b. cond {A = ℕ} b 1 0) a in inl (omega arith)
    go (inr (a, b)) (inr z) p = let k : cond {A = ℕ} (same_time t (deeper u n)) 1 0 ≡ 0 = ap (λ b. cond {A = ℕ} b 1 0) a in inr (omega arith)

sources_once : (a : Action) (t u : Time) → OnceAtMost t (times_before a u)
sources_once Action.stay t u = once_one t u
sources_once Action.enter t u = once_cond t (outer u) (in_first_turn u.counters)
sources_once Action.leave t u = once_below t u turn_count
sources_once Action.next t u = once_cond t (deeper (outer u) (last u.counters - 1)) (nat_lt 0 (last u.counters))

-- a time that the value of its action doesn't count is one of a turn over the limit
uncounted : (k : Kind) (t : Time) → (ends_turn k ≡ true → 0 < length t.counters) → times_in t (times_before (action k) (after_action (action k) t)) ≡ 0 → (ends_turn k ≡ true) × (turn_count ≤ last t.counters)
uncounted k t inside none = go k inside (λ d. let x = among_times t (times_before (action k) (after_action (action k) t)) (times_before_all (action k) t (after_action (action k) t) d refl) in omega arith)
  where
    over_limit : 0 < length t.counters → (b : Bool) → nat_lt (last t.counters) turn_count ≡ b → ((0 < length t.counters) × (last t.counters < turn_count) → ⊥) → turn_count ≤ last t.counters
    over_limit l true e f = absurd (f (l, ltb-true (last t.counters) turn_count e))
    over_limit l false e f = ltb-false (last t.counters) turn_count e

    go : (k : Kind) → (ends_turn k ≡ true → 0 < length t.counters) → (Defined (action k) t → ⊥) → (ends_turn k ≡ true) × (turn_count ≤ last t.counters)
    go Kind.egress i f = (refl, over_limit (i refl) (nat_lt (last t.counters) turn_count) refl f)
    go Kind.feedback i f = absurd (f (i refl))
    go Kind.input i f = absurd (f tt)
    go Kind.output i f = absurd (f tt)
    go Kind.concat i f = absurd (f tt)
    go Kind.distinct i f = absurd (f tt)
    go Kind.except i f = absurd (f tt)
    go Kind.intersect i f = absurd (f tt)
    go Kind.ingress i f = absurd (f tt)
    go (Kind.select ss) i f = absurd (f tt)
    go (Kind.filter c) i f = absurd (f tt)
    go (Kind.join ps) i f = absurd (f tt)
    go (Kind.group ks as') i f = absurd (f tt)
    go (Kind.gate n) i f = absurd (f tt)
    go (Kind.unseen n) i f = absurd (f tt)
    go (Kind.lookup ps) i f = absurd (f tt)
    go (Kind.hold n) i f = absurd (f tt)

-- ---- counts

count-flat_map : (h : Time → List Record) (r : Record) (ts : List Time) → count r (flat_map h ts) ≡ total (λ t. count r (h t)) ts
count-flat_map h r [] = refl
count-flat_map h r (t ∷ ts) = count-append r (h t) (flat_map h ts) ∙ ap (λ n. count r (h t) + n) (count-flat_map h r ts)

-- a key that occurs is the key of a record
keyed_record : (f : Record → Record) (k : Record) (xs : List Record) → 0 < count k (map f xs) → (r : Record) × (0 < count r xs) × (f r ≡ k)
keyed_record f k [] h = absurd (omega arith)
keyed_record f k (x ∷ xs) h = go (same (f x) k) refl (keyed_record f k xs)
  where
    go : (b : Bool) → same (f x) k ≡ b → (0 < count k (map f xs) → (r : Record) × (0 < count r xs) × (f r ≡ k)) → (r : Record) × (0 < count r (x ∷ xs)) × (f r ≡ k)
    go true e ih = (x, count_here x xs, (Decides-same (f x) k).0 e)
    go false e ih =
        let n : one_if (same (f x) k) ≡ 0 = ap one_if e in
        let s : (r : Record) × (0 < count r xs) × (f r ≡ k) = ih (omega arith) in
        let l = s.1 in
        (s.0, omega arith, s.2)

-- ---- what is read

back_role : (k : Kind) → looks_back k ≡ true → role k ≡ Role.notified
back_role Kind.input e = absurd cc
back_role Kind.output e = absurd cc
back_role Kind.concat e = absurd cc
back_role Kind.distinct e = absurd cc
back_role Kind.except e = absurd cc
back_role Kind.intersect e = absurd cc
back_role Kind.ingress e = absurd cc
back_role Kind.egress e = absurd cc
back_role Kind.feedback e = absurd cc
back_role (Kind.select ss) e = absurd cc
back_role (Kind.filter c) e = absurd cc
back_role (Kind.join ps) e = absurd cc
back_role (Kind.group ks as') e = absurd cc
back_role (Kind.gate n) e = absurd cc
back_role (Kind.hold n) e = absurd cc
back_role (Kind.unseen n) e = refl
back_role (Kind.lookup ps) e = refl

-- what comes then
abbrev at_time : (ℕ → Time → List Record) → Time → ℕ → List Record
at_time a t p = a p t

role_reads : (k : Kind) (a : ℕ → Time → List Record) (t : Time) → role k ≢ Role.notified → reads k a t ≡ at_time a t
role_reads k a t s = go (looks_back k) refl
  where
    go : (b : Bool) → looks_back k ≡ b → reads_if b (in_ports k) a t ≡ at_time a t
    go false e = refl
    go true e = absurd (s (back_role k e))

-- a time that is read is the same but for an earlier turn, and only a notified vertex reads it
back_is : (k : Kind) (t s : Time) → IsAmong s (reads_back k t) → (role k ≡ Role.notified) × IsAmong s (earlier_turns t)
back_is k t s h = go (looks_back k) refl h
  where
    go : (b : Bool) → looks_back k ≡ b → IsAmong s (cond b (earlier_turns t) []) → (role k ≡ Role.notified) × IsAmong s (earlier_turns t)
    go true e h = (back_role k e, h)
    go false e h = absurd h

earlier_before : (b : ℕ) (cs : List ℕ) (c : ℕ) → c < last_from b cs → is_before (front_from b cs ++ (c ∷ [])) (b ∷ cs) ≡ true
earlier_before b [] c h = lex_head c b [] [] h
earlier_before b (d ∷ ds) c h = lex_tail b b (front_from d ds ++ (c ∷ [])) (d ∷ ds) refl (earlier_before d ds c h)

earlier_length : (b : ℕ) (cs : List ℕ) (c : ℕ) → length (front_from b cs ++ (c ∷ [])) ≡ suc (length cs)
earlier_length b [] c = refl
earlier_length b (d ∷ ds) c = ap suc (earlier_length d ds c)

abbrev IsEarlier : Time → Time → Type 0
IsEarlier t s = (length s.counters ≡ length t.counters) × (s.epoch ≡ t.epoch) × (is_before s.counters t.counters ≡ true)

earlier_turn : (e : ℕ) (cs : List ℕ) (c : ℕ) → c < last cs → IsEarlier (record { epoch = e; counters = cs }) (record { epoch = e; counters = front cs ++ (c ∷ []) })
earlier_turn e [] c h = absurd (omega arith)
earlier_turn e (b ∷ cs) c h = (earlier_length b cs c, refl, earlier_before b cs c h)

all_among : (ts : List Time) → AllByRecursion (λ t. IsAmong t ts) ts
all_among [] = tt
all_among (t ∷ ts) = (inl refl, more ts (all_among ts))
  where
    more : (us : List Time) → AllByRecursion (λ s. IsAmong s ts) us → AllByRecursion (λ s. IsAmong s (t ∷ ts)) us
    more [] a = tt
    more (u ∷ us) a = (inr a.0, more us a.1)

among_every : (P : Time → Type 0) (t : Time) (ts : List Time) → AllByRecursion P ts → IsAmong t ts → P t
among_every P t [] a h = absurd h
among_every P t (x ∷ ts) a (inl e) = subst P e a.0
among_every P t (x ∷ ts) a (inr h) = among_every P t ts a.1 h

is_earlier : (t s : Time) → IsAmong s (earlier_turns t) → IsEarlier t s
is_earlier t s h = among_every (IsEarlier t) s (earlier_turns t) (all_below (IsEarlier t) (outer t) (last t.counters) (λ c l. earlier_turn t.epoch t.counters c l)) h

-- ---- the laws

module _ (g : Graph) (flows : IsDataflow g) (workers : ℕ) (some : 0 < workers) where
  abbrev net : Network
  net = network g workers

  abbrev kind : ℕ → Kind
  kind v = (vertex g v).kind

  full : (v : ℕ) → v < length g → length (vertex g v).ins ≡ in_ports (kind v)
  full v l = flows.wired.full v l

  goes_at : (e : ℕ) → e < edge_count g → Goes flows.loops (edge_source g e).vertex (target g e) (action (kind (edge_source g e).vertex))
  goes_at e l = let k = entered g e l in flows.nested.goes (target g e) (in_port g e) k.known k.port

  feeder_known : (e : ℕ) → e < edge_count g → (edge_source g e).vertex < length g
  feeder_known e l = let k = entered g e l in flows.wired.fed (target g e) (in_port g e) k.known k.port

  no_input_target : (e : ℕ) → e < edge_count g → role (kind (target g e)) ≢ Role.input
  no_input_target e l s =
      let k = entered g e l in
      let p = k.port in
      let z : length (vertex g (target g e)).ins ≡ 0 = full (target g e) k.known ∙ ap in_ports (role_input (kind (target g e)) s) in
      omega arith

  no_output_source : (e : ℕ) → e < edge_count g → role (kind (edge_source g e).vertex) ≢ Role.output
  no_output_source e l s =
      let k = entered g e l in
      let o = role_output (kind (edge_source g e).vertex) s in
      let none : out_ports (kind (edge_source g e).vertex) ≡ 0 = ap out_ports o in
      let some : (edge_source g e).out < out_ports (kind (edge_source g e).vertex) = flows.wired.from_port (target g e) (in_port g e) k.known k.port in
      omega arith

  keyed_known : (v : ℕ) → HasKeys (kind v) → v < length g
  keyed_known v h = known_kind g v (λ e. output_no_keys (kind v) e h)

  -- an output's vertex
  pub output_is : (v : ℕ) → v < length g → kind v ≡ Kind.output → IsOutput net v
  output_is v l o =
      let p : length (vertex g v).ins ≡ 1 = full v l ∙ ap in_ports o in
      (ap role o, omega arith)

  -- there are no ports beyond the last vertex
  has_port : (v : ℕ) → 0 < length (vertex g v).ins → v < length g
  has_port v l = by (known_or_none g v)
    where
      by : (v < length g) ⊎ (vertex g v ≡ no_vertex) → v < length g
      by (inl x) = x
      by (inr e) = absurd (let z : length (vertex g v).ins ≡ 0 = ap (λ (x : Vertex). length x.ins) e in omega arith)

  home_keyed : (e : ℕ) (k : ℕ) (r : Record) (key : Record → Record) → route_key (kind (target g e)) (in_port g e) ≡ Some key → home g workers k e r ≡ route (key r) workers
  home_keyed e k r key s = ap (λ x. home_by x (is_input (kind (edge_source g e).vertex)) workers k r) s

  by_key : (k j e : ℕ) (r : Record) → HasKeys (kind (target g e)) → home g workers k e r ≡ home g workers j e r
  by_key k j e r h =
      let s : (key : Record → Record) × (route_key (kind (target g e)) (in_port g e) ≡ Some key) = has_route_key (kind (target g e)) h (in_port g e) in
      home_keyed e k r s.0 s.1 ∙ sym (home_keyed e j r s.0 s.1)

  -- op looks at what is read only
  op_alike : (v q : ℕ) (t : Time) (a b : ℕ → Time → List Record) → ((p : ℕ) (s : Time) → p < length (vertex g v).ins → IsRead net v t s → a p s ≈ b p s) → op (kind v) t (reads (kind v) a t) q ≈ op (kind v) t (reads (kind v) b t) q
  op_alike v q t a b h = go (known_or_none g v)
    where
      ports : v < length g → (p : ℕ) → p < in_ports (kind v) → p < length (vertex g v).ins
      ports l p m = omega (arith, full v l, m)

      go : (v < length g) ⊎ (vertex g v ≡ no_vertex) → op (kind v) t (reads (kind v) a t) q ≈ op (kind v) t (reads (kind v) b t) q
      go (inl l) = op_same (kind v) t _ _ q (reads_same (kind v) t a b
          (λ p m. h p t (ports l p m) (inl refl))
          (λ p m. flat_same (a p) (b p) (λ s. IsAmong s (reads_back (kind v) t)) (reads_back (kind v) t) (all_among (reads_back (kind v) t)) (λ s i. h p s (ports l p m) (inr i))))
      go (inr e) = subst (λ (x : Vertex). op x.kind t (reads x.kind a t) q ≈ op x.kind t (reads x.kind b t) q) (sym e) (≈-refl [])

  op_none : (v q : ℕ) (t : Time) (a : ℕ → Time → List Record) → ((p : ℕ) → p < length (vertex g v).ins → a p t ≡ []) → op (kind v) t (reads (kind v) a t) q ≡ []
  op_none v q t a h = go (known_or_none g v)
    where
      go : (v < length g) ⊎ (vertex g v ≡ no_vertex) → op (kind v) t (reads (kind v) a t) q ≡ []
      go (inl l) = op_of_nothing (kind v) t a q (λ p m. h p (omega (arith, full v l, m)))
      go (inr e) = ap (λ (x : Vertex). op x.kind t (reads x.kind a t) q) e

  op_more : (v q : ℕ) (t : Time) (a b : ℕ → List Record) → role (kind v) ≢ Role.notified → ((p : ℕ) → p < length (vertex g v).ins → IsPartOf (a p) (b p)) → IsPartOf (op (kind v) t a q) (op (kind v) t b q)
  op_more v q t a b n h = go (known_or_none g v)
    where
      go : (v < length g) ⊎ (vertex g v ≡ no_vertex) → IsPartOf (op (kind v) t a q) (op (kind v) t b q)
      go (inl l) = op_part (kind v) (role_grows (kind v) n) t a b q (λ i m. h i (omega (arith, full v l, m)))
      go (inr e) = subst (λ (x : Vertex). IsPartOf (op x.kind t a q) (op x.kind t b q)) (sym e) (record { within = λ r. omega arith })

  op_stateless : (v q : ℕ) (t : Time) (part : ℕ → ℕ → List Record) (n : ℕ) → role (kind v) ≡ Role.stateless → (r : Record) → count r (op (kind v) t (λ p. end_to_end (λ k. part k p) n) q) ≡ sum_below n (λ k. count r (op (kind v) t (part k) q))
  op_stateless v q t part n s r =
      let c : IsCut (kind v) part n = record { apart = λ i j li lj ne p p' lp lq f h e k. absurd (no_route_key (kind v) s p f e) } in
      (op_cut (kind v) t part n q c).counts r ∙ counted-end_to_end (λ k. op (kind v) t (part k) q) n r

  op_keyed : (v q : ℕ) (t : Time) (part : ℕ → ℕ → Time → List Record) → HasKeys (kind v) → ((s : Time) → CutByKey net v (λ k p. part k p s)) → (r : Record) → count r (op (kind v) t (reads (kind v) (all_parts net part) t) q) ≡ sum_below workers (λ k. count r (op (kind v) t (reads (kind v) (part k) t) q))
  op_keyed v q t part h cut r =
      (op_of_parts (kind v) t part workers q (record { apart = λ i j li lj ne p p' lp lq f f' e e'. record { never = λ k a b. ne (at i p f k li lp e a ∙ sym (at j p' f' k lj lq e' b)) } })).counts r
      ∙ counted-end_to_end (λ k. op (kind v) t (reads (kind v) (part k) t) q) workers r
    where
      ports : (p : ℕ) → p < in_ports (kind v) → p < length (vertex g v).ins
      ports p l = omega (arith, full v (keyed_known v h), l)

      -- the worker of a key is the one that its records go to
      at : (i p : ℕ) (f : Record → Record) (k : Record) → i < workers → p < places (kind v) → route_key (kind v) p ≡ Some f → 0 < count k (map f (reads (kind v) (part i) t p)) → i ≡ route k workers
      at i p f k li lp e c =
          let s : (r : Record) × (0 < count r (reads (kind v) (part i) t p)) × (f r ≡ k) = keyed_record f k (reads (kind v) (part i) t p) c in
          let x = read_from (kind v) (part i) t p s.0 lp s.1 in
          let l : x.port < length (vertex g v).ins = ports x.port x.within in
          let w = into g v x.port l in
          let e' : route_key (kind (target g (edge_into g v x.port))) (in_port g (edge_into g v x.port)) ≡ Some f = ap (λ y. route_key (kind y) (in_port g (edge_into g v x.port))) w.vertex ∙ ap (route_key (kind v)) w.port ∙ x.key ∙ e in
          sym (cut x.time i x.port li l s.0 x.there 0) ∙ home_keyed (edge_into g v x.port) 0 s.0 f e' ∙ ap (λ z. route z workers) s.2

  depth_home : (v : ℕ) → v < length g → length (flows.loops v) ≡ (vertex g v).depth
  depth_home v l = flows.nested.homes v l

  fits_back : (e : ℕ) (t u : Time) → e < edge_count g → IsTimeAt g (Location.edge e) u → 0 < times_in t (times_before (action (kind (edge_source g e).vertex)) u) → IsTimeAt g (Location.vertex (edge_source g e).vertex) t
  fits_back e t u l f h =
      let k = entered g e l in
      let s : StepRises flows.loops (edge_source g e).vertex (target g e) u t =
      among_all (StepRises flows.loops (edge_source g e).vertex (target g e) u) t (times_before (action (kind (edge_source g e).vertex)) u)
      (step_rises flows.loops (edge_source g e).vertex (target g e) (action (kind (edge_source g e).vertex)) (goes_at e l) u (f.1 ∙ sym (depth_home (target g e) k.known)))
      (times_among t (times_before (action (kind (edge_source g e).vertex)) u) h) in
      (feeder_known e l, s.0 ∙ depth_home (edge_source g e).vertex (feeder_known e l))

  before_acts : (e : ℕ) (t u : Time) → e < edge_count g → IsTimeAt g (Location.edge e) u → 0 < times_in t (times_before (action (kind (edge_source g e).vertex)) u) → after_action (action (kind (edge_source g e).vertex)) t ≡ u
  before_acts e t u l f h =
      times_before_only (action (kind (edge_source g e).vertex)) t u
      (goes_reached flows.loops (edge_source g e).vertex (target g e) (action (kind (edge_source g e).vertex)) (goes_at e l) u (f.1 ∙ sym (depth_home (target g e) (entered g e l).known)))
      (times_among t (times_before (action (kind (edge_source g e).vertex)) u) h)

  fits_enter : (e : ℕ) (t : Time) → e < edge_count g → IsTimeAt g (Location.edge e) t → IsTimeAt g (Location.vertex (target g e)) t
  fits_enter e t l f = step_fits g flows.loops flows.wired flows.nested (PathStep.enters e) t l f

  fits_leave : (e : ℕ) (t : Time) → e < edge_count g → IsTimeAt g (Location.vertex (edge_source g e).vertex) t → IsTimeAt g (Location.edge e) (after_action (action (kind (edge_source g e).vertex)) t)
  fits_leave e t l f = step_fits g flows.loops flows.wired flows.nested (PathStep.leaves e) t l f

  fits_input : (v n : ℕ) → role (kind v) ≡ Role.input → IsTimeAt g (Location.vertex v) (at_epoch n)
  fits_input v n s =
      let i = role_input (kind v) s in
      let l : v < length g = known_kind g v (λ e. let x : Kind.input ≡ Kind.output = sym i ∙ e in cc) in
      (l, sym (flows.shaped.flat v l (inl i)))

  pub network_is : IsNetwork net
  network_is =
      record {
        target_ports = λ e l. (entered g e l).port;
        into_target = λ e l. (entered g e l).back;
        into_is_edge = λ v p l. (into g v p l).edge;
        target_into = λ v p l. (into g v p l).vertex;
        port_into = λ v p l. (into g v p l).port;
        no_input_target = no_input_target;
        no_output_source = no_output_source;
        output_port = λ v is. full v (has_port v is.1) ∙ ap in_ports (role_output (kind v) is.0);
        input_has_role = λ i l. ap role (input_kind g i l);
        role_is_input = λ v s. flows.shaped.inputs_first v (fits_input v 0 s).0 (role_input (kind v) s);
        has_worker = some;
        routed = λ k e r l. home_below (route_key (kind (target g e)) (in_port g e)) (is_input (kind (edge_source g e).vertex)) workers k r l;
        by_key = by_key;
        input_act = λ v t s. ap (λ x. after_action (action x) t) (role_input (kind v) s);
        before_once = λ v t u. sources_once (action (kind v)) t u;
        before_acts = before_acts;
        op_same = op_alike;
        only_notified = λ v t s h. (back_is (kind v) t s h).0;
        reads_now = λ v a t s. role_reads (kind v) a t s;
        op_nothing = op_none;
        op_stateless = op_stateless;
        op_cut = op_keyed;
        op_more = op_more;
        fits_enter = fits_enter;
        fits_into = λ v p t l f. let w = into g v p l in (w.edge, f.1 ∙ sym (ap (λ x. (vertex g x).depth) w.vertex));
        fits_leave = fits_leave;
        fits_back = fits_back;
        fits_read = λ v t s h f. (f.0, (is_earlier t s (back_is (kind v) t s h).1).0 ∙ f.1);
        fits_input = fits_input;
        fits_output = λ v n is. (has_port v is.1, sym (flows.shaped.flat v (has_port v is.1) (inr (role_output (kind v) is.0))));
        could_self = λ p f. could_self g flows.loops flows.wired flows.nested p f;
        could_on = λ p q s a b. could_on g flows.loops flows.wired flows.nested p q s a b;
        could_fits = λ p q a. a.ends;
        could_enter = λ e t l f. record { starts = f; ends = fits_enter e t l f; path = PathStep.enters e ∷ []; leads = (l, refl, refl); in_time = at_most_refl t };
        could_leave = λ e t l f. record { starts = f; ends = fits_leave e t l f; path = PathStep.leaves e ∷ []; leads = (l, refl, refl); in_time = at_most_refl _ };
        could_read = λ v t s h f. let i = is_earlier t s (back_is (kind v) t s h).1 in record { starts = f; ends = (f.0, sym i.0 ∙ f.1); path = []; leads = refl; in_time = record { epochs = let e = i.1 in omega arith; counters = inr i.2 } };
        could_later = λ v n s. record { starts = fits_input v n s; ends = fits_input v (n + 1) s; path = []; leads = refl; in_time = record { epochs = omega arith; counters = inl refl } };
        founded = λ p. could_founded g flows.loops flows.wired flows.nested p;
      }

  -- ---- the flow

  pub place_at : (e : ℕ) (t : Time) → e < edge_count g → IsTimeAt g (Location.edge e) t → IsEdgeTime g (target g e) (in_port g e) t
  place_at e t l f = let k = entered g e l in record { is_vertex = k.known; is_port = k.port; has_depth = f.1 }

  not_input_sends : (inputs : Inputs) (k : Kind) (f : Flow) (v out : ℕ) (u : Time) → role k ≢ Role.input → sent_or_fed inputs k f v out u ≡ sent_by k f v out u
  not_input_sends inputs Kind.input f v out u n = absurd (n refl)
  not_input_sends inputs Kind.output f v out u n = refl
  not_input_sends inputs Kind.concat f v out u n = refl
  not_input_sends inputs Kind.distinct f v out u n = refl
  not_input_sends inputs Kind.except f v out u n = refl
  not_input_sends inputs Kind.intersect f v out u n = refl
  not_input_sends inputs Kind.ingress f v out u n = refl
  not_input_sends inputs Kind.egress f v out u n = refl
  not_input_sends inputs Kind.feedback f v out u n = refl
  not_input_sends inputs (Kind.select ss) f v out u n = refl
  not_input_sends inputs (Kind.filter c) f v out u n = refl
  not_input_sends inputs (Kind.join ps) f v out u n = refl
  not_input_sends inputs (Kind.lookup ps) f v out u n = refl
  not_input_sends inputs (Kind.group ks as') f v out u n = refl
  not_input_sends inputs (Kind.gate m) f v out u n = refl
  not_input_sends inputs (Kind.unseen m) f v out u n = refl
  not_input_sends inputs (Kind.hold m) f v out u n = refl

  no_turns : (fed : Inputs) (i epoch : ℕ) (turns : List ℕ) → length turns ≡ 0 → fed i epoch ≡ cond (same_counters turns []) (fed i epoch) []
  no_turns fed i epoch [] l = refl
  no_turns fed i epoch (c ∷ cs) l = absurd (omega arith)

  pub net_flow : (fed : Inputs) (f : Flow) → IsFlow g fed f → IsNetFlow net fed (edge_flow g f)
  unfolding port_flow
  net_flow fed f is =
      record {
        from_input = λ e t l fits s.
            let i = role_input (kind (edge_source g e).vertex) s in
            let flat : length t.counters ≡ 0 =
            fits.1 ∙ sym (depth_home (target g e) (entered g e l).known)
            ∙ ap length (goes_flat flows.loops (edge_source g e).vertex (target g e) _ (goes_at e l) (ap action i))
            ∙ depth_home (edge_source g e).vertex (feeder_known e l) ∙ flows.shaped.flat (edge_source g e).vertex (feeder_known e l) (inl i) in
            ≈-trans (is.equations (target g e) (in_port g e) t (place_at e t l fits))
            (≈-from (ap (λ k. sent_or_fed fed k f (edge_source g e).vertex (edge_source g e).out t) i ∙ no_turns fed (edge_source g e).vertex t.epoch t.counters flat));
        from_vertex = λ e u l fits s r.
            (is.equations (target g e) (in_port g e) u (place_at e u l fits)).counts r
            ∙ ap (count r) (not_input_sends fed (kind (edge_source g e).vertex) f (edge_source g e).vertex (edge_source g e).out u s)
            ∙ count-flat_map (λ t. op (kind (edge_source g e).vertex) t (reads (kind (edge_source g e).vertex) (f (edge_source g e).vertex) t) (edge_source g e).out) r (times_before (action (kind (edge_source g e).vertex)) u)
            ∙ total_same _ _ (times_before (action (kind (edge_source g e).vertex)) u) (λ t.
            (op_alike (edge_source g e).vertex (edge_source g e).out t (f (edge_source g e).vertex) (λ p. edge_flow g f (edge_into g (edge_source g e).vertex p)) (λ p s' lp is'.
            let w = into g (edge_source g e).vertex p lp in
            ≈-from (ap (λ x. f x p s') (sym w.vertex) ∙ ap (λ x. f (target g (edge_into g (edge_source g e).vertex p)) x s') (sym w.port)))).counts r);
        within = λ e t l fits none.
            let k = (entered g e l).known in
            let x = uncounted (kind (target g e)) t (λ h. let d = flows.shaped.inside (target g e) k h in omega (arith, fits.1, d)) none in
            empty_from_same _ (flows.quiet.quiet fed f is (target g e) (in_port g e) t (place_at e t l fits) x.0 x.1);
      }

  pub net_flows : HasFlows net
  net_flows fed =
      let one = one_flow g flows.loops flows.wired (rises_from_nested g flows.loops flows.nested flows.wired) fed in
      (edge_flow g one.flow, net_flow fed one.flow one.is_only.is_flow)
