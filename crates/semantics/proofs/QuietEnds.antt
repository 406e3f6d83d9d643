-- On an edge into a feedback or an egress a flow is empty at last counters over the limit of turns.
use Rattle.std.proofs.Common.{◌≡◌, ℕ, zero, suc, ◌+◌, ◌≤◌, ◌<◌, nat_lt, Bool, true, false, cond, List, [], ◌∷◌, ◌++◌, filter, flat_map, length, slice_index_or, refl, sym, ap, ap₂, subst, ◌∙◌, arith, le-ltb, ne_eqb}
use Rattle.std.proofs.lemmas.Bool.{true≢false}
use Rattle.std.specs.List.{AllByRecursion}
use Rattle.semantics.proofs.NamesAmong.{among_others, among_firsts, needed_inside}
use Rattle.semantics.specs.FreeNames.{other_than, free, carried, has, once_names}
use Rattle.semantics.specs.Multiset.{IsAmong, Record, ◌≈◌}
use Rattle.semantics.specs.Flow.{IsEdgeTime, Inputs, Flow, IsFlow, port_flow}
use Rattle.semantics.specs.Kinds.{Kind, ends_turn}
use Rattle.semantics.specs.Graph.{Port, Vertex, Graph, no_vertex, vertex, source}
use Rattle.semantics.specs.Lower.{held_turns, is_lookup, Ports, stands_for, port, new_vertex, carry, carried_ports, Lowered, lower, gate_of, looped, input_vertices, input_ports, lower_lets, lets_of, lower_outputs, outputs_of, lowered}
use Rattle.semantics.specs.Meaning.{Names, only_left, same_name}
use Rattle.semantics.specs.Query.{Name, Loop, Rel, Input, Let, Output, Program}
use Rattle.semantics.specs.Time.{Time, last_from, front_from, last, front, deeper, outer, below, turn_count}
use Rattle.semantics.proofs.MultisetSums.{≈-refl, ≈-trans, ≈-from}
use Rattle.semantics.proofs.ExceptAndIntersect.{only_left_same}
use Rattle.semantics.proofs.Gates.{gate_no_end, join_no_end}
use Rattle.semantics.proofs.LoweredRelations.{Stands, stands_left, stands_right, Merge, merge_later, come, Agree, held_port, meaning_none, lower_means}
use Rattle.semantics.proofs.LoweredPrograms.{length-input_vertices, all_at, stands_whole}
use Rattle.semantics.proofs.FittingPrograms.{Limited, LetsFit, AllFit, IsFitting}
use Rattle.semantics.proofs.VertexFlows.{IsAt, length-deeper, out_gate_round, out_gate_done, out_unseen_round, out_unseen_done, out_hold_next}

-- a time inside a loop is the time of a turn
front_last : (c : ℕ) (cs : List ℕ) → front_from c cs ++ (last_from c cs ∷ []) ≡ c ∷ cs
front_last c [] = refl
front_last c (d ∷ ds) = ap (λ l. c ∷ l) (front_last d ds)

pub turn_of : (d e : ℕ) (cs : List ℕ) → length cs ≡ suc d → deeper (outer (record { epoch = e; counters = cs })) (last cs) ≡ record { epoch = e; counters = cs }
turn_of d e [] l = absurd (omega arith)
turn_of d e (c ∷ cs) l = ap (λ (ts : List ℕ). record { epoch = e; counters = ts }) (front_last c cs)

pub length-outer : (d : ℕ) (cs : List ℕ) → length cs ≡ suc d → length (front cs) ≡ d
length-outer d [] l = absurd (omega arith)
length-outer d (c ∷ cs) l = omega (arith, go c cs)
  where
    go : (c : ℕ) (cs : List ℕ) → length (front_from c cs) ≡ length cs
    go c [] = refl
    go c (x ∷ xs) = ap suc (go x xs)

module _ (g : Graph) (inputs : Inputs) (f : Flow) (flow : IsFlow g inputs f) where
  abbrev out : Port → Time → List Record
  out p u = port_flow g inputs f p u

  pub record QuietAs (v : Vertex) : Type 0 where
    pub quiet : ends_turn v.kind ≡ true → (u : Time) → length u.counters ≡ v.depth → turn_count ≤ last u.counters → AllByRecursion (λ p. out p u ≈ []) v.ins

  abbrev pub AllQuiet : List Vertex → Type 0
  AllQuiet [] = Unit {0}
  AllQuiet (v ∷ vs) = QuietAs v × AllQuiet vs

  all_quiet-append : (vs ws : List Vertex) → AllQuiet vs → AllQuiet ws → AllQuiet (vs ++ ws)
  all_quiet-append [] ws s t = t
  all_quiet-append (v ∷ vs) ws s t = (s.0, all_quiet-append vs ws s.1 t)

  other_kind : (v : Vertex) → ends_turn v.kind ≡ false → QuietAs v
  other_kind v e = record { quiet = λ q. absurd (true≢false (sym q ∙ e)) }

  -- at a turn of a loop, for a vertex of depth suc d with one in port
  quiet_turn : (kind : Kind) (d : ℕ) (p : Port) → ((u : Time) (c : ℕ) → length u.counters ≡ d → turn_count ≤ c → out p (deeper u c) ≈ []) → QuietAs (new_vertex kind (suc d) (p ∷ []))
  quiet_turn kind d p h = record { quiet = λ q u l m. (subst (λ t. out p t ≈ []) (turn_of d u.epoch u.counters l) (h (outer u) (last u.counters) (length-outer d u.counters l) m), tt) }

  one_quiet : (vs : List Vertex) (v : Vertex) → AllQuiet vs → ends_turn v.kind ≡ false → AllQuiet (vs ++ (v ∷ []))
  one_quiet vs v s e = all_quiet-append vs (v ∷ []) s (other_kind v e, tt)

  carry_quiet : (turns : Name → ℕ) (ports : Ports) (d k : ℕ) (ys : List Name) → ((y : Name) → turns y < turn_count) → Stands g k (carry turns ports d k ys) → AllQuiet (carry turns ports d k ys)
  carry_quiet turns ports d k [] m s = tt
  carry_quiet turns ports d k (y ∷ ys) m s = (
    other_kind _ refl,
    (
      other_kind _ refl,
      (
        other_kind _ refl,
        (
          quiet_turn Kind.feedback d (port (suc (suc k)) 1) (λ u c l t. ≈-trans (out_hold_next g inputs f flow (suc (suc k)) d (turns y) (port (suc k) 0) u c s.1.1.0 l) (≈-from (ap (λ b. cond b (out (port (suc k) 0) (deeper u c)) []) (le-ltb (c + 1) (turns y) (let z = m y in omega arith))))),
          carry_quiet turns ports d (suc (suc (suc (suc k)))) ys m s.1.1.1.1,
        ),
      ),
    ),
  )

  -- a name is held for as many turns as its loop has, or for one
  held_few : (n : ℕ) (once : List Name) → n < turn_count → (y : Name) → held_turns n once y < turn_count
  unfolding turn_count
  held_few n once m y = go (has y once)
    where
      go : (b : Bool) → cond b 1 n < turn_count
      go true = omega arith
      go false = m

  abbrev QuietClaim : Rel → Type 0
  QuietClaim r = (ports : Ports) (once : List Name) (d k : ℕ) → Stands g k (lower r ports once d k).made → AllQuiet (lower r ports once d k).made

  loop_quiet : (sort : Loop) (n : ℕ) (x : Name) (r b : Rel) → n < turn_count → Limited b → QuietClaim r → QuietClaim b → QuietClaim (Rel.loop sort n x r b)
  unfolding lower
  loop_quiet sort n x r b m limited start_claim body_claim ports once d k s =
      all_quiet-append start.made made (start_claim ports once d k (stands_left g k start.made made s)) (
        other_kind _ refl,
        (
          other_kind _ refl,
          (
            other_kind _ (gate_no_end sort n),
            all_quiet-append cs (body.made ++ ends) (carry_quiet turns ports d (suc gate) ys (held_few n inner m) (stands_left g (suc gate) cs (body.made ++ ends) in_loop.1.1.1))
                (all_quiet-append body.made ends (body_claim inside inner (suc d) first stands_body) (
                  quiet_turn Kind.feedback d body.gives (λ u c l t. body_quiet u c l (omega arith)),
                  (
                    quiet_turn Kind.egress d (port gate 1) (λ u c l t. gate_quiet sort in_loop.1.1.0 u c l (omega arith)),
                    tt,
                  ),
                )),
          ),
        ),
      )
    where
      start : Lowered
      start = lower r ports once d k

      loop : ℕ
      loop = k + length start.made

      gate : ℕ
      gate = suc (suc loop)

      ys : List Name
      ys = carried x b

      inner : List Name
      inner = once_names sort x b

      turns : Name → ℕ
      turns = held_turns n inner

      inside : Ports
      inside = stands_for x (port gate 0) (carried_ports ports (suc gate) ys)

      cs : List Vertex
      cs = carry turns ports d (suc gate) ys

      first : ℕ
      first = suc gate + length cs

      body : Lowered
      body = lower b inside inner (suc d) first

      ends : List Vertex
      ends = new_vertex Kind.feedback (suc d) (body.gives ∷ []) ∷ new_vertex Kind.egress (suc d) (port gate 1 ∷ []) ∷ []

      back : ℕ
      back = first + length body.made

      made : List Vertex
      made = (looped sort n loop inner start ports d ys body).made

      in_loop : Stands g loop made
      in_loop = stands_right g k start.made made s

      at_first : Stands g first (body.made ++ ends)
      at_first = stands_right g (suc gate) cs (body.made ++ ends) in_loop.1.1.1

      at_back : Stands g back ends
      at_back = stands_right g first body.made ends at_first

      stands_body : Stands g first body.made
      stands_body = stands_left g first body.made ends at_first

      -- from turn n on the gate lets nothing in, and so does a name's hold, but for what has come once
      names_after : Time → Names
      names_after t y = cond (has y inner) (come g inputs f flow true (inside y) t) []

      inside_quiet : (u : Time) (c : ℕ) → length u.counters ≡ d → n ≤ c → Agree g inputs f flow inner (free b) inside (deeper u c) (names_after (deeper u c))
      inside_quiet u c l t y j = by (has y inner) refl
        where
          over : nat_lt c n ≡ false
          over = le-ltb c n (omega arith)

          shut : (sort : Loop) → IsAt g gate (new_vertex (gate_of sort n) (suc d) (port (suc loop) 0 ∷ [])) → out (port gate 0) (deeper u c) ≈ []
          shut Loop.iterate at = ≈-trans (out_gate_round g inputs f flow gate d n (port (suc loop) 0) u c at l) (≈-from (ap (λ q. cond q (out (port (suc loop) 0) (deeper u c)) []) over))
          shut Loop.closure at = ≈-trans (out_unseen_round g inputs f flow gate d n (port (suc loop) 0) u c at l) (≈-from (ap (λ q. cond q (only_left (out (port (suc loop) 0) (deeper u c)) (flat_map (λ j. out (port (suc loop) 0) (deeper u j)) (below c))) []) over))

          go : has y inner ≡ false → (q : Bool) → same_name x y ≡ q → out (cond q (port gate 0) (carried_ports ports (suc gate) ys y)) (deeper u c) ≈ []
          go i true e = shut sort in_loop.1.1.0
          go i false e =
              ≈-trans (held_port g inputs f flow d turns ports (suc gate) ys u y c (stands_left g (suc gate) cs (body.made ++ ends) in_loop.1.1.1) l (among_firsts y (filter (other_than x) (free b)) (among_others x y (free b) e j)))
              (≈-from (ap (λ i. cond (nat_lt c (cond i 1 n)) (out (ports y) u) []) i ∙ ap (λ q. cond q (out (ports y) u) []) over))

          by : (i : Bool) → has y inner ≡ i → come g inputs f flow i (inside y) (deeper u c) ≈ cond i (come g inputs f flow true (inside y) (deeper u c)) []
          by true e = ≈-refl _
          by false e = go e (same_name x y) refl

      body_quiet : (u : Time) (c : ℕ) → length u.counters ≡ d → n ≤ c → out body.gives (deeper u c) ≈ []
      body_quiet u c l t = ≈-trans
          (lower_means g inputs f flow b limited inside inner (suc d) first (names_after (deeper u c)) (deeper u c) stands_body (length-deeper u c ∙ ap suc l) (needed_inside sort x b) (inside_quiet u c l t))
          (≈-from (meaning_none g inputs f flow b (names_after (deeper u c)) (λ y h. ap (λ i. cond i (come g inputs f flow true (inside y) (deeper u c)) []) (needed_inside sort x b y h))))

      merge : Merge g inputs f flow d loop (suc loop) back start.gives body.gives
      merge = record { enters = in_loop.0; merges = in_loop.1.0; returns = at_back.0 }

      -- nothing comes out of the gate after turn n
      gate_quiet : (sort : Loop) → IsAt g gate (new_vertex (gate_of sort n) (suc d) (port (suc loop) 0 ∷ [])) → (u : Time) (c : ℕ) → length u.counters ≡ d → n < c → out (port gate 1) (deeper u c) ≈ []
      gate_quiet Loop.iterate at u c l t = ≈-trans (out_gate_done g inputs f flow gate d n (port (suc loop) 0) u c at l) (≈-from (ap (λ q. cond q (out (port (suc loop) 0) (deeper u c)) []) (ne_eqb c n (λ e. omega arith))))
      gate_quiet Loop.closure at u zero l t = absurd (omega arith)
      gate_quiet Loop.closure at u (suc c) l t = ≈-trans (out_unseen_done g inputs f flow gate d n (port (suc loop) 0) u (suc c) at l)
          (only_left_same _ [] _ _ (≈-trans (merge_later g inputs f flow d loop (suc loop) back start.gives body.gives u c merge l) (body_quiet u c l (omega arith))) (≈-refl (flat_map (λ j. out (port (suc loop) 0) (deeper u j)) (below (suc c)))))

  pub relation_quiet : (r : Rel) → Limited r → QuietClaim r
  unfolding lower
  relation_quiet (Rel.named x) m ports once d k s = tt
  relation_quiet (Rel.select r ss) m ports once d k s = one_quiet (lower r ports once d k).made _ (relation_quiet r m ports once d k (stands_left g k (lower r ports once d k).made _ s)) refl
  relation_quiet (Rel.filter r c) m ports once d k s = one_quiet (lower r ports once d k).made _ (relation_quiet r m ports once d k (stands_left g k (lower r ports once d k).made _ s)) refl
  relation_quiet (Rel.group r ks as') m ports once d k s = one_quiet (lower r ports once d k).made _ (relation_quiet r m ports once d k (stands_left g k (lower r ports once d k).made _ s)) refl
  relation_quiet (Rel.distinct r) m ports once d k s = one_quiet (lower r ports once d k).made _ (relation_quiet r m ports once d k (stands_left g k (lower r ports once d k).made _ s)) refl
  relation_quiet (Rel.concat p q) m ports once d k s =
      let a = lower p ports once d k in
      let b = lower q ports once d (k + length a.made) in
      all_quiet-append a.made _ (relation_quiet p m.0 ports once d k (stands_left g k a.made _ s)) (one_quiet b.made _ (relation_quiet q m.1 ports once d (k + length a.made) (stands_left g (k + length a.made) b.made _ (stands_right g k a.made _ s))) refl)
  relation_quiet (Rel.except p q) m ports once d k s =
      let a = lower p ports once d k in
      let b = lower q ports once d (k + length a.made) in
      all_quiet-append a.made _ (relation_quiet p m.0 ports once d k (stands_left g k a.made _ s)) (one_quiet b.made _ (relation_quiet q m.1 ports once d (k + length a.made) (stands_left g (k + length a.made) b.made _ (stands_right g k a.made _ s))) refl)
  relation_quiet (Rel.intersect p q) m ports once d k s =
      let a = lower p ports once d k in
      let b = lower q ports once d (k + length a.made) in
      all_quiet-append a.made _ (relation_quiet p m.0 ports once d k (stands_left g k a.made _ s)) (one_quiet b.made _ (relation_quiet q m.1 ports once d (k + length a.made) (stands_left g (k + length a.made) b.made _ (stands_right g k a.made _ s))) refl)
  relation_quiet (Rel.join p q ps) m ports once d k s =
      let a = lower p ports once d k in
      let b = lower q ports once d (k + length a.made) in
      all_quiet-append a.made _ (relation_quiet p m.0 ports once d k (stands_left g k a.made _ s)) (one_quiet b.made _ (relation_quiet q m.1 ports once d (k + length a.made) (stands_left g (k + length a.made) b.made _ (stands_right g k a.made _ s))) (join_no_end (is_lookup q once) ps))
  relation_quiet (Rel.loop sort n x r b) m ports once d k s = loop_quiet sort n x r b m.0 m.2 (relation_quiet r m.1) (relation_quiet b m.2) ports once d k s

  inputs_quiet : (as' : List Input) → AllQuiet (input_vertices as')
  inputs_quiet [] = tt
  inputs_quiet (a ∷ as') = (other_kind _ refl, inputs_quiet as')

  lets_quiet : (as' : List Let) (xs : List Name) (ports : Ports) (k : ℕ) → LetsFit xs as' → Stands g k (lower_lets as' ports k).made → AllQuiet (lower_lets as' ports k).made
  unfolding lower_lets
  lets_quiet [] xs ports k m s = tt
  lets_quiet (a ∷ as') xs ports k m s =
      let r = lower a.value ports [] 0 k in
      let rest = lower_lets as' (stands_for a.name r.gives ports) (k + length r.made) in
      all_quiet-append r.made rest.made (relation_quiet a.value m.0.limited ports [] 0 k (stands_left g k r.made rest.made s)) (lets_quiet as' (a.name ∷ xs) (stands_for a.name r.gives ports) (k + length r.made) m.1 (stands_right g k r.made rest.made s))

  outputs_quiet : (os : List Output) (xs : List Name) (ports : Ports) (k : ℕ) → AllFit xs os → Stands g k (lower_outputs os ports k) → AllQuiet (lower_outputs os ports k)
  unfolding lower_outputs
  outputs_quiet [] xs ports k m s = tt
  outputs_quiet (o ∷ os) xs ports k m s =
      let r = lower o.value ports [] 0 k in
      let rest = lower_outputs os ports (suc (k + length r.made)) in
      let end = new_vertex Kind.output 0 (r.gives ∷ []) in
      all_quiet-append r.made (end ∷ rest) (relation_quiet o.value m.0.limited ports [] 0 k (stands_left g k r.made (end ∷ rest) s))
      (other_kind end refl, outputs_quiet os xs ports (suc (k + length r.made)) m.1 (stands_right g k r.made (end ∷ rest) s).1)

  quiet_at : (vs : List Vertex) → AllQuiet vs → (w : ℕ) → w < length vs → QuietAs (slice_index_or vs w no_vertex)
  quiet_at [] s w l = absurd (omega arith)
  quiet_at (v ∷ vs) s zero l = s.0
  quiet_at (v ∷ vs) s (suc w) l = quiet_at vs s.1 w (omega arith)

  quiet_edge : AllQuiet g → (w i : ℕ) (u : Time) → IsEdgeTime g w i u → ends_turn (vertex g w).kind ≡ true → turn_count ≤ last u.counters → f w i u ≈ []
  unfolding vertex source
  quiet_edge s w i u p e m = ≈-trans (flow.equations w i u p) (all_at (λ q. out q u ≈ []) (vertex g w).ins i ((quiet_at g s w p.is_vertex).quiet e u p.has_depth m) p.is_port)

pub lowered_quiet : (p : Program) → IsFitting p → (inputs : Inputs) (f : Flow) → IsFlow (lowered p) inputs f → (w i : ℕ) (u : Time) → IsEdgeTime (lowered p) w i u → ends_turn (vertex (lowered p) w).kind ≡ true → turn_count ≤ last u.counters → f w i u ≈ []
unfolding lowered
lowered_quiet p fits inputs f flow =
    let g = lowered p in
    let n = length p.inputs in
    let ins = input_vertices p.inputs in
    let lets = (lets_of p).made in
    let outs = outputs_of p in
    let st_lets : Stands g n (lets ++ outs) = subst (λ k. Stands g k (lets ++ outs)) (omega (arith, length-input_vertices p.inputs)) (stands_right g 0 ins (lets ++ outs) (stands_whole g)) in
    quiet_edge g inputs f flow
    (all_quiet-append g inputs f flow ins (lets ++ outs) (inputs_quiet g inputs f flow p.inputs)
    (all_quiet-append g inputs f flow lets outs (lets_quiet g inputs f flow p.lets _ (input_ports p.inputs 0) n fits.lets (stands_left g n lets outs st_lets))
    (outputs_quiet g inputs f flow p.outputs _ (lets_of p).ports (n + length lets) fits.outputs (stands_right g n lets outs st_lets))))
