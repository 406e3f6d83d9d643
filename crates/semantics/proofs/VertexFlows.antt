-- Counters at the end of a time, and what each kind of vertex sends in a flow.
use Rattle.std.proofs.Common.{◌≡◌, ℕ, suc, ◌+◌, ◌-◌, ◌<◌, nat_lt, nat_eq, Bool, true, false, cond, List, [], ◌∷◌, ◌++◌, map, flat_map, length, slice_index_or, refl, sym, ap, ap₂, subst, ◌∙◌, arith, append-nil, lt-ltb, le-ltb, ne_eqb, length-append}
use Rattle.semantics.specs.Multiset.{Record, ◌≈◌}
use Rattle.semantics.specs.Flow.{Inputs, Flow, IsFlow, sent_or_fed, port_flow}
use Rattle.semantics.specs.Kinds.{Kind}
use Rattle.semantics.specs.Graph.{Port, Vertex, Graph, no_port, vertex, source}
use Rattle.semantics.specs.Lower.{port, new_vertex}
use Rattle.semantics.specs.Meaning.{only_left, paired}
use Rattle.semantics.specs.Query.{Pair}
use Rattle.std.specs.List.{AllByRecursion}
use Rattle.semantics.specs.Time.{Time, earlier_turns, last_from, front_from, last, front, deeper, outer, in_first_turn, turn_count, below}
use Rattle.semantics.proofs.MultisetSums.{≈-refl, ≈-trans, ≈-from, append_same}
use Rattle.semantics.proofs.ExceptAndIntersect.{only_left_same}
use Rattle.semantics.proofs.KeyedParts.{paired_same}
use Rattle.semantics.proofs.OneFlow.{IsLower, earlier_all_lower, flat_same}

-- ---- the last counter

pub last_from-push : (b : ℕ) (ts : List ℕ) (c : ℕ) → last_from b (ts ++ (c ∷ [])) ≡ c
last_from-push b [] c = refl
last_from-push b (d ∷ ds) c = last_from-push d ds c

front_from-push : (b : ℕ) (ts : List ℕ) (c : ℕ) → front_from b (ts ++ (c ∷ [])) ≡ b ∷ ts
front_from-push b [] c = refl
front_from-push b (d ∷ ds) c = ap (λ l. b ∷ l) (front_from-push d ds c)

pub front-push : (ts : List ℕ) (c : ℕ) → front (ts ++ (c ∷ [])) ≡ ts
front-push [] c = refl
front-push (d ∷ ds) c = front_from-push d ds c

pub first_turn-push : (cs : List ℕ) (c : ℕ) → in_first_turn (cs ++ (c ∷ [])) ≡ nat_eq c 0
first_turn-push [] c = refl
first_turn-push (d ∷ ds) c = ap (λ n. nat_eq n 0) (last_from-push d ds c)

pub last-deeper : (u : Time) (c : ℕ) → last (u.counters ++ (c ∷ [])) ≡ c
last-deeper u c = last_from-push 0 u.counters c

pub outer-deeper : (u : Time) (c : ℕ) → outer (deeper u c) ≡ u
outer-deeper u c = ap (λ (ts : List ℕ). record { epoch = u.epoch; counters = ts }) (front-push u.counters c)

pub length-deeper : (u : Time) (c : ℕ) → length (deeper u c).counters ≡ suc (length u.counters)
length-deeper u c = omega (arith, length-append u.counters (c ∷ []))

-- ---- what vertices send

-- the vertex is at that number
pub record IsAt (g : Graph) (w : ℕ) (v : Vertex) : Type 0 where
  pub is : vertex g w ≡ v
  pub known : w < length g

module _ (g : Graph) (inputs : Inputs) (f : Flow) (flow : IsFlow g inputs f) where
  abbrev out : Port → Time → List Record
  out p u = port_flow g inputs f p u

  pub edge_at : (w : ℕ) (v : Vertex) → IsAt g w v → (i : ℕ) (u : Time) → i < length v.ins → length u.counters ≡ v.depth → f w i u ≈ out (slice_index_or v.ins i no_port) u
  unfolding source
  edge_at w v at i u l d =
      subst (λ (x : Vertex). f w i u ≈ out (slice_index_or x.ins i no_port) u) at.is
      (flow.equations w i u (record { is_vertex = at.known; is_port = subst (λ (x : Vertex). i < length x.ins) (sym at.is) l; has_depth = subst (λ (x : Vertex). length u.counters ≡ x.depth) (sym at.is) d }))

  pub out_at : (w o : ℕ) (v : Vertex) (u : Time) → IsAt g w v → out (port w o) u ≡ sent_or_fed inputs v.kind f w o u
  unfolding port_flow
  out_at w o v u at = ap (λ (x : Vertex). sent_or_fed inputs x.kind f w o u) at.is

  -- the first and only in port
  in_first : (w : ℕ) (kind : Kind) (d : ℕ) (p : Port) (u : Time) → IsAt g w (new_vertex kind d (p ∷ [])) → length u.counters ≡ d → f w 0 u ≈ out p u
  in_first w kind d p u at l = edge_at w (new_vertex kind d (p ∷ [])) at 0 u (omega arith) l

  -- ---- the vertices of a loop, for u the time outside

  pub out_ingress_first : (w d : ℕ) (p : Port) (u : Time) → IsAt g w (new_vertex Kind.ingress d (p ∷ [])) → length u.counters ≡ d → out (port w 0) (deeper u 0) ≈ out p u
  out_ingress_first w d p u at l =
      ≈-trans (≈-from (out_at w 0 (new_vertex Kind.ingress d (p ∷ [])) (deeper u 0) at
      ∙ ap (λ b. flat_map (λ t. f w 0 t) (cond b (outer (deeper u 0) ∷ []) [])) (first_turn-push u.counters 0)
      ∙ append-nil (f w 0 (outer (deeper u 0)))
      ∙ ap (f w 0) (outer-deeper u 0)))
      (in_first w Kind.ingress d p u at l)

  pub out_ingress_later : (w d : ℕ) (p : Port) (u : Time) (c : ℕ) → IsAt g w (new_vertex Kind.ingress d (p ∷ [])) → out (port w 0) (deeper u (suc c)) ≈ []
  out_ingress_later w d p u c at = ≈-from (out_at w 0 (new_vertex Kind.ingress d (p ∷ [])) (deeper u (suc c)) at
      ∙ ap (λ b. flat_map (λ t. f w 0 t) (cond b (outer (deeper u (suc c)) ∷ []) [])) (first_turn-push u.counters (suc c) ∙ ne_eqb (suc c) 0 (λ e. omega arith)))

  pub out_feedback_first : (w d : ℕ) (p : Port) (u : Time) → IsAt g w (new_vertex Kind.feedback d (p ∷ [])) → out (port w 0) (deeper u 0) ≈ []
  out_feedback_first w d p u at = ≈-from (out_at w 0 (new_vertex Kind.feedback d (p ∷ [])) (deeper u 0) at
      ∙ ap (λ b. flat_map (λ t. f w 0 t) (cond b (deeper (outer (deeper u 0)) (last (u.counters ++ (0 ∷ [])) - 1) ∷ []) [])) (le-ltb 0 (last (u.counters ++ (0 ∷ []))) (let k = last-deeper u 0 in omega arith)))

  pub out_feedback_later : (w d : ℕ) (p : Port) (u : Time) (c : ℕ) → IsAt g w (new_vertex Kind.feedback (suc d) (p ∷ [])) → length u.counters ≡ d → out (port w 0) (deeper u (suc c)) ≈ out p (deeper u c)
  out_feedback_later w d p u c at l =
      let v = deeper u (suc c) in
      ≈-trans (≈-from (out_at w 0 (new_vertex Kind.feedback (suc d) (p ∷ [])) v at
      ∙ ap (λ b. flat_map (λ t. f w 0 t) (cond b (deeper (outer v) (last v.counters - 1) ∷ []) [])) (lt-ltb 0 (last v.counters) (let k = last-deeper u (suc c) in omega arith))
      ∙ append-nil (f w 0 (deeper (outer v) (last v.counters - 1)))
      ∙ ap₂ (λ a b. f w 0 (deeper a b)) (outer-deeper u (suc c)) (let k = last-deeper u (suc c) in omega arith)))
      (in_first w Kind.feedback (suc d) p (deeper u c) at (length-deeper u c ∙ ap suc l))

  pub out_two : (w d : ℕ) (p q : Port) (u : Time) → IsAt g w (new_vertex Kind.concat d (p ∷ q ∷ [])) → length u.counters ≡ d → out (port w 0) u ≈ (out p u ++ out q u)
  out_two w d p q u at l = ≈-trans (≈-from (out_at w 0 (new_vertex Kind.concat d (p ∷ q ∷ [])) u at ∙ append-nil (f w 0 u ++ f w 1 u)))
      (append_same (f w 0 u) (out p u) (f w 1 u) (out q u) (edge_at w (new_vertex Kind.concat d (p ∷ q ∷ [])) at 0 u (omega arith) l) (edge_at w (new_vertex Kind.concat d (p ∷ q ∷ [])) at 1 u (omega arith) l))

  -- what comes to an in port at the earlier turns
  earlier_in : (w : ℕ) (v : Vertex) → IsAt g w v → (i : ℕ) (u : Time) → i < length v.ins → length u.counters ≡ v.depth → flat_map (f w i) (earlier_turns u) ≈ flat_map (out (slice_index_or v.ins i no_port)) (earlier_turns u)
  earlier_in w v at i u l d = flat_same (f w i) (out (slice_index_or v.ins i no_port)) (λ t. length t.counters ≡ v.depth) (earlier_turns u) (all_deep (earlier_turns u) (earlier_all_lower (λ n. u.counters) 0 u refl)) (λ t e. edge_at w v at i t l e)
    where
      all_deep : (ts : List Time) → AllByRecursion (IsLower (λ n. u.counters) 0 u) ts → AllByRecursion (λ t. length t.counters ≡ v.depth) ts
      all_deep [] a = tt
      all_deep (t ∷ ts) a = (a.0.0 ∙ d, all_deep ts a.1)

  pub out_lookup : (w d : ℕ) (ps : List Pair) (p q : Port) (u : Time) → IsAt g w (new_vertex (Kind.lookup ps) d (p ∷ q ∷ [])) → length u.counters ≡ d → out (port w 0) u ≈ paired ps (out p u) (out q u ++ flat_map (out q) (earlier_turns u))
  out_lookup w d ps p q u at l =
      let v = new_vertex (Kind.lookup ps) d (p ∷ q ∷ []) in
      ≈-trans (≈-from (out_at w 0 v u at ∙ append-nil (paired ps (f w 0 u) (f w 1 u ++ flat_map (f w 1) (earlier_turns u)))))
      (paired_same ps (f w 0 u) (out p u) (f w 1 u ++ flat_map (f w 1) (earlier_turns u)) (out q u ++ flat_map (out q) (earlier_turns u)) (edge_at w v at 0 u (omega arith) l)
      (append_same (f w 1 u) (out q u) (flat_map (f w 1) (earlier_turns u)) (flat_map (out q) (earlier_turns u)) (edge_at w v at 1 u (omega arith) l) (earlier_in w v at 1 u (omega arith) l)))

  cond_in : (b : Bool) (xs ys : List Record) → xs ≈ ys → (cond b xs [] ++ []) ≈ cond b ys []
  cond_in true xs ys h = ≈-trans (≈-from (append-nil xs)) h
  cond_in false xs ys h = ≈-refl []

  -- at a gate, depending on the counter
  pub out_gate_round : (w d n : ℕ) (p : Port) (u : Time) (c : ℕ) → IsAt g w (new_vertex (Kind.gate n) (suc d) (p ∷ [])) → length u.counters ≡ d → out (port w 0) (deeper u c) ≈ cond (nat_lt c n) (out p (deeper u c)) []
  out_gate_round w d n p u c at l = ≈-trans (≈-from (out_at w 0 (new_vertex (Kind.gate n) (suc d) (p ∷ [])) (deeper u c) at ∙ ap (λ k. cond (nat_lt k n) (f w 0 (deeper u c)) [] ++ []) (last-deeper u c)))
      (cond_in (nat_lt c n) (f w 0 (deeper u c)) (out p (deeper u c)) (in_first w (Kind.gate n) (suc d) p (deeper u c) at (length-deeper u c ∙ ap suc l)))

  pub out_gate_done : (w d n : ℕ) (p : Port) (u : Time) (c : ℕ) → IsAt g w (new_vertex (Kind.gate n) (suc d) (p ∷ [])) → length u.counters ≡ d → out (port w 1) (deeper u c) ≈ cond (nat_eq c n) (out p (deeper u c)) []
  out_gate_done w d n p u c at l = ≈-trans (≈-from (out_at w 1 (new_vertex (Kind.gate n) (suc d) (p ∷ [])) (deeper u c) at ∙ ap (λ k. cond (nat_eq k n) (f w 0 (deeper u c)) [] ++ []) (last-deeper u c)))
      (cond_in (nat_eq c n) (f w 0 (deeper u c)) (out p (deeper u c)) (in_first w (Kind.gate n) (suc d) p (deeper u c) at (length-deeper u c ∙ ap suc l)))

  -- at an unseen, depending on the counter and on what came at each smaller one
  unseen_left : (w d n : ℕ) (p : Port) (u : Time) (c : ℕ) → IsAt g w (new_vertex (Kind.unseen n) (suc d) (p ∷ [])) → length u.counters ≡ d
      → only_left (f w 0 (deeper u c)) (flat_map (f w 0) (earlier_turns (deeper u c))) ≈ only_left (out p (deeper u c)) (flat_map (λ j. out p (deeper u j)) (below c))
  unseen_left w d n p u c at l = only_left_same _ _ _ _ (here c) (≈-trans (≈-from (ap₂ (λ a b. flat_map (f w 0) (map (deeper a) (below b))) (outer-deeper u c) (last-deeper u c))) (go (below c)))
    where
      here : (j : ℕ) → f w 0 (deeper u j) ≈ out p (deeper u j)
      here j = in_first w (Kind.unseen n) (suc d) p (deeper u j) at (length-deeper u j ∙ ap suc l)

      go : (cs : List ℕ) → flat_map (f w 0) (map (deeper u) cs) ≈ flat_map (λ j. out p (deeper u j)) cs
      go [] = ≈-refl []
      go (j ∷ cs) = append_same (f w 0 (deeper u j)) (out p (deeper u j)) (flat_map (f w 0) (map (deeper u) cs)) (flat_map (λ j. out p (deeper u j)) cs) (here j) (go cs)

  pub out_unseen_round : (w d n : ℕ) (p : Port) (u : Time) (c : ℕ) → IsAt g w (new_vertex (Kind.unseen n) (suc d) (p ∷ [])) → length u.counters ≡ d → out (port w 0) (deeper u c) ≈ cond (nat_lt c n) (only_left (out p (deeper u c)) (flat_map (λ j. out p (deeper u j)) (below c))) []
  out_unseen_round w d n p u c at l = ≈-trans (≈-from (out_at w 0 (new_vertex (Kind.unseen n) (suc d) (p ∷ [])) (deeper u c) at ∙ ap (λ k. cond (nat_lt k n) (only_left (f w 0 (deeper u c)) (flat_map (f w 0) (earlier_turns (deeper u c)))) [] ++ []) (last-deeper u c)))
      (cond_in (nat_lt c n) _ _ (unseen_left w d n p u c at l))

  pub out_unseen_done : (w d n : ℕ) (p : Port) (u : Time) (c : ℕ) → IsAt g w (new_vertex (Kind.unseen n) (suc d) (p ∷ [])) → length u.counters ≡ d → out (port w 1) (deeper u c) ≈ only_left (out p (deeper u c)) (flat_map (λ j. out p (deeper u j)) (below c))
  out_unseen_done w d n p u c at l = ≈-trans (≈-from (out_at w 1 (new_vertex (Kind.unseen n) (suc d) (p ∷ [])) (deeper u c) at ∙ append-nil (only_left (f w 0 (deeper u c)) (flat_map (f w 0) (earlier_turns (deeper u c))))))
      (unseen_left w d n p u c at l)

  pub out_hold_round : (w d n : ℕ) (p : Port) (u : Time) (c : ℕ) → IsAt g w (new_vertex (Kind.hold n) (suc d) (p ∷ [])) → length u.counters ≡ d → out (port w 0) (deeper u c) ≈ cond (nat_lt c n) (out p (deeper u c)) []
  out_hold_round w d n p u c at l = ≈-trans (≈-from (out_at w 0 (new_vertex (Kind.hold n) (suc d) (p ∷ [])) (deeper u c) at ∙ ap (λ k. cond (nat_lt k n) (f w 0 (deeper u c)) [] ++ []) (last-deeper u c)))
      (cond_in (nat_lt c n) (f w 0 (deeper u c)) (out p (deeper u c)) (in_first w (Kind.hold n) (suc d) p (deeper u c) at (length-deeper u c ∙ ap suc l)))

  pub out_hold_next : (w d n : ℕ) (p : Port) (u : Time) (c : ℕ) → IsAt g w (new_vertex (Kind.hold n) (suc d) (p ∷ [])) → length u.counters ≡ d → out (port w 1) (deeper u c) ≈ cond (nat_lt (c + 1) n) (out p (deeper u c)) []
  out_hold_next w d n p u c at l = ≈-trans (≈-from (out_at w 1 (new_vertex (Kind.hold n) (suc d) (p ∷ [])) (deeper u c) at ∙ ap (λ k. cond (nat_lt (k + 1) n) (f w 0 (deeper u c)) [] ++ []) (last-deeper u c)))
      (cond_in (nat_lt (c + 1) n) (f w 0 (deeper u c)) (out p (deeper u c)) (in_first w (Kind.hold n) (suc d) p (deeper u c) at (length-deeper u c ∙ ap suc l)))

  -- what enters an egress, summed over the counters
  out_egress_upto : (w d : ℕ) (p : Port) (u : Time) → IsAt g w (new_vertex Kind.egress (suc d) (p ∷ [])) → length u.counters ≡ d → (n : ℕ) → flat_map (λ t. f w 0 t) (map (deeper u) (below n)) ≈ flat_map (λ c. out p (deeper u c)) (below n)
  out_egress_upto w d p u at l n = go (below n)
    where
      go : (cs : List ℕ) → flat_map (λ t. f w 0 t) (map (deeper u) cs) ≈ flat_map (λ c. out p (deeper u c)) cs
      go [] = ≈-refl []
      go (c ∷ cs) = append_same (f w 0 (deeper u c)) (out p (deeper u c)) (flat_map (λ t. f w 0 t) (map (deeper u) cs)) (flat_map (λ c. out p (deeper u c)) cs) (in_first w Kind.egress (suc d) p (deeper u c) at (length-deeper u c ∙ ap suc l)) (go cs)

  pub out_egress : (w d : ℕ) (p : Port) (u : Time) → IsAt g w (new_vertex Kind.egress (suc d) (p ∷ [])) → length u.counters ≡ d → out (port w 0) u ≈ flat_map (λ c. out p (deeper u c)) (below turn_count)
  out_egress w d p u at l = ≈-trans (≈-from (out_at w 0 (new_vertex Kind.egress (suc d) (p ∷ [])) u at)) (out_egress_upto w d p u at l turn_count)
