-- In any flow of the graph of a relation, the port that the relation gives has its meaning.
use Rattle.std.proofs.Common.{◌≡◌, ℕ, zero, suc, ◌+◌, ◌-◌, ◌≤◌, ◌<◌, nat_lt, nat_eq, Bool, true, false, cond, List, [], ◌∷◌, ◌++◌, map, filter, flat_map, length, refl, sym, ap, ap₂, subst, ◌∙◌, arith, append-nil, ltb-true, ltb-false, eqb-true, lt-ltb, le-ltb, ne_eqb, inl, inr, ◌⊎◌}
use Rattle.std.proofs.lemmas.Bool.{true≢false, eqb-false}
use Rattle.std.proofs.lemmas.List.Concat.{flat_map-append}
use mathlib.Core.Path.{fun_ext}
use Rattle.semantics.proofs.NamesAmong.{Decides-same_name, among_left, among_right, among_others, among_firsts, needed_free, variable_inside, needed_inside}
use Rattle.semantics.specs.FreeNames.{other_than, free, carried, looked_up, needed, has, once_names}
use Rattle.semantics.specs.Multiset.{IsAmong, Record, ◌≈◌, each_once}
use Rattle.semantics.specs.Flow.{Inputs, Flow, IsFlow, port_flow}
use Rattle.semantics.specs.Kinds.{Kind}
use Rattle.semantics.specs.Graph.{Port, Vertex, Graph}
use Rattle.semantics.specs.Lower.{held_turns, is_lookup, join_kind, Ports, stands_for, port, new_vertex, carry, carried_ports, Lowered, gate_of, looped, lower}
use Rattle.semantics.specs.Meaning.{selected, kept, paired, grouped, only_left, in_both, same_name, Names, bind, repeated, Found, found_first, found_next, after_turns, meaning, holds, value}
use Rattle.semantics.specs.Query.{Name, Pair, Loop, Rel}
use Rattle.semantics.specs.Time.{Time, deeper, earlier_turns, turn_count, below}
use Rattle.semantics.proofs.MultisetSums.{append_comm, ≈-refl, ≈-trans, ≈-from, append_same, linear_same, map_linear, filter_linear}
use Rattle.semantics.proofs.ExceptAndIntersect.{only_left_same, in_both_same}
use Rattle.semantics.proofs.KeyedParts.{paired_same}
use Rattle.semantics.proofs.DistinctAndGroups.{distinct_same, grouped_same}
use Rattle.semantics.proofs.FittingPrograms.{Limited}
use Rattle.semantics.proofs.TurnsOfLoops.{flat_below_same, flat_until, let_in, comes, comes_in, latest_is, all_is}
use Rattle.semantics.proofs.VertexFlows.{IsAt, out_lookup, last-deeper, outer-deeper, length-deeper, out_at, edge_at, out_ingress_first, out_ingress_later, out_feedback_first, out_feedback_later, out_two, out_gate_round, out_gate_done, out_unseen_round, out_unseen_done, out_hold_round, out_hold_next, out_egress}

-- ---- vertices in a row

abbrev pub Stands : Graph → ℕ → List Vertex → Type 0
Stands g k [] = Unit {0}
Stands g k (v ∷ vs) = IsAt g k v × Stands g (suc k) vs

pub stands_left : (g : Graph) (k : ℕ) (vs ws : List Vertex) → Stands g k (vs ++ ws) → Stands g k vs
stands_left g k [] ws s = tt
stands_left g k (v ∷ vs) ws s = (s.0, stands_left g (suc k) vs ws s.1)

pub stands_right : (g : Graph) (k : ℕ) (vs ws : List Vertex) → Stands g k (vs ++ ws) → Stands g (k + length vs) ws
stands_right g k [] ws s = subst (λ n. Stands g n ws) (omega arith) s
stands_right g k (v ∷ vs) ws s = subst (λ n. Stands g n ws) (omega arith) (stands_right g (suc k) vs ws s.1)

module _ (g : Graph) (inputs : Inputs) (f : Flow) (flow : IsFlow g inputs f) where
  abbrev out : Port → Time → List Record
  out p u = port_flow g inputs f p u

  -- what has come of a port by a time: what comes then, and of a name that comes once, what came at the earlier turns too
  abbrev pub come : (once : Bool) → Port → Time → List Record
  come false p u = out p u
  come true p u = out p u ++ flat_map (out p) (earlier_turns u)

  -- each of the names in ys has by u, at its port, what it means
  abbrev pub Agree : (once : List Name) → List Name → Ports → Time → Names → Type 0
  Agree once ys ports u names = (y : Name) → IsAmong y ys → come (has y once) (ports y) u ≈ names y

  -- ---- a loop's merge of an ingress and a feedback

  pub record Merge (d a m b : ℕ) (p q : Port) : Type 0 where
    pub enters : IsAt g a (new_vertex Kind.ingress d (p ∷ []))
    pub merges : IsAt g m (new_vertex Kind.concat (suc d) (port a 0 ∷ port b 0 ∷ []))
    pub returns : IsAt g b (new_vertex Kind.feedback (suc d) (q ∷ []))

  merge_first : (d a m b : ℕ) (p q : Port) (u : Time) → Merge d a m b p q → length u.counters ≡ d → out (port m 0) (deeper u 0) ≈ out p u
  merge_first d a m b p q u s l =
      ≈-trans (out_two g inputs f flow m (suc d) (port a 0) (port b 0) (deeper u 0) s.merges (length-deeper u 0 ∙ ap suc l))
      (≈-trans (append_same _ _ _ _ (out_ingress_first g inputs f flow a d p u s.enters l) (out_feedback_first g inputs f flow b (suc d) q u s.returns))
      (≈-from (append-nil (out p u))))

  pub merge_later : (d a m b : ℕ) (p q : Port) (u : Time) (c : ℕ) → Merge d a m b p q → length u.counters ≡ d → out (port m 0) (deeper u (suc c)) ≈ out q (deeper u c)
  merge_later d a m b p q u c s l =
      ≈-trans (out_two g inputs f flow m (suc d) (port a 0) (port b 0) (deeper u (suc c)) s.merges (length-deeper u (suc c) ∙ ap suc l))
      (append_same _ [] _ (out q (deeper u c)) (out_ingress_later g inputs f flow a d p u c s.enters) (out_feedback_later g inputs f flow b d q u c s.returns l))

  -- ---- what a loop carries

  -- a hold's concat, at each turn below n, has what came in
  held_turn : (d a n : ℕ) (p : Port) (u : Time) → Merge d a (suc a) (suc (suc (suc a))) p (port (suc (suc a)) 1) → IsAt g (suc (suc a)) (new_vertex (Kind.hold n) (suc d) (port (suc a) 0 ∷ [])) → length u.counters ≡ d → (c : ℕ) → c < n → out (port (suc a) 0) (deeper u c) ≈ out p u
  held_turn d a n p u s h l zero k = merge_first d a (suc a) (suc (suc (suc a))) p (port (suc (suc a)) 1) u s l
  held_turn d a n p u s h l (suc c) k =
      ≈-trans (merge_later d a (suc a) (suc (suc (suc a))) p (port (suc (suc a)) 1) u c s l)
      (≈-trans (out_hold_next g inputs f flow (suc (suc a)) d n (port (suc a) 0) u c h l)
      (≈-trans (≈-from (ap (λ b. cond b (out (port (suc a) 0) (deeper u c)) []) (lt-ltb (c + 1) n (omega arith))))
      (held_turn d a n p u s h l c (omega arith))))

  -- the records of a name at a turn; none from turn n on
  abbrev pub until : ℕ → ℕ → List Record → List Record
  until n c xs = cond (nat_lt c n) xs []

  pub held_port : (d : ℕ) (turns : Name → ℕ) (ports : Ports) (k : ℕ) (ys : List Name) (u : Time) (y : Name) (c : ℕ) → Stands g k (carry turns ports d k ys) → length u.counters ≡ d → IsAmong y ys → out (carried_ports ports k ys y) (deeper u c) ≈ until (turns y) c (out (ports y) u)
  held_port d turns ports k [] u y c s l h = absurd h
  held_port d turns ports k (x ∷ xs) u y c s l h = go (same_name x y) refl (held_port d turns ports (suc (suc (suc (suc k)))) xs u y c s.1.1.1.1 l)
    where
      here : out (port (suc (suc k)) 0) (deeper u c) ≈ until (turns x) c (out (ports x) u)
      here = ≈-trans (out_hold_round g inputs f flow (suc (suc k)) d (turns x) (port (suc k) 0) u c s.1.1.0 l)
          (at (nat_lt c (turns x)) refl)
        where
          at : (b : Bool) → nat_lt c (turns x) ≡ b → cond b (out (port (suc k) 0) (deeper u c)) [] ≈ cond b (out (ports x) u) []
          at true e = held_turn d k (turns x) (ports x) u (record { enters = s.0; merges = s.1.0; returns = s.1.1.1.0 }) s.1.1.0 l c (ltb-true c (turns x) e)
          at false e = ≈-refl []

      go : (b : Bool) → same_name x y ≡ b → (IsAmong y xs → out (carried_ports ports (suc (suc (suc (suc k)))) xs y) (deeper u c) ≈ until (turns y) c (out (ports y) u)) → out (cond b (port (suc (suc k)) 0) (carried_ports ports (suc (suc (suc (suc k)))) xs y)) (deeper u c) ≈ until (turns y) c (out (ports y) u)
      go true e ih = subst (λ z. out (port (suc (suc k)) 0) (deeper u c) ≈ until (turns z) c (out (ports z) u)) ((Decides-same_name x y).0 e) here
      go false e ih = ih (rest h)
        where
          rest : (x ≡ y) ⊎ IsAmong y xs → IsAmong y xs
          rest (inl q) = absurd (true≢false (sym ((Decides-same_name x y).1 q) ∙ e))
          rest (inr q) = q

  -- ---- relations

  -- the claim about a relation
  abbrev Claim : Rel → Type 0
  Claim r = (ports : Ports) (once : List Name) (d k : ℕ) (names : Names) (u : Time) → Stands g k (lower r ports once d k).made → length u.counters ≡ d → ((y : Name) → IsAmong y (needed r) → has y once ≡ false) → Agree once (free r) ports u names → out (lower r ports once d k).gives u ≈ meaning r names

  -- the sum over all turns, if only turn n has records
  sum_none : (h : ℕ → List Record) (n : ℕ) (xs : List Record) → ((c : ℕ) → h c ≈ cond (nat_eq c n) xs []) → (m : ℕ) → m ≤ n → flat_map h (below m) ≈ []
  sum_none h n xs e zero l = ≈-refl []
  sum_none h n xs e (suc m) l =
      ≈-trans (≈-from (flat_map-append h (below m) (m ∷ []) ∙ ap (λ z. flat_map h (below m) ++ z) (append-nil (h m))))
      (append_same _ [] _ [] (sum_none h n xs e m (omega arith)) (≈-trans (e m) (≈-from (ap (λ b. cond b xs []) (ne_eqb m n (λ q. omega arith))))))

  sum_one : (h : ℕ → List Record) (n : ℕ) (xs : List Record) → ((c : ℕ) → h c ≈ cond (nat_eq c n) xs []) → (m : ℕ) → n < m → flat_map h (below m) ≈ xs
  sum_one h n xs e zero l = absurd (omega arith)
  sum_one h n xs e (suc m) l = ≈-trans (≈-from (flat_map-append h (below m) (m ∷ []) ∙ ap (λ z. flat_map h (below m) ++ z) (append-nil (h m)))) (go (nat_eq m n) refl (sum_one h n xs e m))
    where
      go : (b : Bool) → nat_eq m n ≡ b → (n < m → flat_map h (below m) ≈ xs) → (flat_map h (below m) ++ h m) ≈ xs
      go true q ih = append_same _ [] _ xs (sum_none h n xs e m (let k = eqb-true m n q in omega arith)) (≈-trans (e m) (≈-from (ap (λ b. cond b xs []) q)))
      go false q ih = ≈-trans (append_same _ xs _ [] (ih (let k = eqb-false m n q in lower_m k)) (≈-trans (e m) (≈-from (ap (λ b. cond b xs []) q)))) (≈-from (append-nil xs))
        where
          lower_m : (m ≡ n → ⊥) → n < m
          lower_m k = omega arith

  -- what comes at the first turn only has come by each turn
  pub come_once : (p : Port) (u : Time) (xs : List Record) → ((c : ℕ) → out p (deeper u c) ≈ until 1 c xs) → (c : ℕ) → come true p (deeper u c) ≈ xs
  come_once p u xs h c =
      ≈-trans (≈-from (ap₂ (λ a b. out p (deeper u c) ++ flat_map (out p) (map (deeper a) (below b))) (outer-deeper u c) (last-deeper u c) ∙ ap (λ zs. out p (deeper u c) ++ zs) (by_turn (below c))))
      (≈-trans (append_comm (out p (deeper u c)) (flat_map (λ j. out p (deeper u j)) (below c)))
      (≈-trans (≈-from (ap (λ zs. flat_map (λ j. out p (deeper u j)) (below c) ++ zs) (sym (append-nil (out p (deeper u c)))) ∙ sym (flat_map-append (λ j. out p (deeper u j)) (below c) (c ∷ []))))
      (sum_one (λ j. out p (deeper u j)) 0 xs first (suc c) (omega arith))))
    where
      by_turn : (cs : List ℕ) → flat_map (out p) (map (deeper u) cs) ≡ flat_map (λ j. out p (deeper u j)) cs
      by_turn [] = refl
      by_turn (j ∷ cs) = ap (λ zs. out p (deeper u j) ++ zs) (by_turn cs)

      first : (j : ℕ) → out p (deeper u j) ≈ cond (nat_eq j 0) xs []
      first zero = h zero
      first (suc j) = ≈-trans (h (suc j)) (≈-from (ap (λ b. cond b xs []) (le-ltb (suc j) 1 (omega arith)) ∙ sym (ap (λ b. cond b xs []) (ne_eqb (suc j) 0 (λ e. omega arith)))))

  -- if no name that is needed has records, a relation has none
  turns_none : (step : List Record → List Record) → (step [] ≡ []) → (n : ℕ) → repeated step n [] ≡ []
  turns_none step e zero = refl
  turns_none step e (suc n) = ap step (turns_none step e n) ∙ e

  found_none : (step : List Record → List Record) → (step [] ≡ []) → (n : ℕ) → repeated (found_next step) n (found_first []) ≡ record { all = []; latest = [] }
  found_none step e zero = refl
  found_none step e (suc n) = ap (found_next step) (found_none step e n) ∙ ap (λ (xs : List Record). found_of xs) e
    where
      found_of : List Record → Found
      found_of xs = record { all = [] ++ only_left xs []; latest = only_left xs [] }

  loops_none : (l : Loop) (step : List Record → List Record) → (step [] ≡ []) → (n : ℕ) → after_turns l step n [] ≡ []
  loops_none Loop.iterate step e n = turns_none step e n
  loops_none Loop.closure step e n = ap (λ (s : Found). s.all) (found_none step e n)

  pub meaning_none : (r : Rel) (names : Names) → ((y : Name) → IsAmong y (needed r) → names y ≡ []) → meaning r names ≡ []
  unfolding meaning
  meaning_none (Rel.named x) names e = e x (inl refl)
  meaning_none (Rel.select r ss) names e = ap (selected ss) (meaning_none r names e)
  meaning_none (Rel.filter r c) names e = ap (kept c) (meaning_none r names e)
  meaning_none (Rel.concat p q) names e = ap₂ (λ a b. a ++ b) (meaning_none p names (λ y h. e y (among_left y (needed p) (needed q) h))) (meaning_none q names (λ y h. e y (among_right y (needed p) (needed q) h)))
  meaning_none (Rel.join p q ps) names e = ap (λ a. paired ps a (meaning q names)) (meaning_none p names (λ y h. e y (among_left y (needed p) (cond (looked_up q) [] (needed q)) h)))
  meaning_none (Rel.group r ks as') names e = ap (grouped ks as') (meaning_none r names e)
  meaning_none (Rel.distinct r) names e = ap each_once (meaning_none r names e)
  meaning_none (Rel.except p q) names e = ap₂ only_left (meaning_none p names (λ y h. e y (among_left y (needed p) (needed q) h))) (meaning_none q names (λ y h. e y (among_right y (needed p) (needed q) h)))
  meaning_none (Rel.intersect p q) names e = ap₂ in_both (meaning_none p names (λ y h. e y (among_left y (needed p) (needed q) h))) (meaning_none q names (λ y h. e y (among_right y (needed p) (needed q) h)))
  meaning_none (Rel.loop l n x r b) names e =
      ap (after_turns l (λ xs. meaning b (bind x xs names)) n) (meaning_none r names (λ y h. e y (among_left y (needed r) (filter (other_than x) (free b)) h)))
      ∙ loops_none l (λ xs. meaning b (bind x xs names)) (meaning_none b (bind x [] names) (λ y h. go y h (same_name x y) refl)) n
    where
      go : (y : Name) → IsAmong y (needed b) → (t : Bool) → same_name x y ≡ t → cond t [] (names y) ≡ []
      go y h true q = refl
      go y h false q = e y (among_right y (needed r) (filter (other_than x) (free b)) (among_others x y (free b) q (needed_free b y h)))

  -- what comes to a loop's gate from a port, at the turns up to n
  abbrev Comes : Loop → (List Record → List Record) → List Record → (n : ℕ) → Port → Time → ℕ → Type 0
  Comes l step start n p u c = out p (deeper u c) ≈ cond (nat_lt c (suc n)) (comes l step start c) []

  comes_now : (l : Loop) (step : List Record → List Record) (start : List Record) (n : ℕ) (p : Port) (u : Time) (c : ℕ) → Comes l step start n p u c → c ≤ n → out p (deeper u c) ≈ comes l step start c
  comes_now l step start n p u c h k = ≈-trans h (≈-from (ap (λ t. cond t (comes l step start c) []) (lt-ltb c (suc n) (omega arith))))

  comes_never : (l : Loop) (step : List Record → List Record) (start : List Record) (n : ℕ) (p : Port) (u : Time) (c : ℕ) → Comes l step start n p u c → suc n ≤ c → out p (deeper u c) ≈ []
  comes_never l step start n p u c h k = ≈-trans h (≈-from (ap (λ t. cond t (comes l step start c) []) (le-ltb c (suc n) k)))

  -- what comes new to an unseen at a turn
  new_at : (step : List Record → List Record) (start : List Record) (n : ℕ) (p : Port) (u : Time) (c : ℕ) → ((j : ℕ) → j ≤ c → Comes Loop.closure step start n p u j) → c ≤ n
      → only_left (out p (deeper u c)) (flat_map (λ j. out p (deeper u j)) (below c)) ≈ let_in Loop.closure step start c
  new_at step start n p u c h k =
      ≈-trans (only_left_same _ _ _ _ (comes_now Loop.closure step start n p u c (h c (omega arith)) k)
      (flat_below_same (λ j. out p (deeper u j)) (comes Loop.closure step start) c (λ j l. comes_now Loop.closure step start n p u j (h j (omega arith)) (omega arith))))
      (latest_is step start c)

  new_never : (step : List Record → List Record) (start : List Record) (n : ℕ) (p : Port) (u : Time) (c : ℕ) → Comes Loop.closure step start n p u c → suc n ≤ c → (ys : List Record) → only_left (out p (deeper u c)) ys ≈ []
  new_never step start n p u c h k ys = only_left_same _ [] ys ys (comes_never Loop.closure step start n p u c h k) (≈-refl ys)

  -- what a loop's gate lets into a turn
  gate_in : (l : Loop) (step : List Record → List Record) (start : List Record) (w d n : ℕ) (p : Port) (u : Time) (c : ℕ) → IsAt g w (new_vertex (gate_of l n) (suc d) (p ∷ [])) → length u.counters ≡ d
      → ((j : ℕ) → j ≤ c → Comes l step start n p u j) → out (port w 0) (deeper u c) ≈ cond (nat_lt c n) (let_in l step start c) []
  gate_in Loop.iterate step start w d n p u c at l h = ≈-trans (out_gate_round g inputs f flow w d n p u c at l) (go (nat_lt c n) refl)
    where
      go : (t : Bool) → nat_lt c n ≡ t → cond t (out p (deeper u c)) [] ≈ cond t (repeated step c start) []
      go true q = let k = ltb-true c n q in ≈-trans (comes_now Loop.iterate step start n p u c (h c (omega arith)) (omega arith)) (≈-from (comes_in step start c))
      go false q = ≈-refl []
  gate_in Loop.closure step start w d n p u c at l h = ≈-trans (out_unseen_round g inputs f flow w d n p u c at l) (go (nat_lt c n) refl)
    where
      go : (t : Bool) → nat_lt c n ≡ t → cond t (only_left (out p (deeper u c)) (flat_map (λ j. out p (deeper u j)) (below c))) [] ≈ cond t (let_in Loop.closure step start c) []
      go true q = let k = ltb-true c n q in new_at step start n p u c h (omega arith)
      go false q = ≈-refl []

  -- what it lets out of the loop, summed over the turns
  gate_out : (l : Loop) (step : List Record → List Record) (start : List Record) (w d n : ℕ) (p : Port) (u : Time) → n < turn_count → IsAt g w (new_vertex (gate_of l n) (suc d) (p ∷ [])) → length u.counters ≡ d
      → ((j : ℕ) → Comes l step start n p u j) → flat_map (λ c. out (port w 1) (deeper u c)) (below turn_count) ≈ after_turns l step n start
  gate_out Loop.iterate step start w d n p u limit at l h = sum_one (λ c. out (port w 1) (deeper u c)) n (repeated step n start) done turn_count limit
    where
      done : (c : ℕ) → out (port w 1) (deeper u c) ≈ cond (nat_eq c n) (repeated step n start) []
      done c = ≈-trans (out_gate_done g inputs f flow w d n p u c at l) (go (nat_eq c n) refl)
        where
          go : (t : Bool) → nat_eq c n ≡ t → cond t (out p (deeper u c)) [] ≈ cond t (repeated step n start) []
          go true q =
              let e : c ≡ n = eqb-true c n q in
              subst (λ z. out p (deeper u c) ≈ repeated step z start) e
              (≈-trans (comes_now Loop.iterate step start n p u c (h c) (omega arith)) (≈-from (comes_in step start c)))
          go false q = ≈-refl []
  gate_out Loop.closure step start w d n p u limit at l h =
      ≈-trans (≈-from (ap (λ m. flat_map (λ c. out (port w 1) (deeper u c)) (below m)) more.1))
      (≈-trans (flat_until (λ c. out (port w 1) (deeper u c)) (suc n) more.0 (λ c k. ≈-trans (out_unseen_done g inputs f flow w d n p u c at l) (new_never step start n p u c (h c) k _)))
      (≈-trans (flat_below_same (λ c. out (port w 1) (deeper u c)) (let_in Loop.closure step start) (suc n) (λ c k. ≈-trans (out_unseen_done g inputs f flow w d n p u c at l) (new_at step start n p u c (λ j m. h j) (omega arith))))
      (all_is step start n)))
    where
      more_than : (m : ℕ) → suc n ≤ m → (k : ℕ) × (m ≡ k + suc n)
      more_than m q = (m - suc n, omega arith)

      more : (k : ℕ) × (turn_count ≡ k + suc n)
      more = more_than turn_count limit

  -- a loop, from what holds of its start and its body
  loop_claim : (sort : Loop) (n : ℕ) (x : Name) (r b : Rel) → n < turn_count → Claim r → Claim b → Claim (Rel.loop sort n x r b)
  unfolding lower meaning
  loop_claim sort n x r b limit start_claim body_claim ports once d k names u s l each agree =
      ≈-trans (out_egress g inputs f flow (suc back) d (port gate 1) u egress_at l)
      (gate_out sort step (meaning r names) gate d n (port (suc loop) 0) u limit in_loop.1.1.0 l (λ c. merged c c (omega arith)))
    where
      step : List Record → List Record
      step xs = meaning b (bind x xs names)

      start : Lowered
      start = lower r ports once d k

      loop : ℕ
      loop = k + length start.made

      gate : ℕ
      gate = suc (suc loop)

      ys : List Name
      ys = carried x b

      inner : List Name
      inner = once_names sort x b

      others : List Name
      others = filter (other_than x) (free b)

      inside : Ports
      inside = stands_for x (port gate 0) (carried_ports ports (suc gate) ys)

      first : ℕ
      first = suc gate + length (carry (held_turns n inner) ports d (suc gate) ys)

      body : Lowered
      body = lower b inside inner (suc d) first

      back : ℕ
      back = first + length body.made

      in_loop : Stands g loop (looped sort n loop inner start ports d ys body).made
      in_loop = stands_right g k start.made (looped sort n loop inner start ports d ys body).made s

      at_first : Stands g first (body.made ++ (new_vertex Kind.feedback (suc d) (body.gives ∷ []) ∷ new_vertex Kind.egress (suc d) (port gate 1 ∷ []) ∷ []))
      at_first = stands_right g (suc gate) (carry (held_turns n inner) ports d (suc gate) ys) _ in_loop.1.1.1

      at_back : Stands g back (new_vertex Kind.feedback (suc d) (body.gives ∷ []) ∷ new_vertex Kind.egress (suc d) (port gate 1 ∷ []) ∷ [])
      at_back = stands_right g first body.made _ at_first

      egress_at : IsAt g (suc back) (new_vertex Kind.egress (suc d) (port gate 1 ∷ []))
      egress_at = at_back.1.0

      merge : Merge d loop (suc loop) back start.gives body.gives
      merge = record { enters = in_loop.0; merges = in_loop.1.0; returns = at_back.0 }

      -- what is let into the turn c, and what comes to it
      value_at : ℕ → List Record
      value_at c = let_in sort step (meaning r names) c

      -- what the names mean within the turn c
      names_at : ℕ → Names
      names_at c y = cond (has y inner) (names y) (cond (nat_lt c n) (bind x (value_at c) names y) [])

      -- at a turn that there is, they mean this
      bound : (c : ℕ) (y : Name) (t : Bool) → same_name x y ≡ t → cond (has y inner) (names y) (bind x (value_at c) names y) ≡ bind x (value_at c) names y
      bound c y true q = ap (λ i. cond i (names y) (bind x (value_at c) names y)) (variable_inside sort x b y q)
      bound c y false q = ap (λ t. cond (has y inner) (names y) (cond t (value_at c) (names y))) q ∙ same_both (has y inner) ∙ sym (ap (λ t. cond t (value_at c) (names y)) q)
        where
          same_both : (i : Bool) → cond i (names y) (names y) ≡ names y
          same_both true = refl
          same_both false = refl

      -- what the body means at one turn comes to the next turn
      turn : (c : ℕ) (t : Bool) → nat_lt c n ≡ t → meaning b (names_at c) ≡ cond (nat_lt (suc c) (suc n)) (step (value_at c)) []
      turn c true q =
          let k' = ltb-true c n q in
          ap (meaning b) (fun_ext (λ y. ap (λ t. cond (has y inner) (names y) (cond t (bind x (value_at c) names y) [])) q ∙ bound c y (same_name x y) refl))
          ∙ ap (λ t. cond t (step (value_at c)) []) (sym (lt-ltb (suc c) (suc n) (omega arith)))
      turn c false q =
          let k' = ltb-false c n q in
          meaning_none b (names_at c) (λ y h. ap₂ (λ i t. cond i (names y) (cond t (bind x (value_at c) names y) [])) (needed_inside sort x b y h) q)
          ∙ ap (λ t. cond t (step (value_at c)) []) (sym (le-ltb (suc c) (suc n) (omega arith)))

      Merged : ℕ → Type 0
      Merged c = Comes sort step (meaning r names) n (port (suc loop) 0) u c

      -- the names agree in the body at each turn
      agree_in : (c : ℕ) → ((j : ℕ) → j ≤ c → Merged j) → Agree inner (free b) inside (deeper u c) (names_at c)
      agree_in c m y h = go (same_name x y) refl
        where
          -- what a name from outside has there
          outside : same_name x y ≡ false → out (ports y) u ≈ names y
          outside q = subst (λ t. come t (ports y) u ≈ names y) (each y (among_right y (needed r) others (among_others x y (free b) q h))) (agree y (among_right y (free r) others (among_others x y (free b) q h)))

          held : same_name x y ≡ false → (c : ℕ) → out (carried_ports ports (suc gate) ys y) (deeper u c) ≈ until (held_turns n inner y) c (out (ports y) u)
          held q c = held_port d (held_turns n inner) ports (suc gate) ys u y c (stands_left g (suc gate) (carry (held_turns n inner) ports d (suc gate) ys) _ in_loop.1.1.1) l (among_firsts y others (among_others x y (free b) q h))

          shut : (t : Bool) → out (ports y) u ≈ names y → cond t (out (ports y) u) [] ≈ cond t (names y) []
          shut true e = e
          shut false e = ≈-refl []

          by : same_name x y ≡ false → (i : Bool) → has y inner ≡ i → come i (carried_ports ports (suc gate) ys y) (deeper u c) ≈ cond i (names y) (cond (nat_lt c n) (names y) [])
          by q true e = ≈-trans (come_once (carried_ports ports (suc gate) ys y) u (out (ports y) u) (λ j. subst (λ i. out (carried_ports ports (suc gate) ys y) (deeper u j) ≈ until (cond i 1 n) j (out (ports y) u)) e (held q j)) c) (outside q)
          by q false e = ≈-trans (subst (λ i. out (carried_ports ports (suc gate) ys y) (deeper u c) ≈ until (cond i 1 n) c (out (ports y) u)) e (held q c)) (shut (nat_lt c n) (outside q))

          go : (t : Bool) → same_name x y ≡ t → come (has y inner) (inside y) (deeper u c) ≈ names_at c y
          go true q =
              subst (λ i. come i (inside y) (deeper u c) ≈ cond i (names y) (cond (nat_lt c n) (bind x (value_at c) names y) [])) (sym (variable_inside sort x b y q))
              (subst (λ t. out (cond t (port gate 0) (carried_ports ports (suc gate) ys y)) (deeper u c) ≈ cond (nat_lt c n) (cond t (value_at c) (names y)) []) (sym q)
              (gate_in sort step (meaning r names) gate d n (port (suc loop) 0) u c in_loop.1.1.0 l m))
          go false q =
              subst (λ t. come (has y inner) (cond t (port gate 0) (carried_ports ports (suc gate) ys y)) (deeper u c) ≈ cond (has y inner) (names y) (cond (nat_lt c n) (cond t (value_at c) (names y)) [])) (sym q)
              (by q (has y inner) refl)

      merged_first : Merged 0
      merged_first = ≈-trans (merge_first d loop (suc loop) back start.gives body.gives u merge l)
          (≈-trans (start_claim ports once d k names u (stands_left g k start.made _ s) l (λ y h. each y (among_left y (needed r) others h)) (λ y h. agree y (among_left y (free r) _ h)))
          (≈-from (ap (λ t. cond t (meaning r names) []) (sym (lt-ltb 0 (suc n) (omega arith))))))

      merged_next : (c : ℕ) → ((j : ℕ) → j ≤ c → Merged j) → Merged (suc c)
      merged_next c m = ≈-trans (merge_later d loop (suc loop) back start.gives body.gives u c merge l)
          (≈-trans (body_claim inside inner (suc d) first (names_at c) (deeper u c) (stands_left g first body.made _ at_first) (length-deeper u c ∙ ap suc l) (needed_inside sort x b) (agree_in c m))
          (≈-from (turn c (nat_lt c n) refl)))

      merged : (c j : ℕ) → j ≤ c → Merged j
      merged zero zero h = merged_first
      merged zero (suc j) h = absurd (omega arith)
      merged (suc c) j h = go (last_or_less j c h) (merged c)
        where
          last_or_less : (j c : ℕ) → j ≤ suc c → (j ≤ c) ⊎ (suc c ≡ j)
          last_or_less j c h = grind arith

          go : (j ≤ c) ⊎ (suc c ≡ j) → ((i : ℕ) → i ≤ c → Merged i) → Merged j
          go (inl q) ih = ih j q
          go (inr q) ih = subst Merged q (merged_next c ih)

  -- ---- every relation

  last_one : (k : ℕ) (vs : List Vertex) (v : Vertex) → Stands g k (vs ++ (v ∷ [])) → IsAt g (k + length vs) v
  last_one k vs v s = (stands_right g k vs (v ∷ []) s).0

  -- a vertex with one in port, which sends what an operation makes of it
  one_claim : (op : List Record → List Record) → ((xs ys : List Record) → xs ≈ ys → op xs ≈ op ys) → (w d : ℕ) (kind : Kind) (p : Port) (u : Time) (xs : List Record) → IsAt g w (new_vertex kind d (p ∷ [])) → length u.counters ≡ d → (out (port w 0) u ≡ op (f w 0 u) ++ []) → out p u ≈ xs → out (port w 0) u ≈ op xs
  one_claim op keeps w d kind p u xs at l e h = ≈-trans (≈-from (e ∙ append-nil (op (f w 0 u)))) (keeps (f w 0 u) xs (≈-trans (edge_at g inputs f flow w (new_vertex kind d (p ∷ [])) at 0 u (omega arith) l) h))

  two_claim : (op : List Record → List Record → List Record) → ((xs xs' ys ys' : List Record) → xs ≈ xs' → ys ≈ ys' → op xs ys ≈ op xs' ys') → (w d : ℕ) (kind : Kind) (p q : Port) (u : Time) (xs ys : List Record) → IsAt g w (new_vertex kind d (p ∷ q ∷ [])) → length u.counters ≡ d → (out (port w 0) u ≡ op (f w 0 u) (f w 1 u) ++ []) → out p u ≈ xs → out q u ≈ ys → out (port w 0) u ≈ op xs ys
  two_claim op keeps w d kind p q u xs ys at l e h h' = ≈-trans (≈-from (e ∙ append-nil (op (f w 0 u) (f w 1 u)))) (keeps (f w 0 u) xs (f w 1 u) ys
      (≈-trans (edge_at g inputs f flow w (new_vertex kind d (p ∷ q ∷ [])) at 0 u (omega arith) l) h)
      (≈-trans (edge_at g inputs f flow w (new_vertex kind d (p ∷ q ∷ [])) at 1 u (omega arith) l) h'))

  -- where two relations are
  last_two : (k : ℕ) (vs ws : List Vertex) (v : Vertex) → Stands g k (vs ++ (ws ++ (v ∷ []))) → IsAt g (k + length vs + length ws) v
  last_two k vs ws v s = last_one (k + length vs) ws v (stands_right g k vs (ws ++ (v ∷ [])) s)

  -- the right side of a lookup has come by each turn
  looked_up_has : (ports : Ports) (once : List Name) (d k : ℕ) (names : Names) (u : Time) (q : Rel) → is_lookup q once ≡ true → Agree once (free q) ports u names → come true (lower q ports once d k).gives u ≈ meaning q names
  unfolding lower meaning
  looked_up_has ports once d k names u (Rel.named y) e agree = subst (λ t. come t (ports y) u ≈ names y) e (agree y (inl refl))
  looked_up_has ports once d k names u (Rel.select r ss) e agree = absurd (true≢false (sym e))
  looked_up_has ports once d k names u (Rel.filter r c) e agree = absurd (true≢false (sym e))
  looked_up_has ports once d k names u (Rel.concat p q) e agree = absurd (true≢false (sym e))
  looked_up_has ports once d k names u (Rel.join p q ps) e agree = absurd (true≢false (sym e))
  looked_up_has ports once d k names u (Rel.group r ks as') e agree = absurd (true≢false (sym e))
  looked_up_has ports once d k names u (Rel.distinct r) e agree = absurd (true≢false (sym e))
  looked_up_has ports once d k names u (Rel.except p q) e agree = absurd (true≢false (sym e))
  looked_up_has ports once d k names u (Rel.intersect p q) e agree = absurd (true≢false (sym e))
  looked_up_has ports once d k names u (Rel.loop l n x r b) e agree = absurd (true≢false (sym e))

  -- else it comes at each turn
  right_needed : (once : List Name) (q : Rel) → is_lookup q once ≡ false → ((y : Name) → IsAmong y (cond (looked_up q) [] (needed q)) → has y once ≡ false) → (y : Name) → IsAmong y (needed q) → has y once ≡ false
  right_needed once (Rel.named x) e h y i = named_needed i
    where
      named_needed : (x ≡ y) ⊎ ⊥ → has y once ≡ false
      named_needed (inl i) = subst (λ z. has z once ≡ false) i e
      named_needed (inr i) = absurd i
  right_needed once (Rel.select r ss) e h y i = h y i
  right_needed once (Rel.filter r c) e h y i = h y i
  right_needed once (Rel.concat p q) e h y i = h y i
  right_needed once (Rel.join p q ps) e h y i = h y i
  right_needed once (Rel.group r ks as') e h y i = h y i
  right_needed once (Rel.distinct r) e h y i = h y i
  right_needed once (Rel.except p q) e h y i = h y i
  right_needed once (Rel.intersect p q) e h y i = h y i
  right_needed once (Rel.loop l n x r b) e h y i = h y i

  -- a join, with or without a lookup
  join_claim : (ps : List Pair) (once : List Name) (q : Rel) (t : Bool) → is_lookup q once ≡ t → (ports : Ports) (w d k : ℕ) (p : Port) (u : Time) (xs : List Record) (names : Names) → IsAt g w (new_vertex (join_kind t ps) d (p ∷ (lower q ports once d k).gives ∷ [])) → length u.counters ≡ d
      → out p u ≈ xs → (((y : Name) → IsAmong y (needed q) → has y once ≡ false) → out (lower q ports once d k).gives u ≈ meaning q names) → ((y : Name) → IsAmong y (cond (looked_up q) [] (needed q)) → has y once ≡ false) → Agree once (free q) ports u names
      → out (port w 0) u ≈ paired ps xs (meaning q names)
  join_claim ps once q true e ports w d k p u xs names at l left right each agree =
      ≈-trans (out_lookup g inputs f flow w d ps p (lower q ports once d k).gives u at l) (paired_same ps (out p u) xs _ (meaning q names) left (looked_up_has ports once d k names u q e agree))
  join_claim ps once q false e ports w d k p u xs names at l left right each agree =
      two_claim (paired ps) (paired_same ps) w d (Kind.join ps) p (lower q ports once d k).gives u xs (meaning q names) at l (out_at g inputs f flow w 0 _ u at) left (right (right_needed once q e each))

  pub lower_means : (r : Rel) → Limited r → Claim r
  unfolding lower meaning
  lower_means (Rel.named x) m ports once d k names u s l each agree = subst (λ t. come t (ports x) u ≈ names x) (each x (inl refl)) (agree x (inl refl))
  lower_means (Rel.select r ss) m ports once d k names u s l each agree =
      let a = lower r ports once d k in
      let at : IsAt g (k + length a.made) (new_vertex (Kind.select ss) d (a.gives ∷ [])) = last_one k a.made _ s in
      one_claim (selected ss) (linear_same (selected ss) (map_linear (λ r. map (λ s. value s r) ss))) (k + length a.made) d (Kind.select ss) a.gives u (meaning r names) at l (out_at g inputs f flow (k + length a.made) 0 _ u at)
      (lower_means r m ports once d k names u (stands_left g k a.made _ s) l each agree)
  lower_means (Rel.filter r c) m ports once d k names u s l each agree =
      let a = lower r ports once d k in
      let at : IsAt g (k + length a.made) (new_vertex (Kind.filter c) d (a.gives ∷ [])) = last_one k a.made _ s in
      one_claim (kept c) (linear_same (kept c) (filter_linear (holds c))) (k + length a.made) d (Kind.filter c) a.gives u (meaning r names) at l (out_at g inputs f flow (k + length a.made) 0 _ u at)
      (lower_means r m ports once d k names u (stands_left g k a.made _ s) l each agree)
  lower_means (Rel.concat p q) m ports once d k names u s l each agree =
      let a = lower p ports once d k in
      let b = lower q ports once d (k + length a.made) in
      let at : IsAt g (k + length a.made + length b.made) (new_vertex Kind.concat d (a.gives ∷ b.gives ∷ [])) = last_two k a.made b.made _ s in
      two_claim (λ xs ys. xs ++ ys) (λ xs xs' ys ys' h h'. append_same xs xs' ys ys' h h') (k + length a.made + length b.made) d Kind.concat a.gives b.gives u (meaning p names) (meaning q names) at l (out_at g inputs f flow (k + length a.made + length b.made) 0 _ u at)
      (lower_means p m.0 ports once d k names u (stands_left g k a.made _ s) l (λ y h. each y (among_left y (needed p) (needed q) h)) (λ y h. agree y (among_left y (free p) (free q) h)))
      (lower_means q m.1 ports once d (k + length a.made) names u (stands_left g (k + length a.made) b.made _ (stands_right g k a.made _ s)) l (λ y h. each y (among_right y (needed p) (needed q) h)) (λ y h. agree y (among_right y (free p) (free q) h)))
  lower_means (Rel.join p q ps) m ports once d k names u s l each agree =
      let a = lower p ports once d k in
      let b = lower q ports once d (k + length a.made) in
      join_claim ps once q (is_lookup q once) refl ports (k + length a.made + length b.made) d (k + length a.made) a.gives u (meaning p names) names (last_two k a.made b.made _ s) l
      (lower_means p m.0 ports once d k names u (stands_left g k a.made _ s) l (λ y h. each y (among_left y (needed p) (cond (looked_up q) [] (needed q)) h)) (λ y h. agree y (among_left y (free p) (free q) h)))
      (λ n. lower_means q m.1 ports once d (k + length a.made) names u (stands_left g (k + length a.made) b.made _ (stands_right g k a.made _ s)) l n (λ y h. agree y (among_right y (free p) (free q) h)))
      (λ y h. each y (among_right y (needed p) (cond (looked_up q) [] (needed q)) h)) (λ y h. agree y (among_right y (free p) (free q) h))
  lower_means (Rel.group r ks as') m ports once d k names u s l each agree =
      let a = lower r ports once d k in
      let at : IsAt g (k + length a.made) (new_vertex (Kind.group ks as') d (a.gives ∷ [])) = last_one k a.made _ s in
      one_claim (grouped ks as') (grouped_same ks as') (k + length a.made) d (Kind.group ks as') a.gives u (meaning r names) at l (out_at g inputs f flow (k + length a.made) 0 _ u at)
      (lower_means r m ports once d k names u (stands_left g k a.made _ s) l each agree)
  lower_means (Rel.distinct r) m ports once d k names u s l each agree =
      let a = lower r ports once d k in
      let at : IsAt g (k + length a.made) (new_vertex Kind.distinct d (a.gives ∷ [])) = last_one k a.made _ s in
      one_claim each_once distinct_same (k + length a.made) d Kind.distinct a.gives u (meaning r names) at l (out_at g inputs f flow (k + length a.made) 0 _ u at)
      (lower_means r m ports once d k names u (stands_left g k a.made _ s) l each agree)
  lower_means (Rel.except p q) m ports once d k names u s l each agree =
      let a = lower p ports once d k in
      let b = lower q ports once d (k + length a.made) in
      let at : IsAt g (k + length a.made + length b.made) (new_vertex Kind.except d (a.gives ∷ b.gives ∷ [])) = last_two k a.made b.made _ s in
      two_claim only_left only_left_same (k + length a.made + length b.made) d Kind.except a.gives b.gives u (meaning p names) (meaning q names) at l (out_at g inputs f flow (k + length a.made + length b.made) 0 _ u at)
      (lower_means p m.0 ports once d k names u (stands_left g k a.made _ s) l (λ y h. each y (among_left y (needed p) (needed q) h)) (λ y h. agree y (among_left y (free p) (free q) h)))
      (lower_means q m.1 ports once d (k + length a.made) names u (stands_left g (k + length a.made) b.made _ (stands_right g k a.made _ s)) l (λ y h. each y (among_right y (needed p) (needed q) h)) (λ y h. agree y (among_right y (free p) (free q) h)))
  lower_means (Rel.intersect p q) m ports once d k names u s l each agree =
      let a = lower p ports once d k in
      let b = lower q ports once d (k + length a.made) in
      let at : IsAt g (k + length a.made + length b.made) (new_vertex Kind.intersect d (a.gives ∷ b.gives ∷ [])) = last_two k a.made b.made _ s in
      two_claim in_both in_both_same (k + length a.made + length b.made) d Kind.intersect a.gives b.gives u (meaning p names) (meaning q names) at l (out_at g inputs f flow (k + length a.made + length b.made) 0 _ u at)
      (lower_means p m.0 ports once d k names u (stands_left g k a.made _ s) l (λ y h. each y (among_left y (needed p) (needed q) h)) (λ y h. agree y (among_left y (free p) (free q) h)))
      (lower_means q m.1 ports once d (k + length a.made) names u (stands_left g (k + length a.made) b.made _ (stands_right g k a.made _ s)) l (λ y h. each y (among_right y (needed p) (needed q) h)) (λ y h. agree y (among_right y (free p) (free q) h)))
  lower_means (Rel.loop sort n x r b) m ports once d k names u s l each agree =
      loop_claim sort n x r b m.0 (lower_means r m.1) (lower_means b m.2) ports once d k names u s l each agree
