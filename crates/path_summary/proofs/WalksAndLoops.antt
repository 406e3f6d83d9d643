-- How a walk's summary is related to the loops around its ends. So two summaries of walks between the same two vertices are ordered as the counters
-- to which they take the first turns of all loops.
use Rattle.std.proofs.Common.{◌≡◌, ◌⊎◌, inl, inr, ℕ, zero, suc, ◌+◌, ◌*◌, ◌-◌, ◌≤◌, ◌<◌, nat_lt, nat_eq, Bool, true, cond, ◌&&◌, ◌||◌, List, [], ◌∷◌, ◌++◌, length, slice_index_or, refl, sym, ap, subst, ◌∙◌, arith, length-append}
use Rattle.std.proofs.lemmas.Bool.Decides.{nat_tests}
use Rattle.std.proofs.lemmas.List.{get_or_past, get_or_default}
use Rattle.semantics.specs.Dataflow.{Goes}
use Rattle.semantics.specs.Time.{Time, Action, is_before, front, last}
use Rattle.semantics.specs.Rank.{woven}
use Rattle.semantics.specs.Summary.{Summary, left_by, turned_by, then_action}
use Rattle.semantics.proofs.CouldRises.{rise_after}
use Rattle.semantics.proofs.LexicographicOrder.{lex_not_self}
use Rattle.semantics.proofs.OneFlow.{vertex_rank, edge_rank, edge_below, lex_trans}
use Rattle.semantics.proofs.QuietEnds.{length-outer}
use Rattle.semantics.proofs.PathSummaries.{may_take}
use Rattle.path_summary.specs.Order.{Later, in_order}
use Rattle.path_summary.specs.Carried.{kept, carried, counters_after, identity, Sits}
use Rattle.path_summary.specs.Rows.{is_below}
use Rattle.path_summary.proofs.InOrder.{order_cases, order_self, order_later, later_order, later_trans, later_after, after_is}
use Rattle.path_summary.proofs.Carrying.{below_from, fewer_kept, carried_then, length-carried}

-- ---- places in lists

index_push : (xs : List ℕ) (y i d : ℕ) → i < length xs → slice_index_or (xs ++ (y ∷ [])) i d ≡ slice_index_or xs i d
index_push [] y i d l = absurd (omega arith)
index_push (x ∷ xs) y zero d l = refl
index_push (x ∷ xs) y (suc i) d l = index_push xs y i d (omega arith)

index_last : (xs : List ℕ) (y i d : ℕ) → i ≡ length xs → slice_index_or (xs ++ (y ∷ [])) i d ≡ y
index_last [] y zero d e = refl
index_last [] y (suc i) d e = absurd (omega arith)
index_last (x ∷ xs) y zero d e = absurd (omega arith)
index_last (x ∷ xs) y (suc i) d e = index_last xs y i d (omega arith)

-- a greater element is beyond the last
index_rises : (xs : List ℕ) (i c d : ℕ) → c < d → slice_index_or xs i c ≤ slice_index_or xs i d
index_rises [] zero c d l = omega arith
index_rises [] (suc i) c d l = omega arith
index_rises (x ∷ xs) zero c d l = omega arith
index_rises (x ∷ xs) (suc i) c d l = index_rises xs i c d l

index_entered : (xs : List ℕ) (e i c d : ℕ) → c < e → i ≤ length xs → slice_index_or xs i c ≤ slice_index_or (xs ++ (e ∷ [])) i d
index_entered [] e zero c d l m = omega arith
index_entered [] e (suc i) c d l m = absurd (omega arith)
index_entered (x ∷ xs) e zero c d l m = omega arith
index_entered (x ∷ xs) e (suc i) c d l m = index_entered xs e i c d l (omega arith)

index_left : (xs : List ℕ) (c d i : ℕ) → c < d → i ≤ length xs → slice_index_or (xs ++ (c ∷ [])) i c ≤ slice_index_or xs i d
index_left [] c d zero l m = omega arith
index_left [] c d (suc i) l m = absurd (omega arith)
index_left (x ∷ xs) c d zero l m = omega arith
index_left (x ∷ xs) c d (suc i) l m = index_left xs c d i l (omega arith)

-- ---- loops around the ends of a walk

-- f is the summary of a walk from v to x: the counters that it keeps are those of loops around both; and if it adds nothing to the last of these, x
-- comes after the next loop of v, seen from outside that loop.
pub record Stands (loops : ℕ → List ℕ) (v x : ℕ) (f : Summary) : Type 0 where
  pub long : f.keep + length f.tail ≡ length (loops x)
  pub few : f.keep ≤ length (loops v)
  pub agree : (i : ℕ) → i < f.keep → slice_index_or (loops x) i 0 ≡ slice_index_or (loops v) i 0
  pub still : f.keep ≡ 0 → f.add ≡ 0
  pub past : f.add ≡ 0 → f.keep < length (loops v) → slice_index_or (loops v) f.keep 0 < slice_index_or (loops x) f.keep x

pub stands_home : (loops : ℕ → List ℕ) (v d : ℕ) → length (loops v) ≡ d → Stands loops v v (identity d)
stands_home loops v d e = record {
  long = omega (arith, e);
  few = omega (arith, e);
  agree = λ i h. refl;
  still = λ z. refl;
  past = λ z n. absurd (omega (arith, e));
}

module _ (loops : ℕ → List ℕ) (v y w : ℕ) (f : Summary) (s : Stands loops v y f) where
  stay_on : loops w ≡ loops y → y < w → Stands loops v w f
  stay_on e l = record {
    long = s.long ∙ sym (ap length e);
    few = s.few;
    agree = λ i h. ap (λ (es : List ℕ). slice_index_or es i 0) e ∙ s.agree i h;
    still = s.still;
    past = λ z n.
        let a = s.past z n in
        let b = index_rises (loops y) f.keep y w l in
        let c : slice_index_or (loops w) f.keep w ≡ slice_index_or (loops y) f.keep w = ap (λ (es : List ℕ). slice_index_or es f.keep w) e in
        omega arith;
  }

  enter_on : (e : ℕ) → loops w ≡ loops y ++ (e ∷ []) → y < e → Stands loops v w (then_action Action.enter f)
  enter_on e q l = record {
    long = omega (arith, length-append f.tail (0 ∷ []), s.long, ap length q, length-append (loops y) (e ∷ []));
    few = s.few;
    agree = λ i h. ap (λ (es : List ℕ). slice_index_or es i 0) q ∙ index_push (loops y) e i 0 (omega (arith, s.long)) ∙ s.agree i h;
    still = s.still;
    past = λ z n.
        let a = s.past z n in
        let b = index_entered (loops y) e f.keep y w l (omega (arith, s.long)) in
        let c : slice_index_or (loops w) f.keep w ≡ slice_index_or (loops y ++ (e ∷ [])) f.keep w = ap (λ (es : List ℕ). slice_index_or es f.keep w) q in
        omega arith;
  }

  leave_on : loops y ≡ loops w ++ (y ∷ []) → y < w → (tail : List ℕ) → f.tail ≡ tail → Stands loops v w (left_by tail f)
  leave_on q l [] t =
      let n : f.keep ≡ suc (length (loops w)) = omega (arith, s.long, ap length t, ap length q, length-append (loops w) (y ∷ [])) in
      record {
        long = omega (arith, n);
        few = omega (arith, s.few);
        agree = λ i h.
            sym (index_push (loops w) y i 0 (omega (arith, n))) ∙ ap (λ (es : List ℕ). slice_index_or es i 0) (sym q)
            ∙ s.agree i (omega arith);
        still = λ z. refl;
        past = λ z m.
            let a : slice_index_or (loops y) (f.keep - 1) 0 ≡ slice_index_or (loops v) (f.keep - 1) 0 = s.agree (f.keep - 1) (omega (arith, n)) in
            let b : slice_index_or (loops y) (f.keep - 1) 0 ≡ y = ap (λ (es : List ℕ). slice_index_or es (f.keep - 1) 0) q ∙ index_last (loops w) y (f.keep - 1) 0 (omega (arith, n)) in
            let c : slice_index_or (loops w) (f.keep - 1) w ≡ w = get_or_past (loops w) (f.keep - 1) w (omega (arith, n)) in
            omega arith;
      }
  leave_on q l (c ∷ cs) t =
      let n : f.keep + length cs ≡ length (loops w) = omega (arith, s.long, ap length t, ap length q, length-append (loops w) (y ∷ [])) in
      record {
        long = omega (arith, n, length-outer (length cs) (c ∷ cs) refl);
        few = s.few;
        agree = λ i h.
            sym (index_push (loops w) y i 0 (omega (arith, n))) ∙ ap (λ (es : List ℕ). slice_index_or es i 0) (sym q)
            ∙ s.agree i h;
        still = s.still;
        past = λ z m.
            let a = s.past z m in
            let b = index_left (loops w) y w f.keep l (omega (arith, n)) in
            let d : slice_index_or (loops y) f.keep y ≡ slice_index_or (loops w ++ (y ∷ [])) f.keep y = ap (λ (es : List ℕ). slice_index_or es f.keep y) q in
            omega arith;
      }

  turn_on : loops w ≡ loops y → 0 < length (loops y) → (tail : List ℕ) → f.tail ≡ tail → Stands loops v w (turned_by tail f)
  turn_on e p [] t = record {
    long = omega (arith, s.long, ap length e);
    few = s.few;
    agree = λ i h. ap (λ (es : List ℕ). slice_index_or es i 0) e ∙ s.agree i h;
    still = λ z. absurd (omega (arith, s.long, ap length t));
    past = λ z n. absurd (omega arith);
  }
  turn_on e p (c ∷ cs) t = record {
    long = omega (arith, s.long, ap length e, ap length t, length-append (front (c ∷ cs)) (suc (last (c ∷ cs)) ∷ []), length-outer (length cs) (c ∷ cs) refl);
    few = s.few;
    agree = λ i h. ap (λ (es : List ℕ). slice_index_or es i 0) e ∙ s.agree i h;
    still = s.still;
    past = λ z n.
        let a = s.past z n in
        let b = get_or_default (loops y) f.keep y w (omega (arith, s.long, ap length t)) in
        let d : slice_index_or (loops w) f.keep w ≡ slice_index_or (loops y) f.keep w = ap (λ (es : List ℕ). slice_index_or es f.keep w) e in
        omega arith;
  }

pub stands_over : (loops : ℕ → List ℕ) (v y w : ℕ) (a : Action) → Goes loops y w a → (f : Summary) → Stands loops v y f → Stands loops v w (then_action a f)
stands_over loops v y w a (Goes.same_loop e l) f s = stay_on loops v y w f s e l
stands_over loops v y w a (Goes.into_loop e q l) f s = enter_on loops v y w f s e q l
stands_over loops v y w a (Goes.out_of_loop q l) f s = leave_on loops v y w f s q l f.tail refl
stands_over loops v y w a (Goes.round_loop e p) f s = turn_on loops v y w f s e p f.tail refl

-- a summary that keeps fewer adds something
pub fewer_adds : (loops : ℕ → List ℕ) (v x : ℕ) (f h : Summary) → Stands loops v x f → Stands loops v x h → h.keep < f.keep → 0 < h.add
fewer_adds loops v x f h s t l = go h.add refl
  where
    go : (n : ℕ) → h.add ≡ n → 0 < n
    go zero e =
        let a = t.past e (omega (arith, s.few)) in
        let b = s.agree h.keep l in
        let c = get_or_default (loops x) h.keep x 0 (omega (arith, s.long)) in
        absurd (omega arith)
    go (suc n) e = omega arith

-- ---- from the first turns

-- the first turn of each of that many loops
abbrev pub zeros : ℕ → List ℕ
zeros zero = []
zeros (suc d) = 0 ∷ zeros d

pub length-zeros : (d : ℕ) → length (zeros d) ≡ d
length-zeros zero = refl
length-zeros (suc d) = ap suc (length-zeros d)

pub order_trans : (as' bs cs : List ℕ) → in_order as' bs ≡ true → in_order bs cs ≡ true → in_order as' cs ≡ true
order_trans as' bs cs h k = later_order as' cs (later_trans as' bs cs (order_later as' bs h) (order_later bs cs k))

order_total : (cs ds : List ℕ) → (in_order cs ds ≡ true) ⊎ (in_order ds cs ≡ true)
order_total [] ds = inl refl
order_total (c ∷ cs) [] = inr refl
order_total (c ∷ cs) (d ∷ ds) = go (order_total cs ds)
  where
    go : (in_order cs ds ≡ true) ⊎ (in_order ds cs ≡ true) → ((nat_lt c d || (nat_eq c d && in_order cs ds)) ≡ true) ⊎ ((nat_lt d c || (nat_eq d c && in_order ds cs)) ≡ true)
    go (inl a) = grind (arith, nat_tests)
    go (inr a) = grind (arith, nat_tests)

-- after an equal counter
order_behind : (c : ℕ) (r : Bool) → (nat_lt c c || (nat_eq c c && r)) ≡ true → r ≡ true
order_behind c r h = grind (arith, nat_tests)

-- summaries that keep the same number
same_kept : (k i j d : ℕ) (as' bs : List ℕ) → k ≤ d → (k ≡ 0 → i ≡ 0) → (k ≡ 0 → j ≡ 0) → in_order (kept k i (zeros d) ++ as') (kept k j (zeros d) ++ bs) ≡ true → (nat_lt i j || (nat_eq i j && in_order as' bs)) ≡ true
same_kept zero i j d as' bs l p q h = let a = p refl in let b = q refl in grind (arith, nat_tests)
same_kept (suc k) i j zero as' bs l p q h = absurd (omega arith)
same_kept (suc zero) i j (suc d) as' bs l p q h = go (order_cases (0 + i) (0 + j) (in_order as' bs) h)
  where
    go : (0 + i < 0 + j) ⊎ ((0 + i ≡ 0 + j) × (in_order as' bs ≡ true)) → (nat_lt i j || (nat_eq i j && in_order as' bs)) ≡ true
    go (inl a) = let b : i < j = omega arith in grind (arith, nat_tests)
    go (inr a) = let b : i ≡ j = omega (arith, a.0) in let c = a.1 in grind (arith, nat_tests)
same_kept (suc (suc k)) i j (suc d) as' bs l p q h = same_kept (suc k) i j d as' bs (omega arith) (λ z. absurd (omega arith)) (λ z. absurd (omega arith)) (order_behind 0 (in_order (kept (suc k) i (zeros d) ++ as') (kept (suc k) j (zeros d) ++ bs)) h)

kept_apart : (m k i j d : ℕ) (as' bs : List ℕ) → m ≤ d → (k ≡ 0 → j ≡ 0) → k < m → 0 < j → is_before (kept m i (zeros d) ++ as') (kept k j (zeros d) ++ bs) ≡ true
kept_apart zero k i j d as' bs l z h n = absurd (omega arith)
kept_apart (suc m) zero i j d as' bs l z h n = let e = z refl in absurd (omega arith)
kept_apart (suc m) (suc k) i j d as' bs l z h n = fewer_kept k m i j as' bs (zeros d) (omega (arith, length-zeros d)) (omega arith) n

module _ (loops : ℕ → List ℕ) (v x : ℕ) where
  abbrev depth : ℕ
  depth = length (loops v)

  -- the counters to which a summary takes the first turns
  abbrev pub start : Summary → List ℕ
  start f = carried f (zeros (length (loops v)))

  pub sits : (f : Summary) → Stands loops v x f → Sits (length (zeros (length (loops v)))) f
  sits f s = record { short = omega (arith, s.few, length-zeros (length (loops v))); still = s.still }

  pub length-start : (f : Summary) → Stands loops v x f → length (start f) ≡ length (loops x)
  length-start f s = length-carried f (zeros (length (loops v))) (omega (arith, s.few, length-zeros (length (loops v)))) ∙ s.long

  -- the test of two summaries is the test of these counters
  pub below_start : (f h : Summary) → Stands loops v x f → Stands loops v x h → is_below f h ≡ true → in_order (start f) (start h) ≡ true
  below_start f h s t b = later_order (start f) (start h) ((below_from (length (zeros (length (loops v)))) f h (sits f s) (sits h t) b).at (zeros (length (loops v))) refl)

  pub start_below : (f h : Summary) → Stands loops v x f → Stands loops v x h → in_order (start f) (start h) ≡ true → is_below f h ≡ true
  start_below f h s t o = go cases
    where
      cases : (f.keep < h.keep) ⊎ ((f.keep ≡ h.keep) ⊎ (h.keep < f.keep))
      cases = grind arith

      told : f.keep ≡ h.keep → (nat_lt f.add h.add || (nat_eq f.add h.add && in_order f.tail h.tail)) ≡ true → cond (nat_eq f.keep h.keep) (nat_lt f.add h.add || (nat_eq f.add h.add && in_order f.tail h.tail)) (nat_lt h.keep f.keep && nat_lt 0 h.add) ≡ true
      told e b = grind (arith, nat_tests)

      fewer : h.keep < f.keep → 0 < h.add → cond (nat_eq f.keep h.keep) (nat_lt f.add h.add || (nat_eq f.add h.add && in_order f.tail h.tail)) (nat_lt h.keep f.keep && nat_lt 0 h.add) ≡ true
      fewer l n = grind (arith, nat_tests)

      never : is_before (start h) (start f) ≡ true → Later (start f) (start h) → ⊥
      never a (inl e) = lex_not_self (start h) (subst (λ (cs : List ℕ). is_before (start h) cs ≡ true) e a)
      never a (inr b) = lex_not_self (start h) (lex_trans (start h) (start f) (start h) a b)

      go : (f.keep < h.keep) ⊎ ((f.keep ≡ h.keep) ⊎ (h.keep < f.keep)) → is_below f h ≡ true
      go (inl l) = absurd (never (kept_apart h.keep f.keep h.add f.add (length (loops v)) h.tail f.tail t.few s.still l (fewer_adds loops v x h f t s l)) (order_later (start f) (start h) o))
      go (inr (inl e)) = told e (same_kept f.keep f.add h.add (length (loops v)) f.tail h.tail s.few s.still (λ z. t.still (sym e ∙ z))
          (subst (λ n. in_order (start f) (kept n h.add (zeros (length (loops v))) ++ h.tail) ≡ true) (sym e) o))
      go (inr (inr l)) = fewer l (fewer_adds loops v x f h s t l)

  pub below_total : (f h : Summary) → Stands loops v x f → Stands loops v x h → (is_below f h ≡ true) ⊎ (is_below h f ≡ true)
  below_total f h s t = go (order_total (start f) (start h))
    where
      go : (in_order (start f) (start h) ≡ true) ⊎ (in_order (start h) (start f) ≡ true) → (is_below f h ≡ true) ⊎ (is_below h f ≡ true)
      go (inl a) = inl (start_below f h s t a)
      go (inr a) = inr (start_below h f t s a)

  pub below_trans : (f h k : Summary) → Stands loops v x f → Stands loops v x h → Stands loops v x k → is_below f h ≡ true → is_below h k ≡ true → is_below f k ≡ true
  below_trans f h k s t u a b = start_below f k s u (order_trans (start f) (start h) (start k) (below_start f h s t a) (below_start h k t u b))

  -- an action keeps the order
  pub below_after : (y : ℕ) (a : Action) → Goes loops x y a → (f h : Summary) → Stands loops v x f → Stands loops v x h → is_below f h ≡ true → in_order (start (then_action a f)) (start (then_action a h)) ≡ true
  below_after y a g f h s t b =
      let cs = zeros (length (loops v)) in
      later_order (start (then_action a f)) (start (then_action a h))
      (subst (λ (z : List ℕ). Later z (start (then_action a h))) (sym (carried_then a f cs (sits f s) (may_take loops x y a g f s.long)))
      (subst (λ (z : List ℕ). Later (counters_after a (start f)) z) (sym (carried_then a h cs (sits h t) (may_take loops x y a g h t.long)))
      (later_after a (start f) (start h) (length-start f s ∙ sym (length-start h t)) (order_later (start f) (start h) (below_start f h s t b)))))

-- ---- ranks

module _ (loops : ℕ → List ℕ) (v : ℕ) where
  -- the rank of a vertex at the counters to which a summary takes the first turns
  abbrev pub rank_from : ℕ → Summary → List ℕ
  rank_from x f = vertex_rank loops x (record { epoch = 0; counters = carried f (zeros (length (loops v))) })

  pub rank_over : (y w : ℕ) (a : Action) → Goes loops y w a → (f : Summary) → Stands loops v y f → in_order (rank_from y f) (rank_from w (then_action a f)) ≡ true
  rank_over y w a g f s =
      let cs = zeros (length (loops v)) in
      let t : Time = record { epoch = 0; counters = carried f cs } in
      let u : Time = record { epoch = 0; counters = counters_after a (carried f cs) } in
      let up : is_before (vertex_rank loops y t) (edge_rank loops w u) ≡ true = subst (λ (z : Time). is_before (vertex_rank loops y t) (edge_rank loops w z) ≡ true) (after_is a t) (rise_after loops y w a g t (length-start loops v y f s)) in
      let on : is_before (vertex_rank loops y t) (vertex_rank loops w u) ≡ true = lex_trans (vertex_rank loops y t) (edge_rank loops w u) (vertex_rank loops w u) up (edge_below loops w u) in
      later_order (rank_from y f) (rank_from w (then_action a f))
      (subst (λ (z : List ℕ). Later (rank_from y f) (vertex_rank loops w (record { epoch = 0; counters = z }))) (sym (carried_then a f cs (sits loops v y f s) (may_take loops y w a g f s.long))) (inr on))

  woven_order : (es cs ds : List ℕ) (p : ℕ) → length cs ≡ length es → length ds ≡ length es → in_order (woven es cs p) (woven es ds p) ≡ true → in_order cs ds ≡ true
  woven_order [] [] [] p l m h = refl
  woven_order [] [] (d ∷ ds) p l m h = absurd (omega arith)
  woven_order [] (c ∷ cs) ds p l m h = absurd (omega arith)
  woven_order (e ∷ es) [] ds p l m h = absurd (omega arith)
  woven_order (e ∷ es) (c ∷ cs) [] p l m h = absurd (omega arith)
  woven_order (e ∷ es) (c ∷ cs) (d ∷ ds) p l m h = go (order_cases (2 * e + 1) (2 * e + 1) (in_order (c ∷ woven es cs p) (d ∷ woven es ds p)) h) (woven_order es cs ds p (omega arith) (omega arith))
    where
      more : (c < d) ⊎ ((c ≡ d) × (in_order (woven es cs p) (woven es ds p) ≡ true)) → (in_order (woven es cs p) (woven es ds p) ≡ true → in_order cs ds ≡ true) → (nat_lt c d || (nat_eq c d && in_order cs ds)) ≡ true
      more (inl a) ih = grind (arith, nat_tests)
      more (inr a) ih = let b = a.0 in let c' = ih a.1 in grind (arith, nat_tests)

      go : (2 * e + 1 < 2 * e + 1) ⊎ ((2 * e + 1 ≡ 2 * e + 1) × (in_order (c ∷ woven es cs p) (d ∷ woven es ds p) ≡ true)) → (in_order (woven es cs p) (woven es ds p) ≡ true → in_order cs ds ≡ true) → (nat_lt c d || (nat_eq c d && in_order cs ds)) ≡ true
      go (inl a) ih = absurd (omega arith)
      go (inr a) ih = more (order_cases c d (in_order (woven es cs p) (woven es ds p)) a.1) ih

  -- at one vertex, ranks are ordered as the counters
  pub rank_start : (x : ℕ) (f h : Summary) → Stands loops v x f → Stands loops v x h → in_order (rank_from x f) (rank_from x h) ≡ true → is_below f h ≡ true
  rank_start x f h s t o =
      start_below loops v x f h s t
      (woven_order (loops x) (start loops v x f) (start loops v x h) (2 * x + 1) (length-start loops v x f s) (length-start loops v x h t)
      (order_behind 0 (in_order (woven (loops x) (start loops v x f) (2 * x + 1)) (woven (loops x) (start loops v x h) (2 * x + 1))) o))

  pub rank_self : (x : ℕ) (f : Summary) → in_order (rank_from x f) (rank_from x f) ≡ true
  rank_self x f = order_self (rank_from x f)
