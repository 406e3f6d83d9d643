-- A program's graph is wired, and the rank rises along its steps.
use Rattle.std.proofs.Common.{◌≡◌, ℕ, suc, ◌+◌, ◌*◌, ◌-◌, ◌<◌, nat_lt, Bool, true, false, cond, List, [], ◌∷◌, ◌++◌, map, length, refl, sym, ap, subst, ◌∙◌, arith, length-append, ltb-true}
use Rattle.std.specs.List.{AllByRecursion}
use Rattle.semantics.specs.Flow.{Inputs, HasOneFlow}
use Rattle.semantics.specs.Dataflow.{IsDataflow, IsWired, Goes, IsNested}
use Rattle.semantics.specs.Kinds.{action}
use Rattle.semantics.specs.Graph.{Graph, vertex, source}
use Rattle.semantics.specs.Rank.{woven}
use Rattle.semantics.proofs.OneFlow.{one_flow, vertex_rank, edge_rank, Rises, lex_head, lex_tail, woven_lower}
use Rattle.semantics.specs.Time.{Time, last_from, front_from, last, deeper, outer, in_first_turn, turn_count, below, Action, times_before, is_before}

-- ---- single steps

-- after the same loop at the same turn
pub lex_behind : (x c : ℕ) (xs ys : List ℕ) → is_before xs ys ≡ true → is_before (x ∷ c ∷ xs) (x ∷ c ∷ ys) ≡ true
lex_behind x c xs ys h = lex_tail x x (c ∷ xs) (c ∷ ys) refl (lex_tail c c xs ys refl h)

-- out of a loop, for each counter
pub leave_rank : (es cs : List ℕ) (v w c : ℕ) → length cs ≡ length es → v < w → is_before (woven (es ++ (v ∷ [])) (cs ++ (c ∷ [])) (2 * v + 1)) (woven es cs (2 * w)) ≡ true
leave_rank [] [] v w c l h = lex_head (2 * v + 1) (2 * w) (c ∷ (2 * v + 1) ∷ []) [] (omega arith)
leave_rank [] (d ∷ ds) v w c l h = absurd (omega arith)
leave_rank (e ∷ es) [] v w c l h = absurd (omega arith)
leave_rank (e ∷ es) (d ∷ ds) v w c l h = lex_behind (2 * e + 1) d (woven (es ++ (v ∷ [])) (ds ++ (c ∷ [])) (2 * v + 1)) (woven es ds (2 * w)) (leave_rank es ds v w c (omega arith) h)

-- into a loop
enter_rank : (es cs : List ℕ) (b v e p : ℕ) → length cs ≡ length es → v < e → is_before (woven es (front_from b cs) (2 * v + 1)) (woven (es ++ (e ∷ [])) (b ∷ cs) p) ≡ true
enter_rank [] [] b v e p l h = lex_head (2 * v + 1) (2 * e + 1) [] (b ∷ p ∷ []) (omega arith)
enter_rank [] (d ∷ ds) b v e p l h = absurd (omega arith)
enter_rank (x ∷ es) [] b v e p l h = absurd (omega arith)
enter_rank (x ∷ es) (d ∷ ds) b v e p l h = lex_behind (2 * x + 1) b (woven es (front_from d ds) (2 * v + 1)) (woven (es ++ (e ∷ [])) (d ∷ ds) p) (enter_rank es ds d v e p (omega arith) h)

-- to a loop's next turn: the last counter rises
next_rank : (x : ℕ) (es cs : List ℕ) (b p q : ℕ) → length cs ≡ length es → 0 < last_from b cs → is_before (woven (x ∷ es) (front_from b cs ++ ((last_from b cs - 1) ∷ [])) p) (woven (x ∷ es) (b ∷ cs) q) ≡ true
next_rank x [] [] b p q l h = lex_tail (2 * x + 1) (2 * x + 1) ((b - 1) ∷ p ∷ []) (b ∷ q ∷ []) refl (lex_head (b - 1) b (p ∷ []) (q ∷ []) (omega arith))
next_rank x [] (d ∷ ds) b p q l h = absurd (omega arith)
next_rank x (y ∷ es) [] b p q l h = absurd (omega arith)
next_rank x (y ∷ es) (d ∷ ds) b p q l h = lex_behind (2 * x + 1) b (woven (y ∷ es) (front_from d ds ++ ((last_from d ds - 1) ∷ [])) p) (woven (y ∷ es) (d ∷ ds) q) (next_rank y es ds d p q (omega arith) h)

length-front_from : (b : ℕ) (cs : List ℕ) → length (front_from b cs) ≡ length cs
length-front_from b [] = refl
length-front_from b (c ∷ cs) = ap suc (length-front_from c cs)

all_map : (P : Time → Type 0) (h : ℕ → Time) → ((c : ℕ) → P (h c)) → (cs : List ℕ) → AllByRecursion P (map h cs)
all_map P h k [] = tt
all_map P h k (c ∷ cs) = (k c, all_map P h k cs)

all_cond : (P : Time → Type 0) (b : Bool) (t : Time) → (b ≡ true → P t) → AllByRecursion P (cond b (t ∷ []) [])
all_cond P true t h = (h refl, tt)
all_cond P false t h = tt

-- what a step does to ranks
abbrev pub StepRises : (ℕ → List ℕ) → ℕ → ℕ → Time → Time → Type 0
StepRises loops v w u t = (length t.counters ≡ length (loops v)) × (is_before (vertex_rank loops v t) (edge_rank loops w u) ≡ true)

-- the same epoch
pub lex_epoch : (u : ℕ) (xs ys : List ℕ) → is_before xs ys ≡ true → is_before (u ∷ xs) (u ∷ ys) ≡ true
lex_epoch u xs ys h = lex_tail u u xs ys refl h

-- into a loop and to its next turn, in terms of the counters
enter_times : (loops : ℕ → List ℕ) (v w e : ℕ) → loops w ≡ loops v ++ (e ∷ []) → v < e → (ep : ℕ) (cs : List ℕ) → length cs ≡ length (loops w) → StepRises loops v w (record { epoch = ep; counters = cs }) (outer (record { epoch = ep; counters = cs }))
enter_times loops v w e q h ep [] l = absurd (omega (arith, ap length q, length-append (loops v) (e ∷ [])))
enter_times loops v w e q h ep (c ∷ cs) l =
    let n : length cs ≡ length (loops v) = omega (arith, ap length q, length-append (loops v) (e ∷ [])) in (
      length-front_from c cs ∙ n,
      lex_epoch ep (woven (loops v) (front_from c cs) (2 * v + 1)) (woven (loops w) (c ∷ cs) (2 * w))
          (subst (λ es. is_before (woven (loops v) (front_from c cs) (2 * v + 1)) (woven es (c ∷ cs) (2 * w)) ≡ true) (sym q) (enter_rank (loops v) cs c v e (2 * w) n h)),
    )

next_times : (loops : ℕ → List ℕ) (v w : ℕ) → (es : List ℕ) → loops v ≡ es → loops w ≡ es → 0 < length es → (ep : ℕ) (cs : List ℕ) → length cs ≡ length es → 0 < last cs → StepRises loops v w (record { epoch = ep; counters = cs }) (deeper (outer (record { epoch = ep; counters = cs })) (last cs - 1))
next_times loops v w [] q q' h ep cs l k = absurd (omega arith)
next_times loops v w (x ∷ es) q q' h ep [] l k = absurd (omega arith)
next_times loops v w (x ∷ es) q q' h ep (c ∷ cs) l k = (
  omega (arith, length-append (front_from c cs) ((last_from c cs - 1) ∷ []), length-front_from c cs, ap length q),
  lex_epoch ep (woven (loops v) (front_from c cs ++ ((last_from c cs - 1) ∷ [])) (2 * v + 1)) (woven (loops w) (c ∷ cs) (2 * w))
      (subst (λ as'. is_before (woven as' (front_from c cs ++ ((last_from c cs - 1) ∷ [])) (2 * v + 1)) (woven (loops w) (c ∷ cs) (2 * w)) ≡ true) (sym q)
      (subst (λ as'. is_before (woven (x ∷ es) (front_from c cs ++ ((last_from c cs - 1) ∷ [])) (2 * v + 1)) (woven as' (c ∷ cs) (2 * w)) ≡ true) (sym q')
      (next_rank x es cs c (2 * v + 1) (2 * w) (omega arith) k))),
)

pub step_rises : (loops : ℕ → List ℕ) (v w : ℕ) (a : Action) → Goes loops v w a → (u : Time) → length u.counters ≡ length (loops w) → AllByRecursion (StepRises loops v w u) (times_before a u)
step_rises loops v w a (Goes.same_loop e h) u l = ((l ∙ ap length e, lex_epoch u.epoch (woven (loops v) u.counters (2 * v + 1)) (woven (loops w) u.counters (2 * w)) (subst (λ es. is_before (woven (loops v) u.counters (2 * v + 1)) (woven es u.counters (2 * w)) ≡ true) (sym e) (woven_lower (loops v) u.counters (2 * v + 1) (2 * w) (omega arith)))), tt)
step_rises loops v w a (Goes.into_loop e q h) u l = all_cond (StepRises loops v w u) (in_first_turn u.counters) (outer u) (λ k. enter_times loops v w e q h u.epoch u.counters l)
step_rises loops v w a (Goes.out_of_loop e h) u l = all_map (StepRises loops v w u) (deeper u) (λ c. (
  omega (arith, length-append u.counters (c ∷ []), l, ap length e, length-append (loops w) (v ∷ [])),
  lex_epoch u.epoch (woven (loops v) (u.counters ++ (c ∷ [])) (2 * v + 1)) (woven (loops w) u.counters (2 * w)) (subst (λ es. is_before (woven es (u.counters ++ (c ∷ [])) (2 * v + 1)) (woven (loops w) u.counters (2 * w)) ≡ true) (sym e) (leave_rank (loops w) u.counters v w c l h)),
)) (below turn_count)
step_rises loops v w a (Goes.round_loop e h) u l = all_cond (StepRises loops v w u) (nat_lt 0 (last u.counters)) (deeper (outer u) (last u.counters - 1)) (λ k. next_times loops v w (loops v) refl e h u.epoch u.counters (l ∙ ap length e) (ltb-true 0 (last u.counters) k))

pub rises_from_nested : (g : Graph) (loops : ℕ → List ℕ) → IsNested g loops → IsWired g → Rises g loops
rises_from_nested g loops nested wired = record {
  steps = λ w i u p.
      let v = (source g w i).vertex in
      subst (λ n. AllByRecursion (λ t. (length t.counters ≡ n) × (is_before (vertex_rank loops v t) (edge_rank loops w u) ≡ true)) (times_before (action (vertex g v).kind) u))
      (nested.homes v (wired.fed w i p.is_vertex p.is_port))
      (step_rises loops v w (action (vertex g v).kind) (nested.goes w i p.is_vertex p.is_port) u (p.has_depth ∙ sym (nested.homes w p.is_vertex)));
  homes = nested.homes;
}

-- each dataflow graph has one flow
pub dataflow_one_flow : (g : Graph) → IsDataflow g → (inputs : Inputs) → HasOneFlow g inputs
dataflow_one_flow g d inputs = one_flow g d.loops d.wired (rises_from_nested g d.loops d.nested d.wired) inputs
