-- Paths keep depths and the order of times, and the rank rises along them.
use Rattle.std.proofs.Common.{◌≡◌, ℕ, zero, suc, ◌+◌, ◌*◌, ◌≤◌, ◌<◌, nat_le, true, false, List, [], ◌∷◌, ◌++◌, length, refl, sym, ap, ap₂, subst, ◌∙◌, arith, le-leb, length-append, inl, inr, ◌⊎◌}
use Rattle.std.proofs.lemmas.Bool.{and_from, true≢false}
use mathlib.Core.WellFounded.{Acc}
use Rattle.semantics.specs.Could.{at_vertex, IsTimeAt, PathStep, step_edge, step_from, step_to, step_time, IsPath, path_time, CouldResultIn, Location, Pointstamp}
use Rattle.semantics.specs.Dataflow.{IsDataflow, IsWired, Goes, IsNested}
use Rattle.semantics.specs.Graph.{edge_count, target, in_port, edge_source, Graph, vertex}
use Rattle.semantics.specs.Kinds.{action}
use Rattle.semantics.specs.Rank.{woven, rank}
use Rattle.semantics.specs.Time.{at_epoch, Time, last_from, front_from, last, front, Action, after_action, is_before, IsAtMost}
use Rattle.semantics.proofs.EdgeNumbers.{entered}
use Rattle.semantics.proofs.OneFlow.{vertex_rank, edge_rank, longest_rank, lex_head, lex_tail, lex_trans, woven_lower, edge_below, length-woven}
use Rattle.semantics.proofs.LexicographicOrder.{lex_not_self, lex_cases, Under, under_well_founded}
use Rattle.semantics.proofs.QuietEnds.{turn_of, length-outer}
use Rattle.semantics.proofs.RankRises.{lex_behind, leave_rank, lex_epoch}

-- ---- actions keep the order of times

lex_push : (cs ds xs ys : List ℕ) → length cs ≡ length ds → is_before cs ds ≡ true → is_before (cs ++ xs) (ds ++ ys) ≡ true
lex_push [] [] xs ys l h = absurd (true≢false (sym h))
lex_push [] (d ∷ ds) xs ys l h = absurd (omega arith)
lex_push (c ∷ cs) [] xs ys l h = absurd (omega arith)
lex_push (c ∷ cs) (d ∷ ds) xs ys l h = go (lex_cases c d cs ds h) (lex_push cs ds xs ys (omega arith))
  where
    go : (c < d) ⊎ ((c ≡ d) × (is_before cs ds ≡ true)) → (is_before cs ds ≡ true → is_before (cs ++ xs) (ds ++ ys) ≡ true) → is_before (c ∷ (cs ++ xs)) (d ∷ (ds ++ ys)) ≡ true
    go (inl a) ih = lex_head c d (cs ++ xs) (ds ++ ys) a
    go (inr a) ih = lex_tail c d (cs ++ xs) (ds ++ ys) a.0 (ih a.1)

lex_end : (fs : List ℕ) (a b : ℕ) → a < b → is_before (fs ++ (a ∷ [])) (fs ++ (b ∷ [])) ≡ true
lex_end [] a b h = lex_head a b [] [] h
lex_end (f ∷ fs) a b h = lex_tail f f (fs ++ (a ∷ [])) (fs ++ (b ∷ [])) refl (lex_end fs a b h)

-- the lists without their last elements are in order, or these are equal and the last is smaller
abbrev Shorter : List ℕ → List ℕ → ℕ → ℕ → Type 0
Shorter fs hs a b = (is_before fs hs ≡ true) ⊎ ((fs ≡ hs) × (a < b))

shorter_from : (c d : ℕ) (cs ds : List ℕ) → length cs ≡ length ds → is_before (c ∷ cs) (d ∷ ds) ≡ true → Shorter (front_from c cs) (front_from d ds) (last_from c cs) (last_from d ds)
shorter_from c d [] [] l h = go (lex_cases c d [] [] h)
  where
    go : (c < d) ⊎ ((c ≡ d) × (false ≡ true)) → Shorter [] [] c d
    go (inl a) = inr (refl, a)
    go (inr a) = absurd (true≢false (sym a.1))
shorter_from c d [] (d' ∷ ds) l h = absurd (omega arith)
shorter_from c d (c' ∷ cs) [] l h = absurd (omega arith)
shorter_from c d (c' ∷ cs) (d' ∷ ds) l h = go (lex_cases c d (c' ∷ cs) (d' ∷ ds) h) (shorter_from c' d' cs ds (omega arith))
  where
    more : c ≡ d → Shorter (front_from c' cs) (front_from d' ds) (last_from c' cs) (last_from d' ds) → Shorter (c ∷ front_from c' cs) (d ∷ front_from d' ds) (last_from c' cs) (last_from d' ds)
    more e (inl x) = inl (lex_tail c d (front_from c' cs) (front_from d' ds) e x)
    more e (inr x) = inr (ap₂ (λ a as'. a ∷ as') e x.0, x.1)

    go : (c < d) ⊎ ((c ≡ d) × (is_before (c' ∷ cs) (d' ∷ ds) ≡ true)) → (is_before (c' ∷ cs) (d' ∷ ds) ≡ true → Shorter (front_from c' cs) (front_from d' ds) (last_from c' cs) (last_from d' ds)) → Shorter (c ∷ front_from c' cs) (d ∷ front_from d' ds) (last_from c' cs) (last_from d' ds)
    go (inl a) ih = inl (lex_head c d (front_from c' cs) (front_from d' ds) a)
    go (inr a) ih = more a.0 (ih a.1)

shorter : (cs ds : List ℕ) → length cs ≡ length ds → is_before cs ds ≡ true → Shorter (front cs) (front ds) (last cs) (last ds)
shorter [] [] l h = absurd (true≢false (sym h))
shorter [] (d ∷ ds) l h = absurd (omega arith)
shorter (c ∷ cs) [] l h = absurd (omega arith)
shorter (c ∷ cs) (d ∷ ds) l h = shorter_from c d cs ds (omega arith) h

length_front_same : (cs ds : List ℕ) → length cs ≡ length ds → length (front cs) ≡ length (front ds)
length_front_same [] [] l = refl
length_front_same [] (d ∷ ds) l = absurd (omega arith)
length_front_same (c ∷ cs) [] l = absurd (omega arith)
length_front_same (c ∷ cs) (d ∷ ds) l = length-outer (length cs) (c ∷ cs) refl ∙ (let e : length cs ≡ length ds = omega arith in e) ∙ sym (length-outer (length ds) (d ∷ ds) refl)

abbrev Later : List ℕ → List ℕ → Type 0
Later cs ds = (cs ≡ ds) ⊎ (is_before cs ds ≡ true)

keeps_order : (a : Action) (t u : Time) → length t.counters ≡ length u.counters → Later t.counters u.counters → Later (after_action a t).counters (after_action a u).counters
keeps_order Action.stay t u l h = h
keeps_order Action.enter t u l (inl e) = inl (ap (λ cs. cs ++ (0 ∷ [])) e)
keeps_order Action.enter t u l (inr h) = inr (lex_push t.counters u.counters (0 ∷ []) (0 ∷ []) l h)
keeps_order Action.leave t u l (inl e) = inl (ap front e)
keeps_order Action.leave t u l (inr h) = go (shorter t.counters u.counters l h)
  where
    go : Shorter (front t.counters) (front u.counters) (last t.counters) (last u.counters) → Later (front t.counters) (front u.counters)
    go (inl x) = inr x
    go (inr x) = inl x.0
keeps_order Action.next t u l (inl e) = inl (ap (λ cs. front cs ++ (suc (last cs) ∷ [])) e)
keeps_order Action.next t u l (inr h) = go (shorter t.counters u.counters l h)
  where
    go : Shorter (front t.counters) (front u.counters) (last t.counters) (last u.counters) → Later (front t.counters ++ (suc (last t.counters) ∷ [])) (front u.counters ++ (suc (last u.counters) ∷ []))
    go (inl x) = inr (lex_push (front t.counters) (front u.counters) (suc (last t.counters) ∷ []) (suc (last u.counters) ∷ []) (length_front_same t.counters u.counters l) x)
    go (inr x) = inr (subst (λ fs. is_before (front t.counters ++ (suc (last t.counters) ∷ [])) (fs ++ (suc (last u.counters) ∷ [])) ≡ true) x.0 (lex_end (front t.counters) (suc (last t.counters)) (suc (last u.counters)) (let y = x.1 in omega arith)))

pub same_epoch : (a : Action) (t : Time) → (after_action a t).epoch ≡ t.epoch
same_epoch Action.stay t = refl
same_epoch Action.enter t = refl
same_epoch Action.leave t = refl
same_epoch Action.next t = refl

pub at_most_after : (a : Action) (t u : Time) → length t.counters ≡ length u.counters → IsAtMost t u → IsAtMost (after_action a t) (after_action a u)
at_most_after a t u l h = record { epochs = omega (arith, same_epoch a t, same_epoch a u, h.epochs); counters = keeps_order a t u l h.counters }

pub at_most_refl : (t : Time) → IsAtMost t t
at_most_refl t = record { epochs = omega arith; counters = inl refl }

pub at_most_trans : (t u v : Time) → IsAtMost t u → IsAtMost u v → IsAtMost t v
at_most_trans t u v h k = record { epochs = omega (arith, h.epochs, k.epochs); counters = go h.counters k.counters }
  where
    go : Later t.counters u.counters → Later u.counters v.counters → Later t.counters v.counters
    go (inl a) (inl b) = inl (a ∙ b)
    go (inl a) (inr b) = inr (subst (λ x. is_before x v.counters ≡ true) (sym a) b)
    go (inr a) (inl b) = inr (subst (λ x. is_before t.counters x ≡ true) b a)
    go (inr a) (inr b) = inr (lex_trans t.counters u.counters v.counters a b)

-- ---- an edge's step, forwards: depths and ranks

split_turns : (cs : List ℕ) (d : ℕ) → length cs ≡ suc d → front cs ++ (last cs ∷ []) ≡ cs
split_turns cs d l = ap (λ (t : Time). t.counters) (turn_of d 0 cs l)

pub depth_after : (loops : ℕ → List ℕ) (v w : ℕ) (a : Action) → Goes loops v w a → (t : Time) → length t.counters ≡ length (loops v) → length (after_action a t).counters ≡ length (loops w)
depth_after loops v w a (Goes.same_loop e h) t l = l ∙ sym (ap length e)
depth_after loops v w a (Goes.into_loop e q h) t l = omega (arith, length-append t.counters (0 ∷ []), l, ap length q, length-append (loops v) (e ∷ []))
depth_after loops v w a (Goes.out_of_loop q h) t l = length-outer (length (loops w)) t.counters (omega (arith, l, ap length q, length-append (loops w) (v ∷ [])))
depth_after loops v w a (Goes.round_loop e h) t l = go (length (loops v)) refl
  where
    go : (n : ℕ) → length (loops v) ≡ n → length (front t.counters ++ (suc (last t.counters) ∷ [])) ≡ length (loops w)
    go zero q = absurd (omega arith)
    go (suc d) q = omega (arith, length-append (front t.counters) (suc (last t.counters) ∷ []), length-outer d t.counters (l ∙ q), q, ap length e)

enter_rise : (es cs : List ℕ) (v e q : ℕ) → length cs ≡ length es → v < e → is_before (woven es cs (2 * v + 1)) (woven (es ++ (e ∷ [])) (cs ++ (0 ∷ [])) q) ≡ true
enter_rise [] [] v e q l h = lex_head (2 * v + 1) (2 * e + 1) [] (0 ∷ q ∷ []) (omega arith)
enter_rise [] (c ∷ cs) v e q l h = absurd (omega arith)
enter_rise (x ∷ es) [] v e q l h = absurd (omega arith)
enter_rise (x ∷ es) (c ∷ cs) v e q l h = lex_behind (2 * x + 1) c (woven es cs (2 * v + 1)) (woven (es ++ (e ∷ [])) (cs ++ (0 ∷ [])) q) (enter_rise es cs v e q (omega arith) h)

next_rise : (x : ℕ) (es : List ℕ) (b : ℕ) (cs : List ℕ) (p q : ℕ) → length cs ≡ length es → is_before (woven (x ∷ es) (b ∷ cs) p) (woven (x ∷ es) (front_from b cs ++ (suc (last_from b cs) ∷ [])) q) ≡ true
next_rise x [] b [] p q l = lex_tail (2 * x + 1) (2 * x + 1) (b ∷ p ∷ []) (suc b ∷ q ∷ []) refl (lex_head b (suc b) (p ∷ []) (q ∷ []) (omega arith))
next_rise x [] b (d ∷ ds) p q l = absurd (omega arith)
next_rise x (y ∷ es) b [] p q l = absurd (omega arith)
next_rise x (y ∷ es) b (d ∷ ds) p q l = lex_behind (2 * x + 1) b (woven (y ∷ es) (d ∷ ds) p) (woven (y ∷ es) (front_from d ds ++ (suc (last_from d ds) ∷ [])) q) (next_rise y es d ds p q (omega arith))

next_rise_any : (es cs : List ℕ) (p q : ℕ) → 0 < length es → length cs ≡ length es → is_before (woven es cs p) (woven es (front cs ++ (suc (last cs) ∷ [])) q) ≡ true
next_rise_any [] cs p q h l = absurd (omega arith)
next_rise_any (x ∷ es) [] p q h l = absurd (omega arith)
next_rise_any (x ∷ es) (c ∷ cs) p q h l = next_rise x es c cs p q (omega arith)

pub rise_after : (loops : ℕ → List ℕ) (v w : ℕ) (a : Action) → Goes loops v w a → (t : Time) → length t.counters ≡ length (loops v) → is_before (vertex_rank loops v t) (edge_rank loops w (after_action a t)) ≡ true
rise_after loops v w a (Goes.same_loop e h) t l = lex_epoch t.epoch (woven (loops v) t.counters (2 * v + 1)) (woven (loops w) t.counters (2 * w))
    (subst (λ es. is_before (woven (loops v) t.counters (2 * v + 1)) (woven es t.counters (2 * w)) ≡ true) (sym e) (woven_lower (loops v) t.counters (2 * v + 1) (2 * w) (omega arith)))
rise_after loops v w a (Goes.into_loop e q h) t l = lex_epoch t.epoch (woven (loops v) t.counters (2 * v + 1)) (woven (loops w) (t.counters ++ (0 ∷ [])) (2 * w))
    (subst (λ es. is_before (woven (loops v) t.counters (2 * v + 1)) (woven es (t.counters ++ (0 ∷ [])) (2 * w)) ≡ true) (sym q) (enter_rise (loops v) t.counters v e (2 * w) l h))
rise_after loops v w a (Goes.out_of_loop q h) t l =
    let n : length t.counters ≡ suc (length (loops w)) = omega (arith, l, ap length q, length-append (loops w) (v ∷ [])) in
    let m : length (front t.counters) ≡ length (loops w) = length-outer (length (loops w)) t.counters n in
    lex_epoch t.epoch (woven (loops v) t.counters (2 * v + 1)) (woven (loops w) (front t.counters) (2 * w))
    (subst (λ es. is_before (woven es t.counters (2 * v + 1)) (woven (loops w) (front t.counters) (2 * w)) ≡ true) (sym q)
    (subst (λ cs. is_before (woven (loops w ++ (v ∷ [])) cs (2 * v + 1)) (woven (loops w) (front t.counters) (2 * w)) ≡ true) (split_turns t.counters (length (loops w)) n)
    (leave_rank (loops w) (front t.counters) v w (last t.counters) m h)))
rise_after loops v w a (Goes.round_loop e h) t l = lex_epoch t.epoch (woven (loops v) t.counters (2 * v + 1)) (woven (loops w) (front t.counters ++ (suc (last t.counters) ∷ [])) (2 * w))
    (subst (λ es. is_before (woven (loops v) t.counters (2 * v + 1)) (woven es (front t.counters ++ (suc (last t.counters) ∷ [])) (2 * w)) ≡ true) (sym e) (next_rise_any (loops v) t.counters (2 * v + 1) (2 * w) h l))

-- woven lists at a later time come later
woven_later : (es cs ds : List ℕ) (p : ℕ) → length cs ≡ length es → length ds ≡ length es → is_before cs ds ≡ true → is_before (woven es cs p) (woven es ds p) ≡ true
woven_later es [] [] p l m h = absurd (true≢false (sym h))
woven_later es [] (d ∷ ds) p l m h = absurd (omega arith)
woven_later es (c ∷ cs) [] p l m h = absurd (omega arith)
woven_later [] (c ∷ cs) (d ∷ ds) p l m h = absurd (omega arith)
woven_later (e ∷ es) (c ∷ cs) (d ∷ ds) p l m h = go (lex_cases c d cs ds h) (woven_later es cs ds p (omega arith) (omega arith))
  where
    go : (c < d) ⊎ ((c ≡ d) × (is_before cs ds ≡ true)) → (is_before cs ds ≡ true → is_before (woven es cs p) (woven es ds p) ≡ true) → is_before ((2 * e + 1) ∷ c ∷ woven es cs p) ((2 * e + 1) ∷ d ∷ woven es ds p) ≡ true
    go (inl a) ih = lex_tail (2 * e + 1) (2 * e + 1) (c ∷ woven es cs p) (d ∷ woven es ds p) refl (lex_head c d (woven es cs p) (woven es ds p) a)
    go (inr a) ih = lex_tail (2 * e + 1) (2 * e + 1) (c ∷ woven es cs p) (d ∷ woven es ds p) refl (lex_tail c d (woven es cs p) (woven es ds p) a.0 (ih a.1))

pub same_or_less : (m n : ℕ) → m ≤ n → (m < n) ⊎ (m ≡ n)
same_or_less m n l = grind arith

pub later_rises : (es : List ℕ) (p : ℕ) (t u : Time) → length t.counters ≡ length es → length u.counters ≡ length es → IsAtMost t u → (t ≡ u) ⊎ (is_before (t.epoch ∷ woven es t.counters p) (u.epoch ∷ woven es u.counters p) ≡ true)
later_rises es p t u l m h = go (same_or_less t.epoch u.epoch h.epochs) h.counters
  where
    go : (t.epoch < u.epoch) ⊎ (t.epoch ≡ u.epoch) → Later t.counters u.counters → (t ≡ u) ⊎ (is_before (t.epoch ∷ woven es t.counters p) (u.epoch ∷ woven es u.counters p) ≡ true)
    go (inl a) k = inr (lex_head t.epoch u.epoch (woven es t.counters p) (woven es u.counters p) a)
    go (inr a) (inl b) = inl (λ i. record { epoch = a i; counters = b i })
    go (inr a) (inr b) = inr (lex_tail t.epoch u.epoch (woven es t.counters p) (woven es u.counters p) a (woven_later es t.counters u.counters p l m b))

-- ---- paths

pub path_epoch : (g : Graph) (path : List PathStep) (t : Time) → (path_time g path t).epoch ≡ t.epoch
path_epoch g [] t = refl
path_epoch g (s ∷ path) t = path_epoch g path (step_time g s t) ∙ step_epoch s
  where
    step_epoch : (s : PathStep) → (step_time g s t).epoch ≡ t.epoch
    step_epoch (PathStep.enters e) = refl
    step_epoch (PathStep.leaves e) = same_epoch (action (vertex g (edge_source g e).vertex).kind) t

-- what could result is in no earlier epoch
pub could_epoch : (g : Graph) (p q : Pointstamp) → CouldResultIn g p q → p.time.epoch ≤ q.time.epoch
could_epoch g p q c = omega (arith, path_epoch g c.path p.time, c.in_time.epochs)

module _ (g : Graph) (loops : ℕ → List ℕ) (wired : IsWired g) (nested : IsNested g loops) where
  abbrev pub rank_at : Location → Time → List ℕ
  rank_at l t = rank g loops (record { time = t; location = l })

  abbrev goes_along : (e : ℕ) → e < edge_count g → Goes loops (edge_source g e).vertex (target g e) (action (vertex g (edge_source g e).vertex).kind)
  goes_along e l = let k = entered g e l in nested.goes (target g e) (in_port g e) k.known k.port

  pub step_fits : (s : PathStep) (t : Time) → step_edge s < edge_count g → IsTimeAt g (step_from g s) t → IsTimeAt g (step_to g s) (step_time g s t)
  step_fits (PathStep.enters e) t l f = ((entered g e l).known, f.1)
  step_fits (PathStep.leaves e) t l f =
      (l, depth_after loops (edge_source g e).vertex (target g e) _ (goes_along e l) t (f.1 ∙ sym (nested.homes (edge_source g e).vertex f.0)) ∙ nested.homes (target g e) (entered g e l).known)

  pub step_rise : (s : PathStep) (t : Time) → step_edge s < edge_count g → IsTimeAt g (step_from g s) t → is_before (rank_at (step_from g s) t) (rank_at (step_to g s) (step_time g s t)) ≡ true
  step_rise (PathStep.enters e) t l f = edge_below loops (target g e) t
  step_rise (PathStep.leaves e) t l f = rise_after loops (edge_source g e).vertex (target g e) _ (goes_along e l) t (f.1 ∙ sym (nested.homes (edge_source g e).vertex f.0))

  pub path_fits : (path : List PathStep) (l m : Location) (t : Time) → IsPath g l path m → IsTimeAt g l t → IsTimeAt g m (path_time g path t)
  path_fits [] l m t h f = subst (λ (x : Location). IsTimeAt g x t) h f
  path_fits (s ∷ path) l m t h f = path_fits path (step_to g s) m (step_time g s t) h.2 (step_fits s t h.0 (subst (λ (x : Location). IsTimeAt g x t) h.1 f))

  abbrev pub Rose : Location → Time → Location → Time → Type 0
  Rose l t m u = ((l ≡ m) × (t ≡ u)) ⊎ (is_before (rank_at l t) (rank_at m u) ≡ true)

  rose_on : (l : Location) (t : Time) (m : Location) (u : Time) (n : Location) (v : Time) → is_before (rank_at l t) (rank_at m u) ≡ true → Rose m u n v → is_before (rank_at l t) (rank_at n v) ≡ true
  rose_on l t m u n v h (inl k) = subst (λ (x : Location). is_before (rank_at l t) (rank_at x v) ≡ true) k.0 (subst (λ (x : Time). is_before (rank_at l t) (rank_at m x) ≡ true) k.1 h)
  rose_on l t m u n v h (inr k) = lex_trans (rank_at l t) (rank_at m u) (rank_at n v) h k

  pub path_rises : (path : List PathStep) (l m : Location) (t : Time) → IsPath g l path m → IsTimeAt g l t → Rose l t m (path_time g path t)
  path_rises [] l m t h f = inl (h, refl)
  path_rises (s ∷ path) l m t h f =
      let f' = subst (λ (x : Location). IsTimeAt g x t) h.1 f in
      inr (rose_on l t (step_to g s) (step_time g s t) m (path_time g path (step_time g s t))
      (subst (λ (x : Location). is_before (rank_at x t) (rank_at (step_to g s) (step_time g s t)) ≡ true) (sym h.1) (step_rise s t h.0 f'))
      (path_rises path (step_to g s) m (step_time g s t) h.2 (step_fits s t h.0 f')))

  depth_same : (l : Location) (t u : Time) → IsTimeAt g l t → IsTimeAt g l u → length t.counters ≡ length u.counters
  depth_same (Location.edge e) t u f h = f.1 ∙ sym h.1
  depth_same (Location.vertex v) t u f h = f.1 ∙ sym h.1

  step_keeps : (s : PathStep) (t u : Time) → length t.counters ≡ length u.counters → IsAtMost t u → IsAtMost (step_time g s t) (step_time g s u)
  step_keeps (PathStep.enters e) t u l h = h
  step_keeps (PathStep.leaves e) t u l h = at_most_after (action (vertex g (edge_source g e).vertex).kind) t u l h

  pub path_keeps : (path : List PathStep) (l m : Location) (t u : Time) → IsPath g l path m → IsTimeAt g l t → IsTimeAt g l u → IsAtMost t u → IsAtMost (path_time g path t) (path_time g path u)
  path_keeps [] l m t u h f f' k = k
  path_keeps (s ∷ path) l m t u h f f' k =
      path_keeps path (step_to g s) m (step_time g s t) (step_time g s u) h.2
      (step_fits s t h.0 (subst (λ (x : Location). IsTimeAt g x t) h.1 f)) (step_fits s u h.0 (subst (λ (x : Location). IsTimeAt g x u) h.1 f'))
      (step_keeps s t u (depth_same l t u f f') k)

  path-append : (path more : List PathStep) (l m n : Location) → IsPath g l path m → IsPath g m more n → IsPath g l (path ++ more) n
  path-append [] more l m n h k = subst (λ (x : Location). IsPath g x more n) (sym h) k
  path-append (s ∷ path) more l m n h k = (h.0, h.1, path-append path more (step_to g s) m n h.2 k)

  path_time-append : (path more : List PathStep) (t : Time) → path_time g (path ++ more) t ≡ path_time g more (path_time g path t)
  path_time-append [] more t = refl
  path_time-append (s ∷ path) more t = path_time-append path more (step_time g s t)

  pub could_on : (p q s : Pointstamp) → CouldResultIn g p q → CouldResultIn g q s → CouldResultIn g p s
  could_on p q s a b =
      record {
        starts = a.starts;
        ends = b.ends;
        path = a.path ++ b.path;
        leads = path-append a.path b.path p.location q.location s.location a.leads b.leads;
        in_time = subst (λ (x : Time). IsAtMost x s.time) (sym (path_time-append a.path b.path p.time))
            (at_most_trans (path_time g b.path (path_time g a.path p.time)) (path_time g b.path q.time) s.time
            (path_keeps b.path q.location s.location (path_time g a.path p.time) q.time b.leads (path_fits a.path p.location q.location p.time a.leads a.starts) a.ends a.in_time)
            b.in_time);
      }

  pub could_self : (p : Pointstamp) → IsTimeAt g p.location p.time → CouldResultIn g p p
  could_self p f = record { starts = f; ends = f; path = []; leads = refl; in_time = at_most_refl p.time }

  rank_later : (l : Location) (t u : Time) → IsTimeAt g l t → IsTimeAt g l u → IsAtMost t u → (t ≡ u) ⊎ (is_before (rank_at l t) (rank_at l u) ≡ true)
  rank_later (Location.edge e) t u f h k = let n = (entered g e f.0).known in later_rises (loops (target g e)) (2 * target g e) t u (f.1 ∙ sym (nested.homes (target g e) n)) (h.1 ∙ sym (nested.homes (target g e) n)) k
  rank_later (Location.vertex v) t u f h k = later_rises (loops v) (2 * v + 1) t u (f.1 ∙ sym (nested.homes v f.0)) (h.1 ∙ sym (nested.homes v f.0)) k

  -- the rank rises to any other pointstamp that could result
  pub could_rises : (p q : Pointstamp) → CouldResultIn g p q → (p ≡ q) ⊎ (is_before (rank_at p.location p.time) (rank_at q.location q.time) ≡ true)
  could_rises p q a =
      go (path_rises a.path p.location q.location p.time a.leads a.starts)
      (rank_later q.location (path_time g a.path p.time) q.time (path_fits a.path p.location q.location p.time a.leads a.starts) a.ends a.in_time)
    where
      last : Time
      last = path_time g a.path p.time

      go : Rose p.location p.time q.location last → (last ≡ q.time) ⊎ (is_before (rank_at q.location last) (rank_at q.location q.time) ≡ true) → (p ≡ q) ⊎ (is_before (rank_at p.location p.time) (rank_at q.location q.time) ≡ true)
      go (inl x) (inl y) = inl (λ i. record { time = (x.1 ∙ y) i; location = x.0 i })
      go (inl x) (inr y) = inr (subst (λ (l : Location). is_before (rank_at l p.time) (rank_at q.location q.time) ≡ true) (sym x.0) (subst (λ (t : Time). is_before (rank_at q.location t) (rank_at q.location q.time) ≡ true) (sym x.1) y))
      go (inr x) (inl y) = inr (subst (λ (t : Time). is_before (rank_at p.location p.time) (rank_at q.location t) ≡ true) y x)
      go (inr x) (inr y) = inr (lex_trans (rank_at p.location p.time) (rank_at q.location last) (rank_at q.location q.time) x y)

  rank_short : (l : Location) (t : Time) → IsTimeAt g l t → length (rank_at l t) ≤ longest_rank
  rank_short (Location.edge e) t f = omega (arith, length-woven (loops (target g e)) t.counters (2 * target g e), wired.shallow (target g e) (entered g e f.0).known, f.1)
  rank_short (Location.vertex v) t f = omega (arith, length-woven (loops v) t.counters (2 * v + 1), wired.shallow v f.0, f.1)

  -- there is no infinite descent
  pub could_founded : (p : Pointstamp) → Acc (λ q s. CouldResultIn g q s × (q ≡ s → ⊥)) p
  could_founded p = go (rank_at p.location p.time) ((under_well_founded longest_rank).apply (rank_at p.location p.time)) p refl
    where
      go : (xs : List ℕ) → Acc (Under longest_rank) xs → (p : Pointstamp) → rank_at p.location p.time ≡ xs → Acc (λ q s. CouldResultIn g q s × (q ≡ s → ⊥)) p
      go xs a = elim a as (λ xs a. (p : Pointstamp) → rank_at p.location p.time ≡ xs → Acc (λ q s. CouldResultIn g q s × (q ≡ s → ⊥)) p) [
        | Acc.intro xs (low → ih) ↦ λ p e. Acc.intro p (λ q h. under q p (could_rises q p h.0) h e ih)
      ]
        where
          under : (q p : Pointstamp) → (q ≡ p) ⊎ (is_before (rank_at q.location q.time) (rank_at p.location p.time) ≡ true) → CouldResultIn g q p × (q ≡ p → ⊥) → {xs : List ℕ} → rank_at p.location p.time ≡ xs → ((ys : List ℕ) → Under longest_rank ys xs → (s : Pointstamp) → rank_at s.location s.time ≡ ys → Acc (λ q s. CouldResultIn g q s × (q ≡ s → ⊥)) s) → Acc (λ q s. CouldResultIn g q s × (q ≡ s → ⊥)) q
          under q p (inl x) h e ih = absurd (h.1 x)
          under q p (inr x) h {xs} e ih = ih (rank_at q.location q.time)
              (and_from (is_before (rank_at q.location q.time) xs) (nat_le (length (rank_at q.location q.time)) longest_rank) (subst (λ zs. is_before (rank_at q.location q.time) zs ≡ true) e x) (le-leb (length (rank_at q.location q.time)) longest_rank (rank_short q.location q.time h.0.starts)))
              q refl

-- ---- of a dataflow graph

module _ (g : Graph) (d : IsDataflow g) where
  -- the rank rises along each step of a path
  pub rank_along : (s : PathStep) (t : Time) → step_edge s < edge_count g → IsTimeAt g (step_from g s) t
      → is_before (rank g d.loops (record { time = t; location = step_from g s })) (rank g d.loops (record { time = step_time g s t; location = step_to g s })) ≡ true
  rank_along s t l f = step_rise g d.loops d.wired d.nested s t l f

  -- the rank rises to any other pointstamp that could result
  pub rank_onward : (p q : Pointstamp) → CouldResultIn g p q → (p ≡ q) ⊎ (is_before (rank g d.loops p) (rank g d.loops q) ≡ true)
  rank_onward p q a = could_rises g d.loops d.wired d.nested p q a

  pub could_itself : (p : Pointstamp) → IsTimeAt g p.location p.time → CouldResultIn g p p
  could_itself p f = could_self g d.loops d.wired d.nested p f

  pub could_onward : (p q s : Pointstamp) → CouldResultIn g p q → CouldResultIn g q s → CouldResultIn g p s
  could_onward p q s a b = could_on g d.loops d.wired d.nested p q s a b

  -- no two pointstamps could result in each other
  pub could_once : (p q : Pointstamp) → CouldResultIn g p q → CouldResultIn g q p → p ≡ q
  could_once p q a b = go (rank_onward p q a) (rank_onward q p b)
    where
      of : Pointstamp → List ℕ
      of x = rank g d.loops x

      go : (p ≡ q) ⊎ (is_before (of p) (of q) ≡ true) → (q ≡ p) ⊎ (is_before (of q) (of p) ≡ true) → p ≡ q
      go (inl e) s = e
      go (inr x) (inl e) = sym e
      go (inr x) (inr y) = absurd (lex_not_self (of p) (lex_trans (of p) (of q) (of p) x y))

  -- a path takes a time of its start's depth to one of its end's depth
  pub path_depth : (path : List PathStep) (l m : Location) (t : Time) → IsPath g l path m → IsTimeAt g l t → IsTimeAt g m (path_time g path t)
  path_depth path l m t h f = path_fits g d.loops d.wired d.nested path l m t h f

-- at a seal the rank rises to the input's next epoch
pub rank_sealed : (g : Graph) (loops : ℕ → List ℕ) (v n : ℕ) → is_before (rank g loops (at_vertex v (at_epoch n))) (rank g loops (at_vertex v (at_epoch (n + 1)))) ≡ true
rank_sealed g loops v n = lex_head n (n + 1) (woven (loops v) [] (2 * v + 1)) (woven (loops v) [] (2 * v + 1)) (omega arith)
