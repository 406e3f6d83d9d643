-- The times before u are those that the action takes to u.
use Rattle.std.proofs.Common.{◌≡◌, ℕ, zero, suc, ◌-◌, ◌<◌, nat_lt, nat_eq, Bool, true, false, cond, List, [], ◌∷◌, ◌++◌, map, length, refl, sym, ap, ap₂, subst, ◌∙◌, arith, inl, inr, ◌⊎◌, eqb-true, ltb-true, lt-ltb}
use Rattle.std.proofs.lemmas.Bool.{true≢false, eqb-false}
use Rattle.semantics.specs.Multiset.{IsAmong}
use Rattle.semantics.specs.Time.{IsTaken, in_first_turn, last_from, Time, last, deeper, outer, Action, after_action, times_before, below, turn_count}
use Rattle.semantics.proofs.QuietEnds.{turn_of}
use Rattle.semantics.proofs.VertexFlows.{first_turn-push, last-deeper, outer-deeper}

-- the words of the specs, under the names that the engine's proofs use
abbrev pub Among : Time → List Time → Type 0
Among t ts = IsAmong t ts

abbrev pub Defined : Action → Time → Type 0
Defined a t = IsTaken a t

abbrev Has_number : ℕ → List ℕ → Type 0
Has_number c [] = ⊥
Has_number c (x ∷ xs) = (x ≡ c) ⊎ Has_number c xs

number_push : (c n : ℕ) (xs : List ℕ) → (n ≡ c) ⊎ Has_number c xs → Has_number c (xs ++ (n ∷ []))
number_push c n [] (inl e) = inl e
number_push c n [] (inr h) = absurd h
number_push c n (x ∷ xs) (inl e) = inr (number_push c n xs (inl e))
number_push c n (x ∷ xs) (inr (inl e)) = inl e
number_push c n (x ∷ xs) (inr (inr h)) = inr (number_push c n xs (inr h))

number_below : (c n : ℕ) → c < n → Has_number c (below n)
number_below c zero h = absurd (omega arith)
number_below c (suc n) h = number_push c n (below n) (go (nat_eq n c) refl (number_below c n))
  where
    go : (b : Bool) → nat_eq n c ≡ b → (c < n → Has_number c (below n)) → (n ≡ c) ⊎ Has_number c (below n)
    go true e f = inl (eqb-true n c e)
    go false e f = inr (f (let k = eqb-false n c e in less k))
      where
        less : (n ≡ c → ⊥) → c < n
        less k = omega arith

among_deeper : (u : Time) (c : ℕ) (cs : List ℕ) → Has_number c cs → Among (deeper u c) (map (deeper u) cs)
among_deeper u c [] k = absurd k
among_deeper u c (x ∷ xs) (inl e) = inl (ap (deeper u) e)
among_deeper u c (x ∷ xs) (inr k) = inr (among_deeper u c xs k)

turn_split : (t : Time) → 0 < length t.counters → deeper (outer t) (last t.counters) ≡ t
turn_split t h = go t.counters refl h
  where
    go : (cs : List ℕ) → t.counters ≡ cs → 0 < length cs → deeper (outer t) (last t.counters) ≡ t
    go [] e k = absurd (omega arith)
    go (c ∷ cs) e k = turn_of (length cs) t.epoch t.counters (ap length e)

among_cond : (t x : Time) (b : Bool) → b ≡ true → x ≡ t → Among t (cond b (x ∷ []) [])
among_cond t x true e h = inl h
among_cond t x false e h = absurd (true≢false (sym e))

-- each time that an action takes to u is among the sources of u
pub times_before_all : (a : Action) (t u : Time) → Defined a t → after_action a t ≡ u → Among t (times_before a u)
times_before_all Action.stay t u d e = inl (sym e)
times_before_all Action.enter t u d e = subst (λ v. Among t (times_before Action.enter v)) e
    (among_cond t (outer (deeper t 0)) (in_first_turn (t.counters ++ (0 ∷ []))) (first_turn-push t.counters 0) (outer-deeper t 0))
times_before_all Action.leave t u d e = subst (λ v. Among t (times_before Action.leave v)) e
    (subst (λ x. Among x (map (deeper (outer t)) (below turn_count))) (turn_split t d.0) (among_deeper (outer t) (last t.counters) (below turn_count) (number_below (last t.counters) turn_count d.1)))
times_before_all Action.next t u d e = subst (λ v. Among t (times_before Action.next v)) e
    (let v = deeper (outer t) (suc (last t.counters)) in
    let l : last v.counters ≡ suc (last t.counters) = last-deeper (outer t) (suc (last t.counters)) in
    among_cond t (deeper (outer v) (last v.counters - 1)) (nat_lt 0 (last v.counters)) (lt-ltb 0 (last v.counters) (omega arith))
    (ap₂ deeper (outer-deeper (outer t) (suc (last t.counters))) (omega arith) ∙ turn_split t d))

among_cond_back : (t x : Time) (b : Bool) → Among t (cond b (x ∷ []) []) → (b ≡ true) × (x ≡ t)
among_cond_back t x true (inl e) = (refl, e)
among_cond_back t x true (inr h) = absurd h
among_cond_back t x false h = absurd h

among_map_back : (u t : Time) (cs : List ℕ) → Among t (map (deeper u) cs) → (c : ℕ) × (deeper u c ≡ t)
among_map_back u t [] h = absurd h
among_map_back u t (c ∷ cs) (inl e) = (c, e)
among_map_back u t (c ∷ cs) (inr h) = among_map_back u t cs h

-- each source of u is taken to u, if u is inside a loop after an enter or a next
abbrev pub Reached : Action → Time → Type 0
Reached Action.stay u = Unit {0}
Reached Action.leave u = Unit {0}
Reached Action.enter u = 0 < length u.counters
Reached Action.next u = 0 < length u.counters

first_turn_last : (cs : List ℕ) → in_first_turn cs ≡ true → last cs ≡ 0
first_turn_last [] e = absurd (true≢false (sym e))
first_turn_last (c ∷ cs) e = eqb-true (last_from c cs) 0 e

pub times_before_only : (a : Action) (t u : Time) → Reached a u → Among t (times_before a u) → after_action a t ≡ u
times_before_only Action.stay t u r (inl e) = sym e
times_before_only Action.stay t u r (inr h) = absurd h
times_before_only Action.enter t u r h =
    let k = among_cond_back t (outer u) (in_first_turn u.counters) h in
    ap (λ x. deeper x 0) (sym k.1) ∙ ap (deeper (outer u)) (sym (first_turn_last u.counters k.0)) ∙ turn_split u r
times_before_only Action.leave t u r h =
    let k = among_map_back u t (below turn_count) h in
    ap outer (sym k.1) ∙ outer-deeper u k.0
times_before_only Action.next t u r h =
    let k = among_cond_back t (deeper (outer u) (last u.counters - 1)) (nat_lt 0 (last u.counters)) h in
    let p = ltb-true 0 (last u.counters) k.0 in
    let l : last (deeper (outer u) (last u.counters - 1)).counters ≡ last u.counters - 1 = last-deeper (outer u) (last u.counters - 1) in
    ap (λ x. deeper (outer x) (suc (last x.counters))) (sym k.1)
    ∙ ap₂ deeper (outer-deeper (outer u) (last u.counters - 1)) (let e : suc (last (deeper (outer u) (last u.counters - 1)).counters) ≡ last u.counters = omega arith in e)
    ∙ turn_split u r

-- each time before u is taken to u
pub times_before_taken : (a : Action) (t u : Time) → IsAmong t (times_before a u) → after_action a t ≡ u
times_before_taken Action.stay t u h = times_before_only Action.stay t u tt h
times_before_taken Action.leave t u h = times_before_only Action.leave t u tt h
times_before_taken Action.enter t u h = go u.counters refl
  where
    go : (cs : List ℕ) → u.counters ≡ cs → after_action Action.enter t ≡ u
    go [] e = absurd (subst (λ ds. IsAmong t (cond (in_first_turn ds) (outer u ∷ []) [])) e h)
    go (c ∷ cs) e = times_before_only Action.enter t u (subst (λ ds. 0 < length ds) (sym e) (omega arith)) h
times_before_taken Action.next t u h = go u.counters refl
  where
    go : (cs : List ℕ) → u.counters ≡ cs → after_action Action.next t ≡ u
    go [] e = absurd (subst (λ ds. IsAmong t (cond (nat_lt 0 (last ds)) (deeper (outer u) (last u.counters - 1) ∷ []) [])) e h)
    go (c ∷ cs) e = times_before_only Action.next t u (subst (λ ds. 0 < length ds) (sym e) (omega arith)) h
