-- Times, pointstamps and kinds.
use Rattle.std.proofs.Common.{◌≡◌, ◌≢◌, ◌≤◌, ◌<◌, ℕ, zero, suc, ◌+◌, ◌*◌, Bool, true, false, eqb, List, [], ◌∷◌, ◌⊎◌, inl, inr, refl, sym, ap, ◌∙◌, arith, slice_get, Some}
use Rattle.std.proofs.lemmas.Bool.Decides.{eqb_tells}
use Rattle.semantics.specs.Multiset.{total}
use Rattle.semantics.specs.Could.{Pointstamp, on_edge, at_vertex, Location}
use Rattle.semantics.specs.Time.{Time, same_counters, same_time}
use Rattle.semantics.specs.Kinds.{Role}
use Rattle.machine.proofs.Counting.{same_list_tells, same_list_self, eqb_self}
use Rattle.machine.proofs.Laws.{times_in}

pub same_time_tells : (t u : Time) → ((same_time t u ≡ true) × (t ≡ u)) ⊎ ((same_time t u ≡ false) × (t ≢ u))
same_time_tells t u = go (eqb_tells t.epoch u.epoch) (same_list_tells t.counters u.counters)
  where
    go : ((eqb t.epoch u.epoch ≡ true) × (t.epoch ≡ u.epoch)) ⊎ ((eqb t.epoch u.epoch ≡ false) × (t.epoch ≢ u.epoch)) → ((same_counters t.counters u.counters ≡ true) × (t.counters ≡ u.counters)) ⊎ ((same_counters t.counters u.counters ≡ false) × (t.counters ≢ u.counters)) → ((same_time t u ≡ true) × (t ≡ u)) ⊎ ((same_time t u ≡ false) × (t ≢ u))
    go (inl (a, b)) (inl (c, d)) = inl (rw a c, λ i. record { epoch = b i; counters = d i })
    go (inl (a, b)) (inr (c, d)) = inr (rw a c, λ e. d (ap (λ (x : Time). x.counters) e))
    go (inr (a, b)) s = inr (rw a refl, λ e. b (ap (λ (x : Time). x.epoch) e))

pub same_time_self : (t : Time) → same_time t t ≡ true
same_time_self t = rw (eqb_self t.epoch) (same_list_self t.counters)

pub total_zero : {X : Type 0} (xs : List X) (f : X → ℕ) → ((at : ℕ) (x : X) → slice_get xs at ≡ Some x → f x ≡ 0) → total f xs ≡ 0
total_zero [] f h = refl
total_zero (x ∷ xs) f h = let a : f x ≡ 0 = h zero x refl in let b : total f xs ≡ 0 = total_zero xs f (λ at y e. h (suc at) y e) in omega arith

-- sums over the same times
pub total_times : (ts : List Time) (f f' : Time → ℕ) → ((t : Time) → 0 < times_in t ts → f t ≡ f' t) → total f ts ≡ total f' ts
total_times [] f f' h = refl
total_times (t ∷ ts) f f' h =
    let a : f t ≡ f' t = h t (rw (same_time_self t) (omega arith)) in
    let b : total f ts ≡ total f' ts = total_times ts f f' (λ u l. h u (omega arith)) in
    omega arith

pub total_times_more : (ts : List Time) (f f' : Time → ℕ) → ((t : Time) → 0 < times_in t ts → f t ≤ f' t) → total f ts ≤ total f' ts
total_times_more [] f f' h = omega arith
total_times_more (t ∷ ts) f f' h =
    let a : f t ≤ f' t = h t (rw (same_time_self t) (omega arith)) in
    let b : total f ts ≤ total f' ts = total_times_more ts f f' (λ u l. h u (omega arith)) in
    omega arith

-- sums over times that differ at one time
pub total_times_changed : (ts : List Time) (t : Time) (f f' : Time → ℕ) → ((u : Time) → u ≢ t → f' u ≡ f u) → total f' ts + times_in t ts * f t ≡ total f ts + times_in t ts * f' t
total_times_changed [] t f f' h = omega arith
total_times_changed (u ∷ ts) t f f' h = go (same_time_tells t u) (total_times_changed ts t f f' h)
  where
    go : ((same_time t u ≡ true) × (t ≡ u)) ⊎ ((same_time t u ≡ false) × (t ≢ u)) → total f' ts + times_in t ts * f t ≡ total f ts + times_in t ts * f' t → total f' (u ∷ ts) + times_in t (u ∷ ts) * f t ≡ total f (u ∷ ts) + times_in t (u ∷ ts) * f' t
    go (inl (a, b)) ih = let p : f u ≡ f t = ap f (sym b) in let q : f' u ≡ f' t = ap f' (sym b) in rw a (grind arith)
    go (inr (a, b)) ih = let p : f' u ≡ f u = h u (λ e. b (sym e)) in rw a (grind arith)

pub is_input_role : (k : Role) → (k ≡ Role.input) ⊎ (k ≢ Role.input)
is_input_role Role.input = inl refl
is_input_role Role.stateless = inr (λ e. cc)
is_input_role Role.stateful = inr (λ e. cc)
is_input_role Role.notified = inr (λ e. cc)
is_input_role Role.output = inr (λ e. cc)

pub is_notified_role : (k : Role) → (k ≡ Role.notified) ⊎ (k ≢ Role.notified)
is_notified_role Role.input = inr (λ e. cc)
is_notified_role Role.stateless = inr (λ e. cc)
is_notified_role Role.stateful = inr (λ e. cc)
is_notified_role Role.notified = inl refl
is_notified_role Role.output = inr (λ e. cc)

-- a kind that is neither source nor sink
pub inner_kind : (k : Role) → k ≢ Role.input → k ≢ Role.output → (k ≡ Role.stateless) ⊎ ((k ≡ Role.stateful) ⊎ (k ≡ Role.notified))
inner_kind Role.input a b = absurd (a refl)
inner_kind Role.stateless a b = inl refl
inner_kind Role.stateful a b = inr (inl refl)
inner_kind Role.notified a b = inr (inr refl)
inner_kind Role.output a b = absurd (b refl)

pub edge_not_vertex : (e v : ℕ) (t u : Time) → on_edge e t ≢ at_vertex v u
edge_not_vertex e v t u h = let l : Location.edge e ≡ Location.vertex v = ap (λ (p : Pointstamp). p.location) h in absurd cc

-- one of the numbers below n passes the test, or none does
pub some_below : (n : ℕ) (f : ℕ → Bool) → ((k : ℕ) × (k < n) × (f k ≡ true)) ⊎ ((k : ℕ) → k < n → f k ≡ false)
some_below zero f = inr (λ k l. absurd (omega arith))
some_below (suc n) f = go (f n) refl (some_below n f)
  where
    go : (b : Bool) → f n ≡ b → ((k : ℕ) × (k < n) × (f k ≡ true)) ⊎ ((k : ℕ) → k < n → f k ≡ false) → ((k : ℕ) × (k < suc n) × (f k ≡ true)) ⊎ ((k : ℕ) → k < suc n → f k ≡ false)
    go true e s = inl (n, omega arith, e)
    go false e (inl (k, l, p)) = inl (k, omega arith, p)
    go false e (inr none) = inr (λ k l. at k l (eqb_tells k n))
      where
        at : (k : ℕ) → k < suc n → ((eqb k n ≡ true) × (k ≡ n)) ⊎ ((eqb k n ≡ false) × (k ≢ n)) → f k ≡ false
        at k l (inl (a, b)) = ap f b ∙ e
        at k l (inr (a, b)) = none k (omega arith)

-- two pointstamps are the same or not
pub location_same : (l m : Location) → (l ≡ m) ⊎ (l ≢ m)
location_same (Location.edge e) (Location.edge f) = go (eqb_tells e f)
  where
    go : ((eqb e f ≡ true) × (e ≡ f)) ⊎ ((eqb e f ≡ false) × (e ≢ f)) → (Location.edge e ≡ Location.edge f) ⊎ (Location.edge e ≢ Location.edge f)
    go (inl (a, b)) = inl (ap Location.edge b)
    go (inr (a, b)) = inr (λ h. b cc)
location_same (Location.edge e) (Location.vertex v) = inr (λ h. cc)
location_same (Location.vertex v) (Location.edge e) = inr (λ h. cc)
location_same (Location.vertex v) (Location.vertex u) = go (eqb_tells v u)
  where
    go : ((eqb v u ≡ true) × (v ≡ u)) ⊎ ((eqb v u ≡ false) × (v ≢ u)) → (Location.vertex v ≡ Location.vertex u) ⊎ (Location.vertex v ≢ Location.vertex u)
    go (inl (a, b)) = inl (ap Location.vertex b)
    go (inr (a, b)) = inr (λ h. b cc)

pub place_same : (p q : Pointstamp) → (p ≡ q) ⊎ (p ≢ q)
place_same p q = go (same_time_tells p.time q.time) (location_same p.location q.location)
  where
    go : ((same_time p.time q.time ≡ true) × (p.time ≡ q.time)) ⊎ ((same_time p.time q.time ≡ false) × (p.time ≢ q.time)) → (p.location ≡ q.location) ⊎ (p.location ≢ q.location) → (p ≡ q) ⊎ (p ≢ q)
    go (inl (a, b)) (inl c) = inl (λ i. record { time = b i; location = c i })
    go (inl (a, b)) (inr c) = inr (λ h. c (ap (λ (x : Pointstamp). x.location) h))
    go (inr (a, b)) s = inr (λ h. b (ap (λ (x : Pointstamp). x.time) h))
