-- The order of counters, and times as one number.
use Rattle.std.proofs.Common.{◌≡◌, ◌≢◌, ◌⊎◌, inl, inr, ℕ, ◌+◌, ◌*◌, ◌/◌, ◌%◌, ◌^◌, ◌≤◌, ◌<◌, Bool, true, false, cond, List, [], ◌∷◌, refl, sym, ap₂, arith}
use Rattle.semantics.specs.Time.{Time, is_before, same_time}
use Rattle.semantics.proofs.OneFlow.{lex_head, lex_tail}
use Rattle.semantics.proofs.CouldRises.{at_most_trans}
use Rattle.machine.proofs.Places.{same_time_tells}
use Rattle.progress.specs.Times.{mixed_from, key_of, NoLater}
use Rattle.progress.specs.TimeCounts.{if_same}

abbrev Later : List ℕ → List ℕ → Type 0
Later cs ds = (cs ≡ ds) ⊎ (is_before cs ds ≡ true)

order : (c d : ℕ) → (c < d) ⊎ ((c ≡ d) ⊎ (d < c))
order c d = grind arith

later_total : (cs ds : List ℕ) → Later cs ds ⊎ Later ds cs
later_total [] [] = inl (inl refl)
later_total [] (d ∷ ds) = inl (inr refl)
later_total (c ∷ cs) [] = inr (inr refl)
later_total (c ∷ cs) (d ∷ ds) = go (order c d) (later_total cs ds)
  where
    more : (c d : ℕ) (cs ds : List ℕ) → c ≡ d → Later cs ds → Later (c ∷ cs) (d ∷ ds)
    more c d cs ds e (inl x) = inl (ap₂ (λ (a : ℕ) (as' : List ℕ). a ∷ as') e x)
    more c d cs ds e (inr x) = inr (lex_tail c d cs ds e x)

    go : (c < d) ⊎ ((c ≡ d) ⊎ (d < c)) → Later cs ds ⊎ Later ds cs → Later (c ∷ cs) (d ∷ ds) ⊎ Later (d ∷ ds) (c ∷ cs)
    go (inl a) ih = inl (inr (lex_head c d cs ds a))
    go (inr (inl a)) (inl h) = inl (more c d cs ds a h)
    go (inr (inl a)) (inr h) = inr (more d c ds cs (sym a) h)
    go (inr (inr a)) ih = inr (inr (lex_head d c ds cs a))

-- if the first isn't at or before the second, the second is at or before the first
pub other_way : (t u : Time) → (NoLater t u → ⊥) → NoLater u t
other_way t u n = go (later_total t.counters u.counters)
  where
    go : NoLater t u ⊎ NoLater u t → NoLater u t
    go (inl h) = absurd (n h)
    go (inr h) = h

pub no_later_self : (t : Time) → NoLater t t
no_later_self t = inl refl

pub no_later_on : (t u v : Time) → NoLater t u → NoLater u v → NoLater t v
no_later_on t u v h k =
    let at : Time → Time = λ (x : Time). record { epoch = 0; counters = x.counters } in
    (at_most_trans (at t) (at u) (at v) (record { epochs = omega arith; counters = h }) (record { epochs = omega arith; counters = k })).counters

-- ---- counts of one time

pub same_self : (t : Time) (n : ℕ) → if_same t t n ≡ n
same_self t n = go (same_time_tells t t)
  where
    go : ((same_time t t ≡ true) × (t ≡ t)) ⊎ ((same_time t t ≡ false) × (t ≢ t)) → if_same t t n ≡ n
    go (inl (a, b)) = rw a refl
    go (inr (a, b)) = absurd (b refl)

pub same_is : (t u : Time) (n : ℕ) → 0 < if_same t u n → t ≡ u
same_is t u n h = go (same_time_tells t u) h
  where
    go : ((same_time t u ≡ true) × (t ≡ u)) ⊎ ((same_time t u ≡ false) × (t ≢ u)) → 0 < if_same t u n → t ≡ u
    go (inl (a, b)) h = b
    go (inr (a, b)) h = absurd (let k = rw a at h in omega arith)

pub same_not : (t u : Time) (n : ℕ) → (t ≡ u → ⊥) → if_same t u n ≡ 0
same_not t u n h = go (same_time_tells t u)
  where
    go : ((same_time t u ≡ true) × (t ≡ u)) ⊎ ((same_time t u ≡ false) × (t ≢ u)) → if_same t u n ≡ 0
    go (inl (a, b)) = absurd (h b)
    go (inr (a, b)) = rw a refl

pub same_sum : (t u : Time) (m n : ℕ) → if_same t u (m + n) ≡ if_same t u m + if_same t u n
same_sum t u m n = go (same_time t u)
  where
    go : (b : Bool) → cond b (m + n) 0 ≡ cond b m 0 + cond b n 0
    go true = refl
    go false = refl

-- ---- keys

pub mixed_small : (n : ℕ) (cs : List ℕ) → n < 2 ^ 32 → mixed_from n cs < 2 ^ 32
mixed_small n [] h = h
mixed_small n (c ∷ cs) h = mixed_small ((n * 31 + c) % (2 ^ 32)) cs (omega arith)

-- a key at or above the split is in an epoch at or after that of the split
pub split_epoch : (t : Time) (split : ℕ) → split ≤ key_of t → split / 4294967296 ≤ t.epoch
split_epoch t split h = let m = mixed_small 0 t.counters (omega arith) in omega arith
