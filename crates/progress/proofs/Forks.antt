-- What a change of a fork keeps.
use Rattle.std.proofs.Common.{◌≡◌, ◌≢◌, ◌⊎◌, inl, inr, ℕ, ◌+◌, ◌-◌, ◌/◌, [], ◌≤◌, ◌<◌, Bool, true, false, Option, Some, None, sym, ap, subst, ◌∙◌, arith}
use Rattle.semantics.specs.Time.{Time, same_time}
use Rattle.std.proofs.lemmas.Bool.{true≢false}
use Rattle.machine.proofs.Places.{same_time_tells}
use Rattle.progress.specs.Times.{key_of, NoLater}
use Rattle.progress.specs.TimeCounts.{TimeCounts, CountedTime, counted_time, if_same, count, top, with_times, IsFork, Adds, IsNone, IsFirst, IsAsked, IsLeast, IsNoneAsked}
use Rattle.progress.specs.Sifting.{IsSifted, Leads}
use Rattle.progress.specs.declared.tree.Entry.{Entry}
use Rattle.semantics.proofs.MultisetSums.{total-append}
use Rattle.semantics.proofs.Cases.{either_above_zero}
use Rattle.progress.proofs.Orders.{no_later_self, no_later_on, same_self, same_is, same_sum, split_epoch}

-- what occurs was added, or occurred before
pub was_or_came : (old new : TimeCounts) (t u : Time) (n : ℕ) → Adds old new t n → 0 < count new u → (u ≡ t) ⊎ (0 < count old u)
was_or_came old new t u n h l = go (either_above_zero (if_same u t n) (count old u) (subst (λ k. 0 < k) (h u) l))
  where
    go : (0 < if_same u t n) ⊎ (0 < count old u) → (u ≡ t) ⊎ (0 < count old u)
    go (inl a) = inl (same_is u t n a)
    go (inr b) = inr b

-- what is left occurred before
was_there : (old new : TimeCounts) (t u : Time) (n : ℕ) → Adds new old t n → 0 < count new u → 0 < count old u
was_there old new t u n h l = let e = h u in omega arith

-- how often a time of a fork occurs
pub count-with : (L : TimeCounts) (t : Time) (n : ℕ) (R : TimeCounts) (u : Time) → count (with_times L t n R) u ≡ if_same u t n + (count L u + count R u)
count-with L t n R u = ap (λ k. if_same u t n + k) (total-append (λ (h : CountedTime). if_same u h.0 h.1) L R)

module _ (L : TimeCounts) (t : Time) (n s : ℕ) (R : TimeCounts) where
  -- where a time of a fork is
  pub data Stands (u : Time) : Type 0 where
    here : u ≡ t → Stands u
    left : 0 < count L u → Stands u
    right : 0 < count R u → Stands u

  pub stands : (u : Time) → 0 < count (with_times L t n R) u → Stands u
  stands u h = go (either_above_zero (if_same u t n) (count L u + count R u) (subst (λ k. 0 < k) (count-with L t n R u) h))
    where
      below : (0 < count L u) ⊎ (0 < count R u) → Stands u
      below (inl a) = Stands.left a
      below (inr a) = Stands.right a

      go : (0 < if_same u t n) ⊎ (0 < count L u + count R u) → Stands u
      go (inl a) = Stands.here (same_is u t n a)
      go (inr a) = below (either_above_zero (count L u) (count R u) a)

  -- its own time occurs, and comes first
  pub fork_there : 0 < n → 0 < count (with_times L t n R) t
  fork_there h = let e = same_self t n in let w = count-with L t n R t in omega arith

  pub fork_first : IsFork L t n s R → IsFirst t (with_times L t n R)
  fork_first f u h = go (stands u h)
    where
      go : Stands u → NoLater t u
      go (Stands.here e) = subst (NoLater t) (sym e) (no_later_self t)
      go (Stands.left a) = f.least_left u a
      go (Stands.right a) = f.least_right u a

  -- its count is raised
  pub fork_raised : (m : ℕ) → IsFork L t n s R → IsFork L t (n + m) s R
  fork_raised m f = let k = f.some in record { some = omega arith; least_left = f.least_left; least_right = f.least_right; below = f.below; above = f.above }

  pub raised_adds : (m : ℕ) → Adds (with_times L t n R) (with_times L t (n + m) R) t m
  raised_adds m u = let e = same_sum u t n m in let w = count-with L t n R u in let x = count-with L t (n + m) R u in omega arith

  -- a new time on a side
  pub side_first : (old entry new rest : Entry) (S S' : TimeCounts) → IsSifted old entry new rest → Adds S S' rest.time rest.count → IsFirst old.time S → IsFirst new.time S'
  side_first old entry new rest S S' (IsSifted.stays e q h) a f u l = go (was_or_came S S' rest.time u rest.count a l)
    where
      go : (u ≡ rest.time) ⊎ (0 < count S u) → NoLater new.time u
      go (inl x) = subst (λ (y : Entry). NoLater y.time u) (sym e) (subst (NoLater old.time) (sym (x ∙ ap (λ (y : Entry). y.time) q)) h)
      go (inr x) = subst (λ (y : Entry). NoLater y.time u) (sym e) (f u x)
  side_first old entry new rest S S' (IsSifted.swaps e q h) a f u l = go (was_or_came S S' rest.time u rest.count a l)
    where
      go : (u ≡ rest.time) ⊎ (0 < count S u) → NoLater new.time u
      go (inl x) = subst (λ (y : Entry). NoLater y.time u) (sym e) (subst (NoLater entry.time) (sym (x ∙ ap (λ (y : Entry). y.time) q)) h)
      go (inr x) = subst (λ (y : Entry). NoLater y.time u) (sym e) (no_later_on entry.time old.time u h (f u x))

  other_first : (old entry new rest : Entry) (S : TimeCounts) → IsSifted old entry new rest → IsFirst old.time S → IsFirst new.time S
  other_first old entry new rest S (IsSifted.stays e q h) f u l = subst (λ (y : Entry). NoLater y.time u) (sym e) (f u l)
  other_first old entry new rest S (IsSifted.swaps e q h) f u l = subst (λ (y : Entry). NoLater y.time u) (sym e) (no_later_on entry.time old.time u h (f u l))

  some_stays : (old entry new rest : Entry) → IsSifted old entry new rest → 0 < old.count → 0 < entry.count → 0 < new.count
  some_stays old entry new rest (IsSifted.stays e q h) a b = subst (λ (y : Entry). 0 < y.count) (sym e) a
  some_stays old entry new rest (IsSifted.swaps e q h) a b = subst (λ (y : Entry). 0 < y.count) (sym e) b

pub some_rest : (old entry new rest : Entry) → IsSifted old entry new rest → 0 < old.count → 0 < entry.count → 0 < rest.count
some_rest old entry new rest (IsSifted.stays e q h) a b = subst (λ (y : Entry). 0 < y.count) (sym q) b
some_rest old entry new rest (IsSifted.swaps e q h) a b = subst (λ (y : Entry). 0 < y.count) (sym q) a

sifted_sum : (old entry new rest : Entry) (u : Time) → IsSifted old entry new rest → if_same u new.time new.count + if_same u rest.time rest.count ≡ if_same u old.time old.count + if_same u entry.time entry.count
sifted_sum old entry new rest u (IsSifted.stays e q h) =
    let a = ap (λ (y : Entry). if_same u y.time y.count) e in let b = ap (λ (y : Entry). if_same u y.time y.count) q in omega arith
sifted_sum old entry new rest u (IsSifted.swaps e q h) =
    let a = ap (λ (y : Entry). if_same u y.time y.count) e in let b = ap (λ (y : Entry). if_same u y.time y.count) q in omega arith

-- ---- an entry put in, on the left or on the right

pub added_left : (L L' R : TimeCounts) (s : ℕ) (old entry new rest : Entry) → IsFork L old.time old.count s R → 0 < entry.count → IsSifted old entry new rest → Adds L L' rest.time rest.count → key_of rest.time < s → IsFork L' new.time new.count s R
added_left L L' R s old entry new rest f h i a k = record {
  some = some_stays L old.time old.count s R old entry new rest i f.some h;
  least_left = side_first L old.time old.count s R old entry new rest L L' i a f.least_left;
  least_right = other_first L old.time old.count s R old entry new rest R i f.least_right;
  below = λ u l. go u (was_or_came L L' rest.time u rest.count a l);
  above = f.above;
}
  where
    go : (u : Time) → (u ≡ rest.time) ⊎ (0 < count L u) → key_of u < s
    go u (inl x) = subst (λ (y : Time). key_of y < s) (sym x) k
    go u (inr x) = f.below u x

pub added_right : (L R R' : TimeCounts) (s : ℕ) (old entry new rest : Entry) → IsFork L old.time old.count s R → 0 < entry.count → IsSifted old entry new rest → Adds R R' rest.time rest.count → s ≤ key_of rest.time → IsFork L new.time new.count s R'
added_right L R R' s old entry new rest f h i a k = record {
  some = some_stays L old.time old.count s R old entry new rest i f.some h;
  least_left = other_first L old.time old.count s R old entry new rest L i f.least_left;
  least_right = side_first L old.time old.count s R old entry new rest R R' i a f.least_right;
  below = f.below;
  above = λ u l. go u (was_or_came R R' rest.time u rest.count a l);
}
  where
    go : (u : Time) → (u ≡ rest.time) ⊎ (0 < count R u) → s ≤ key_of u
    go u (inl x) = subst (λ (y : Time). s ≤ key_of y) (sym x) k
    go u (inr x) = f.above u x

pub adds_left : (L L' R : TimeCounts) (old entry new rest : Entry) → IsSifted old entry new rest → Adds L L' rest.time rest.count → Adds (with_times L old.time old.count R) (with_times L' new.time new.count R) entry.time entry.count
adds_left L L' R old entry new rest i a u = let w = count-with L old.time old.count R u in let x = count-with L' new.time new.count R u in let e = a u in let k = sifted_sum old entry new rest u i in omega arith

pub adds_right : (L R R' : TimeCounts) (old entry new rest : Entry) → IsSifted old entry new rest → Adds R R' rest.time rest.count → Adds (with_times L old.time old.count R) (with_times L new.time new.count R') entry.time entry.count
adds_right L R R' old entry new rest i a u = let w = count-with L old.time old.count R u in let x = count-with L new.time new.count R' u in let e = a u in let k = sifted_sum old entry new rest u i in omega arith

-- ---- an entry taken out

pub pulled_left : (L L' R : TimeCounts) (s : ℕ) (old next : Entry) → IsFork L old.time old.count s R → 0 < next.count → Adds L' L next.time next.count → IsFirst next.time L → IsFirst next.time R → IsFork L' next.time next.count s R
pulled_left L L' R s old next f h a first other = record {
  some = h;
  least_left = λ u l. first u (was_there L L' next.time u next.count a l);
  least_right = other;
  below = λ u l. f.below u (was_there L L' next.time u next.count a l);
  above = f.above;
}

pub pulled_right : (L R R' : TimeCounts) (s : ℕ) (old next : Entry) → IsFork L old.time old.count s R → 0 < next.count → Adds R' R next.time next.count → IsFirst next.time R → IsFirst next.time L → IsFork L next.time next.count s R'
pulled_right L R R' s old next f h a first other = record {
  some = h;
  least_left = other;
  least_right = λ u l. first u (was_there R R' next.time u next.count a l);
  below = f.below;
  above = λ u l. f.above u (was_there R R' next.time u next.count a l);
}

pub taken_left : (L L' R : TimeCounts) (old next : Entry) → Adds L' L next.time next.count → Adds (with_times L' next.time next.count R) (with_times L old.time old.count R) old.time old.count
taken_left L L' R old next a u = let w = count-with L old.time old.count R u in let x = count-with L' next.time next.count R u in let e = a u in omega arith

pub taken_right : (L R R' : TimeCounts) (old next : Entry) → Adds R' R next.time next.count → Adds (with_times L next.time next.count R') (with_times L old.time old.count R) old.time old.count
taken_right L R R' old next a u = let w = count-with L old.time old.count R u in let x = count-with L next.time next.count R' u in let e = a u in omega arith

pub taken_last : (L R : TimeCounts) (old : Entry) → IsNone L → IsNone R → Adds [] (with_times L old.time old.count R) old.time old.count
taken_last L R old l r u = let w = count-with L old.time old.count R u in let a = l u in let b = r u in omega arith

-- the top is removed, if a side is empty
pub lifted_right : (L : TimeCounts) (t : Time) (n : ℕ) (R : TimeCounts) → IsNone L → Adds R (with_times L t n R) t n
lifted_right L t n R none u = let w = count-with L t n R u in let a = none u in omega arith

pub lifted_left : (L : TimeCounts) (t : Time) (n : ℕ) (R : TimeCounts) → IsNone R → Adds L (with_times L t n R) t n
lifted_left L t n R none u = let w = count-with L t n R u in let a = none u in omega arith

-- ---- a time taken out once

pub lowered_fork : (L R : TimeCounts) (t : Time) (n s : ℕ) → IsFork L t n s R → 1 < n → IsFork L t (n - 1) s R
lowered_fork L R t n s f h = record { some = omega arith; least_left = f.least_left; least_right = f.least_right; below = f.below; above = f.above }

pub lowered_adds : (L R : TimeCounts) (t : Time) (n : ℕ) → 0 < n → Adds (with_times L t (n - 1) R) (with_times L t n R) t 1
lowered_adds L R t n h u =
    let q : n ≡ (n - 1) + 1 = omega arith in
    let e = ap (if_same u t) q ∙ same_sum u t (n - 1) 1 in
    let w = count-with L t n R u in
    let x = count-with L t (n - 1) R u in
    omega arith

pub removed_left : (L L' R : TimeCounts) (t u : Time) (n s : ℕ) → IsFork L t n s R → Adds L' L u 1 → IsFork L' t n s R
removed_left L L' R t u n s f a = record {
  some = f.some;
  least_left = λ v l. f.least_left v (was_there L L' u v 1 a l);
  least_right = f.least_right;
  below = λ v l. f.below v (was_there L L' u v 1 a l);
  above = f.above;
}

pub removed_right : (L R R' : TimeCounts) (t u : Time) (n s : ℕ) → IsFork L t n s R → Adds R' R u 1 → IsFork L t n s R'
removed_right L R R' t u n s f a = record {
  some = f.some;
  least_left = f.least_left;
  least_right = λ v l. f.least_right v (was_there R R' u v 1 a l);
  below = f.below;
  above = λ v l. f.above v (was_there R R' u v 1 a l);
}

pub less_left : (L L' R : TimeCounts) (t u : Time) (n : ℕ) → Adds L' L u 1 → Adds (with_times L' t n R) (with_times L t n R) u 1
less_left L L' R t u n a v = let w = count-with L t n R v in let x = count-with L' t n R v in let e = a v in omega arith

pub less_right : (L R R' : TimeCounts) (t u : Time) (n : ℕ) → Adds R' R u 1 → Adds (with_times L t n R') (with_times L t n R) u 1
less_right L R R' t u n a v = let w = count-with L t n R v in let x = count-with L t n R' v in let e = a v in omega arith

-- the side on which another time is
pub on_left : (L R : TimeCounts) (t u : Time) (n s : ℕ) → IsFork L t n s R → 0 < count (with_times L t n R) u → (u ≡ t → ⊥) → key_of u < s → 0 < count L u
on_left L R t u n s f h d k = go (stands L t n s R u h)
  where
    go : Stands L t n s R u → 0 < count L u
    go (Stands.here e) = absurd (d e)
    go (Stands.left a) = a
    go (Stands.right a) = absurd (let m = f.above u a in omega arith)

pub on_right : (L R : TimeCounts) (t u : Time) (n s : ℕ) → IsFork L t n s R → 0 < count (with_times L t n R) u → (u ≡ t → ⊥) → s ≤ key_of u → 0 < count R u
on_right L R t u n s f h d k = go (stands L t n s R u h)
  where
    go : Stands L t n s R u → 0 < count R u
    go (Stands.here e) = absurd (d e)
    go (Stands.left a) = absurd (let m = f.below u a in omega arith)
    go (Stands.right a) = a

-- ---- the least of the times that count for a question

pub least_here : (L R : TimeCounts) (t : Time) (n s : ℕ) (until : Time) (other : Bool) → IsFork L t n s R → IsAsked until other t → IsLeast (with_times L t n R) until other t
least_here L R t n s until other f a = record { there = fork_there L t n s R f.some; asked = a; least = λ u h k. fork_first L t n s R f u h }

pub least_left : (L R : TimeCounts) (t v : Time) (n s : ℕ) (until : Time) (other : Bool) → IsFork L t n s R → (IsAsked until other t → ⊥) → IsNoneAsked R until other → IsLeast L until other v → IsLeast (with_times L t n R) until other v
least_left L R t v n s until other f d r l = record { there = let k = l.there in let w = count-with L t n R v in omega arith; asked = l.asked; least = λ u h k. go u k (stands L t n s R u h) }
  where
    go : (u : Time) → IsAsked until other u → Stands L t n s R u → NoLater v u
    go u k (Stands.here e) = absurd (d (subst (IsAsked until other) e k))
    go u k (Stands.left a) = l.least u a k
    go u k (Stands.right a) = absurd (r u a k)

pub least_right : (L R : TimeCounts) (t v : Time) (n s : ℕ) (until : Time) (other : Bool) → IsFork L t n s R → (IsAsked until other t → ⊥) → IsNoneAsked L until other → IsLeast R until other v → IsLeast (with_times L t n R) until other v
least_right L R t v n s until other f d r l = record { there = let k = l.there in let w = count-with L t n R v in omega arith; asked = l.asked; least = λ u h k. go u k (stands L t n s R u h) }
  where
    go : (u : Time) → IsAsked until other u → Stands L t n s R u → NoLater v u
    go u k (Stands.here e) = absurd (d (subst (IsAsked until other) e k))
    go u k (Stands.left a) = absurd (r u a k)
    go u k (Stands.right a) = l.least u a k

pub none_asked : (L R : TimeCounts) (t : Time) (n s : ℕ) (until : Time) (other : Bool) → IsFork L t n s R → (IsAsked until other t → ⊥) → IsNoneAsked L until other → IsNoneAsked R until other → IsNoneAsked (with_times L t n R) until other
none_asked L R t n s until other f d l r u h k = go (stands L t n s R u h)
  where
    go : Stands L t n s R u → ⊥
    go (Stands.here e) = d (subst (IsAsked until other) e k)
    go (Stands.left a) = l u a k
    go (Stands.right a) = r u a k

-- the least of both sides
pub least_both_left : (L R : TimeCounts) (t v w : Time) (n s : ℕ) (until : Time) (other : Bool) → IsFork L t n s R → (IsAsked until other t → ⊥) → IsLeast L until other v → IsLeast R until other w → NoLater v w → IsLeast (with_times L t n R) until other v
least_both_left L R t v w n s until other f d l r h = record { there = let k = l.there in let w = count-with L t n R v in omega arith; asked = l.asked; least = λ u m k. go u k (stands L t n s R u m) }
  where
    go : (u : Time) → IsAsked until other u → Stands L t n s R u → NoLater v u
    go u k (Stands.here e) = absurd (d (subst (IsAsked until other) e k))
    go u k (Stands.left a) = l.least u a k
    go u k (Stands.right a) = no_later_on v w u h (r.least u a k)

pub least_both_right : (L R : TimeCounts) (t v w : Time) (n s : ℕ) (until : Time) (other : Bool) → IsFork L t n s R → (IsAsked until other t → ⊥) → IsLeast L until other v → IsLeast R until other w → NoLater w v → IsLeast (with_times L t n R) until other w
least_both_right L R t v w n s until other f d l r h = record { there = let k = r.there in let w = count-with L t n R w in omega arith; asked = r.asked; least = λ u m k. go u k (stands L t n s R u m) }
  where
    go : (u : Time) → IsAsked until other u → Stands L t n s R u → NoLater w u
    go u k (Stands.here e) = absurd (d (subst (IsAsked until other) e k))
    go u k (Stands.left a) = no_later_on w v u h (l.least u a k)
    go u k (Stands.right a) = r.least u a k

-- what is on the right of a split in a later epoch doesn't count
pub right_late : (L R : TimeCounts) (t : Time) (n s : ℕ) (until : Time) (other : Bool) → IsFork L t n s R → until.epoch < s / 4294967296 → IsNoneAsked R until other
right_late L R t n s until other f h u l k = absurd (let e = split_epoch u s (f.above u l) in let m = k.epochs in omega arith)

-- ---- tops

time_or : Time → Option CountedTime → Time
time_or t None = t
time_or t (Some h) = h.0

top_same : (t u : Time) (m n : ℕ) → Some (counted_time t m) ≡ Some (counted_time u n) → t ≡ u
unfolding time_or
top_same t u m n e = ap (time_or t) e

pub leads_by : (a b : TimeCounts) (x y : Time) (n : ℕ) → top a ≡ Some (counted_time x n) → NoLater x y → IsFirst y b → Leads a b
leads_by a b x y n e h f = record {
  empty = λ q. absurd (never (sym q ∙ e));
  before = λ t m q u l. subst (λ z. NoLater z u) (sym (top_same t x m n (sym q ∙ e))) (no_later_on x y u h (f u l));
}
  where
    never : None ≡ Some (counted_time x n) → ⊥
    never q = cc

pub eq_differs : (t u : Time) (b : Bool) → b ≡ same_time t u → b ≡ false → u ≡ t → ⊥
eq_differs t u b e f x = go (same_time_tells t u)
  where
    go : ((same_time t u ≡ true) × (t ≡ u)) ⊎ ((same_time t u ≡ false) × (t ≢ u)) → ⊥
    go (inl (p, q)) = true≢false (sym p ∙ sym e ∙ f)
    go (inr (p, q)) = q (sym x)

pub eq_same : (t u : Time) (b : Bool) → b ≡ same_time t u → b ≡ true → t ≡ u
eq_same t u b e f = go (same_time_tells t u)
  where
    go : ((same_time t u ≡ true) × (t ≡ u)) ⊎ ((same_time t u ≡ false) × (t ≢ u)) → t ≡ u
    go (inl (p, q)) = q
    go (inr (p, q)) = absurd (true≢false (sym f ∙ e ∙ p))
