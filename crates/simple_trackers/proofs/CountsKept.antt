-- Occurrence and precursor counts, as pointstamps are added and removed.
use Rattle.std.proofs.Common.{◌≡◌, ◌≢◌, ◌⊎◌, inl, inr, ℕ, zero, suc, ◌+◌, ◌*◌, ◌≤◌, ◌<◌, true, false, eqb, List, [], ◌∷◌, ◌++◌, length, take, Some, slice_get, slice_set, refl, sym, ap, subst, ◌∙◌, arith, add-one}
use Rattle.std.specs.Prelude.{remove, IsTrue, ◌↔◌}
use Rattle.std.proofs.lemmas.Bool.Decides.{eqb_tells}
use Rattle.std.proofs.lemmas.Option.{slice_get_within, same_Some}
use Rattle.semantics.proofs.MultisetSums.{total-append}
use Rattle.semantics.specs.Graph.{Graph}
use Rattle.semantics.specs.Could.{Pointstamp, IsTimeAt, CouldResultIn, NoOtherOf}
use Rattle.semantics.proofs.Cases.{below_or_last, is_true}
use Rattle.machine.specs.Active.{one_if_same}
use Rattle.machine.proofs.Active.{one_tells, one_self}
use Rattle.progress.specs.Content.{times_in, IsClear, IsBlocked}
use Rattle.simple_trackers.specs.Counts.{occurrences_in, all_occurrences, pointstamps, IsPrecursor, IsPrecursorCount, AreKnown, AreExact, CountsPrecursor, AllCountPrecursor, OccursOnceMore}
use Rattle.simple_trackers.specs.declared.counted.Counted.{Counted}
use Rattle.progress.proofs.Contents.{times_got, times_some, times-push, times-removed}
use Rattle.progress.proofs.Options.{not_true}

-- ---- lists of counts

pub stamp_got : (xs : List Counted) (i : ℕ) (c : Counted) → slice_get xs i ≡ Some c → slice_get (pointstamps xs) i ≡ Some c.pointstamp
stamp_got [] zero c h = absurd (let e = h in cc)
stamp_got [] (suc i) c h = absurd (let e = h in cc)
stamp_got (x ∷ xs) zero c h = ap (λ (y : Counted). Some y.pointstamp) (same_Some x c h)
stamp_got (x ∷ xs) (suc i) c h = stamp_got xs i c h

pub got_stamp : (xs : List Counted) (i : ℕ) (p : Pointstamp) → slice_get (pointstamps xs) i ≡ Some p → (c : Counted) × (slice_get xs i ≡ Some c) × (c.pointstamp ≡ p)
got_stamp [] zero p h = absurd (let e = h in cc)
got_stamp [] (suc i) p h = absurd (let e = h in cc)
got_stamp (x ∷ xs) zero p h = (x, refl, same_Some x.pointstamp p h)
got_stamp (x ∷ xs) (suc i) p h = got_stamp xs i p h

pub stamps_long : (xs : List Counted) → length (pointstamps xs) ≡ length xs
stamps_long [] = refl
stamps_long (x ∷ xs) = ap suc (stamps_long xs)

pub stamps_push : (xs : List Counted) (c : Counted) → pointstamps (xs ++ (c ∷ [])) ≡ pointstamps xs ++ (c.pointstamp ∷ [])
stamps_push [] c = refl
stamps_push (x ∷ xs) c = ap (λ (l : List Pointstamp). x.pointstamp ∷ l) (stamps_push xs c)

pub stamps_removed : (xs : List Counted) (i : ℕ) → pointstamps (remove xs i) ≡ remove (pointstamps xs) i
stamps_removed [] zero = refl
stamps_removed [] (suc i) = refl
stamps_removed (x ∷ xs) zero = refl
stamps_removed (x ∷ xs) (suc i) = ap (λ (l : List Pointstamp). x.pointstamp ∷ l) (stamps_removed xs i)

pub stamps_set : (xs : List Counted) (i : ℕ) (c d : Counted) → slice_get xs i ≡ Some c → d.pointstamp ≡ c.pointstamp → pointstamps (slice_set xs i d) ≡ pointstamps xs
stamps_set [] i c d h e = refl
stamps_set (x ∷ xs) zero c d h e = ap (λ (p : Pointstamp). p ∷ pointstamps xs) (e ∙ ap (λ (y : Counted). y.pointstamp) (sym (same_Some x c h)))
stamps_set (x ∷ xs) (suc i) c d h e = ap (λ (l : List Pointstamp). x.pointstamp ∷ l) (stamps_set xs i c d h e)

-- ---- precursor counts

pub count_push : (g : Graph) (p q : Pointstamp) (xs : List Pointstamp) (n : ℕ) → IsPrecursorCount g xs p n → IsPrecursor g q p → IsPrecursorCount g (xs ++ (q ∷ [])) p (suc n)
count_push g p q [] n h b = inl (b, (n, refl, h))
count_push g p q (x ∷ xs) n (inl a) b = inl (a.0, (suc a.1.0, ap suc a.1.1, count_push g p q xs a.1.0 a.1.2 b))
count_push g p q (x ∷ xs) n (inr a) b = inr (a.0, count_push g p q xs n a.1 b)

pub count_skip : (g : Graph) (p q : Pointstamp) (xs : List Pointstamp) (n : ℕ) → IsPrecursorCount g xs p n → (IsPrecursor g q p → ⊥) → IsPrecursorCount g (xs ++ (q ∷ [])) p n
count_skip g p q [] n h b = inr (b, h)
count_skip g p q (x ∷ xs) n (inl a) b = inl (a.0, (a.1.0, a.1.1, count_skip g p q xs a.1.0 a.1.2 b))
count_skip g p q (x ∷ xs) n (inr a) b = inr (a.0, count_skip g p q xs n a.1 b)

pub count_drop : (g : Graph) (p q : Pointstamp) (xs : List Pointstamp) (i n : ℕ) → slice_get xs i ≡ Some q → IsPrecursorCount g xs p n → IsPrecursor g q p → (m : ℕ) × (n ≡ suc m) × IsPrecursorCount g (remove xs i) p m
count_drop g p q [] zero n e h b = absurd (let k = e in cc)
count_drop g p q [] (suc i) n e h b = absurd (let k = e in cc)
count_drop g p q (x ∷ xs) zero n e (inl a) b = a.1
count_drop g p q (x ∷ xs) zero n e (inr a) b = absurd (a.0 (subst (λ (y : Pointstamp). IsPrecursor g y p) (same_Some q x (sym e)) b))
count_drop g p q (x ∷ xs) (suc i) n e (inl a) b =
    let r = count_drop g p q xs i a.1.0 e a.1.2 b in
    (suc r.0, (a.1.1 ∙ ap suc r.1), inl (a.0, (r.0, refl, r.2)))
count_drop g p q (x ∷ xs) (suc i) n e (inr a) b =
    let r = count_drop g p q xs i n e a.1 b in
    (r.0, r.1, inr (a.0, r.2))

pub count_keep : (g : Graph) (p q : Pointstamp) (xs : List Pointstamp) (i n : ℕ) → slice_get xs i ≡ Some q → IsPrecursorCount g xs p n → (IsPrecursor g q p → ⊥) → IsPrecursorCount g (remove xs i) p n
count_keep g p q [] zero n e h b = absurd (let k = e in cc)
count_keep g p q [] (suc i) n e h b = absurd (let k = e in cc)
count_keep g p q (x ∷ xs) zero n e (inl a) b = absurd (b (subst (λ (y : Pointstamp). IsPrecursor g y p) (same_Some x q e) a.0))
count_keep g p q (x ∷ xs) zero n e (inr a) b = a.1
count_keep g p q (x ∷ xs) (suc i) n e (inl a) b = inl (a.0, (a.1.0, a.1.1, count_keep g p q xs i a.1.0 e a.1.2 b))
count_keep g p q (x ∷ xs) (suc i) n e (inr a) b = inr (a.0, count_keep g p q xs i n e a.1 b)

-- the count is 0 exactly if there is no precursor
pub count_zero : (g : Graph) (p q : Pointstamp) (xs : List Pointstamp) (n i : ℕ) → IsPrecursorCount g xs p n → slice_get xs i ≡ Some q → IsPrecursor g q p → 0 < n
count_zero g p q xs n i h e b = let r = count_drop g p q xs i n e h b in let k = r.1 in omega arith

pub count_some : (g : Graph) (p : Pointstamp) (xs : List Pointstamp) (n : ℕ) → 0 < n → IsPrecursorCount g xs p n → (i : ℕ) × ((q : Pointstamp) × (slice_get xs i ≡ Some q) × IsPrecursor g q p)
count_some g p [] n l h = absurd (let k = h in omega arith)
count_some g p (x ∷ xs) n l (inl a) = (zero, (x, refl, a.0))
count_some g p (x ∷ xs) n l (inr a) = let r = count_some g p xs n l a.1 in (suc r.0, (r.1.0, r.1.1, r.1.2))

pub count_few : (g : Graph) (p : Pointstamp) (xs : List Pointstamp) (n : ℕ) → IsPrecursorCount g xs p n → n ≤ length xs
count_few g p [] n h = let k = h in omega arith
count_few g p (x ∷ xs) n (inl a) = let r = count_few g p xs a.1.0 a.1.2 in let k = a.1.1 in omega arith
count_few g p (x ∷ xs) n (inr a) = let r = count_few g p xs n a.1 in omega arith

-- ---- occurrence counts

pub some_there : (xs : List Counted) (i : ℕ) (c : Counted) → slice_get xs i ≡ Some c → c.occurrences ≤ all_occurrences xs
some_there [] zero c h = absurd (let e = h in cc)
some_there [] (suc i) c h = absurd (let e = h in cc)
some_there (x ∷ xs) zero c h = let e = ap (λ (y : Counted). y.occurrences) (same_Some x c h) in omega arith
some_there (x ∷ xs) (suc i) c h = let e = some_there xs i c h in omega arith

pub all_many : (xs : List Counted) → ((i : ℕ) (c : Counted) → slice_get xs i ≡ Some c → 0 < c.occurrences) → length xs ≤ all_occurrences xs
all_many [] h = omega arith
all_many (x ∷ xs) h = let a = h zero x refl in let e = all_many xs (λ i c g. h (suc i) c g) in omega arith

-- a pointstamp that isn't in the list occurs 0 times, and conversely
pub occurs_got : (xs : List Counted) (i : ℕ) (c : Counted) → slice_get xs i ≡ Some c → 0 < c.occurrences → 0 < occurrences_in xs c.pointstamp
occurs_got [] zero c h l = absurd (let e = h in cc)
occurs_got [] (suc i) c h l = absurd (let e = h in cc)
occurs_got (x ∷ xs) zero c h l = subst (λ (y : Counted). 0 < occurrences_in (x ∷ xs) y.pointstamp) (same_Some x c h) (go (one_if_same x.pointstamp x.pointstamp) (one_self x.pointstamp))
  where
    m : 0 < x.occurrences
    m = subst (λ (y : Counted). 0 < y.occurrences) (sym (same_Some x c h)) l

    go : (k : ℕ) → k ≡ 1 → 0 < k * x.occurrences + occurrences_in xs x.pointstamp
    go k e = rw e (omega (arith, m))
occurs_got (x ∷ xs) (suc i) c h l = let e = occurs_got xs i c h l in omega arith

pub occurs_some : (xs : List Counted) (q : Pointstamp) → 0 < occurrences_in xs q → (i : ℕ) × ((c : Counted) × (slice_get xs i ≡ Some c) × (c.pointstamp ≡ q))
occurs_some [] q h = absurd (omega arith)
occurs_some (x ∷ xs) q h = go (one_tells q x.pointstamp) (occurs_some xs q)
  where
    less : (a n r : ℕ) → a ≡ 0 → 0 < a * n + r → 0 < r
    less a n r e l = let k = rw e at l in omega arith

    go : ((one_if_same q x.pointstamp ≡ 1) × (q ≡ x.pointstamp)) ⊎ ((one_if_same q x.pointstamp ≡ 0) × (q ≢ x.pointstamp)) → (0 < occurrences_in xs q → (i : ℕ) × ((c : Counted) × (slice_get xs i ≡ Some c) × (c.pointstamp ≡ q)))
        → (i : ℕ) × ((c : Counted) × (slice_get (x ∷ xs) i ≡ Some c) × (c.pointstamp ≡ q))
    go (inl a) rest = (zero, (x, refl, sym a.1))
    go (inr a) rest = let r = rest (less (one_if_same q x.pointstamp) x.occurrences (occurrences_in xs q) a.0 h) in (suc r.0, (r.1.0, r.1.1, r.1.2))

pub occurs_set : (q : Pointstamp) (xs : List Counted) (i : ℕ) (c d : Counted) → slice_get xs i ≡ Some c → d.pointstamp ≡ c.pointstamp → d.occurrences ≡ suc c.occurrences → occurrences_in (slice_set xs i d) q ≡ one_if_same q c.pointstamp + occurrences_in xs q
occurs_set q [] zero c d h e f = absurd (let k = h in cc)
occurs_set q [] (suc i) c d h e f = absurd (let k = h in cc)
occurs_set q (x ∷ xs) zero c d h e f = go (same_Some x c h)
  where
    more : (a n m r : ℕ) → m ≡ suc n → a * m + r ≡ a + (a * n + r)
    more a n m r e = rw e (grind arith)

    go : x ≡ c → occurrences_in (d ∷ xs) q ≡ one_if_same q c.pointstamp + occurrences_in (x ∷ xs) q
    go k = rw (e, k) (more (one_if_same q c.pointstamp) c.occurrences d.occurrences (occurrences_in xs q) f)
occurs_set q (x ∷ xs) (suc i) c d h e f = let r = occurs_set q xs i c d h e f in omega arith

pub all_set : (xs : List Counted) (i : ℕ) (c d : Counted) → slice_get xs i ≡ Some c → d.occurrences ≡ suc c.occurrences → all_occurrences (slice_set xs i d) ≡ suc (all_occurrences xs)
all_set [] zero c d h f = absurd (let k = h in cc)
all_set [] (suc i) c d h f = absurd (let k = h in cc)
all_set (x ∷ xs) zero c d h f = let e = ap (λ (y : Counted). y.occurrences) (same_Some x c h) in omega arith
all_set (x ∷ xs) (suc i) c d h f = let r = all_set xs i c d h f in omega arith

pub occurs_none : (p : Pointstamp) (xs : List Counted) → times_in (pointstamps xs) p ≡ 0 → occurrences_in xs p ≡ 0
occurs_none p [] e = refl
occurs_none p (x ∷ xs) e = nothing (one_if_same p x.pointstamp) x.occurrences (occurrences_in xs p) (omega arith) (occurs_none p xs (omega arith))
  where
    nothing : (a n r : ℕ) → a ≡ 0 → r ≡ 0 → a * n + r ≡ 0
    nothing a n r e f = rw (e, f) (omega arith)

pub stamp_there : (xs : List Counted) (q : Pointstamp) → 0 < occurrences_in xs q → 0 < times_in (pointstamps xs) q
stamp_there xs q h =
    let s = occurs_some xs q h in
    times_got (pointstamps xs) s.0 q (stamp_got xs s.0 s.1.0 s.1.1 ∙ ap (λ (y : Pointstamp). Some y) s.1.2)

-- if each is active, one in the list occurs
pub stamp_occurs : (xs : List Counted) (i : ℕ) (q : Pointstamp) → ((i : ℕ) (c : Counted) → slice_get xs i ≡ Some c → 0 < c.occurrences) → slice_get (pointstamps xs) i ≡ Some q → 0 < occurrences_in xs q
stamp_occurs xs i q all h =
    let s = got_stamp xs i q h in
    subst (λ (y : Pointstamp). 0 < occurrences_in xs y) s.2 (occurs_got xs i s.0 s.1 (all i s.0 s.1))

pub stamp_absent : (xs : List Counted) (p : Pointstamp) → ((i : ℕ) (c : Counted) → slice_get xs i ≡ Some c → 0 < c.occurrences) → occurrences_in xs p ≡ 0 → times_in (pointstamps xs) p ≡ 0
stamp_absent xs p all e = go (times_in (pointstamps xs) p) refl
  where
    go : (n : ℕ) → times_in (pointstamps xs) p ≡ n → times_in (pointstamps xs) p ≡ 0
    go zero k = k
    go (suc n) k = let s = times_some (pointstamps xs) p (omega arith) in absurd (let l = stamp_occurs xs s.0 p all s.1 in omega arith)

-- ---- scans

-- none of the first n is p
abbrev pub NoneTo : List Pointstamp → Pointstamp → ℕ → Type 0
NoneTo xs p n = (i : ℕ) (q : Pointstamp) → i < n → slice_get xs i ≡ Some q → q ≡ p → ⊥

pub none_more : (xs : List Pointstamp) (p x : Pointstamp) (n : ℕ) → NoneTo xs p n → slice_get xs n ≡ Some x → (x ≡ p → ⊥) → NoneTo xs p (n + 1)
none_more xs p x n before h d i q l k e = go (below_or_last i n l)
  where
    go : (i < n) ⊎ (i ≡ n) → ⊥
    go (inl a) = before i q a k e
    go (inr a) = d (same_Some x q (sym h ∙ ap (slice_get xs) (sym a) ∙ k) ∙ e)

pub take_more : (xs : List Pointstamp) (n : ℕ) (x : Pointstamp) → slice_get xs n ≡ Some x → take (n + 1) xs ≡ take n xs ++ (x ∷ [])
take_more xs n x h = rw (add-one n) (go xs n h)
  where
    go : (xs : List Pointstamp) (n : ℕ) → slice_get xs n ≡ Some x → take (suc n) xs ≡ take n xs ++ (x ∷ [])
    go [] zero h = absurd (let e = h in cc)
    go [] (suc n) h = absurd (let e = h in cc)
    go (y ∷ ys) zero h = ap (λ (z : Pointstamp). z ∷ []) (same_Some y x h)
    go (y ∷ ys) (suc n) h = ap (λ (l : List Pointstamp). y ∷ l) (go ys n h)

pub take_whole : (xs : List Pointstamp) (n : ℕ) → length xs ≤ n → take n xs ≡ xs
take_whole [] zero l = refl
take_whole [] (suc n) l = refl
take_whole (x ∷ xs) zero l = absurd (omega arith)
take_whole (x ∷ xs) (suc n) l = ap (λ (l : List Pointstamp). x ∷ l) (take_whole xs n (omega arith))

-- ---- one change of each, in turn

-- those below n are changed as R says, and the others not yet
pub record IsDoneTo (R : Counted → Counted → Type 0) (old new : List Counted) (n : ℕ) : Type 0 where
  pub stamps : pointstamps new ≡ pointstamps old
  pub done : (i : ℕ) (c d : Counted) → i < n → slice_get old i ≡ Some c → slice_get new i ≡ Some d → R c d
  pub rest : (i : ℕ) (c : Counted) → n ≤ i → slice_get new i ≡ Some c → slice_get old i ≡ Some c

pub none_done : (R : Counted → Counted → Type 0) (xs : List Counted) → IsDoneTo R xs xs 0
none_done R xs = record { stamps = refl; done = λ i c d l h k. absurd (omega arith); rest = λ i c l h. h }

pub long_done : (R : Counted → Counted → Type 0) (old new : List Counted) (n : ℕ) → IsDoneTo R old new n → length new ≡ length old
long_done R old new n t = sym (stamps_long new) ∙ ap (λ (l : List Pointstamp). length l) t.stamps ∙ stamps_long old

set_here : (xs : List Counted) (i : ℕ) (d : Counted) → i < length xs → slice_get (slice_set xs i d) i ≡ Some d
set_here [] i d l = absurd (omega arith)
set_here (x ∷ xs) zero d l = refl
set_here (x ∷ xs) (suc i) d l = set_here xs i d (omega arith)

set_else : (xs : List Counted) (i j : ℕ) (d : Counted) → (j ≡ i → ⊥) → slice_get (slice_set xs i d) j ≡ slice_get xs j
set_else [] i j d h = refl
set_else (x ∷ xs) zero zero d h = absurd (h refl)
set_else (x ∷ xs) zero (suc j) d h = refl
set_else (x ∷ xs) (suc i) zero d h = refl
set_else (x ∷ xs) (suc i) (suc j) d h = set_else xs i j d (λ e. h (ap suc e))

-- an element of a list with one entry set is that entry, or was there before
set_got : (xs : List Counted) (i j : ℕ) (c d e : Counted) → slice_get xs i ≡ Some c → slice_get (slice_set xs i d) j ≡ Some e → ((j ≡ i) × (e ≡ d)) ⊎ ((j ≢ i) × (slice_get xs j ≡ Some e))
set_got xs i j c d e h k = go (eqb_tells j i)
  where
    go : ((eqb j i ≡ true) × (j ≡ i)) ⊎ ((eqb j i ≡ false) × (j ≢ i)) → ((j ≡ i) × (e ≡ d)) ⊎ ((j ≢ i) × (slice_get xs j ≡ Some e))
    go (inl a) = inl (a.1, same_Some e d (sym k ∙ ap (slice_get (slice_set xs i d)) a.1 ∙ set_here xs i d (slice_get_within xs i c h)))
    go (inr a) = inr (a.1, sym (set_else xs i j d a.1) ∙ k)

pub done_more : (R : Counted → Counted → Type 0) (old new : List Counted) (n : ℕ) (c d : Counted) → IsDoneTo R old new n → slice_get new n ≡ Some c → d.pointstamp ≡ c.pointstamp → R c d → IsDoneTo R old (slice_set new n d) (n + 1)
done_more R old new n c d t h e r =
    record {
      stamps = stamps_set new n c d h e ∙ t.stamps;
      done = λ i b f l k m. now i b f k (below_or_last i n l) (set_got new n i c d f h m);
      rest = λ i b l m. later i b l (set_got new n i c d b h m);
    }
  where
    now : (i : ℕ) (b f : Counted) → slice_get old i ≡ Some b → (i < n) ⊎ (i ≡ n) → ((i ≡ n) × (f ≡ d)) ⊎ ((i ≢ n) × (slice_get new i ≡ Some f)) → R b f
    now i b f k (inl a) (inl m) = absurd (let x = m.0 in omega arith)
    now i b f k (inl a) (inr m) = t.done i b f a k m.1
    now i b f k (inr a) (inr m) = absurd (m.0 a)
    now i b f k (inr a) (inl m) =
        let was : b ≡ c = same_Some b c (sym k ∙ ap (slice_get old) a ∙ t.rest n c (omega arith) h) in
        subst (λ (y : Counted). R y f) (sym was) (subst (R c) (sym m.1) r)

    later : (i : ℕ) (b : Counted) → n + 1 ≤ i → ((i ≡ n) × (b ≡ d)) ⊎ ((i ≢ n) × (slice_get new i ≡ Some b)) → slice_get old i ≡ Some b
    later i b l (inl m) = absurd (let x = m.0 in omega arith)
    later i b l (inr m) = t.rest i b (omega arith) m.1

pub all_added : (g : Graph) (p : Pointstamp) (old new : List Counted) (n : ℕ) → length old ≤ n → IsDoneTo (CountsPrecursor g p) old new n → AllCountPrecursor g p old new
all_added g p old new n l t = record { same = t.stamps; each = λ i c d h k. t.done i c d (let b = slice_get_within old i c h in omega arith) h k }

pub all_removed : (g : Graph) (p : Pointstamp) (old new : List Counted) (n : ℕ) → length old ≤ n → IsDoneTo (λ c d. CountsPrecursor g p d c) old new n → AllCountPrecursor g p new old
all_removed g p old new n l t = record { same = sym t.stamps; each = λ i d c k h. t.done i c d (let b = slice_get_within old i c h in omega arith) h k }

-- ---- what is exact stays so

pub exact_none : (g : Graph) → AreExact g []
exact_none g = record { known = λ i c h. absurd (nothing i c h); active = λ i c h. absurd (nothing i c h); once = λ q. omega arith; precursors = λ i c h. absurd (nothing i c h) }
  where
    nothing : (i : ℕ) (c : Counted) → slice_get [] i ≡ Some c → ⊥
    nothing zero c h = let e = h in cc
    nothing (suc i) c h = let e = h in cc

pub exact_set : (g : Graph) (xs : List Counted) (i : ℕ) (c d : Counted) → slice_get xs i ≡ Some c → d.pointstamp ≡ c.pointstamp → d.precursors ≡ c.precursors → 0 < d.occurrences → AreExact g xs → AreExact g (slice_set xs i d)
exact_set g xs i c d h e f l x =
    record {
      known = λ j b k. known j b (set_got xs i j c d b h k);
      active = λ j b k. active j b (set_got xs i j c d b h k);
      once = λ q. rw same (x.once q);
      precursors = λ j b k. rw same (precursors j b (set_got xs i j c d b h k));
    }
  where
    same : pointstamps (slice_set xs i d) ≡ pointstamps xs
    same = stamps_set xs i c d h e

    known : (j : ℕ) (b : Counted) → ((j ≡ i) × (b ≡ d)) ⊎ ((j ≢ i) × (slice_get xs j ≡ Some b)) → IsTimeAt g b.pointstamp.location b.pointstamp.time
    known j b (inl m) = subst (λ (p : Pointstamp). IsTimeAt g p.location p.time) (sym (ap (λ (y : Counted). y.pointstamp) m.1 ∙ e)) (x.known i c h)
    known j b (inr m) = x.known j b m.1

    active : (j : ℕ) (b : Counted) → ((j ≡ i) × (b ≡ d)) ⊎ ((j ≢ i) × (slice_get xs j ≡ Some b)) → 0 < b.occurrences
    active j b (inl m) = subst (λ (y : Counted). 0 < y.occurrences) (sym m.1) l
    active j b (inr m) = x.active j b m.1

    precursors : (j : ℕ) (b : Counted) → ((j ≡ i) × (b ≡ d)) ⊎ ((j ≢ i) × (slice_get xs j ≡ Some b)) → IsPrecursorCount g (pointstamps xs) b.pointstamp b.precursors
    precursors j b (inl m) =
        subst (λ (y : Counted). IsPrecursorCount g (pointstamps xs) y.pointstamp y.precursors) (sym m.1)
        (subst (λ (p : Pointstamp). IsPrecursorCount g (pointstamps xs) p d.precursors) (sym e) (subst (IsPrecursorCount g (pointstamps xs) c.pointstamp) (sym f) (x.precursors i c h)))
    precursors j b (inr m) = x.precursors j b m.1

-- the elements at one place of two lists of the same pointstamps
pub facing : (xs ys : List Counted) (i : ℕ) (d : Counted) → pointstamps ys ≡ pointstamps xs → slice_get ys i ≡ Some d → (c : Counted) × (slice_get xs i ≡ Some c) × (c.pointstamp ≡ d.pointstamp)
facing xs ys i d e h = got_stamp xs i d.pointstamp (ap (λ (l : List Pointstamp). slice_get l i) (sym e) ∙ stamp_got ys i d h)

got_push : (xs : List Counted) (i : ℕ) (c d : Counted) → slice_get (xs ++ (c ∷ [])) i ≡ Some d → (slice_get xs i ≡ Some d) ⊎ (d ≡ c)
got_push [] zero c d h = inr (same_Some d c (sym h))
got_push [] (suc zero) c d h = absurd (let e = h in cc)
got_push [] (suc (suc i)) c d h = absurd (let e = h in cc)
got_push (x ∷ xs) zero c d h = inl h
got_push (x ∷ xs) (suc i) c d h = got_push xs i c d h

got_removed : (xs : List Counted) (i j : ℕ) (d : Counted) → slice_get (remove xs i) j ≡ Some d → (k : ℕ) × (slice_get xs k ≡ Some d)
got_removed [] zero j d h = (j, h)
got_removed [] (suc i) j d h = (j, h)
got_removed (x ∷ xs) zero j d h = (suc j, h)
got_removed (x ∷ xs) (suc i) zero d h = (zero, h)
got_removed (x ∷ xs) (suc i) (suc j) d h = let r = got_removed xs i j d h in (suc r.0, r.1)

pub exact_enters : (g : Graph) (p : Pointstamp) (xs ys : List Counted) (c : Counted) → IsTimeAt g p.location p.time → AreExact g xs → occurrences_in xs p ≡ 0 → AllCountPrecursor g p xs ys
    → c.pointstamp ≡ p → 0 < c.occurrences → IsPrecursorCount g (pointstamps xs) p c.precursors → AreExact g (ys ++ (c ∷ []))
exact_enters g p xs ys c fits x fresh all e l n =
    record {
      known = λ i d h. known d i (got_push ys i c d h);
      active = λ i d h. active d i (got_push ys i c d h);
      once = λ q. rw stamps (once q (one_tells q p));
      precursors = λ i d h. rw stamps (precursors d i (got_push ys i c d h));
    }
  where
    stamps : pointstamps (ys ++ (c ∷ [])) ≡ pointstamps xs ++ (p ∷ [])
    stamps = stamps_push ys c ∙ ap (λ (l : List Pointstamp). l ++ (c.pointstamp ∷ [])) all.same ∙ ap (λ (q : Pointstamp). pointstamps xs ++ (q ∷ [])) e

    known : (d : Counted) (i : ℕ) → (slice_get ys i ≡ Some d) ⊎ (d ≡ c) → IsTimeAt g d.pointstamp.location d.pointstamp.time
    known d i (inl h) = let f = facing xs ys i d all.same h in subst (λ (q : Pointstamp). IsTimeAt g q.location q.time) f.2 (x.known i f.0 f.1)
    known d i (inr h) = subst (λ (q : Pointstamp). IsTimeAt g q.location q.time) (sym (ap (λ (y : Counted). y.pointstamp) h ∙ e)) fits

    active : (d : Counted) (i : ℕ) → (slice_get ys i ≡ Some d) ⊎ (d ≡ c) → 0 < d.occurrences
    active d i (inl h) = let f = facing xs ys i d all.same h in let a = x.active i f.0 f.1 in let b = (all.each i f.0 d f.1 h).occurrences in omega arith
    active d i (inr h) = subst (λ (y : Counted). 0 < y.occurrences) (sym h) l

    once : (q : Pointstamp) → ((one_if_same q p ≡ 1) × (q ≡ p)) ⊎ ((one_if_same q p ≡ 0) × (q ≢ p)) → times_in (pointstamps xs ++ (p ∷ [])) q ≤ 1
    once q (inl a) = let t = times-push q (pointstamps xs) p in let z = stamp_absent xs p x.active fresh in let w = ap (times_in (pointstamps xs)) a.1 in let o = a.0 in omega arith
    once q (inr a) = let t = times-push q (pointstamps xs) p in let z = x.once q in let o = a.0 in omega arith

    counted : (d b : Counted) (i : ℕ) → slice_get xs i ≡ Some b → CountsPrecursor g p b d → IsPrecursorCount g (pointstamps xs ++ (p ∷ [])) b.pointstamp d.precursors
    counted d b i h k = go k.precursors
      where
        go : (IsPrecursor g p b.pointstamp × (d.precursors ≡ suc b.precursors)) ⊎ ((IsPrecursor g p b.pointstamp → ⊥) × (d.precursors ≡ b.precursors)) → IsPrecursorCount g (pointstamps xs ++ (p ∷ [])) b.pointstamp d.precursors
        go (inl a) = rw a.1 (count_push g b.pointstamp p (pointstamps xs) b.precursors (x.precursors i b h) a.0)
        go (inr a) = rw a.1 (count_skip g b.pointstamp p (pointstamps xs) b.precursors (x.precursors i b h) a.0)

    precursors : (d : Counted) (i : ℕ) → (slice_get ys i ≡ Some d) ⊎ (d ≡ c) → IsPrecursorCount g (pointstamps xs ++ (p ∷ [])) d.pointstamp d.precursors
    precursors d i (inl h) =
        let f = facing xs ys i d all.same h in
        subst (λ (q : Pointstamp). IsPrecursorCount g (pointstamps xs ++ (p ∷ [])) q d.precursors) f.2 (counted d f.0 i f.1 (all.each i f.0 d f.1 h))
    precursors d i (inr h) =
        subst (λ (y : Counted). IsPrecursorCount g (pointstamps xs ++ (p ∷ [])) y.pointstamp y.precursors) (sym h)
        (subst (λ (q : Pointstamp). IsPrecursorCount g (pointstamps xs ++ (p ∷ [])) q c.precursors) (sym e) (count_skip g p p (pointstamps xs) c.precursors n (λ b. b.0 refl)))

pub known_removed : (g : Graph) (xs : List Counted) (i : ℕ) → AreKnown g xs → AreKnown g (remove xs i)
known_removed g xs i all j d h = let r = got_removed xs i j d h in all r.0 d r.1

-- a pointstamp of which p is a precursor has a precursor
pub removed_some : (g : Graph) (p : Pointstamp) (xs : List Counted) (i : ℕ) → AreExact g xs → slice_get (pointstamps xs) i ≡ Some p → (j : ℕ) (d : Counted) → slice_get (remove xs i) j ≡ Some d → IsPrecursor g p d.pointstamp → 0 < d.precursors
removed_some g p xs i x at j d h b = let r = got_removed xs i j d h in count_zero g d.pointstamp p (pointstamps xs) d.precursors i (x.precursors r.0 d r.1) at b

pub exact_leaves : (g : Graph) (p : Pointstamp) (xs ys : List Counted) (i : ℕ) → AreExact g xs → slice_get (pointstamps xs) i ≡ Some p → AllCountPrecursor g p ys (remove xs i) → AreExact g ys
exact_leaves g p xs ys i x at all =
    record {
      known = λ j d h. let f = facing (remove xs i) ys j d (sym all.same) h in subst (λ (q : Pointstamp). IsTimeAt g q.location q.time) f.2 (known_removed g xs i x.known j f.0 f.1);
      active = λ j d h. let f = facing (remove xs i) ys j d (sym all.same) h in let r = got_removed xs i j f.0 f.1 in let a = x.active r.0 f.0 r.1 in let b = (all.each j d f.0 h f.1).occurrences in omega arith;
      once = λ q. rw stamps (let t = times-removed q (pointstamps xs) i p at in let o = x.once q in omega arith);
      precursors = λ j d h. rw stamps (let f = facing (remove xs i) ys j d (sym all.same) h in let r = got_removed xs i j f.0 f.1 in counted d f.0 r.0 r.1 (all.each j d f.0 h f.1));
    }
  where
    stamps : pointstamps ys ≡ remove (pointstamps xs) i
    stamps = sym all.same ∙ stamps_removed xs i

    counted : (d b : Counted) (k : ℕ) → slice_get xs k ≡ Some b → CountsPrecursor g p d b → IsPrecursorCount g (remove (pointstamps xs) i) d.pointstamp d.precursors
    counted d b k h m = go m.precursors
      where
        was : IsPrecursorCount g (pointstamps xs) d.pointstamp b.precursors
        was = subst (λ (q : Pointstamp). IsPrecursorCount g (pointstamps xs) q b.precursors) m.pointstamp (x.precursors k b h)

        go : (IsPrecursor g p d.pointstamp × (b.precursors ≡ suc d.precursors)) ⊎ ((IsPrecursor g p d.pointstamp → ⊥) × (b.precursors ≡ d.precursors)) → IsPrecursorCount g (remove (pointstamps xs) i) d.pointstamp d.precursors
        go (inl a) =
            let r = count_drop g d.pointstamp p (pointstamps xs) i b.precursors at was a.0 in
            let e : r.0 ≡ d.precursors = (let u = r.1 in let v = a.1 in omega arith) in
            subst (IsPrecursorCount g (remove (pointstamps xs) i) d.pointstamp) e r.2
        go (inr a) = subst (IsPrecursorCount g (remove (pointstamps xs) i) d.pointstamp) a.1 (count_keep g d.pointstamp p (pointstamps xs) i b.precursors at was a.0)

-- ---- how often each is active

pub occurs_facing : (g : Graph) (p q : Pointstamp) (xs ys : List Counted) → AllCountPrecursor g p xs ys → occurrences_in ys q ≡ occurrences_in xs q
occurs_facing g p q xs ys all = go xs ys (ap (λ (l : List Pointstamp). length l) all.same) (λ i c d h k. (all.each i c d h k).pointstamp) (λ i c d h k. (all.each i c d h k).occurrences)
  where
    go : (xs ys : List Counted) → length (pointstamps ys) ≡ length (pointstamps xs) → ((i : ℕ) (c d : Counted) → slice_get xs i ≡ Some c → slice_get ys i ≡ Some d → d.pointstamp ≡ c.pointstamp)
        → ((i : ℕ) (c d : Counted) → slice_get xs i ≡ Some c → slice_get ys i ≡ Some d → d.occurrences ≡ c.occurrences) → occurrences_in ys q ≡ occurrences_in xs q
    go [] [] l e f = refl
    go [] (y ∷ ys) l e f = absurd (omega arith)
    go (x ∷ xs) [] l e f = absurd (omega arith)
    go (x ∷ xs) (y ∷ ys) l e f = rw (e zero x y refl refl, f zero x y refl refl, go xs ys (omega arith) (λ i. e (suc i)) (λ i. f (suc i))) refl

pub all_facing : (g : Graph) (p : Pointstamp) (xs ys : List Counted) → AllCountPrecursor g p xs ys → all_occurrences ys ≡ all_occurrences xs
all_facing g p xs ys all = go xs ys (ap (λ (l : List Pointstamp). length l) all.same) (λ i c d h k. (all.each i c d h k).occurrences)
  where
    go : (xs ys : List Counted) → length (pointstamps ys) ≡ length (pointstamps xs) → ((i : ℕ) (c d : Counted) → slice_get xs i ≡ Some c → slice_get ys i ≡ Some d → d.occurrences ≡ c.occurrences) → all_occurrences ys ≡ all_occurrences xs
    go [] [] l f = refl
    go [] (y ∷ ys) l f = absurd (omega arith)
    go (x ∷ xs) [] l f = absurd (omega arith)
    go (x ∷ xs) (y ∷ ys) l f = let a = f zero x y refl refl in let r = go xs ys (omega arith) (λ i. f (suc i)) in omega arith

pub occurs_enters : (g : Graph) (p : Pointstamp) (xs ys : List Counted) (c : Counted) → AllCountPrecursor g p xs ys → c.pointstamp ≡ p → c.occurrences ≡ 1 → OccursOnceMore p xs (ys ++ (c ∷ []))
occurs_enters g p xs ys c all e o =
    record {
      content = λ q. let t = total-append (λ (d : Counted). one_if_same q d.pointstamp * d.occurrences) ys (c ∷ []) in let f = occurs_facing g p q xs ys all in let n = once q in omega arith;
      all = let t = total-append (λ (d : Counted). d.occurrences) ys (c ∷ []) in let f = all_facing g p xs ys all in omega arith;
    }
  where
    once : (q : Pointstamp) → one_if_same q c.pointstamp * c.occurrences ≡ one_if_same q p
    once q = rw (e, o) (omega arith)

pub occurs_leaves : (g : Graph) (p : Pointstamp) (xs ys : List Counted) (i : ℕ) (c : Counted) → slice_get xs i ≡ Some c → c.pointstamp ≡ p → c.occurrences ≡ 1 → AllCountPrecursor g p ys (remove xs i) → OccursOnceMore p ys xs
occurs_leaves g p xs ys i c h e o all =
    record {
      content = λ q. let f = occurs_facing g p q ys (remove xs i) all in let r = gone q xs i h in omega arith;
      all = let f = all_facing g p ys (remove xs i) all in let r = one_less xs i h in omega arith;
    }
  where
    gone : (q : Pointstamp) (xs : List Counted) (i : ℕ) → slice_get xs i ≡ Some c → occurrences_in xs q ≡ one_if_same q p + occurrences_in (remove xs i) q
    gone q [] zero h = absurd (let k = h in cc)
    gone q [] (suc i) h = absurd (let k = h in cc)
    gone q (x ∷ xs) zero h = rw (same_Some x c h, e, o) (omega arith)
    gone q (x ∷ xs) (suc i) h = let r = gone q xs i h in omega arith

    one_less : (xs : List Counted) (i : ℕ) → slice_get xs i ≡ Some c → all_occurrences xs ≡ suc (all_occurrences (remove xs i))
    one_less [] zero h = absurd (let k = h in cc)
    one_less [] (suc i) h = absurd (let k = h in cc)
    one_less (x ∷ xs) zero h = let k = ap (λ (y : Counted). y.occurrences) (same_Some x c h) in omega arith
    one_less (x ∷ xs) (suc i) h = let r = one_less xs i h in omega arith

pub occurs_more : (p : Pointstamp) (xs : List Counted) (i : ℕ) (c d : Counted) → slice_get xs i ≡ Some c → slice_get (pointstamps xs) i ≡ Some p → d.pointstamp ≡ c.pointstamp → d.occurrences ≡ suc c.occurrences → OccursOnceMore p xs (slice_set xs i d)
occurs_more p xs i c d h at e f =
    let k : c.pointstamp ≡ p = same_Some c.pointstamp p (sym (stamp_got xs i c h) ∙ at) in
    record { content = λ q. subst (λ (r : Pointstamp). occurrences_in (slice_set xs i d) q ≡ one_if_same q r + occurrences_in xs q) k (occurs_set q xs i c d h e f); all = all_set xs i c d h f }

set_back : (xs : List Counted) (i : ℕ) (c d : Counted) → slice_get xs i ≡ Some c → slice_set (slice_set xs i d) i c ≡ xs
set_back [] i c d h = refl
set_back (x ∷ xs) zero c d h = ap (λ (y : Counted). y ∷ xs) (sym (same_Some x c h))
set_back (x ∷ xs) (suc i) c d h = ap (λ (l : List Counted). x ∷ l) (set_back xs i c d h)

pub occurs_less : (p : Pointstamp) (xs : List Counted) (i : ℕ) (c d : Counted) → slice_get xs i ≡ Some c → slice_get (pointstamps xs) i ≡ Some p → d.pointstamp ≡ c.pointstamp → c.occurrences ≡ suc d.occurrences → OccursOnceMore p (slice_set xs i d) xs
occurs_less p xs i c d h at e f =
    subst (OccursOnceMore p (slice_set xs i d)) (set_back xs i c d h)
    (occurs_more p (slice_set xs i d) i d c (set_here xs i d (slice_get_within xs i c h)) (ap (λ (l : List Pointstamp). slice_get l i) (stamps_set xs i c d h e) ∙ at) (sym e) f)

-- ---- the frontier

-- an active pointstamp is in the frontier exactly if it has no precursor
pub frontier_counted : (g : Graph) (p : Pointstamp) (xs : List Counted) (i : ℕ) (c : Counted) → AreExact g xs → slice_get xs i ≡ Some c → slice_get (pointstamps xs) i ≡ Some p → (c.precursors ≡ 0 → NoOtherOf (CouldResultIn g) (λ q. 0 < occurrences_in xs q) p) × (NoOtherOf (CouldResultIn g) (λ q. 0 < occurrences_in xs q) p → c.precursors ≡ 0)
frontier_counted g p xs i c x h at = (λ z q a k. none z q a k (one_tells q p), λ free. back free c.precursors refl)
  where
    is : c.pointstamp ≡ p
    is = same_Some c.pointstamp p (sym (stamp_got xs i c h) ∙ at)

    number : IsPrecursorCount g (pointstamps xs) p c.precursors
    number = subst (λ (q : Pointstamp). IsPrecursorCount g (pointstamps xs) q c.precursors) is (x.precursors i c h)

    none : c.precursors ≡ 0 → (q : Pointstamp) → 0 < occurrences_in xs q → CouldResultIn g q p → ((one_if_same q p ≡ 1) × (q ≡ p)) ⊎ ((one_if_same q p ≡ 0) × (q ≢ p)) → q ≡ p
    none z q a k (inl t) = t.1
    none z q a k (inr t) =
        let s = times_some (pointstamps xs) q (stamp_there xs q a) in
        absurd (let l = count_zero g p q (pointstamps xs) c.precursors s.0 number s.1 (t.1, k) in omega arith)

    back : NoOtherOf (CouldResultIn g) (λ q. 0 < occurrences_in xs q) p → (n : ℕ) → c.precursors ≡ n → c.precursors ≡ 0
    back free zero e = e
    back free (suc n) e =
        let s = count_some g p (pointstamps xs) c.precursors (omega arith) number in
        absurd (s.1.2.0 (free s.1.0 (stamp_occurs xs s.0 s.1.0 x.active s.1.1) s.1.2.1))

-- a pointstamp that isn't active doesn't block itself
pub clear_others : (g : Graph) (content : Pointstamp → ℕ) (p : Pointstamp) → IsClear g content p false → IsClear g content p true
clear_others g content p clear q h d c = clear q h (λ e. absurd (let k = e in cc)) c

pub blocked_by_other : (g : Graph) (content : Pointstamp → ℕ) (p : Pointstamp) → content p ≡ 0 → IsBlocked g content p false → IsBlocked g content p true
blocked_by_other g content p z b = record { by = b.by; active = b.active; differs = λ _ e. (let a = b.active in let k = ap content e in omega arith); could = b.could }

pub is_zero : (n : ℕ) → IsTrue (eqb n 0) ↔ (n ≡ 0)
is_zero n = go (eqb_tells n 0)
  where
    go : ((eqb n 0 ≡ true) × (n ≡ 0)) ⊎ ((eqb n 0 ≡ false) × (n ≢ 0)) → IsTrue (eqb n 0) ↔ (n ≡ 0)
    go (inl a) = (λ t. a.1, λ e. is_true (eqb n 0) a.0)
    go (inr a) = (λ t. absurd (not_true (eqb n 0) a.0 t), λ e. absurd (a.1 e))
