-- What a watcher was told, call after call.
use Rattle.std.proofs.Common.{◌≡◌, ◌<◌, ◌≤◌, ◌+◌, ◌⊎◌, inl, inr, ◌∙◌, ℕ, List, [], ◌∷◌, ◌++◌, length, take, Option, Some, None, refl, sym, ap, subst, arith}
use Rattle.std.specs.Io.KnownBytes.{Appends}
use Rattle.std.specs.List.{flat_map}
use Rattle.std.proofs.lemmas.Bool.{cases_lt}
use Rattle.std.proofs.lemmas.Grind.{flat_map-append}
use Rattle.std.proofs.lemmas.List.{append-nil, length-append, take_all, take_at, drop_at, take-append-le}
use Rattle.std.proofs.Math.Seq.{take-add}
use Rattle.collector.proofs.Writes.{Appends-then}
use Rattle.collector.specs.WrittenBytes.{AppendsFront}
use Rattle.execution.specs.Told.{IsNear, IsTold, Rise, Takes, Tells, interval, line_end, told, untold}
use Rattle.execution.specs.declared.watching.Note.{Note}
use Rattle.execution.specs.declared.watching.Note.TheVariants.{Passed, Received}
use Rattle.execution.specs.declared.watching.Progress.{Progress}
use Rattle.execution.specs.declared.watching.Telling.{Telling}
use Rattle.execution.specs.declared.watching.Telling.TheVariants.{Silent}
use Rattle.execution.specs.declared.watching.Watcher.{Watcher}

pub appends_nothing : (a : Option (List ℕ)) → Appends a a []
appends_nothing None = tt
appends_nothing (Some xs) = sym (append-nil xs)

pub front_of_all : (a b : Option (List ℕ)) (xs : List ℕ) → Appends a b xs → AppendsFront a b xs
front_of_all a b xs p = (length xs, omega arith, subst (Appends a b) (sym (take_all (length xs) xs (omega arith))) p)

pub front_of_none : (a : Option (List ℕ)) (xs : List ℕ) → AppendsFront a a xs
front_of_none a xs = (0, omega arith, appends_nothing a)

take_past : (xs ys : List ℕ) (n : ℕ) → take (length xs + n) (xs ++ ys) ≡ xs ++ take n ys
take_past xs ys n = take-add (length xs) n (xs ++ ys) ∙ (λ i. take_at xs ys (length xs) refl i ++ take n (drop_at xs ys (length xs) refl i))

-- a whole text, and then a beginning of another
front_then : (a b c : Option (List ℕ)) (xs ys : List ℕ) → Appends a b xs → AppendsFront b c ys → AppendsFront a c (xs ++ ys)
front_then a b c xs ys p (n, le, q) = (
  length xs + n,
  omega (arith, le, length-append xs ys),
  subst (Appends a c) (sym (take_past xs ys n)) (Appends-then a b c xs (take n ys) p q),
)

-- a beginning of a text, and then nothing
front_stays : (a b c : Option (List ℕ)) (xs ys : List ℕ) → AppendsFront a b xs → Appends b c [] → AppendsFront a c (xs ++ ys)
front_stays a b c xs ys (n, le, p) q = (
  n,
  omega (arith, le, length-append xs ys),
  subst (Appends a c) (append-nil (take n xs) ∙ sym (take-append-le n xs ys le)) (Appends-then a b c (take n xs) [] p q),
)

front_nothing : (b c : Option (List ℕ)) → AppendsFront b c [] → Appends b c []
front_nothing b c (n, le, p) = subst (Appends b c) (take_all n [] (omega arith)) p

-- a number of records is told, or it is too early
pub told_more : (m before now r told : ℕ) → m ≤ before → before ≤ now → r ≡ now → (m + interval ≤ r → told ≡ r) → (r < m + interval → told ≡ m) → told ≤ now
told_more m before now r told a b same due early = go (cases_lt r (m + interval))
  where
    go : (r < m + interval) ⊎ (m + interval ≤ r) → told ≤ now
    go (inl lt) = let t = early lt in omega (arith, t, a, b)
    go (inr le) = let t = due le in omega (arith, t, same)

pub near : (m now told r last : ℕ) → m ≤ now → r ≡ now → (m + interval ≤ r → told ≡ r) → (r < m + interval → told ≡ m) → last ≡ told → IsNear last now
near m now told r last a same due early is = go (cases_lt r (m + interval))
  where
    go : (r < m + interval) ⊎ (m + interval ≤ r) → IsNear last now
    go (inl lt) = let t = early lt in (omega (arith, t, is, a), omega (arith, t, is, lt, same))
    go (inr le) = let t = due le in (omega (arith, t, is, same), omega (arith, t, is, same))

module _ {W : Type 0} (contents : W → Option (List ℕ)) where
  pub takes_nothing : (w : Watcher W) → Takes contents w w []
  takes_nothing w = inl (refl, appends_nothing (contents w.writer))

  -- two texts, of which a silent watcher takes nothing
  pub takes_then : (w x y : Watcher W) (xs ys zs : List ℕ) → Takes contents w x xs → (x.telling ≡ w.telling → zs ≡ ys) → (x.telling ≡ Silent → zs ≡ []) → Takes contents x y zs
      → Takes contents w y (xs ++ ys)
  takes_then w x y xs ys zs (inl p) same none (inl q) =
      inl (q.0 ∙ p.0, Appends-then (contents w.writer) (contents x.writer) (contents y.writer) xs ys p.1 (subst (Appends (contents x.writer) (contents y.writer)) (same p.0) q.1))
  takes_then w x y xs ys zs (inl p) same none (inr q) =
      inr (q.0, front_then (contents w.writer) (contents x.writer) (contents y.writer) xs ys p.1 (subst (AppendsFront (contents x.writer) (contents y.writer)) (same p.0) q.1))
  takes_then w x y xs ys zs (inr p) same none (inl q) =
      inr (q.0 ∙ p.0, front_stays (contents w.writer) (contents x.writer) (contents y.writer) xs ys p.1 (subst (Appends (contents x.writer) (contents y.writer)) (none p.0) q.1))
  takes_then w x y xs ys zs (inr p) same none (inr q) =
      inr (
        q.0,
        front_stays (contents w.writer) (contents x.writer) (contents y.writer) xs ys p.1
            (front_nothing (contents x.writer) (contents y.writer) (subst (AppendsFront (contents x.writer) (contents y.writer)) (none p.0) q.1)),
      )

  rise_then : (m n k : Progress) (xs ys : List Note) → Rise m xs n → Rise n ys k → Rise m (xs ++ ys) k
  rise_then m n k [] ys p q = subst (λ (z : Progress). Rise z ys k) p q
  rise_then m n k (Passed x ∷ xs) ys p q = (p.0, p.1, rise_then x n k xs ys p.2 q)
  rise_then m n k (Received x ∷ xs) ys p q = (p.0, p.1, rise_then x n k xs ys p.2 q)

  silent_told : (ns : List Note) → flat_map (told Silent) ns ≡ []
  silent_told [] = refl
  silent_told (n ∷ ns) = silent_told ns

  pub tells_nothing : (u : Option (Watcher W)) (m : Progress) → Tells contents u u m m
  tells_nothing None m = refl
  tells_nothing (Some w) m = ([], refl, takes_nothing w)

  pub tells_then : (u v w : Option (Watcher W)) (m n k : Progress) → Tells contents u v m n → Tells contents v w n k → Tells contents u w m k
  tells_then None v w m n k p q = subst (λ (z : Option (Watcher W)). Tells contents z w n k) p q
  tells_then (Some a) None w m n k p q = absurd p
  tells_then (Some a) (Some b) None m n k p q = absurd q
  tells_then (Some a) (Some b) (Some c) m n k (xs, rise, p) (ys, more, q) = (
    xs ++ ys,
    rise_then m n k xs ys rise more,
    subst (Takes contents a c) (sym (flat_map-append (told a.telling) xs ys))
        (takes_then a b c (flat_map (told a.telling) xs) (flat_map (told a.telling) ys) (flat_map (told b.telling) ys) p
        (λ same. ap (λ (t : Telling). flat_map (told t) ys) same)
        (λ none. ap (λ (t : Telling). flat_map (told t) ys) none ∙ silent_told ys)
        q),
  )

  -- more epochs have passed
  pub tells_passed : (w x : Watcher W) (m n : Progress) → m.passed < n.passed → n.received ≡ m.received → Takes contents w x (told w.telling (Passed n)) → Tells contents (Some w) (Some x) m n
  tells_passed w x m n lt same p = (Passed n ∷ [], (lt, same, refl), subst (Takes contents w x) (sym (append-nil (told w.telling (Passed n)))) p)

  -- more records were received
  pub tells_received : (w x : Watcher W) (m n : Progress) → n.passed ≡ m.passed → m.received + interval ≤ n.received → Takes contents w x (told w.telling (Received n)) → Tells contents (Some w) (Some x) m n
  tells_received w x m n same le p = (Received n ∷ [], (same, le, refl), subst (Takes contents w x) (sym (append-nil (told w.telling (Received n)))) p)

  -- the line of the last note ends
  pub told_ended : (u : Option (Watcher W)) (x y : Watcher W) (n : Progress) → Tells contents u (Some x) untold n → Takes contents x y (line_end x.telling n) → IsTold contents u (Some y) n
  told_ended None x y n p q = absurd (cc)
  told_ended (Some w) x y n (ns, rise, p) q = (
    ns,
    rise,
    takes_then w x y (flat_map (told w.telling) ns) (line_end w.telling n) (line_end x.telling n) p (λ same. ap (λ (t : Telling). line_end t n) same) (λ none. ap (λ (t : Telling). line_end t n) none) q,
  )

  pub none_told : (u : Option (Watcher W)) (n : Progress) → Tells contents u None untold n → IsTold contents u None n
  none_told None n p = p
  none_told (Some w) n p = p

  -- from a watcher that was told nothing
  pub tells_first : (u v w : Option (Watcher W)) (m n : Progress) → v ≡ u → m ≡ untold → Tells contents v w m n → Tells contents u w untold n
  tells_first u v w m n same none p = subst (λ (z : Option (Watcher W)). Tells contents z w untold n) same (subst (λ (k : Progress). Tells contents v w k n) none p)
