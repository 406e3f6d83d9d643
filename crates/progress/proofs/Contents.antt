-- Multisets of pointstamps, and what scans of them show.
use Rattle.std.proofs.Common.{◌≡◌, ◌≢◌, ◌⊎◌, inl, inr, ℕ, zero, suc, ◌+◌, ◌≤◌, ◌<◌, Bool, true, false, List, [], ◌∷◌, ◌++◌, length, drop, Some, slice_get, slice_index_or, refl, sym, ap, subst, ◌∙◌, arith, add-one}
use Rattle.std.specs.Prelude.{IsTrue, ◌↔◌, remove}
use Rattle.std.proofs.lemmas.Bool.{true≢false}
use Rattle.std.proofs.lemmas.Option.{slice_get_within, same_Some}
use Rattle.semantics.specs.Graph.{Graph}
use Rattle.semantics.specs.Could.{Pointstamp, IsTimeAt, CouldResultIn, NoOtherOf, NoneOf}
use Rattle.semantics.proofs.MultisetSums.{total-append}
use Rattle.semantics.proofs.Cases.{either_above_zero, below_or_last, is_true, true_is}
use Rattle.machine.specs.Active.{one_if_same}
use Rattle.machine.proofs.Active.{one_tells, one_self, one_is}
use Rattle.progress.specs.Content.{times_in, AllAt, IsClear, IsBlocked}

pub got_at : {X : Type 0} (xs : List X) (i : ℕ) (x : X) → i < length xs → x ≡ slice_index_or xs i x → slice_get xs i ≡ Some x
got_at [] i x h e = absurd (omega arith)
got_at (y ∷ xs) zero x h e = ap (λ z. Some z) (sym e)
got_at (y ∷ xs) (suc i) x h e = got_at xs i x (omega arith) e

-- the item at a place, and those after it
pub here_drop : {X : Type 0} (xs : List X) (n : ℕ) (x : X) → slice_get xs n ≡ Some x → drop n xs ≡ x ∷ drop (n + 1) xs
here_drop {X} xs n x h = rw (add-one n) (go xs n h)
  where
    go : (xs : List X) (n : ℕ) → slice_get xs n ≡ Some x → drop n xs ≡ x ∷ drop (suc n) xs
    go [] zero h = absurd (let e = h in cc)
    go [] (suc n) h = absurd (let e = h in cc)
    go (y ∷ xs) zero h = ap (λ (z : X). z ∷ xs) (same_Some y x h)
    go (y ∷ xs) (suc n) h = go xs n h

-- an element of a list occurs
pub times_got : (xs : List Pointstamp) (i : ℕ) (q : Pointstamp) → slice_get xs i ≡ Some q → 0 < times_in xs q
times_got [] zero q h = absurd (let e = h in cc)
times_got [] (suc i) q h = absurd (let e = h in cc)
times_got (x ∷ xs) zero q h = let e : one_if_same q x ≡ 1 = ap (one_if_same q) (same_Some x q h) ∙ one_self q in omega arith
times_got (x ∷ xs) (suc i) q h = let e = times_got xs i q h in omega arith

-- what occurs is at some place of the list
pub times_some : (xs : List Pointstamp) (q : Pointstamp) → 0 < times_in xs q → (i : ℕ) × (slice_get xs i ≡ Some q)
times_some [] q h = absurd (omega arith)
times_some (x ∷ xs) q h = go (either_above_zero (one_if_same q x) (times_in xs q) h) (times_some xs q)
  where
    go : (0 < one_if_same q x) ⊎ (0 < times_in xs q) → (0 < times_in xs q → (i : ℕ) × (slice_get xs i ≡ Some q)) → (i : ℕ) × (slice_get (x ∷ xs) i ≡ Some q)
    go (inl a) ih = (zero, ap (λ (y : Pointstamp). Some y) (sym (one_is q x a)))
    go (inr a) ih = let k = ih a in (suc k.0, k.1)

pub times_none : (p : Pointstamp) (xs : List Pointstamp) (n : ℕ) → length xs ≤ n → ((i : ℕ) (q : Pointstamp) → i < n → slice_get xs i ≡ Some q → q ≡ p → ⊥) → times_in xs p ≡ 0
times_none p xs n l h = go (times_in xs p) refl
  where
    go : (k : ℕ) → times_in xs p ≡ k → times_in xs p ≡ 0
    go zero e = e
    go (suc k) e = let s = times_some xs p (omega arith) in absurd (h s.0 p (let b = slice_get_within xs s.0 p s.1 in omega arith) s.1 refl)

pub times-push : (q : Pointstamp) (xs : List Pointstamp) (p : Pointstamp) → times_in (xs ++ (p ∷ [])) q ≡ one_if_same q p + times_in xs q
times-push q xs p = let e = total-append (one_if_same q) xs (p ∷ []) in omega arith

pub times-removed : (q : Pointstamp) (xs : List Pointstamp) (i : ℕ) (p : Pointstamp) → slice_get xs i ≡ Some p → times_in xs q ≡ one_if_same q p + times_in (remove xs i) q
times-removed q [] zero p h = absurd (let e = h in cc)
times-removed q [] (suc i) p h = absurd (let e = h in cc)
times-removed q (x ∷ xs) zero p h = ap (λ (y : Pointstamp). one_if_same q y + times_in xs q) (same_Some x p h)
times-removed q (x ∷ xs) (suc i) p h = let e = times-removed q xs i p h in omega arith

-- one more occurrence of a known pointstamp, or one fewer of one that occurred
pub all_more : (g : Graph) (old new : Pointstamp → ℕ) (p : Pointstamp) → AllAt g old → IsTimeAt g p.location p.time → ((q : Pointstamp) → new q ≡ one_if_same q p + old q) → AllAt g new
all_more g old new p all on e q h = go (either_above_zero (one_if_same q p) (old q) (subst (λ k. 0 < k) (e q) h))
  where
    go : (0 < one_if_same q p) ⊎ (0 < old q) → IsTimeAt g q.location q.time
    go (inl a) = subst (λ (r : Pointstamp). IsTimeAt g r.location r.time) (sym (one_is q p a)) on
    go (inr a) = all q a

pub all_less : (g : Graph) (old new : Pointstamp → ℕ) (p : Pointstamp) → AllAt g old → ((q : Pointstamp) → old q ≡ one_if_same q p + new q) → AllAt g new
all_less g old new p all e q h = all q (let k = e q in omega arith)

-- ---- scans

-- none of the first n
abbrev pub ClearTo : Graph → List Pointstamp → Pointstamp → Bool → ℕ → Type 0
ClearTo g xs p other n = (i : ℕ) (q : Pointstamp) → i < n → slice_get xs i ≡ Some q → (other ≡ true → q ≡ p → ⊥) → CouldResultIn g q p → ⊥

pub clear_more : (g : Graph) (xs : List Pointstamp) (p x : Pointstamp) (other : Bool) (n : ℕ) → ClearTo g xs p other n → slice_get xs n ≡ Some x → ((other ≡ true → x ≡ p → ⊥) × CouldResultIn g x p → ⊥) → ClearTo g xs p other (n + 1)
clear_more g xs p x other n before h d i q l k m c = go (below_or_last i n l)
  where
    go : (i < n) ⊎ (i ≡ n) → ⊥
    go (inl a) = before i q a k m c
    go (inr a) =
        let e : q ≡ x = same_Some q x (sym k ∙ ap (slice_get xs) a ∙ h) in
        d (subst (λ (y : Pointstamp). (other ≡ true → y ≡ p → ⊥) × CouldResultIn g y p) e (m, c))

pub all_clear : (g : Graph) (xs : List Pointstamp) (p : Pointstamp) (other : Bool) (n : ℕ) → length xs ≤ n → ClearTo g xs p other n → IsClear g (times_in xs) p other
all_clear g xs p other n l clear q h m c = let s = times_some xs q h in clear s.0 q (let b = slice_get_within xs s.0 q s.1 in omega arith) s.1 m c

-- ---- a pointstamp that is clear is in the frontier, or has none before it

pub frontier_by : (g : Graph) (content : Pointstamp → ℕ) (p : Pointstamp) (b : Bool) → (b ≡ true → IsClear g content p true) → (b ≡ false → IsBlocked g content p true) → IsTrue b ↔ NoOtherOf (CouldResultIn g) (λ q. 0 < content q) p
frontier_by g content p b clear blocked = (λ t q h c. other q h c (clear (true_is b t)), λ n. back b refl n)
  where
    other : (q : Pointstamp) → 0 < content q → CouldResultIn g q p → IsClear g content p true → q ≡ p
    other q h c k = go (one_tells q p)
      where
        go : ((one_if_same q p ≡ 1) × (q ≡ p)) ⊎ ((one_if_same q p ≡ 0) × (q ≢ p)) → q ≡ p
        go (inl x) = x.1
        go (inr x) = absurd (k q h (λ _ e. x.1 e) c)

    back : (a : Bool) → b ≡ a → NoOtherOf (CouldResultIn g) (λ q. 0 < content q) p → IsTrue b
    back true e n = is_true b e
    back false e n = let k = blocked e in absurd (k.differs refl (n k.by k.active k.could))

pub none_by : (g : Graph) (content : Pointstamp → ℕ) (p : Pointstamp) (b : Bool) → (b ≡ true → IsClear g content p false) → (b ≡ false → IsBlocked g content p false) → IsTrue b ↔ NoneOf (CouldResultIn g) (λ q. 0 < content q) p
none_by g content p b clear blocked = (λ t q h c. clear (true_is b t) q h (λ e _. true≢false (sym e)) c, λ n. back b refl n)
  where
    back : (a : Bool) → b ≡ a → NoneOf (CouldResultIn g) (λ q. 0 < content q) p → IsTrue b
    back true e n = is_true b e
    back false e n = let k = blocked e in absurd (n k.by k.active k.could)
