-- What a view lets through, the real pointstamps let through.
use Rattle.std.proofs.Common.{◌≡◌, ◌≤◌, ◌<◌, ℕ, zero, suc, Bool, true, false, List, [], ◌∷◌, ◌⊎◌, inl, inr, refl, ap, subst, arith}
use mathlib.Core.WellFounded.{Acc}
use Rattle.semantics.specs.Multiset.{total}
use Rattle.semantics.specs.Could.{Pointstamp, NoneOf, NoOtherOf}
use Rattle.semantics.proofs.CouldRises.{same_or_less}
use Rattle.machine.specs.Network.{Network}
use Rattle.machine.specs.Views.{Changes, when, all_adds, seen_adds, seen_removes, IsSeen, IsThere, NoneApplied, InOrder}
use Rattle.machine.proofs.JustifiedLogs.{RemovedOrThere, Justified, IsLog}
use Rattle.machine.proofs.Laws.{Lower, IsNetwork}
use Rattle.machine.proofs.Rank.{could_back}

pub when_le : (b : Bool) (n : ℕ) → when b n ≤ n
when_le true n = omega arith
when_le false n = omega arith

pub total_when : (log : List Changes) (f : Changes → ℕ) → total (λ b. when b.applied (f b)) log ≤ total f log
total_when [] f = omega arith
total_when (b ∷ log) f = let a = when_le b.applied (f b) in let c = total_when log f in omega arith

-- if changes that remove the pointstamp aren't applied, fewer removals are seen than were made
not_applied : (sender : ℕ) (there : Pointstamp → Type 0) (p : Pointstamp) (log : List Changes) → NoneApplied sender log → RemovedOrThere there sender log p →
    (total (λ b. when b.applied (b.removes p)) log < total (λ b. b.removes p) log) ⊎ there p
not_applied sender there p [] none r = inr r
not_applied sender there p (b ∷ log) none (inl (s, l)) =
    let a : when b.applied (b.removes p) ≡ 0 = ap (λ x. when x (b.removes p)) (none.0 s) in
    let c = total_when log (λ b. b.removes p) in
    inl (omega arith)
not_applied sender there p (b ∷ log) none (inr r) = go (not_applied sender there p log none.1 r)
  where
    go : (total (λ b. when b.applied (b.removes p)) log < total (λ b. b.removes p) log) ⊎ there p → (total (λ b. when b.applied (b.removes p)) (b ∷ log) < total (λ b. b.removes p) (b ∷ log)) ⊎ there p
    go (inl l) = let a = when_le b.applied (b.removes p) in inl (omega arith)
    go (inr t) = inr t

-- if an add of a pointstamp isn't seen, then a removal of a lower one isn't seen either, or that one is there
lacking : (g : Network) (feeder : ℕ) (there : Pointstamp → Type 0) (q : Pointstamp) (log : List Changes) → InOrder log → Justified g feeder there log →
    total (λ b. when b.applied (b.adds q)) log < total (λ b. b.adds q) log →
    (p : Pointstamp) × Lower g p q × g.Could p q × ((total (λ b. when b.applied (b.removes p)) log < total (λ b. b.removes p) log) ⊎ there p)
lacking g feeder there q [] order just l = absurd (omega arith)
lacking g feeder there q (b ∷ log) order just l = go b.applied refl (lacking g feeder there q log order.1 just.1)
  where
    Found : Type 0
    Found = (p : Pointstamp) × Lower g p q × g.Could p q × ((total (λ b. when b.applied (b.removes p)) (b ∷ log) < total (λ b. b.removes p) (b ∷ log)) ⊎ there p)

    further : (p : Pointstamp) × Lower g p q × g.Could p q × ((total (λ b. when b.applied (b.removes p)) log < total (λ b. b.removes p) log) ⊎ there p) → Found
    further (p, low, could, inl x) = (p, low, could, inl (let a = when_le b.applied (b.removes p) in omega arith))
    further (p, low, could, inr t) = (p, low, could, inr t)

    here : b.applied ≡ false → (p : Pointstamp) × Lower g p q × g.Could p q × ((0 < b.removes p) ⊎ ((b.sender ≡ feeder) × RemovedOrThere there feeder log p)) → Found
    here e (p, low, could, inl x) =
        (p, low, could, inl (let a : when b.applied (b.removes p) ≡ 0 = ap (λ z. when z (b.removes p)) e in let c = total_when log (λ b. b.removes p) in omega arith))
    here e (p, low, could, inr x) = at (not_applied feeder there p log (subst (λ (n : ℕ). NoneApplied n log) x.0 (order.0 e)) x.1)
      where
        at : (total (λ b. when b.applied (b.removes p)) log < total (λ b. b.removes p) log) ⊎ there p → Found
        at (inl y) = (p, low, could, inl (let a = when_le b.applied (b.removes p) in omega arith))
        at (inr t) = (p, low, could, inr t)

    split : (n : ℕ) → b.adds q ≡ n → b.applied ≡ false → (total (λ b. when b.applied (b.adds q)) log < total (λ b. b.adds q) log → (p : Pointstamp) × Lower g p q × g.Could p q × ((total (λ b. when b.applied (b.removes p)) log < total (λ b. b.removes p) log) ⊎ there p)) → Found
    split zero n e ih = further (ih (let a : when b.applied (b.adds q) ≡ 0 = ap (λ z. when z (b.adds q)) e in omega arith))
    split (suc m) n e ih = here e (just.0 q (omega arith))

    go : (x : Bool) → b.applied ≡ x → (total (λ b. when b.applied (b.adds q)) log < total (λ b. b.adds q) log → (p : Pointstamp) × Lower g p q × g.Could p q × ((total (λ b. when b.applied (b.removes p)) log < total (λ b. b.removes p) log) ⊎ there p)) → Found
    go true e ih = further (ih (let a : when b.applied (b.adds q) ≡ b.adds q = ap (λ z. when z (b.adds q)) e in omega arith))
    go false e ih = split (b.adds q) refl e ih

module _ (g : Network) (law : IsNetwork g) (first : Pointstamp → ℕ) (log : List Changes) (is_log : IsLog g first log) (order : InOrder log) where
  -- if the view lacks an add of q, it sees some pointstamp that could result in q
  seen_below : (q : Pointstamp) → Acc (Lower g) q → seen_adds first log q < all_adds first log q → (p : Pointstamp) × IsSeen first log p × g.Could p q
  seen_below q (Acc.intro x low) l = go (lacking g g.workers (IsThere first log) q log order is_log.justified (omega arith)) (λ p a. seen_below p (low p a))
    where
      step : (p : Pointstamp) → g.Could p q → ((total (λ b. when b.applied (b.removes p)) log < total (λ b. b.removes p) log) ⊎ IsThere first log p) → (seen_adds first log p < all_adds first log p) ⊎ (seen_adds first log p ≡ all_adds first log p) → (seen_adds first log p < all_adds first log p → (o : Pointstamp) × IsSeen first log o × g.Could o p) → (o : Pointstamp) × IsSeen first log o × g.Could o q
      step p c s (inl m) ih = let o = ih m in (o.0, o.1, law.could_on o.0 p q o.2 c)
      step p c (inl s) (inr e) ih = (p, (let k = is_log.covered p in omega arith), c)
      step p c (inr t) (inr e) ih = (p, (let k = total_when log (λ b. b.removes p) in omega arith), c)

      go : (p : Pointstamp) × Lower g p q × g.Could p q × ((total (λ b. when b.applied (b.removes p)) log < total (λ b. b.removes p) log) ⊎ IsThere first log p) → ((p : Pointstamp) → Lower g p q → seen_adds first log p < all_adds first log p → (o : Pointstamp) × IsSeen first log o × g.Could o p) → (o : Pointstamp) × IsSeen first log o × g.Could o q
      go (p, a, c, s) ih = step p c s (same_or_less (seen_adds first log p) (all_adds first log p) (let k = total_when log (λ b. b.adds p) in omega arith)) (ih p a)

  pub seen_before : (q : Pointstamp) → g.IsPointstamp q → IsThere first log q → (p : Pointstamp) × IsSeen first log p × g.Could p q
  seen_before q fits there = go (same_or_less (seen_adds first log q) (all_adds first log q) (let k = total_when log (λ b. b.adds q) in omega arith))
    where
      go : (seen_adds first log q < all_adds first log q) ⊎ (seen_adds first log q ≡ all_adds first log q) → (p : Pointstamp) × IsSeen first log p × g.Could p q
      go (inl m) = seen_below q (law.founded q) m
      go (inr e) = (q, (let k = total_when log (λ b. b.removes q) in omega arith), law.could_self q fits)

  pub view_none_before : (p : Pointstamp) → NoneOf g.Could (IsSeen first log) p → (q : Pointstamp) → g.IsPointstamp q → IsThere first log q → g.Could q p → ⊥
  view_none_before p none q fits there c = let o = seen_before q fits there in none o.0 o.1 (law.could_on o.0 q p o.2 c)

  pub view_no_other_before : (p : Pointstamp) → NoOtherOf g.Could (IsSeen first log) p → (q : Pointstamp) → g.IsPointstamp q → IsThere first log q → g.Could q p → q ≡ p
  view_no_other_before p none q fits there c =
      let o = seen_before q fits there in
      let is : o.0 ≡ p = none o.0 o.1 (law.could_on o.0 q p o.2 c) in
      could_back g law q p c (subst (λ (x : Pointstamp). g.Could x q) is o.2)

  -- what a view lets through, it still does when more is applied
  pub view_stays : (more : List Changes) → ((q : Pointstamp) → seen_adds first more q ≤ all_adds first log q) → ((q : Pointstamp) → seen_removes log q ≤ seen_removes more q) → (p : Pointstamp) → NoneOf g.Could (IsSeen first log) p → NoneOf g.Could (IsSeen first more) p
  view_stays more adds removes p none q seen c = go (same_or_less (seen_adds first log q) (all_adds first log q) (let k = total_when log (λ b. b.adds q) in omega arith))
    where
      go : (seen_adds first log q < all_adds first log q) ⊎ (seen_adds first log q ≡ all_adds first log q) → ⊥
      go (inl m) = let o = seen_below q (law.founded q) m in none o.0 o.1 (law.could_on o.0 q p o.2 c)
      go (inr e) = none q (let a = adds q in let r = removes q in omega arith) c
