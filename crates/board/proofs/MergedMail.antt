-- Messages of a mailbox that are taken out, and merged or put back.
use Rattle.std.proofs.Common.{◌≡◌, ◌<◌, ◌≤◌, ◌+◌, ◌-◌, ◌⊎◌, inl, inr, ℕ, zero, suc, Bool, true, false, MatchBool, List, [], ◌∷◌, ◌++◌, length, drop, refl, sym, ap, ◌∙◌, subst, arith, slice_get, slice_index_or, remove, Some}
use Rattle.std.specs.List.{insert}
use Rattle.std.proofs.lemmas.List.Edits.{length-remove}
use Rattle.std.proofs.lemmas.Option.{same_Some}
use Rattle.semantics.specs.Could.{Pointstamp}
use Rattle.semantics.proofs.Cases.{below_or_last}
use Rattle.machine.specs.Active.{message_pointstamp}
use Rattle.machine.specs.World.{Message}
use Rattle.machine.specs.Step.{merged}
use Rattle.events.specs.Merging.{MayMerge}
use Rattle.board.specs.Merging.{AreAlike, AreMerged}
use Rattle.board.proofs.Places.{get_index}

abbrev list_of_none : (X : Type 0) → List X
list_of_none X = []

none_there : {X : Type 0} (i : ℕ) (x : X) → slice_get (list_of_none X) i ≡ Some x → ⊥
none_there zero x e = absurd (cc)
none_there (suc i) x e = absurd (cc)

-- putting back what was taken out restores the list
put_back : {X : Type 0} (xs : List X) (i : ℕ) (x : X) → slice_get xs i ≡ Some x → insert (remove xs i) i x ≡ xs
put_back [] i x e = absurd (none_there i x e)
put_back (y ∷ xs) zero x e = ap (λ z. z ∷ xs) (sym (same_Some y x e))
put_back (y ∷ xs) (suc i) x e = ap (λ zs. y ∷ zs) (put_back xs i x e)

-- the first stays first when one behind it is taken out
first_stays : {X : Type 0} (xs : List X) (at : ℕ) (d x : X) → slice_get xs 0 ≡ Some x → slice_index_or (remove xs (suc at)) 0 d ≡ x
first_stays [] at d x e = absurd (none_there 0 x e)
first_stays (y ∷ xs) at d x e = same_Some y x e

-- taking out both
both_out : {X : Type 0} (xs : List X) (at : ℕ) (x : X) → slice_get xs 0 ≡ Some x → remove (remove xs (suc at)) 0 ≡ remove (drop 1 xs) at
both_out [] at x e = absurd (none_there 0 x e)
both_out (y ∷ xs) at x e = refl

-- putting the second back behind the first
both_back : {X : Type 0} (xs : List X) (at : ℕ) (x y : X) → slice_get xs 0 ≡ Some x → slice_get xs (suc at) ≡ Some y → insert (x ∷ remove (remove xs (suc at)) 0) (suc at) y ≡ xs
both_back [] at x y e f = absurd (none_there 0 x e)
both_back (z ∷ xs) at x y e f = let i : x ≡ z = sym (same_Some z x e) in (λ j. i j ∷ put_back xs at y f j)

next_of : (at : ℕ) → at + 1 ≡ suc at
next_of at = omega arith

module _ (ms : List Message) (at : ℕ) (a : AreAlike ms at) (second first : Message) (rest left : List Message)
    (taken : second ≡ slice_index_or ms (at + 1) second) (rest_is : rest ≡ remove ms (at + 1)) (then : first ≡ slice_index_or rest 0 first) (left_is : left ≡ remove rest 0) where
  pub second_is : second ≡ a.second
  second_is = taken ∙ ap (λ i. slice_index_or ms i second) (next_of at) ∙ (get_index ms (suc at) second a.second a.other).1

  rest_at : rest ≡ remove ms (suc at)
  rest_at = rest_is ∙ ap (remove ms) (next_of at)

  pub first_is : first ≡ a.first
  first_is = then ∙ ap (λ xs. slice_index_or xs 0 first) rest_at ∙ first_stays ms at first a.first a.got

  pub left_at : left ≡ remove (remove ms (suc at)) 0
  left_at = left_is ∙ ap (λ xs. remove xs 0) rest_at

  pub may_merge : MayMerge first second
  may_merge = subst (λ m. MayMerge m second) (sym first_is) (subst (λ m. MayMerge a.first m) (sym second_is) a.may)

  pub are_merged : (new : Message) (mail : List Message) (place : Pointstamp) → new ≡ record first { records = first.records ++ second.records } → mail ≡ new ∷ left → place ≡ message_pointstamp second → AreMerged ms mail at place
  are_merged new mail place new_is mail_is place_is = record {
    alike = a;
    place_is = place_is ∙ ap message_pointstamp second_is;
    mail = mail_is ∙ (λ i. (new_is ∙ (λ j. merged (first_is j) (second_is j))) i ∷ (left_at ∙ both_out ms at a.first a.got) i);
  }

  pub are_back : (same : Message) (mail : List Message) (back : Message) (new : List Message) → same ≡ first → mail ≡ same ∷ left → back ≡ second → new ≡ insert mail (at + 1) back → new ≡ ms
  are_back same mail back new same_is mail_is back_is new_is =
      new_is ∙ (λ i. insert ((mail_is ∙ (λ j. (same_is ∙ first_is) j ∷ left_at j)) i) (next_of at i) ((back_is ∙ second_is) i))
      ∙ both_back ms at a.first a.second a.got a.other

-- there is no message behind the last
pub not_alike : (ms : List Message) (at : ℕ) → length ms - 1 ≤ at → AreAlike ms at → ⊥
not_alike ms at short a = let l = (get_index ms (suc at) a.second a.second a.other).0 in omega (arith, l, short)

-- two messages that were compared
pub are_alike : (ms : List Message) (at : ℕ) (first second : Message) (r : Bool) → slice_get ms 0 ≡ Some first → slice_get ms (suc at) ≡ Some second
    → (r ≡ true → MayMerge first second) → (MayMerge first second → r ≡ true) → MatchBool r (AreAlike ms at) (AreAlike ms at → ⊥)
are_alike ms at first second true got other may only = record { first = first; second = second; got = got; other = other; may = may refl }
are_alike ms at first second false got other may only = λ a.
    let f : a.first ≡ first = same_Some a.first first (sym a.got ∙ got) in
    let s : a.second ≡ second = same_Some a.second second (sym a.other ∙ other) in
    let m : MayMerge first second = subst (λ x. MayMerge x second) f (subst (λ x. MayMerge a.first x) s a.may) in
    let e : false ≡ true = only m in
    absurd (cc)

pub there : (ms : List Message) (at : ℕ) → AreAlike ms at → at + 1 < length ms
there ms at a = let l = (get_index ms (suc at) a.second a.second a.other).0 in omega (arith, l)

-- the place behind the first still exists once the second is out
pub still_there : (ms : List Message) (at : ℕ) (a : AreAlike ms at) (left mail : List Message) (first : Message) → left ≡ remove (remove ms (suc at)) 0 → mail ≡ first ∷ left → at + 1 ≤ length mail
still_there ms at a left mail first left_is mail_is =
    let l = there ms at a in
    let n = length-remove ms (suc at) (omega (arith, l)) in
    let m = length-remove (remove ms (suc at)) 0 (omega (arith, l, n)) in
    let k : length mail ≡ suc (length (remove (remove ms (suc at)) 0)) = ap length mail_is ∙ ap (λ xs. suc (length xs)) left_is in
    omega (arith, l, n, m, k)

-- one more place that was compared
pub none_more : (P : ℕ → Type 0) (from k : ℕ) → ((at : ℕ) → from ≤ at → at < k → P at → ⊥) → (P k → ⊥) → (at : ℕ) → from ≤ at → at < k + 1 → P at → ⊥
none_more P from k before now at l m h = go (below_or_last at k m)
  where
    go : (at < k) ⊎ (at ≡ k) → ⊥
    go (inl b) = before at l b h
    go (inr q) = now (subst P q h)
