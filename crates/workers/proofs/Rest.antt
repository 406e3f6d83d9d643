-- Why no wakeup is lost.
use Rattle.std.proofs.Common.{◌≡◌, ◌+◌, ◌<◌, ◌⊎◌, inl, inr, ◌∙◌, ℕ, Bool, true, false, max, sym, subst, arith, MatchBool}
use Rattle.std.proofs.lemmas.Bool.Decides.{eqb_tells}
use Rattle.std.proofs.lemmas.Nat.Bits.{bit_at-lt}
use Rattle.board.specs.Answers.{HasNoChoice}
use Rattle.board.specs.Shown.{Shown}
use Rattle.workers.specs.ThreadSets.{IsEmpty, IsIn, member}
use Rattle.workers.specs.Sleeping.{IsCareful, Wakes}
use Rattle.workers.specs.Wakeups.{AreChosen, IsAtEnd, LosesNoWakeup}
use Rattle.workers.specs.declared.thread_set.ThreadSet.{ThreadSet}
use Rattle.workers.specs.declared.scheduler.Scheduler.{Scheduler}
use Rattle.workers.specs.declared.scheduler.Choice.{Choice}
use Rattle.workers.specs.declared.scheduler.Choice.TheVariants.{These, All, First, Next}

small : (s : ThreadSet) (n : ℕ) → member s n < 2
small s n = bit_at-lt s.bits n

module _ (x y : Scheduler) (woken : ThreadSet) (wakes : Wakes x y woken) where
  slept : (n : ℕ) → IsIn y.asleep n → IsIn x.asleep n
  slept n is = let e = wakes.asleep n in let l = small x.asleep n in omega (arith, e, is, l)

  unwoken : (n : ℕ) → IsIn y.asleep n → IsIn woken n → ⊥
  unwoken n is w = let e = wakes.asleep n in omega (arith, e, is, w)

  risen : (n : ℕ) → IsIn woken n → IsIn y.up n
  risen n w = let e = wakes.up n in let l = small x.up n in omega (arith, e, w, l)

  stays : (n : ℕ) → IsIn x.up n → IsIn y.up n
  stays n u = let e = wakes.up n in let l = small woken n in omega (arith, e, u, l)

-- the choice was careful, and those who were chosen are woken
pub rests : (x y : Scheduler) (s : Shown) (at_end : Bool) (choice : Choice) (set woken : ThreadSet) → MatchBool at_end (IsAtEnd s) (IsAtEnd s → ⊥) → IsCareful x at_end choice → AreChosen s choice set → Wakes x y woken
    → ((n : ℕ) → IsIn set n → IsIn x.asleep n → IsIn woken n) → LosesNoWakeup y s
rests x y s true (These threads) set woken end careful chosen wakes all =
    let none : IsEmpty y.asleep = λ n is. unwoken x y woken wakes n is (all n (subst (λ (t : ThreadSet). IsIn t n) (sym (chosen ∙ careful)) (slept x y woken wakes n is)) (slept x y woken wakes n is)) in
    record { rest = λ down n is. absurd (none n is); ended = λ over. none }
rests x y s true (All threads) set woken end careful chosen wakes all = absurd careful
rests x y s true (First threads) set woken end careful chosen wakes all = absurd careful
rests x y s true (Next threads) set woken end careful chosen wakes all = absurd careful
rests x y s false (These threads) set woken end careful chosen wakes all =
    let (n, there, asleep) = careful in
    let up : IsIn y.up n = risen x y woken wakes n (all n (subst (λ (t : ThreadSet). IsIn t n) (sym chosen) there) asleep) in
    record { rest = λ down m is. absurd (down n up); ended = λ over. absurd (end over) }
rests x y s false (All threads) set woken end careful chosen wakes all = record { rest = λ down n is. at n is (chosen n (there n (slept x y woken wakes n is))); ended = λ over. absurd (end over) }
  where
    there : (n : ℕ) → IsIn x.asleep n → IsIn threads n
    there n is = subst (λ (t : ThreadSet). IsIn t n) (sym careful) is

    at : (n : ℕ) → IsIn y.asleep n → IsIn set n ⊎ HasNoChoice s n → HasNoChoice s n
    at n is (inl found) = absurd (unwoken x y woken wakes n is (all n found (slept x y woken wakes n is)))
    at n is (inr none) = none
rests x y s false (First threads) set woken end careful (inl found) wakes all =
    let (n, there, one) = found in
    let up : IsIn y.up n = risen x y woken wakes n (all n there (subst (λ (t : ThreadSet). IsIn t n) careful one)) in
    record { rest = λ down m is. absurd (down n up); ended = λ over. absurd (end over) }
rests x y s false (First threads) set woken end careful (inr none) wakes all =
    record { rest = λ down n is. none n (subst (λ (t : ThreadSet). IsIn t n) (sym careful) (slept x y woken wakes n is)); ended = λ over. absurd (end over) }
rests x y s false (Next threads) set woken end careful chosen wakes all =
    record { rest = λ down n is. absurd (careful (λ m u. down m (stays x y woken wakes m u))); ended = λ over. absurd (end over) }

-- one more thread was asked
pub asked_more : (threads old one new : ThreadSet) (s t : Shown) (k : ℕ) → t ≡ s → ((n : ℕ) → n < k → IsIn threads n → IsIn old n ⊎ HasNoChoice s n) → (IsIn threads k → IsIn one k ⊎ HasNoChoice t k)
    → ((n : ℕ) → member new n ≡ max (member old n) (member one n)) → (n : ℕ) → n < k + 1 → IsIn threads n → IsIn new n ⊎ HasNoChoice t n
asked_more threads old one new s t k same before here both n less is = elim (eqb_tells n k) [
  | inl yes_way ↦ subst (λ (m : ℕ). IsIn new m ⊎ HasNoChoice t m) (sym yes_way.1) (last (here (subst (λ (m : ℕ). IsIn threads m) yes_way.1 is)))
  | inr other ↦ first (before n (omega (arith, less, other.1)) is)
]
  where
    last : IsIn one k ⊎ HasNoChoice t k → IsIn new k ⊎ HasNoChoice t k
    last (inl found) = let e = both k in let l = small old k in inl (omega (arith, e, found, l))
    last (inr none) = inr none

    first : IsIn old n ⊎ HasNoChoice s n → IsIn new n ⊎ HasNoChoice t n
    first (inl found) = let e = both n in let l = small one n in inl (omega (arith, e, found, l))
    first (inr none) = inr (subst (λ (x : Shown). HasNoChoice x n) (sym same) none)

-- one more thread was asked, and none has an event yet
pub asked_none : (threads : ThreadSet) (s t : Shown) (k : ℕ) → t ≡ s → ((n : ℕ) → n < k → IsIn threads n → HasNoChoice s n) → (IsIn threads k → HasNoChoice t k) → (n : ℕ) → n < k + 1 → IsIn threads n → HasNoChoice t n
asked_none threads s t k same before here n less is = elim (eqb_tells n k) [
  | inl yes_way ↦ subst (λ (m : ℕ). HasNoChoice t m) (sym yes_way.1) (here (subst (λ (m : ℕ). IsIn threads m) yes_way.1 is))
  | inr other ↦ subst (λ (x : Shown). HasNoChoice x n) (sym same) (before n (omega (arith, less, other.1)) is)
]
