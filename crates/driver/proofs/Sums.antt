-- What was taken in never falls.
use Rattle.std.proofs.Common.{◌≡◌, ◌+◌, ◌<◌, ◌≤◌, ◌==◌, ◌∙◌, ◌++◌, ℕ, suc, Bool, true, false, cond, List, [], ◌∷◌, length, sym, ap, subst, arith, take, get_or, add-one, Option, Some, None}
use Rattle.std.specs.Prelude.{option_map, slice_get}
use Rattle.std.proofs.Math.Seq.{take-suc}
use Rattle.semantics.specs.Multiset.{total}
use Rattle.semantics.proofs.MultisetSums.{total-append}
use Rattle.board.specs.Outputs.{counted}
use Rattle.board.specs.declared.sent.Sent.{Sent}
use Rattle.driver.specs.declared.tally.Counts.{Counts}
use Rattle.driver.specs.Tallies.{Raises, Rows, at, raised}
use Rattle.driver.specs.Received.{received_in, received_of}

-- one element more in a sum that stays at its limit
pub sum_more : {X : Type 0} (f : X → ℕ) (xs : List X) (i : ℕ) (d : X) (all next : ℕ) → i < length xs → all ≡ counted (total f (take i xs)) → next ≡ counted (all + f (get_or xs i d)) → next ≡ counted (total f (take (i + 1) xs))
sum_more f xs i d all next l is more =
    let x = get_or xs i d in
    let t : take (i + 1) xs ≡ take i xs ++ x ∷ [] = ap (λ n. take n xs) (add-one i) ∙ take-suc xs i d l in
    let a = total-append f (take i xs) (x ∷ []) in
    let there : next ≡ counted (total f (take i xs ++ x ∷ [])) = omega (arith, more, is, a) in
    there ∙ ap (λ ys. counted (total f ys)) (sym t)

-- where the first has counters the second has, with as many records or more, up to the limit
abbrev Exceeds : Option Counts → Option Counts → Type 0
Exceeds None b = Unit {0}
Exceeds (Some a) None = ⊥
Exceeds (Some a) (Some b) = counted a.received ≤ b.received

exceeds_same : (a : Option Counts) → Exceeds a a
exceeds_same None = tt
exceeds_same (Some a) = omega arith

exceeds_raised : (x y : Bool) (a : Option Counts) (sent : Sent) → Exceeds a (cond x (cond y (option_map (raised sent) a) a) a)
exceeds_raised false y a sent = exceeds_same a
exceeds_raised true false a sent = exceeds_same a
exceeds_raised true true None sent = tt
exceeds_raised true true (Some a) sent = omega arith

row_rises : (xs ys : List Counts) → ((k : ℕ) → Exceeds (slice_get xs k) (slice_get ys k)) → received_in xs ≤ received_in ys
row_rises [] ys h = omega arith
row_rises (x ∷ xs) [] h = absurd (h 0)
row_rises (x ∷ xs) (y ∷ ys) h = let a = h 0 in let b = row_rises xs ys (λ k. h (suc k)) in omega (arith, a, b)

rows_rise : (xs ys : Rows) → ((v k : ℕ) → Exceeds (at xs v k) (at ys v k)) → total received_in xs ≤ total received_in ys
rows_rise [] ys h = omega arith
rows_rise (x ∷ xs) [] h = let a = row_rises x [] (h 0) in let b = rows_rise xs [] (λ v. h (suc v)) in omega (arith, a, b)
rows_rise (x ∷ xs) (y ∷ ys) h = let a = row_rises x y (h 0) in let b = rows_rise xs ys (λ v. h (suc v)) in omega (arith, a, b)

pub raises_receives : (old : Rows) (sent : Sent) (new : Rows) → Raises old sent new → received_of old ≤ received_of new
raises_receives old sent new raises =
    let a = rows_rise old new (λ v k. subst (Exceeds (at old v k)) (sym (raises.each v k)) (exceeds_raised (v == sent.vertex) (k == sent.worker) (at old v k) sent)) in
    omega (arith, a)
