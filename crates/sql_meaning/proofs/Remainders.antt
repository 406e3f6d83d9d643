-- The remainders that SQL writes are the wrapped number.
use Rattle.std.proofs.Common.{◌≡◌, ℕ, ◌^◌, ◌<◌, unsigned_abs, refl, sym, ap, ◌∙◌, arith, ℤ, pos, negsuc, ◌+ℤ◌, ◌-ℤ◌, ◌*ℤ◌, neg_ℤ, ◌≤ℤ◌, ◌<ℤ◌, int_rem, int_div, FitsSigned}
use Rattle.std.specs.Int.{int_wrap}
use Rattle.std.proofs.lemmas.Int.{ints, int_wrap-add_right, int_wrap-add_same, int_wrap-mul_right, int_wrap_fits, quot-rem, rem_below}
use mir.Syntax.{w64}
use Rattle.sql_meaning.specs.Remainder.{by_remainders}

abbrev whole : ℤ
whole = pos (2 ^ 64)

abbrev half : ℤ
half = pos (2 ^ 63)

whole_wraps : int_wrap w64 whole ≡ pos 0
unfolding int_wrap
whole_wraps = refl

nothing_wraps : int_wrap w64 (pos 0) ≡ pos 0
unfolding int_wrap
nothing_wraps = refl

times_nothing : (q : ℤ) → q *ℤ pos 0 ≡ pos 0
times_nothing q = omega (arith, ints)

multiple_wraps : (q : ℤ) → int_wrap w64 (q *ℤ whole) ≡ int_wrap w64 (pos 0)
multiple_wraps q = sym (int_wrap-mul_right w64 q whole) ∙ ap (λ z. int_wrap w64 (q *ℤ z)) whole_wraps ∙ ap (int_wrap w64) (times_nothing q)

from_nothing : (a : ℤ) → pos 0 +ℤ a ≡ a
from_nothing a = omega (arith, ints)

remainder_wraps : (a : ℤ) → int_wrap w64 (int_rem a whole) ≡ int_wrap w64 a
remainder_wraps a =
    sym (ap (int_wrap w64) (from_nothing (int_rem a whole)))
    ∙ sym (int_wrap-add_same w64 (int_div a whole *ℤ whole) (pos 0) (int_rem a whole) (multiple_wraps (int_div a whole)))
    ∙ ap (int_wrap w64) (quot-rem a whole)

plus_nothing : (a : ℤ) → a +ℤ pos 0 ≡ a
plus_nothing a = omega (arith, ints)

plus_whole : (a : ℤ) → int_wrap w64 (a +ℤ whole) ≡ int_wrap w64 a
plus_whole a = sym (int_wrap-add_right w64 a whole) ∙ ap (λ z. int_wrap w64 (a +ℤ z)) whole_wraps ∙ ap (int_wrap w64) (plus_nothing a)

minus_half : (a : ℤ) → a -ℤ half ≡ a +ℤ neg_ℤ half
minus_half a = omega (arith, ints)

back : (z : ℤ) → (z +ℤ half) +ℤ neg_ℤ half ≡ z
back z = omega (arith, ints)

same_wrap : (z : ℤ) → int_wrap w64 (by_remainders z) ≡ int_wrap w64 z
same_wrap z =
    let a = z +ℤ half in
    let b = int_rem a whole in
    let c = int_rem (b +ℤ whole) whole in
    let e : int_wrap w64 c ≡ int_wrap w64 a = remainder_wraps (b +ℤ whole) ∙ plus_whole b ∙ remainder_wraps a in
    ap (int_wrap w64) (minus_half c) ∙ int_wrap-add_same w64 c a (neg_ℤ half) e ∙ ap (int_wrap w64) (back z)

-- a number above minus the whole, plus the whole, has a remainder from 0
low : (a : ℤ) → unsigned_abs a < 2 ^ 64 → pos 0 ≤ℤ (a +ℤ whole)
low (pos n) h = omega (arith, ints)
low (negsuc n) h = omega (arith, ints)

from_zero : (a : ℤ) → pos 0 ≤ℤ a → pos 0 ≤ℤ int_rem a whole
from_zero (pos n) h = omega (arith, ints)
from_zero (negsuc n) h = absurd (omega (arith, ints))

size_below : (a : ℤ) (n : ℕ) → unsigned_abs a < n → a <ℤ pos n
size_below (pos m) n h = omega (arith, ints)
size_below (negsuc m) n h = omega (arith, ints)

fits_between : (a : ℤ) → neg_ℤ half ≤ℤ a → a <ℤ half → FitsSigned w64 a
fits_between (pos n) h k = record { sfits = omega (arith, ints) }
fits_between (negsuc n) h k = record { sfits = omega (arith, ints) }

remainders_fit : (z : ℤ) → FitsSigned w64 (by_remainders z)
remainders_fit z =
    let b = int_rem (z +ℤ half) whole in
    let c = int_rem (b +ℤ whole) whole in
    let s : unsigned_abs b < 2 ^ 64 = rem_below (z +ℤ half) whole (omega arith) in
    let l : pos 0 ≤ℤ c = from_zero (b +ℤ whole) (low b s) in
    let u : c <ℤ whole = size_below c (2 ^ 64) (rem_below (b +ℤ whole) whole (omega arith)) in
    fits_between (c -ℤ half) (omega (arith, ints, l)) (omega (arith, ints, u))

pub remainders_wrap : (z : ℤ) → by_remainders z ≡ int_wrap w64 z
remainders_wrap z = sym (int_wrap_fits w64 (by_remainders z) (remainders_fit z)) ∙ same_wrap z
