-- No number on the way of a written scalar is larger than 2^126.
use Rattle.std.proofs.Common.{◌≡◌, zero, suc, ◌+◌, ◌^◌, ◌≤◌, unsigned_abs, refl, subst, arith, ℤ, pos, negsuc, ◌+ℤ◌, ◌-ℤ◌, ◌*ℤ◌, neg_ℤ, FitsSigned}
use Rattle.std.specs.Int.{int_wrap}
use Rattle.std.proofs.lemmas.Int.{ints, SFits-int_wrap, unsigned_abs-mul}
use native.Mathlib.Nat.{mul-le-mul}
use mir.Syntax.{w64}
use Rattle.semantics.specs.Multiset.{Record}
use Rattle.semantics.specs.Meaning.{field}
use Rattle.semantics.specs.Query.{Scalar}
use Rattle.sql_meaning.specs.ScriptMeaning.{evaluated}
use Rattle.sql_meaning.specs.Range.{IsModerate, StaysModerate}
use Rattle.sql_meaning.specs.Translation.{expression}
use Rattle.sql_meaning.proofs.Expressions.{IsWord, Words, wrap_twice, word-field}

fits_size : (z : ℤ) → FitsSigned w64 z → unsigned_abs z ≤ 2 ^ 63
fits_size (pos n) f = omega (arith, f.sfits)
fits_size (negsuc n) f = omega (arith, f.sfits)

word_size : (z : ℤ) → IsWord z → unsigned_abs z ≤ 2 ^ 63
word_size z h = fits_size z (subst (FitsSigned w64) h (SFits-int_wrap w64 z))

word_moderate : (z : ℤ) → IsWord z → IsModerate z
word_moderate z h = omega (arith, word_size z h)

sum_size : (a b : ℤ) → unsigned_abs (a +ℤ b) ≤ unsigned_abs a + unsigned_abs b
sum_size (pos a) (pos b) = omega (arith, ints)
sum_size (pos a) (negsuc b) = omega (arith, ints)
sum_size (negsuc a) (pos b) = omega (arith, ints)
sum_size (negsuc a) (negsuc b) = omega (arith, ints)

opposite_size : (a : ℤ) → unsigned_abs (neg_ℤ a) ≡ unsigned_abs a
opposite_size (pos zero) = refl
opposite_size (pos (suc n)) = refl
opposite_size (negsuc n) = refl

difference_size : (a b : ℤ) → unsigned_abs (a -ℤ b) ≤ unsigned_abs a + unsigned_abs b
difference_size a b =
    let e : a -ℤ b ≡ a +ℤ neg_ℤ b = omega (arith, ints) in
    rw e (omega (arith, sum_size a (neg_ℤ b), opposite_size b))

product_size : (a b : ℤ) → IsWord a → IsWord b → IsModerate (a *ℤ b)
product_size a b h k = omega (arith, unsigned_abs-mul a b, mul-le-mul (word_size a h) (word_size b k))

-- what a scalar is written as is a number of 64 bits
evaluated_word : (s : Scalar) (r : Record) → Words r → IsWord (evaluated (expression s) r)
evaluated_word (Scalar.column c) r h = word-field c r h
evaluated_word (Scalar.literal z) r h = wrap_twice z
evaluated_word (Scalar.plus s t) r h = wrap_twice _
evaluated_word (Scalar.minus s t) r h = wrap_twice _
evaluated_word (Scalar.times s t) r h = wrap_twice _
evaluated_word (Scalar.negation s) r h = wrap_twice _

pub stays_moderate : (s : Scalar) (r : Record) → Words r → StaysModerate (expression s) r
stays_moderate (Scalar.column c) r h = word_moderate (field c r) (word-field c r h)
stays_moderate (Scalar.literal z) r h = word_moderate (int_wrap w64 z) (wrap_twice z)
stays_moderate (Scalar.plus s t) r h =
    let a = evaluated (expression s) r in
    let b = evaluated (expression t) r in
    ((stays_moderate s r h, stays_moderate t r h, omega (arith, sum_size a b, word_size a (evaluated_word s r h), word_size b (evaluated_word t r h))), word_moderate _ (wrap_twice (a +ℤ b)))
stays_moderate (Scalar.minus s t) r h =
    let a = evaluated (expression s) r in
    let b = evaluated (expression t) r in
    ((stays_moderate s r h, stays_moderate t r h, omega (arith, difference_size a b, word_size a (evaluated_word s r h), word_size b (evaluated_word t r h))), word_moderate _ (wrap_twice (a -ℤ b)))
stays_moderate (Scalar.times s t) r h =
    let a = evaluated (expression s) r in
    let b = evaluated (expression t) r in
    ((stays_moderate s r h, stays_moderate t r h, product_size a b (evaluated_word s r h) (evaluated_word t r h)), word_moderate _ (wrap_twice (a *ℤ b)))
stays_moderate (Scalar.negation s) r h =
    let a = evaluated (expression s) r in
    ((stays_moderate s r h, omega (arith, opposite_size a, word_size a (evaluated_word s r h))), word_moderate _ (wrap_twice (neg_ℤ a)))
