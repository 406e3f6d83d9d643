-- Sets of threads as the bits of a number.
use Rattle.std.proofs.Common.{◌≡◌, ◌≢◌, ◌==◌, ◌%◌, ◌-◌, ◌^◌, ◌*◌, ℕ, cond, max, min, ◌<◌, ◌≤◌, ◌⊎◌, inl, inr, ◌∙◌, sym, ap, subst, arith, bit_and, w64, MatchBool, nat_eq, true, false, Bool}
use Rattle.std.specs.Int.{bit_at, trailing_zeros}
use Rattle.std.proofs.lemmas.Bool.Decides.{eqb_tells}
use Rattle.std.proofs.lemmas.Nat.Bits.{bit_at_and, bit_at_not, bit_at_above, bit_at-lt, bit_at-zero, bit_at-trailing_zeros, bit_at_set_same, bit_at_set_other}

abbrev limit : ℕ
limit = 18446744073709551616

split : (n k : ℕ) → (n < k) ⊎ (k ≤ n)
split n k = search (arith)

none_in : (x y z : ℕ) → x ≡ 0 → min x y ≡ min x z
none_in x y z e = search (arith, e)

pub but_bits : (a b n : ℕ) → a < limit → b < limit → bit_at (bit_and a (18446744073709551615 - b)) n ≡ min (bit_at a n) (1 - bit_at b n)
but_bits a b n la lb = bit_at_and a (18446744073709551615 - b) n ∙ at (split n 64)
  where
    at : (n < 64) ⊎ (64 ≤ n) → min (bit_at a n) (bit_at (18446744073709551615 - b) n) ≡ min (bit_at a n) (1 - bit_at b n)
    at (inl l) = ap (λ x. min (bit_at a n) x) (bit_at_not w64 b n lb l)
    at (inr l) = none_in (bit_at a n) (bit_at (18446744073709551615 - b) n) (1 - bit_at b n) (bit_at_above a 64 n la l)

pub one_bit : (k n : ℕ) → k < 64 → bit_at (1 * 2 ^ k % 18446744073709551616) n ≡ cond (n == k) 1 0
one_bit k n l = at (eqb_tells n k)
  where
    at : ((nat_eq n k ≡ true) × (n ≡ k)) ⊎ ((nat_eq n k ≡ false) × (n ≢ k)) → bit_at (1 * 2 ^ k % 18446744073709551616) n ≡ cond (nat_eq n k) 1 0
    at (inl t) = ap (λ (m : ℕ). bit_at (1 * 2 ^ k % 18446744073709551616) m) t.1 ∙ bit_at_set_same w64 0 k l ∙ sym (ap (λ (b : Bool). cond b 1 0) t.0)
    at (inr f) = bit_at_set_other w64 0 k l n f.1 ∙ bit_at-zero n ∙ sym (ap (λ (b : Bool). cond b 1 0) f.0)

pub set_at : (a n : ℕ) (b : Bool) → max (bit_at a n) (cond b 1 0) ≡ cond b 1 (bit_at a n)
set_at a n true = let l = bit_at-lt a n in search (arith, l)
set_at a n false = search (arith)

pub clear_at : (a n : ℕ) (b : Bool) → min (bit_at a n) (1 - cond b 1 0) ≡ cond b 0 (bit_at a n)
clear_at a n true = search (arith)
clear_at a n false = let l = bit_at-lt a n in search (arith, l)

abbrev HasBit : (a : ℕ) → Bool → Type 0
HasBit a b = MatchBool b ((n : ℕ) → bit_at a n ≡ 1 → ⊥) ((n : ℕ) × (bit_at a n ≡ 1))

no_bit : (n : ℕ) → bit_at 0 n ≡ 1 → ⊥
no_bit n is = let z = bit_at-zero n in omega (arith, z, is)

pub some_bit : (a : ℕ) → a < limit → HasBit a (nat_eq a 0)
some_bit a l = at (eqb_tells a 0)
  where
    at : ((nat_eq a 0 ≡ true) × (a ≡ 0)) ⊎ ((nat_eq a 0 ≡ false) × (a ≢ 0)) → HasBit a (nat_eq a 0)
    at (inl t) = subst (λ b. HasBit a b) (sym t.0) (λ n is. no_bit n (ap (λ (m : ℕ). bit_at m n) (sym t.1) ∙ is))
    at (inr f) = subst (λ b. HasBit a b) (sym f.0) (let p : 0 < a = search (arith, f.1) in (trailing_zeros w64 a, (bit_at-trailing_zeros w64 a p l).1))

pub few_bits : (a n : ℕ) → a < limit → bit_at a n ≡ 1 → n < 64
few_bits a n l is = at (split n 64)
  where
    at : (n < 64) ⊎ (64 ≤ n) → n < 64
    at (inl m) = m
    at (inr m) = let z = bit_at_above a 64 n l m in absurd (omega (arith, z, is))
