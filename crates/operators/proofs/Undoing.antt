-- What determines a column still determines it under a negation, and beside a literal under an operator that can be undone.
use Rattle.std.proofs.Common.{◌≡◌, ℕ, zero, suc, ◌*◌, ℤ, ◌+ℤ◌, ◌-ℤ◌, ◌*ℤ◌, pos, negsuc, Option, None, Some, IfSome, is_some, true, true≢false, refl, sym, ap, ◌∙◌, arith}
use Rattle.std.proofs.Math.IntN.{neg_ℤ, neg_ℤ-neg_ℤ, zero-*ℤ, one, *ℤ-one, *ℤ_comm}
use Rattle.std.proofs.Math.Nat.{mul_assoc}
use Rattle.std.specs.Int.{int_wrap, w64}
use Rattle.std.proofs.lemmas.Int.{ints, int_wrap-add_left, int_wrap-sub_right, int_wrap-mul_left, int_wrap-mul_right}
use Rattle.expr_tree.specs.declared.scalar.Operator.{Operator}
use Rattle.expr_tree.specs.Plain.{plain_operator}
use Rattle.expr_tree.specs.declared.scalar.Operator.TheVariants.{Add, Subtract, Multiply}
use Rattle.semantics.specs.Query.{Scalar}
use Rattle.semantics.specs.Meaning.{exact}
use Rattle.operators.specs.Columns.{Determines, IsInvertible}

-- g undoes f, and treats a wrapped number like the number
undone : (f g : ℤ → ℤ) → ((a : ℤ) → int_wrap w64 (g (int_wrap w64 a)) ≡ int_wrap w64 (g a)) → ((a : ℤ) → int_wrap w64 (g (f a)) ≡ int_wrap w64 a) →
    (a b : ℤ) → int_wrap w64 (f a) ≡ int_wrap w64 (f b) → int_wrap w64 a ≡ int_wrap w64 b
undone f g wrapped back a b e = sym (back a) ∙ sym (wrapped (f a)) ∙ ap (λ z. int_wrap w64 (g z)) e ∙ wrapped (f b) ∙ back b

pub negation_determines : (c : ℕ) (s : Scalar) → Determines c s → Determines c (Scalar.negation s)
negation_determines c s t r q e = t r q (undone neg_ℤ (λ a. pos 0 -ℤ a) (λ a. int_wrap-sub_right w64 (pos 0) a) (λ a. ap (int_wrap w64) (omega (arith, ints))) (exact s r) (exact s q) e)

pub plus_keeps : (z : ℤ) → IsInvertible Add (Scalar.literal z)
plus_keeps z c s t = (
  λ r q e. t r q (undone (λ a. a +ℤ z) (λ a. a +ℤ neg_ℤ z) (λ a. int_wrap-add_left w64 a (neg_ℤ z)) (λ a. ap (int_wrap w64) (omega (arith, ints))) (exact s r) (exact s q) e),
  λ r q e. t r q (undone (λ a. z +ℤ a) (λ a. a +ℤ neg_ℤ z) (λ a. int_wrap-add_left w64 a (neg_ℤ z)) (λ a. ap (int_wrap w64) (omega (arith, ints))) (exact s r) (exact s q) e),
)

pub minus_keeps : (z : ℤ) → IsInvertible Subtract (Scalar.literal z)
minus_keeps z c s t = (
  λ r q e. t r q (undone (λ a. a -ℤ z) (λ a. a +ℤ z) (λ a. int_wrap-add_left w64 a z) (λ a. ap (int_wrap w64) (omega (arith, ints))) (exact s r) (exact s q) e),
  λ r q e. t r q (undone (λ a. z -ℤ a) (λ a. z -ℤ a) (λ a. int_wrap-sub_right w64 z a) (λ a. ap (int_wrap w64) (omega (arith, ints))) (exact s r) (exact s q) e),
)

-- ---- products

neg_times : (m k : ℤ) → neg_ℤ m *ℤ k ≡ neg_ℤ (m *ℤ k)
neg_times (pos zero) k = zero-*ℤ k ∙ ap neg_ℤ (sym (zero-*ℤ k))
neg_times (pos (suc n)) (pos c) = refl
neg_times (pos (suc n)) (negsuc c) = sym (neg_ℤ-neg_ℤ (pos (suc n * suc c)))
neg_times (negsuc n) (pos c) = sym (neg_ℤ-neg_ℤ (pos (suc n * c)))
neg_times (negsuc n) (negsuc c) = refl

times_neg : (m k : ℤ) → m *ℤ neg_ℤ k ≡ neg_ℤ (m *ℤ k)
times_neg m k = *ℤ_comm m (neg_ℤ k) ∙ neg_times k m ∙ ap neg_ℤ (*ℤ_comm k m)

assoc_positive : (a b : ℕ) (c : ℤ) → (pos a *ℤ pos b) *ℤ c ≡ pos a *ℤ (pos b *ℤ c)
assoc_positive a b (pos c) = ap pos (mul_assoc a b c)
assoc_positive a b (negsuc c) = ap (λ n. neg_ℤ (pos n)) (mul_assoc a b (suc c)) ∙ sym (times_neg (pos a) (pos (b * suc c)))

assoc_left : (a : ℕ) (b c : ℤ) → (pos a *ℤ b) *ℤ c ≡ pos a *ℤ (b *ℤ c)
assoc_left a (pos b) c = assoc_positive a b c
assoc_left a (negsuc b) c =
    neg_times (pos (a * suc b)) c ∙ ap neg_ℤ (assoc_positive a (suc b) c) ∙ sym (ap (λ z. pos a *ℤ z) (neg_times (pos (suc b)) c) ∙ times_neg (pos a) (pos (suc b) *ℤ c))

times_assoc : (a b c : ℤ) → (a *ℤ b) *ℤ c ≡ a *ℤ (b *ℤ c)
times_assoc (pos a) b c = assoc_left a b c
times_assoc (negsuc a) b c =
    ap (λ z. z *ℤ c) (neg_times (pos (suc a)) b) ∙ neg_times (pos (suc a) *ℤ b) c ∙ ap neg_ℤ (assoc_left (suc a) b c) ∙ sym (neg_times (pos (suc a)) (b *ℤ c))

times_one : (a : ℤ) → a *ℤ pos 1 ≡ a
unfolding one
times_one a = *ℤ-one a

-- a product with z, times the inverse x of z
times_back : (z x a : ℤ) → int_wrap w64 (z *ℤ x) ≡ pos 1 → int_wrap w64 ((a *ℤ z) *ℤ x) ≡ int_wrap w64 a
times_back z x a e = ap (int_wrap w64) (times_assoc a z x) ∙ sym (int_wrap-mul_right w64 a (z *ℤ x)) ∙ ap (λ y. int_wrap w64 (a *ℤ y)) e ∙ ap (int_wrap w64) (times_one a)

times_keeps : (z x : ℤ) → int_wrap w64 (z *ℤ x) ≡ pos 1 → IsInvertible Multiply (Scalar.literal z)
times_keeps z x i c s t = (
  λ r q e. t r q (undone (λ a. a *ℤ z) (λ a. a *ℤ x) (λ a. int_wrap-mul_left w64 a x) (λ a. times_back z x a i) (exact s r) (exact s q) e),
  λ r q e. t r q (undone (λ a. z *ℤ a) (λ a. a *ℤ x) (λ a. int_wrap-mul_left w64 a x) (λ a. ap (λ y. int_wrap w64 (y *ℤ x)) (*ℤ_comm z a) ∙ times_back z x a i) (exact s r) (exact s q) e),
)

pub inverse_keeps : (z : ℤ) (found : Option ℤ) → IfSome found (λ x. int_wrap w64 (z *ℤ x) ≡ pos 1) → is_some found ≡ true → IsInvertible Multiply (Scalar.literal z)
inverse_keeps z None i e = absurd (true≢false (sym e))
inverse_keeps z (Some x) i e = times_keeps z x i

-- ---- the column that is determined

pub determined_negated : (s : Scalar) (determined : Option ℕ) → IfSome determined (λ c. Determines c s) → IfSome determined (λ c. Determines c (Scalar.negation s))
determined_negated s None t = t
determined_negated s (Some c) t = negation_determines c s t

-- beside t, the operator determines what s determines
pub determined_left : (o : Operator) (s t : Scalar) (determined : Option ℕ) → IsInvertible o t → IfSome determined (λ c. Determines c s) → IfSome determined (λ c. Determines c (plain_operator o s t))
determined_left o s t None k h = h
determined_left o s t (Some c) k h = (k c s h).0

pub determined_right : (o : Operator) (s t : Scalar) (determined : Option ℕ) → IsInvertible o t → IfSome determined (λ c. Determines c s) → IfSome determined (λ c. Determines c (plain_operator o t s))
determined_right o s t None k h = h
determined_right o s t (Some c) k h = (k c s h).1
