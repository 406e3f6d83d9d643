-- To wrap on the way changes nothing at the end.
use Rattle.std.proofs.Common.{◌≡◌, ℤ, List, pos, ◌-ℤ◌, ◌∙◌, sym, ap, arith}
use Rattle.std.proofs.Math.IntN.{neg_ℤ}
use Rattle.std.specs.Int.{int_wrap, w64}
use Rattle.std.proofs.lemmas.Int.{wraps, ints, int_wrap-sub_right, int_wrap-add_left}
use Rattle.semantics.specs.Meaning.{exact, value}
use Rattle.semantics.specs.Query.{Scalar}
use Rattle.expr_tree.specs.declared.scalar.Operator.{Operator}
use Rattle.expr_tree.specs.declared.scalar.Operator.TheVariants.{Add, Subtract, Multiply}
use Rattle.expr_tree.specs.Plain.{plain_operator}

neg_is : (a : ℤ) → pos 0 -ℤ a ≡ neg_ℤ a
neg_is a = omega (arith, ints)

-- a negation of a wrapped number
pub wrap_neg : (a : ℤ) → int_wrap w64 (neg_ℤ (int_wrap w64 a)) ≡ int_wrap w64 (neg_ℤ a)
wrap_neg a = ap (int_wrap w64) (sym (neg_is (int_wrap w64 a))) ∙ int_wrap-sub_right w64 (pos 0) a ∙ ap (int_wrap w64) (neg_is a)

-- an operator between the values of two scalars
pub value_operator : (o : Operator) (a b : Scalar) (r : List ℤ) → value (plain_operator o (Scalar.literal (value a r)) (Scalar.literal (value b r))) r ≡ value (plain_operator o a b) r
value_operator Add a b r = simp wraps
value_operator Subtract a b r = int_wrap-sub_right w64 (int_wrap w64 (exact a r)) (exact b r) ∙ int_wrap-add_left w64 (exact a r) (neg_ℤ (exact b r))
value_operator Multiply a b r = simp wraps

-- the negation of a scalar's value
pub value_negation : (a : Scalar) (r : List ℤ) → value (Scalar.negation (Scalar.literal (value a r))) r ≡ value (Scalar.negation a) r
value_negation a r = wrap_neg (exact a r)
