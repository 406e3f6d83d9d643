-- An expression that a scalar is written as has its value, on a row of 64-bit numbers.
use Rattle.std.proofs.Common.{◌≡◌, ℕ, zero, suc, not, ◌&&◌, ◌||◌, [], ◌∷◌, refl, sym, ap, ap₂, ◌∙◌, arith, ℤ, pos, ◌+ℤ◌, ◌-ℤ◌, ◌*ℤ◌, neg_ℤ}
use Rattle.std.specs.List.{AllByRecursion}
use Rattle.std.specs.Int.{int_wrap}
use Rattle.std.proofs.lemmas.Int.{ints, int_wrap-add_right}
use mir.Syntax.{w64}
use Rattle.semantics.specs.Multiset.{Record}
use Rattle.semantics.specs.Meaning.{field, value, holds, compares}
use Rattle.semantics.specs.Query.{Scalar, Cond}
use Rattle.semantics.proofs.RulesKeepMeaning.{value-plus, value-minus, value-times, value-negated}
use Rattle.sql_meaning.specs.ScriptMeaning.{evaluated, is_true}
use Rattle.sql_meaning.specs.Translation.{expression, search}

-- a number of 64 bits, with a sign
abbrev pub IsWord : ℤ → Type 0
IsWord z = int_wrap w64 z ≡ z

-- each field is one
abbrev pub Words : Record → Type 0
Words r = AllByRecursion IsWord r

zero_plus : (a : ℤ) → pos 0 +ℤ a ≡ a
zero_plus a = omega (arith, ints)

pub wrap_twice : (a : ℤ) → IsWord (int_wrap w64 a)
wrap_twice a = ap (int_wrap w64) (sym (zero_plus (int_wrap w64 a))) ∙ int_wrap-add_right w64 (pos 0) a ∙ ap (int_wrap w64) (zero_plus a)

pub zero_wraps : IsWord (pos 0)
unfolding int_wrap
zero_wraps = refl

pub word-field : (c : ℕ) (r : Record) → Words r → IsWord (field c r)
word-field c [] h = zero_wraps
word-field zero (z ∷ r) h = h.0
word-field (suc c) (z ∷ r) h = word-field c r h.1

pub evaluated-value : (s : Scalar) (r : Record) → Words r → evaluated (expression s) r ≡ value s r
evaluated-value (Scalar.column c) r h = sym (word-field c r h)
evaluated-value (Scalar.literal z) r h = refl
evaluated-value (Scalar.plus s t) r h = ap₂ (λ a b. int_wrap w64 (a +ℤ b)) (evaluated-value s r h) (evaluated-value t r h) ∙ sym (value-plus s t r)
evaluated-value (Scalar.minus s t) r h = ap₂ (λ a b. int_wrap w64 (a -ℤ b)) (evaluated-value s r h) (evaluated-value t r h) ∙ sym (value-minus s t r)
evaluated-value (Scalar.times s t) r h = ap₂ (λ a b. int_wrap w64 (a *ℤ b)) (evaluated-value s r h) (evaluated-value t r h) ∙ sym (value-times s t r)
evaluated-value (Scalar.negation s) r h = ap (λ a. int_wrap w64 (neg_ℤ a)) (evaluated-value s r h) ∙ sym (value-negated s r)

pub search-holds : (c : Cond) (r : Record) → Words r → is_true (search c) r ≡ holds c r
search-holds (Cond.compare o s t) r h = ap₂ (compares o) (evaluated-value s r h) (evaluated-value t r h)
search-holds (Cond.conjunction c d) r h = ap₂ (λ a b. a && b) (search-holds c r h) (search-holds d r h)
search-holds (Cond.disjunction c d) r h = ap₂ (λ a b. a || b) (search-holds c r h) (search-holds d r h)
search-holds (Cond.negation c) r h = ap not (search-holds c r h)
