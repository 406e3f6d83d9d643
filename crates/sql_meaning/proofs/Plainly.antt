-- A plain expression without an error has the scalar's value.
use Rattle.std.proofs.Common.{◌≡◌, sym, ap, ap₂, ◌∙◌, ◌+ℤ◌, ◌-ℤ◌, ◌*ℤ◌, neg_ℤ}
use Rattle.std.specs.Int.{int_wrap}
use mir.Syntax.{w64}
use Rattle.semantics.specs.Multiset.{Record}
use Rattle.semantics.specs.Meaning.{value}
use Rattle.semantics.specs.Query.{Scalar}
use Rattle.semantics.proofs.RulesKeepMeaning.{value-plus, value-minus, value-times, value-negated}
use Rattle.sql_meaning.specs.ScriptMeaning.{evaluated}
use Rattle.sql_meaning.specs.Plain.{plain, HasNoError}

pub plain_value : (s : Scalar) (r : Record) → HasNoError (plain s) r → evaluated (plain s) r ≡ value s r
plain_value (Scalar.column c) r h = sym h
plain_value (Scalar.literal z) r h = sym h
plain_value (Scalar.plus s t) r h = sym h.2 ∙ ap₂ (λ a b. int_wrap w64 (a +ℤ b)) (plain_value s r h.0) (plain_value t r h.1) ∙ sym (value-plus s t r)
plain_value (Scalar.minus s t) r h = sym h.2 ∙ ap₂ (λ a b. int_wrap w64 (a -ℤ b)) (plain_value s r h.0) (plain_value t r h.1) ∙ sym (value-minus s t r)
plain_value (Scalar.times s t) r h = sym h.2 ∙ ap₂ (λ a b. int_wrap w64 (a *ℤ b)) (plain_value s r h.0) (plain_value t r h.1) ∙ sym (value-times s t r)
plain_value (Scalar.negation s) r h = sym h.1 ∙ ap (λ a. int_wrap w64 (neg_ℤ a)) (plain_value s r h.0) ∙ sym (value-negated s r)
