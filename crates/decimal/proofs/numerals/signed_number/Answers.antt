use Rattle.std.proofs.Common.{◌∙◌, ◌≡◌, true, sym, ap, arith, rules}
use Rattle.std.specs.Fmt.{signed_decimal}
use Rattle.std.specs.Int.{w64}
use Rattle.std.specs.Int.RustNames.{FitsSigned}
use Rattle.std.proofs.lemmas.Int.{to_z-of_z}
use Rattle.std.proofs.lemmas.Fmt.{parse-signed_decimal}
use Rattle.decimal.proofs.Numbers.{utf8-signed, fits_mag, may_begin_signed, prints_signed_so}
use Rattle.decimal.proofs.numerals.signed_number.Goals as goal

pub returns-then-not-may_begin_signed-clause-none : goal.returns-then-not-may_begin_signed-clause-none
returns-then-not-may_begin_signed-clause-none c = λ z fits e.
    let t : c.may_begin_signed.result ≡ true = c.may_begin_signed.ensures.1 (may_begin_signed c.args.text.now z fits e) in
    let f = c.if-not-may_begin_signed.true in
    grind (arith, t, f)

pub returns-in_default-clause-none : goal.returns-in_default-clause-none
returns-in_default-clause-none c = λ z fits e. c.in_default.ensures.cases.0 (utf8-signed c.args.text.now z (fits_mag z fits) e)

pub returns-in_default-parse-clause-none : goal.returns-in_default-parse-clause-none
returns-in_default-parse-clause-none c = λ z fits e. c.in_default-parse.not-Ok z (parse-signed_decimal w64 z c.in-Ok.word.now c.parse.result fits (fits_mag z fits) (c.in-Ok.ensures.cases.0 ∙ e) c.parse.ensures.value.0)

pub returns-clause-found : goal.returns-clause-found
returns-clause-found c =
    let t : c.may_begin_signed.result ≡ true = search rules in
    let fits : FitsSigned w64 c.in-Ok-parse.number = search rules in
    prints_signed_so c.args.text.now c.in-Ok.word.now c.in-Ok-parse.number c.parse.result (c.may_begin_signed.ensures.0 t) c.in-Ok.ensures.cases.0 c.parse.ensures.value.0 c.in-Ok-parse.is ∙ sym (ap signed_decimal (to_z-of_z w64 c.in-Ok-parse.number fits))
