use Rattle.std.proofs.Common.{◌≡◌, ◌<◌, ◌≤◌, ◌+◌, ◌-◌, ◌*◌, ◌%◌, ◌^◌, ◌∙◌, take, length, get_or, ap, sym, arith, decimal}
use Rattle.std.specs.Str.Parse.{AllDigits, digits_value}
use Rattle.std.proofs.lemmas.List.{length-take-le}
use Rattle.std.proofs.lemmas.Str.Parse.{digits_value_short}
use Rattle.core.proofs.dec2flt.Rows.{AllDigits-digits_len}
use Rattle.decimal.proofs.Numbers.{decimal_numerals}
use Rattle.collector.proofs.QuickNumbers.{spelled}
use Rattle.collector.proofs.quick.quick_number.Goals.{else-text-eq48-via-then-text-eq48+else-end-gt1, else-text-eq48-via-else-text-eq48}
use Rattle.collector.proofs.quick.quick_number.Goals as goal

pub returns-clause-number : goal.returns-clause-number
returns-clause-number c =
    let text = c.args.text.now in
    let end = c.read_digits-end.result.0 in
    let said = c.read_digits-end.ensures in
    let digits : AllDigits 10 (take end text) = AllDigits-digits_len text end (omega (arith, said.end)) in
    let few : length (take end text) ≤ 19 = omega (arith, length-take-le end text said.within, c.if-end-gt-MOST_DIGITS.false) in
    let short : digits_value 10 (take end text) < 10 ^ 19 = digits_value_short decimal_numerals (take end text) 19 digits few in
    let none : end - 0 ≡ end = omega arith in
    let value : c.read_digits-end.result.1 ≡ (0 * 10 ^ end + digits_value 10 (take end text)) % 2 ^ 64 = rw none at said.value in
    let whole : c.read_digits-end.result.1 ≡ digits_value 10 (take end text) = omega (arith, value, short) in
    let lead : get_or text 0 0 ≡ 48 → end ≤ 1 = λ e. elim c.else-text-eq48.branch [
      | else-text-eq48-via-then-text-eq48+else-end-gt1 w ↦ omega (arith, w.if-end-gt1)
      | else-text-eq48-via-else-text-eq48 w ↦ absurd (w.if-text-eq48.false e)
    ] in
    spelled text end said.within digits c.if-end-eq0.false lead (omega (arith, short)) ∙ ap decimal (sym whole)
