-- A number at the head of a text.
use Rattle.std.proofs.Common.{◌≡◌, ◌≢◌, ◌<◌, ◌≤◌, ◌^◌, ◌∙◌, ℕ, List, length, take, sym, arith, get_or, decimal}
use Rattle.std.specs.Str.Parse.{AllDigits, digits_value}
use Rattle.std.proofs.lemmas.Fmt.{decimal-digits_value}
use Rattle.std.proofs.lemmas.List.{get_or-take, length-take-le}
use Rattle.decimal.proofs.Numbers.{decimal_numerals}

-- digits are the number that they write, if no zero leads them
pub spelled : (text : List ℕ) (at : ℕ) → at ≤ length text → AllDigits 10 (take at text) → at ≢ 0 → (get_or text 0 0 ≡ 48 → at ≤ 1) → digits_value 10 (take at text) < 2 ^ 64 → take at text ≡ decimal (digits_value 10 (take at text))
spelled text at within digits some lead small =
    let size : length (take at text) ≡ at = length-take-le at text within in
    sym (decimal-digits_value decimal_numerals (take at text) digits (omega (arith, size)) (λ e. let one = lead (sym (get_or-take at text 0 0 (omega arith)) ∙ e) in omega (arith, size)) small)
