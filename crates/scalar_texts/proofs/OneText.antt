-- A number has one text.
use Rattle.std.proofs.Common.{◌≡◌, ℕ, ℤ, List, Some, sym, ◌∙◌}
use Rattle.jiff_core.proofs.DateLemmas.{epoch_day_injective}
use Rattle.scalar_texts.specs.Numbers.{IsDateText, date_text}

pub some-once : (f g : List ℕ) → Some f ≡ Some g → f ≡ g
some-once f g e = cc e

-- a day number is of one date, which has one text
pub date-once : (z : ℤ) (f g : List ℕ) → IsDateText z f → IsDateText z g → f ≡ g
date-once z f g a b =
    let same = epoch_day_injective a.date b.date (a.numbered ∙ sym b.numbered) in
    let written : date_text b.date.year b.date.month b.date.day ≡ Some f = rw (same.0, same.1, same.2) at a.written in
    some-once f g (sym written ∙ b.written)
