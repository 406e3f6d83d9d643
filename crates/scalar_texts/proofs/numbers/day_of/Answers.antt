use Rattle.std.proofs.Common.{rules, ◌≡◌, ◌-◌, ◌∙◌, ℕ, List, pos, Some, FitsSigned, w8, w32, w64, ap, sym, take, drop, length}
use Rattle.std.specs.Int.{w16}
use Rattle.std.proofs.Math.Facts.{to_z-of_z}
use Rattle.scalar_texts.proofs.Joined.{date-parts, year-small, month-small, day-small, is-date, same-day}
use Rattle.scalar_texts.proofs.Spelled.{same-text}
use Rattle.scalar_texts.proofs.numbers.day_of.Goals as goal

pub returns-in_default-clause-only : goal.returns-in_default-clause-only
returns-in_default-clause-only c = λ z is.
    let p = date-parts is.date.year is.date.month is.date.day c.args.text.now is.written in
    cc (c.year_of.ensures p.0 (year-small is.date.year p.0 p.1 is.date.year_in) (ap (λ (t : List ℕ). take 4 t) p.2), c.in_default.is)

pub returns-in_default-part_of-2-clause-only : goal.returns-in_default-part_of-2-clause-only
returns-in_default-part_of-2-clause-only c = λ z is.
    let p = date-parts is.date.year is.date.month is.date.day c.args.text.now is.written in
    cc (c.part_of-2.ensures is.date.day (day-small is.date) (ap (λ (t : List ℕ). take (length t - 8) (drop 8 t)) p.2), c.in_default-part_of-2.is)

pub returns-in_default-new-clause-only : goal.returns-in_default-new-clause-only
returns-in_default-new-clause-only c = λ z is.
    let p = date-parts is.date.year is.date.month is.date.day c.args.text.now is.written in
    let y : is.date.year ≡ c.in-Some.year = cc (p.1, c.year_of.ensures p.0 (year-small is.date.year p.0 p.1 is.date.year_in) (ap (λ (t : List ℕ). take 4 t) p.2), c.in-Some.is) in
    let m : pos is.date.month ≡ c.in-Some-part_of.month = cc (c.part_of.ensures is.date.month (month-small is.date) (ap (λ (t : List ℕ). take 2 (drop 5 t)) p.2), c.in-Some-part_of.is) in
    let d : pos is.date.day ≡ c.in-Some-part_of-2.day = cc (c.part_of-2.ensures is.date.day (day-small is.date) (ap (λ (t : List ℕ). take (length t - 8) (drop 8 t)) p.2), c.in-Some-part_of-2.is) in
    let fy : FitsSigned w16 c.in-Some.year = search rules in
    let fm : FitsSigned w8 c.in-Some-part_of.month = search rules in
    let fd : FitsSigned w8 c.in-Some-part_of-2.day = search rules in
    let never = c.in_default-new.ensures.succeeds.1 (is-date is.date _ _ _ (y ∙ sym (to_z-of_z fy)) (m ∙ sym (to_z-of_z fm)) (d ∙ sym (to_z-of_z fd))) in
    cc never

pub returns-then-is_civil-clause-only : goal.returns-then-is_civil-clause-only
returns-then-is_civil-clause-only c = λ z is.
    let p = date-parts is.date.year is.date.month is.date.day c.args.text.now is.written in
    let y : is.date.year ≡ c.in-Some.year = cc (p.1, c.year_of.ensures p.0 (year-small is.date.year p.0 p.1 is.date.year_in) (ap (λ (t : List ℕ). take 4 t) p.2), c.in-Some.is) in
    let m : pos is.date.month ≡ c.in-Some-part_of.month = cc (c.part_of.ensures is.date.month (month-small is.date) (ap (λ (t : List ℕ). take 2 (drop 5 t)) p.2), c.in-Some-part_of.is) in
    let d : pos is.date.day ≡ c.in-Some-part_of-2.day = cc (c.part_of-2.ensures is.date.day (day-small is.date) (ap (λ (t : List ℕ). take (length t - 8) (drop 8 t)) p.2), c.in-Some-part_of-2.is) in
    let fy : FitsSigned w16 c.in-Some.year = search rules in
    let fm : FitsSigned w8 c.in-Some-part_of.month = search rules in
    let fd : FitsSigned w8 c.in-Some-part_of-2.day = search rules in
    let same = same-day is.date c.in-Ok.date _ _ _ (y ∙ sym (to_z-of_z fy)) (m ∙ sym (to_z-of_z fm)) (d ∙ sym (to_z-of_z fd)) c.in-Ok.ensures.value in
    let fits : FitsSigned w64 c.from.result = search rules in
    let small : FitsSigned w32 c.to_unix_epoch_day.result = search rules in
    ap Some (to_z-of_z fits ∙ c.from.ensures ∙ to_z-of_z small ∙ c.to_unix_epoch_day.ensures.value ∙ same ∙ is.numbered)

pub returns-else-is_civil-clause-only : goal.returns-else-is_civil-clause-only
returns-else-is_civil-clause-only c = λ z is.
    let p = date-parts is.date.year is.date.month is.date.day c.args.text.now is.written in
    let y : is.date.year ≡ c.in-Some.year = cc (p.1, c.year_of.ensures p.0 (year-small is.date.year p.0 p.1 is.date.year_in) (ap (λ (t : List ℕ). take 4 t) p.2), c.in-Some.is) in
    let m : pos is.date.month ≡ c.in-Some-part_of.month = cc (c.part_of.ensures is.date.month (month-small is.date) (ap (λ (t : List ℕ). take 2 (drop 5 t)) p.2), c.in-Some-part_of.is) in
    let d : pos is.date.day ≡ c.in-Some-part_of-2.day = cc (c.part_of-2.ensures is.date.day (day-small is.date) (ap (λ (t : List ℕ). take (length t - 8) (drop 8 t)) p.2), c.in-Some-part_of-2.is) in
    let fy : FitsSigned w16 c.in-Some.year = search rules in
    let fm : FitsSigned w8 c.in-Some-part_of.month = search rules in
    let fd : FitsSigned w8 c.in-Some-part_of-2.day = search rules in
    let same = same-text is.date c.in-Ok.date _ _ _ (y ∙ sym (to_z-of_z fy)) (m ∙ sym (to_z-of_z fm)) (d ∙ sym (to_z-of_z fd)) c.in-Ok.ensures.value in
    let written = c.is_civil.ensures.1 (same ∙ is.written) in
    cc (written, c.if-is_civil.false)

pub returns-then-is_civil-clause-found : goal.returns-then-is_civil-clause-found
returns-then-is_civil-clause-found c =
    let fits : FitsSigned w64 c.from.result = search rules in
    let small : FitsSigned w32 c.to_unix_epoch_day.result = search rules in
    record {
      date = c.in-Ok.date;
      numbered = sym (to_z-of_z fits ∙ c.from.ensures ∙ to_z-of_z small ∙ c.to_unix_epoch_day.ensures.value);
      written = c.is_civil.ensures.0 c.if-is_civil.true;
    }
