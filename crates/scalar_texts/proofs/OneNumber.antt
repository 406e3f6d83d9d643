-- A text is of one number.
use Rattle.std.proofs.Common.{◌≡◌, ◌<◌, ◌/◌, ◌^◌, ◌+◌, ◌-◌, ◌∷◌, ◌∙◌, ℕ, ℤ, pos, negsuc, suc, neg_ℤ, List, length, take, drop, Some, FitsSigned, w64, refl, sym, ap, arith}
use Rattle.std.proofs.lemmas.Fmt.{decimal_injective}
use Rattle.std.proofs.Math.Nat.{div-le_self}
use Rattle.decimal.proofs.Numbers.{fits_mag}
use Rattle.scalar_texts.specs.Numbers.{IsDateText, amount_text, decimal_text, digits_text, joined, time_text}
use Rattle.scalar_texts.proofs.Joined.{amount-back, amount-front, amount-whole, date-parts, day-small, joined-small, minus-parts, month-small, same-day, seconds-read, time-parts, year-small}

-- ---- amounts

one-amount : (places n m : ℕ) (text : List ℕ) → n < 2 ^ 64 → m < 2 ^ 64 → amount_text places n ≡ text → amount_text places m ≡ text → n ≡ m
one-amount places n m text fn fm en em =
    let end = length text - (places + 1) in
    let fronts = sym (amount-front places n end places text en refl refl) ∙ amount-front places m end places text em refl refl in
    let backs = sym (amount-back places n end places text en refl refl) ∙ amount-back places m end places text em refl refl in
    let whole : n / 10 ^ places ≡ m / 10 ^ places = decimal_injective _ _ (omega (arith, fn, div-le_self n (10 ^ places))) (omega (arith, fm, div-le_self m (10 ^ places))) fronts in
    sym (amount-whole places n (n / 10 ^ places) (digits_text places n) refl refl) ∙ amount-whole places m (n / 10 ^ places) (digits_text places n) whole backs

one-minus : (places : ℕ) (y z : ℤ) (amount : List ℕ) → FitsSigned w64 y → FitsSigned w64 z → decimal_text places y ≡ 45 ∷ amount → decimal_text places z ≡ 45 ∷ amount → y ≡ z
one-minus places y z amount fy fz ey ez =
    let p = minus-parts places y amount fy ey in
    let q = minus-parts places z amount fz ez in
    p.3 ∙ ap (λ (n : ℕ). neg_ℤ (pos n)) (one-amount places p.0 q.0 amount (omega (arith, p.1)) (omega (arith, q.1)) p.2 q.2) ∙ sym q.3

pub one-decimal : (places : ℕ) (y z : ℤ) (text : List ℕ) → FitsSigned w64 y → FitsSigned w64 z → decimal_text places y ≡ text → decimal_text places z ≡ text → y ≡ z
one-decimal places (pos n) (pos m) text fy fz ey ez = ap pos (one-amount places n m text (omega (arith, fits_mag (pos n) fy)) (omega (arith, fits_mag (pos m) fz)) ey ez)
one-decimal places (pos n) (negsuc m) text fy fz ey ez = one-minus places (pos n) (negsuc m) (amount_text places (suc m)) fy fz (ey ∙ sym ez) refl
one-decimal places (negsuc n) z text fy fz ey ez = one-minus places (negsuc n) z (amount_text places (suc n)) fy fz refl (ez ∙ sym ey)

-- ---- times

pub one-time : (y z : ℤ) (text : List ℕ) → time_text y ≡ Some text → time_text z ≡ Some text → y ≡ z
one-time y z text ey ez =
    let p = time-parts y text ey in
    let q = time-parts z text ez in
    let h = joined 0 (take 2 text) in
    let m = joined 0 (take 2 (drop 3 text)) in
    let s = joined 0 (take (length text - 6) (drop 6 text)) in
    let a = seconds-read p.0 h m s text p.2 p.3 (λ l. refl) (λ l. refl) (λ l. refl) in
    let b = seconds-read q.0 h m s text q.2 q.3 (λ l. refl) (λ l. refl) (λ l. refl) in
    p.1 ∙ ap pos (sym a ∙ b) ∙ sym q.1

-- ---- dates

pub one-date : (y z : ℤ) (text : List ℕ) → IsDateText y text → IsDateText z text → y ≡ z
one-date y z text a b =
    let p = date-parts a.date.year a.date.month a.date.day text a.written in
    let q = date-parts b.date.year b.date.month b.date.day text b.written in
    let same = sym p.2 ∙ q.2 in
    let years : p.0 ≡ q.0 = sym (joined-small 4 p.0 (year-small a.date.year p.0 p.1 a.date.year_in)) ∙ ap (λ (t : List ℕ). joined 0 (take 4 t)) same ∙ joined-small 4 q.0 (year-small b.date.year q.0 q.1 b.date.year_in) in
    let months : a.date.month ≡ b.date.month = sym (joined-small 2 a.date.month (month-small a.date)) ∙ ap (λ (t : List ℕ). joined 0 (take 2 (drop 5 t))) same ∙ joined-small 2 b.date.month (month-small b.date) in
    let days : a.date.day ≡ b.date.day = sym (joined-small 2 a.date.day (day-small a.date)) ∙ ap (λ (t : List ℕ). joined 0 (drop 8 t)) same ∙ joined-small 2 b.date.day (day-small b.date) in
    let year : a.date.year ≡ b.date.year = p.1 ∙ ap pos years ∙ sym q.1 in
    sym a.numbered ∙ same-day b.date a.date b.date.year (pos b.date.month) (pos b.date.day) refl refl refl (year, ap pos months, ap pos days) ∙ b.numbered
