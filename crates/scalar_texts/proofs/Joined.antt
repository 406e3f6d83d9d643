-- What digits make of a number.
use Rattle.std.proofs.Common.{◌≡◌, ◌<◌, ◌≤◌, ◌+◌, ◌-◌, ◌*◌, ◌/◌, ◌%◌, ◌^◌, ◌++◌, ◌∷◌, ◌∙◌, ℕ, zero, suc, List, [], length, get_or, drop, take, refl, sym, ap, arith, drop-cons, add-one, inl, inr, ℤ, pos, negsuc, neg_ℤ, decimal, nat_lt, Option, Some, None, IfSome, IfNone, FitsSigned, w64, subst, ◌≤ℤ◌}
use Rattle.std.proofs.Math.Nat.{div-div-eq-div-mul, div-eq_of_lt, div-le_self, div-one}
use Rattle.std.proofs.lemmas.List.{drop_all, length-append, length-drop, take_all}
use Rattle.std.proofs.Math.Seq.{take-append_seam, drop-append-add}
use Rattle.std.proofs.lemmas.Bool.{cases_Bool, ltb-true}
use Rattle.std.specs.Option.{MatchOption}
use Rattle.decimal.specs.Numerals.{MayBegin}
use Rattle.decimal.proofs.Numbers.{fits_mag, may_begin}
use Rattle.scalar_texts.proofs.OneText.{some-once}
use Rattle.jiff_core.specs.declared.civil.date.Date as civil
use Rattle.jiff_core.specs.Date.{IsYmd, epoch_day}
use Rattle.jiff_core.specs.Calendar.{IsDate, IsYear}
use Rattle.jiff_core.proofs.SignedLemmas.{signed_arith}
use Rattle.jiff_core.proofs.CalendarLemmas.{days_in_month_bounds}
use Rattle.scalar_texts.specs.Numbers.{joined, digits_text, clock_text, time_text, amount_text, decimal_text, date_text}

pub joined-least : (n : ℕ) (bs : List ℕ) → n ≤ joined n bs
unfolding joined
joined-least n [] = omega arith
joined-least n (b ∷ bs) =
    let more : n * 10 + (b - 48) ≤ joined (n * 10 + (b - 48)) bs = joined-least (n * 10 + (b - 48)) bs in
    omega (arith, more)

joined-cons : (n b : ℕ) (bs : List ℕ) → joined n (b ∷ bs) ≡ joined (n * 10 + (b - 48)) bs
unfolding joined
joined-cons n b bs = refl

pub joined-nil : (n : ℕ) → joined n [] ≡ n
unfolding joined
joined-nil n = refl

-- one more digit is read
pub joined-step : (n i : ℕ) (digits : List ℕ) → i < length digits → joined n (drop i digits) ≡ joined (n * 10 + (get_or digits i 0 - 48)) (drop (suc i) digits)
joined-step n i digits below = ap (joined n) (drop-cons digits i 0 below) ∙ joined-cons n (get_or digits i 0) (drop (suc i) digits)

-- all are read
pub joined-all : (n i : ℕ) (digits : List ℕ) → length digits ≤ i → joined n (drop i digits) ≡ n
joined-all n i digits over = ap (joined n) (drop_all i digits over) ∙ joined-nil n

joined-append : (n b : ℕ) (bs : List ℕ) → joined n (bs ++ b ∷ []) ≡ joined n bs * 10 + (b - 48)
unfolding joined
joined-append n b [] = refl
joined-append n b (d ∷ bs) = joined-append (n * 10 + (d - 48)) b bs

-- the last digits of a number, after those before them
pub joined-digits : (count n : ℕ) → joined (n / 10 ^ count) (digits_text count n) ≡ n
joined-digits zero n = joined-nil (n / 1) ∙ div-one n
joined-digits (suc count) n =
    let whole : 10 ^ suc count ≡ 10 * 10 ^ count = omega arith in
    let less : n / 10 ^ suc count ≡ n / 10 / 10 ^ count = ap (λ (x : ℕ). n / x) whole ∙ sym (div-div-eq-div-mul n 10 (10 ^ count)) in
    let before : joined (n / 10 ^ suc count) (digits_text count (n / 10)) ≡ n / 10 = ap (λ (x : ℕ). joined x (digits_text count (n / 10))) less ∙ joined-digits count (n / 10) in
    let last = joined-append (n / 10 ^ suc count) (48 + n % 10) (digits_text count (n / 10)) in
    omega (arith, before, last)

-- all digits of a number
pub joined-small : (count n : ℕ) → n < 10 ^ count → joined 0 (digits_text count n) ≡ n
joined-small count n below =
    let none : n / 10 ^ count ≡ 0 = div-eq_of_lt below in
    ap (λ (x : ℕ). joined x (digits_text count n)) (sym none) ∙ joined-digits count n

pub length-digits : (count n : ℕ) → length (digits_text count n) ≡ count
length-digits zero n = refl
length-digits (suc count) n = length-append (digits_text count (n / 10)) ((48 + n % 10) ∷ []) ∙ ap (λ (k : ℕ). k + 1) (length-digits count (n / 10)) ∙ add-one count

-- one more digit was read, and nothing wrapped
pub joined-kept : (start sum i digit next : ℕ) (digits : List ℕ) → joined start digits < 18446744073709551616 → joined sum (drop i digits) ≡ joined start digits → i < length digits
    → digit ≡ get_or digits i 0 - 48 → next ≡ (sum * 10 % 18446744073709551616 + digit) % 18446744073709551616 → joined next (drop (i + 1) digits) ≡ joined start digits
joined-kept start sum i digit next digits lt same below is_digit is_next =
    let more = sum * 10 + (get_or digits i 0 - 48) in
    let at : i + 1 ≡ suc i = add-one i in
    let read : joined more (drop (suc i) digits) ≡ joined start digits = sym (joined-step sum i digits below) ∙ same in
    let least : more ≤ joined more (drop (suc i) digits) = joined-least more (drop (suc i) digits) in
    let equal : next ≡ more = omega (arith, least, read, lt, is_digit, is_next) in
    ap (λ (n : ℕ). joined n (drop (i + 1) digits)) equal ∙ ap (λ (k : ℕ). joined more (drop k digits)) at ∙ read

-- a time of day is of less than a day's seconds
pub time-parts : (z : ℤ) (text : List ℕ) → time_text z ≡ Some text → (s : ℕ) × (z ≡ pos s) × (s < 86400) × (text ≡ clock_text s)
time-parts (pos s) text e = elim (cases_Bool (nat_lt s 86400)) [
  | inl t ↦ (s, refl, ltb-true s 86400 t, sym (some-once _ _ (rw t at e)))
  | inr f ↦ cc (f, e)
]
time-parts (negsuc n) text e = cc e

-- hours, minutes and seconds make the time of day
pub seconds-read : (s hours minutes seconds : ℕ) (text : List ℕ) → s < 86400 → text ≡ clock_text s
    → (joined 0 (take 2 text) < 18446744073709551616 → hours ≡ joined 0 (take 2 text))
    → (joined 0 (take 2 (drop 3 text)) < 18446744073709551616 → minutes ≡ joined 0 (take 2 (drop 3 text)))
    → (joined 0 (take (length text - 6) (drop 6 text)) < 18446744073709551616 → seconds ≡ joined 0 (take (length text - 6) (drop 6 text)))
    → ((hours * 60 % 18446744073709551616 + minutes) % 18446744073709551616 * 60 % 18446744073709551616 + seconds) % 18446744073709551616 ≡ s
seconds-read s hours minutes seconds text below same h m c =
    let hs : joined 0 (take 2 text) ≡ s / 3600 = ap (λ (t : List ℕ). joined 0 (take 2 t)) same ∙ joined-small 2 (s / 3600) (omega (arith, below)) in
    let ms : joined 0 (take 2 (drop 3 text)) ≡ s / 60 % 60 = ap (λ (t : List ℕ). joined 0 (take 2 (drop 3 t))) same ∙ joined-small 2 (s / 60 % 60) (omega arith) in
    let cs : joined 0 (take (length text - 6) (drop 6 text)) ≡ s % 60 = ap (λ (t : List ℕ). joined 0 (take (length t - 6) (drop 6 t))) same ∙ joined-small 2 (s % 60) (omega arith) in
    let h2 : hours ≡ s / 3600 = h (omega (arith, hs, below)) ∙ hs in
    let m2 : minutes ≡ s / 60 % 60 = m (omega (arith, ms)) ∙ ms in
    let c2 : seconds ≡ s % 60 = c (omega (arith, cs)) ∙ cs in
    omega (arith, h2, m2, c2, below)

length-amount : (places n : ℕ) → length (amount_text places n) ≡ length (decimal (n / 10 ^ places)) + (places + 1)
length-amount places n =
    let a = length-append (decimal (n / 10 ^ places)) (46 ∷ digits_text places n) in
    let b = length-digits places n in
    omega (arith, a, b)

pub amount-long : (places n : ℕ) (text : List ℕ) → amount_text places n ≡ text → places + 1 ≤ length text
amount-long places n text e =
    let whole : length (amount_text places n) ≡ length text = ap length e in
    omega (arith, whole, length-amount places n)

-- where the point stands
pub amount-end : (places n end tail : ℕ) (text : List ℕ) → amount_text places n ≡ text → tail ≡ places → end ≡ length text - (tail + 1) → end ≡ length (decimal (n / 10 ^ places))
amount-end places n end tail text e is_tail is_end =
    let whole : length (amount_text places n) ≡ length text = ap length e in
    omega (arith, whole, length-amount places n, is_tail, is_end)

pub amount-front : (places n end tail : ℕ) (text : List ℕ) → amount_text places n ≡ text → tail ≡ places → end ≡ length text - (tail + 1) → take end text ≡ decimal (n / 10 ^ places)
amount-front places n end tail text e is_tail is_end =
    let at = amount-end places n end tail text e is_tail is_end in
    ap (λ (t : List ℕ). take end t) (sym e) ∙ ap (λ (k : ℕ). take k (amount_text places n)) at ∙ take-append_seam (decimal (n / 10 ^ places)) (46 ∷ digits_text places n)

pub amount-back : (places n end tail : ℕ) (text : List ℕ) → amount_text places n ≡ text → tail ≡ places → end ≡ length text - (tail + 1) → take (length text - (end + 1)) (drop (end + 1) text) ≡ digits_text places n
amount-back places n end tail text e is_tail is_end =
    let at = amount-end places n end tail text e is_tail is_end in
    take_all (length text - (end + 1)) (drop (end + 1) text) (omega (arith, length-drop (end + 1) text)) ∙ ap (λ (t : List ℕ). drop (end + 1) t) (sym e) ∙ ap (λ (k : ℕ). drop (k + 1) (amount_text places n)) at ∙ drop-append-add (decimal (n / 10 ^ places)) (46 ∷ digits_text places n) 1

-- the number of an amount, from its front and its back
pub amount-whole : (places n whole : ℕ) (back : List ℕ) → whole ≡ n / 10 ^ places → back ≡ digits_text places n → joined whole back ≡ n
amount-whole places n whole back w b = ap (λ (x : ℕ). joined x back) w ∙ ap (λ (t : List ℕ). joined (n / 10 ^ places) t) b ∙ joined-digits places n

no-minus : (front rest amount : List ℕ) → MayBegin front → front ++ rest ≡ 45 ∷ amount → ⊥
no-minus [] rest amount m e = m
no-minus (b ∷ bs) rest amount m e =
    let first : b ≡ 45 = cc e in
    omega (arith, first, m.0)

-- with a minus a text is of a number below zero
pub minus-parts : (places : ℕ) (z : ℤ) (amount : List ℕ) → FitsSigned w64 z → decimal_text places z ≡ 45 ∷ amount
    → (n : ℕ) × (n < 18446744073709551616) × (amount_text places n ≡ amount) × (z ≡ neg_ℤ (pos n))
minus-parts places (pos n) amount fits e =
    let small : n / 10 ^ places < 2 ^ 64 = omega (arith, fits_mag (pos n) fits, div-le_self n (10 ^ places)) in
    absurd (no-minus (decimal (n / 10 ^ places)) (46 ∷ digits_text places n) amount (may_begin (decimal (n / 10 ^ places)) (n / 10 ^ places) small refl) e)
minus-parts places (negsuc n) amount fits e =
    let same : amount_text places (suc n) ≡ amount = cc e in
    (suc n, omega (arith, fits_mag (negsuc n) fits), same, refl)

-- and that number isn't 0
pub minus-some : (places : ℕ) (z : ℤ) (amount : List ℕ) (fits : FitsSigned w64 z) (e : decimal_text places z ≡ 45 ∷ amount) → 0 < (minus-parts places z amount fits e).0
unfolding minus-parts
minus-some places (pos n) amount fits e =
    let small : n / 10 ^ places < 2 ^ 64 = omega (arith, fits_mag (pos n) fits, div-le_self n (10 ^ places)) in
    absurd (no-minus (decimal (n / 10 ^ places)) (46 ∷ digits_text places n) amount (may_begin (decimal (n / 10 ^ places)) (n / 10 ^ places) small refl) e)
minus-some places (negsuc n) amount fits e = let some : 0 < suc n = omega arith in some

pub match-some : {T : Type 0} (o : Option T) (P : Type 0) (Q : T → Type 0) → MatchOption o P Q → IfSome o Q
match-some None P Q m = tt
match-some (Some x) P Q m = m

pub match-none : {T : Type 0} (o : Option T) (P : Type 0) (Q : T → Type 0) → MatchOption o P Q → IfNone o P
match-none None P Q m = m
match-none (Some x) P Q m = tt

-- the text of a date
pub date-parts : (year : ℤ) (month day : ℕ) (text : List ℕ) → date_text year month day ≡ Some text
    → (y : ℕ) × (year ≡ pos y) × (text ≡ digits_text 4 y ++ 45 ∷ (digits_text 2 month ++ 45 ∷ digits_text 2 day))
date-parts (pos y) month day text e = (y, refl, sym (some-once _ _ e))
date-parts (negsuc n) month day text e = cc e

pub year-small : (year : ℤ) (y : ℕ) → year ≡ pos y → IsYear year → y < 10000
year-small year y e is =
    let le : pos y ≤ℤ pos 9999 = subst (λ (z : ℤ). z ≤ℤ pos 9999) e is.1 in
    omega (arith, signed_arith, le)

pub day-small : (d : civil.Date) → d.day < 100
day-small d = omega (arith, d.day_in.1, (days_in_month_bounds d.year d.month).0)

pub month-small : (d : civil.Date) → d.month < 100
month-small d = omega (arith, d.month_in.1)

-- the parts of a date are those of a day of the calendar
pub is-date : (d : civil.Date) (year month day : ℤ) → d.year ≡ year → pos d.month ≡ month → pos d.day ≡ day → IsDate year month day
is-date d year month day y m e = rw (sym y, sym m, sym e) (d.year_in, (omega (arith, signed_arith, d.month_in.0), omega (arith, signed_arith, d.month_in.1)), (omega (arith, signed_arith, d.day_in.0), omega (arith, signed_arith, d.day_in.1)))

-- and they are of one day
pub same-day : (d e : civil.Date) (year month day : ℤ) → d.year ≡ year → pos d.month ≡ month → pos d.day ≡ day → IsYmd year month day e → epoch_day e ≡ epoch_day d
same-day d e year month day y m n is =
    let a : e.year ≡ d.year = is.0 ∙ sym y in
    let b : e.month ≡ d.month = cc (is.1, m) in
    let f : e.day ≡ d.day = cc (is.2, n) in
    rw (a, b, f) refl
