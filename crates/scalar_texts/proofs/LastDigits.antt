-- Digits and dates.
use Rattle.std.proofs.Common.{◌≡◌, ◌+◌, ◌/◌, ◌%◌, ◌++◌, ◌∷◌, ℕ, ℤ, suc, Bool, true, List, [], Option, Some, None, Result, Ok, Err, OnOk, false, refl, sym, ◌∙◌, ap, append_assoc, subst}
use Rattle.jiff_core.specs.declared.civil.date.Date as civil
use Rattle.jiff_core.specs.Date.{epoch_day}
use Rattle.scalar_texts.specs.Numbers.{IsDateText, Writes, WritesDate, date_text, digits_text}
use Rattle.jiff_core.specs.Calendar.{IsEpochDay}
use Rattle.jiff_core.proofs.DateLemmas.{epoch_day_injective, epoch_day_range}

-- one more digit
pub digit_pushed : (count n less digit : ℕ) (old before new : List ℕ) → count ≡ suc less → before ≡ old ++ digits_text less (n / 10) → digit ≡ 48 + n % 10 → new ≡ before ++ digit ∷ []
    → new ≡ old ++ digits_text count n
digit_pushed count n less digit old before new e b d w =
    w ∙ ap (λ (x : ℕ). before ++ x ∷ []) d ∙ ap (λ (t : List ℕ). t ++ (48 + n % 10) ∷ []) b ∙ append_assoc old (digits_text less (n / 10)) ((48 + n % 10) ∷ [])
    ∙ ap (λ (k : ℕ). old ++ digits_text k n) (sym e)

-- three texts with a byte between them
three_joined : (b : ℕ) (t0 t1 t2 t3 t4 t5 x y z : List ℕ) → t1 ≡ t0 ++ x → t2 ≡ t1 ++ b ∷ [] → t3 ≡ t2 ++ y → t4 ≡ t3 ++ b ∷ [] → t5 ≡ t4 ++ z → t5 ≡ t0 ++ (x ++ b ∷ (y ++ b ∷ z))
three_joined b t0 t1 t2 t3 t4 t5 x y z e1 e2 e3 e4 e5 =
    let two : t3 ≡ t0 ++ (x ++ b ∷ y) = e3 ∙ ap (λ (t : List ℕ). t ++ y) (e2 ∙ ap (λ (t : List ℕ). t ++ b ∷ []) e1) ∙ one t0 x y in
    e5 ∙ ap (λ (t : List ℕ). t ++ z) (e4 ∙ ap (λ (t : List ℕ). t ++ b ∷ []) two) ∙ one t0 (x ++ b ∷ y) z ∙ ap (λ (t : List ℕ). t0 ++ t) (append_assoc x (b ∷ y) (b ∷ z))
  where
    one : (s x y : List ℕ) → ((s ++ x) ++ b ∷ []) ++ y ≡ s ++ (x ++ b ∷ y)
    one s x y = append_assoc (s ++ x) (b ∷ []) y ∙ append_assoc s x (b ∷ y)

pub three_pushed : {T E : Type 0} (r : Result T E) (b : ℕ) (t0 t1 t2 t3 t4 t5 x y z : List ℕ) → t1 ≡ t0 ++ x → t2 ≡ t1 ++ b ∷ [] → t3 ≡ t2 ++ y → t4 ≡ t3 ++ b ∷ [] → OnOk r (t5 ≡ t4 ++ z)
    → OnOk r (t5 ≡ t0 ++ (x ++ b ∷ (y ++ b ∷ z)))
three_pushed (Ok u) b t0 t1 t2 t3 t4 t5 x y z e1 e2 e3 e4 e5 = three_joined b t0 t1 t2 t3 t4 t5 x y z e1 e2 e3 e4 e5
three_pushed (Err u) b t0 t1 t2 t3 t4 t5 x y z e1 e2 e3 e4 e5 = tt

date_written_as : (d : civil.Date) (z : ℤ) (old new : List ℕ) (o : Option (List ℕ)) (wrote : Bool) → epoch_day d ≡ z → date_text d.year d.month d.day ≡ o → Writes o old new wrote
    → WritesDate z old new wrote
date_written_as d z old new None true e at w = cc w
date_written_as d z old new None false e at w = λ text is.
    let same = epoch_day_injective is.date d (is.numbered ∙ sym e) in
    let written : date_text d.year d.month d.day ≡ Some text = rw (same.0, same.1, same.2) at is.written in
    cc (written, at)
date_written_as d z old new (Some text) true e at w = (text, record { date = d; numbered = e; written = at }, w.1)
date_written_as d z old new (Some text) false e at w = cc w.0

-- what is written of a date is the text of its day number
pub date_written : (d : civil.Date) (z : ℤ) (old new : List ℕ) (wrote : Bool) → epoch_day d ≡ z → Writes (date_text d.year d.month d.day) old new wrote → WritesDate z old new wrote
date_written d z old new wrote e w = date_written_as d z old new (date_text d.year d.month d.day) wrote e refl w

-- a day of the calendar has a number
pub day_in : (z : ℤ) (text : List ℕ) → IsDateText z text → IsEpochDay z
day_in z text is = subst IsEpochDay is.numbered (epoch_day_range is.date)
