-- Digits that spell a number.
use Rattle.std.proofs.Common.{◌≡◌, ◌<◌, ◌≤◌, ◌+◌, ◌-◌, ◌*◌, ◌/◌, ◌%◌, ◌^◌, ◌++◌, ◌∷◌, ◌∙◌, ℕ, zero, suc, List, [], length, get_or, drop, take, refl, sym, ap, arith, drop-cons, add-one, ℤ, pos, neg_ℤ, decimal, Option, Some, None, IfSome}
use Rattle.std.proofs.lemmas.Fmt.{decimal_digit, decimal_step}
use Rattle.std.proofs.lemmas.List.{length-append, take_all, take-append-drop}
use Rattle.scalar_texts.specs.Numbers.{amount_text, decimal_text, digits_text, date_text}
use Rattle.scalar_texts.proofs.Joined.{amount-back, length-digits}
use Rattle.jiff_core.specs.declared.civil.date.Date as civil
use Rattle.jiff_core.specs.Date.{IsYmd}

-- texts with one more byte are equal part by part
pub last-same : (xs ys : List ℕ) (x y : ℕ) → xs ++ x ∷ [] ≡ ys ++ y ∷ [] → (xs ≡ ys) × (x ≡ y)
last-same [] [] x y e = (refl, cc e)
last-same [] (b ∷ []) x y e = cc e
last-same [] (b ∷ c ∷ ys) x y e = cc e
last-same (a ∷ []) [] x y e = cc e
last-same (a ∷ c ∷ xs) [] x y e = cc e
last-same (a ∷ xs) (b ∷ ys) x y e =
    let rest : xs ++ x ∷ [] ≡ ys ++ y ∷ [] = cc e in
    let first : a ≡ b = cc e in
    let more = last-same xs ys x y rest in
    (cc (first, more.0), more.1)

-- a digit more
pub digits-more : (text front : List ℕ) (last n : ℕ) → text ≡ front ++ last ∷ [] → digits_text (length text) n ≡ digits_text (length front) (n / 10) ++ (48 + n % 10) ∷ []
digits-more text front last n e =
    let long : length text ≡ suc (length front) = ap length e ∙ length-append front (last ∷ []) ∙ add-one (length front) in
    ap (λ (k : ℕ). digits_text k n) long

-- a number with a digit behind it
pub decimal-push : (sum byte next : ℕ) → 1 ≤ sum → 48 ≤ byte → byte ≤ 57 → next ≡ sum * 10 + (byte - 48) → next < 2 ^ 64 → decimal next ≡ decimal sum ++ byte ∷ []
decimal-push sum byte next some low high e fits =
    let front : next / 10 ≡ sum = omega arith in
    let last : 48 + next % 10 ≡ byte = omega arith in
    decimal_step next (omega arith) fits ∙ ap (λ (d : ℕ). decimal (next / 10) ++ d ∷ []) last ∙ ap (λ (m : ℕ). decimal m ++ byte ∷ []) front

-- the first digit, and those behind it
pub plain-made : (text : List ℕ) (first : ℕ) (found : Option ℕ) → 1 ≤ length text → first ≡ get_or text 0 0 - 48 → 49 ≤ get_or text 0 0 → get_or text 0 0 ≤ 57
    → IfSome found (λ n. decimal n ≡ decimal first ++ take (length text - 1) (drop 1 text)) → IfSome found (λ n. text ≡ decimal n)
plain-made text first None some e low high found = tt
plain-made [] first (Some n) some e low high found = absurd (omega arith)
plain-made (b ∷ bs) first (Some n) some e low high found =
    let digit : 48 + first ≡ b = omega arith in
    let all : take (length (b ∷ bs) - 1) bs ≡ bs = take_all (length (b ∷ bs) - 1) bs (omega arith) in
    sym (found ∙ ap (λ (t : List ℕ). decimal first ++ t) all ∙ ap (λ (t : List ℕ). t ++ bs) (decimal_digit first (omega arith)) ∙ ap (λ (d : ℕ). d ∷ bs) digit)

-- an amount, from its front, its point and its back
pub amount-made : (places n end whole : ℕ) (text : List ℕ) → end + (places + 1) ≡ length text → get_or text end 0 ≡ 46 → take end text ≡ decimal whole → n / 10 ^ places ≡ whole
    → drop (end + 1) text ≡ digits_text places n → amount_text places n ≡ text
amount-made places n end whole text long point front same back =
    let below : end < length text = omega arith in
    let after : drop end text ≡ 46 ∷ digits_text places n = drop-cons text end 0 below ∙ ap (λ (b : ℕ). b ∷ drop (suc end) text) point ∙ ap (λ (k : ℕ). 46 ∷ drop k text) (sym (add-one end)) ∙ ap (λ (t : List ℕ). 46 ∷ t) back in
    ap (λ (m : ℕ). decimal m ++ 46 ∷ digits_text places n) same ∙ ap (λ (t : List ℕ). t ++ 46 ∷ digits_text places n) (sym front) ∙ ap (λ (t : List ℕ). take end text ++ t) (sym after)
    ∙ take-append-drop end text

-- the point of an amount
pub amount-point : (places n end : ℕ) (text : List ℕ) → amount_text places n ≡ text → end ≡ length (decimal (n / 10 ^ places)) → get_or text end 0 ≡ 46
amount-point places n end text e at =
    ap (λ (t : List ℕ). get_or t end 0) (sym e) ∙ ap (λ (k : ℕ). get_or (amount_text places n) k 0) at ∙ seam (decimal (n / 10 ^ places)) (digits_text places n)
  where
    seam : (xs ys : List ℕ) → get_or (xs ++ 46 ∷ ys) (length xs) 0 ≡ 46
    seam [] ys = refl
    seam (x ∷ xs) ys = seam xs ys

-- how many digits come after it
pub amount-length : (places n end tail : ℕ) (text : List ℕ) → amount_text places n ≡ text → tail ≡ places → end ≡ length text - (tail + 1) → length (take (length text - (end + 1)) (drop (end + 1) text)) ≡ places
amount-length places n end tail text e is_tail is_end = ap length (amount-back places n end tail text e is_tail is_end) ∙ length-digits places n

-- an amount after a minus
pub minus-made : (places n : ℕ) (z : ℤ) (text amount : List ℕ) → 0 < n → z ≡ neg_ℤ (pos n) → amount_text places n ≡ amount → text ≡ 45 ∷ amount → decimal_text places z ≡ text
minus-made places zero z text amount some e a t = absurd (omega arith)
minus-made places (suc n) z text amount some e a t = rw e (ap (λ (x : List ℕ). 45 ∷ x) a ∙ sym t)

-- dates of one year, month and day have one text
pub same-text : (d e : civil.Date) (year month day : ℤ) → d.year ≡ year → pos d.month ≡ month → pos d.day ≡ day → IsYmd year month day e
    → date_text e.year e.month e.day ≡ date_text d.year d.month d.day
same-text d e year month day y m n is =
    let a : e.year ≡ d.year = is.0 ∙ sym y in
    let b : e.month ≡ d.month = cc (is.1, m) in
    let f : e.day ≡ d.day = cc (is.2, n) in
    rw (a, b, f) refl
