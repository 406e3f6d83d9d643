-- A text is cut at a byte in one way.
use Rattle.std.proofs.Common.{◌≡◌, ◌<◌, ◌+◌, ◌-◌, ◌≤◌, ◌++◌, ◌∷◌, ◌∙◌, ◌==◌, ◌||◌, ℕ, ℤ, pos, negsuc, suc, List, [], Bool, true, false, length, get_or, decimal, FitsSigned, w64, refl, sym, ap, ap₂, arith}
use Rattle.std.specs.Fmt.{signed_decimal}
use Rattle.std.specs.List.{list_any}
use Rattle.std.specs.Str.Parse.{AllDigits}
use Rattle.std.proofs.lemmas.Bool.{eq-eqb, ne_eqb}
use Rattle.std.proofs.lemmas.Int.{ints}
use Rattle.std.proofs.Common.{drop, drop-drop, take, take-append-drop}
use Rattle.std.proofs.lemmas.Fmt.{decimal_nonempty, digits_decimal, signed_decimal_injective}
use Rattle.std.proofs.lemmas.List.{append-nil, append_assoc, drop_more, length-append}
use Rattle.std.proofs.lemmas.Str.Parse.{digit_from_value}
use Rattle.csv.proofs.WriteFacts.{slice-run}
use Rattle.csv_cells.proofs.Rows.{fits-push}
use Rattle.decimal.proofs.Numbers.{decimal_numerals, fits_mag}
use Rattle.csv_answers.specs.Answers.{words_text}
use Rattle.csv_answers.proofs.Decoded.{begun_text}

-- the byte doesn't occur
abbrev pub Free : ℕ → List ℕ → Type 0
Free byte text = list_any (λ b. b == byte) text ≡ false

neither : (x y : Bool) → (x || y) ≡ false → (x ≡ false) × (y ≡ false)
neither true y e = absurd (cc e)
neither false y e = (refl, e)

itself : (byte : ℕ) → (byte == byte) ≡ true
itself byte = eq-eqb byte byte refl

free-tail : (byte b : ℕ) (text : List ℕ) → Free byte (b ∷ text) → Free byte text
free-tail byte b text free = (neither (b == byte) (list_any (λ c. c == byte) text) free).1

free-head : (byte b : ℕ) (text : List ℕ) → Free byte (b ∷ text) → b ≡ byte → ⊥
free-head byte b text free same =
    let other : (b == byte) ≡ false = (neither (b == byte) (list_any (λ c. c == byte) text) free).0 in
    let hit : (b == byte) ≡ true = ap (λ (c : ℕ). c == byte) same ∙ itself byte in
    let both : true ≡ false = sym hit ∙ other in
    cc

pub cut-once : (byte : ℕ) (a b x y : List ℕ) → Free byte a → Free byte b → a ++ byte ∷ x ≡ b ++ byte ∷ y → (a ≡ b) × (x ≡ y)
cut-once byte [] [] x y fa fb e = let same : x ≡ y = cc e in (refl, same)
cut-once byte [] (c ∷ b) x y fa fb e = let at : c ≡ byte = cc e in absurd (free-head byte c b fb at)
cut-once byte (c ∷ a) [] x y fa fb e = let at : c ≡ byte = cc e in absurd (free-head byte c a fa at)
cut-once byte (c ∷ a) (d ∷ b) x y fa fb e =
    let first : c ≡ d = cc e in
    let rest : a ++ byte ∷ x ≡ b ++ byte ∷ y = cc e in
    let (same, more) = cut-once byte a b x y (free-tail byte c a fa) (free-tail byte d b fb) rest in
    (let s : a ≡ b = same in cc (first, s), more)

pub not-cut : (byte : ℕ) (a b y : List ℕ) → Free byte a → a ≡ b ++ byte ∷ y → ⊥
not-cut byte [] [] y fa e = cc e
not-cut byte [] (c ∷ b) y fa e = cc e
not-cut byte (c ∷ a) [] y fa e = let at : c ≡ byte = cc e in free-head byte c a fa at
not-cut byte (c ∷ a) (d ∷ b) y fa e = let rest : a ≡ b ++ byte ∷ y = cc e in not-cut byte a b y (free-tail byte c a fa) rest

free-digits : (byte : ℕ) (ds : List ℕ) → byte < 45 → AllDigits 10 ds → Free byte ds
free-digits byte [] low h = refl
free-digits byte (d ∷ ds) low h =
    let k = digit_from_value d h.0 in
    let other : (d == byte) ≡ false = ne_eqb d byte (λ e. absurd (omega (arith, e, k, low))) in
    rw other (free-digits byte ds low h.1)

-- no space stands in a number
free-number : (z : ℤ) → FitsSigned w64 z → Free 32 (signed_decimal z)
free-number (pos n) fits = free-digits 32 (decimal n) (omega arith) (digits_decimal decimal_numerals n (omega (arith, ints)))
free-number (negsuc n) fits = free-digits 32 (decimal (suc n)) (omega arith) (digits_decimal decimal_numerals (suc n) (omega (arith, ints)))

-- the numbers have 64 bits
abbrev pub Fit : List ℤ → Type 0
Fit zs = (i : ℕ) → i < length zs → FitsSigned w64 (get_or zs i (pos 0))

fit-tail : (z : ℤ) (zs : List ℤ) → Fit (z ∷ zs) → Fit zs
fit-tail z zs fit i below = fit (suc i) (omega (arith, below))

-- after numbers and their spaces, a word before a space, or the last one, is a number
pub word-between : (ns : List ℤ) (z : ℤ) (zs : List ℤ) (word rest : List ℕ) → Fit ns → Fit (z ∷ zs) → Free 32 word
    → begun_text ns ++ (word ++ 32 ∷ rest) ≡ words_text (z ∷ zs) → (y : ℤ) × FitsSigned w64 y × (word ≡ signed_decimal y)
unfolding begun_text words_text
word-between [] z [] word rest fn fit free e = absurd (not-cut 32 (signed_decimal z) word rest (free-number z (fit 0 (omega arith))) (sym e))
word-between [] z (y ∷ zs) word rest fn fit free e =
    (z, fit 0 (omega arith), (cut-once 32 word (signed_decimal z) rest (words_text (y ∷ zs)) free (free-number z (fit 0 (omega arith))) e).0)
word-between (n ∷ ns) z [] word rest fn fit free e =
    let whole = append_assoc (signed_decimal n) (32 ∷ begun_text ns) (word ++ 32 ∷ rest) in
    absurd (not-cut 32 (signed_decimal z) (signed_decimal n) (begun_text ns ++ (word ++ 32 ∷ rest)) (free-number z (fit 0 (omega arith))) (sym e ∙ whole))
word-between (n ∷ ns) z (y ∷ zs) word rest fn fit free e =
    let whole = append_assoc (signed_decimal n) (32 ∷ begun_text ns) (word ++ 32 ∷ rest) in
    let k = cut-once 32 (signed_decimal n) (signed_decimal z) (begun_text ns ++ (word ++ 32 ∷ rest)) (words_text (y ∷ zs)) (free-number n (fn 0 (omega arith))) (free-number z (fit 0 (omega arith))) (sym whole ∙ e) in
    word-between ns y zs word rest (fit-tail n ns fn) (fit-tail z (y ∷ zs) fit) free k.1

pub word-last : (ns : List ℤ) (z : ℤ) (zs : List ℤ) (word : List ℕ) → Fit ns → Fit (z ∷ zs) → Free 32 word
    → begun_text ns ++ word ≡ words_text (z ∷ zs) → (y : ℤ) × FitsSigned w64 y × (word ≡ signed_decimal y)
unfolding begun_text words_text
word-last [] z [] word fn fit free e = (z, fit 0 (omega arith), e)
word-last [] z (y ∷ zs) word fn fit free e = absurd (not-cut 32 word (signed_decimal z) (words_text (y ∷ zs)) free e)
word-last (n ∷ ns) z [] word fn fit free e =
    let whole = append_assoc (signed_decimal n) (32 ∷ begun_text ns) word in
    absurd (not-cut 32 (signed_decimal z) (signed_decimal n) (begun_text ns ++ word) (free-number z (fit 0 (omega arith))) (sym e ∙ whole))
word-last (n ∷ ns) z (y ∷ zs) word fn fit free e =
    let whole = append_assoc (signed_decimal n) (32 ∷ begun_text ns) word in
    let k = cut-once 32 (signed_decimal n) (signed_decimal z) (begun_text ns ++ word) (words_text (y ∷ zs)) (free-number n (fn 0 (omega arith))) (free-number z (fit 0 (omega arith))) (sym whole ∙ e) in
    word-last ns y zs word (fit-tail n ns fn) (fit-tail z (y ∷ zs) fit) free k.1

-- only an empty line has no words
pub no-words : (line : List ℕ) → line ≡ words_text [] → line ≡ []
unfolding words_text
no-words line e = e

pub no-numbers : [] ≡ words_text []
unfolding words_text
no-numbers = refl

pub fit-push : (zs : List ℤ) (z : ℤ) → Fit zs → FitsSigned w64 z → Fit (zs ++ z ∷ [])
fit-push zs z fit new i below = fits-push zs z (length zs) refl fit new i (omega (arith, below, length-append zs (z ∷ [])))

-- what comes from a place on: what lies before another, what stands there, and what comes after
pub cut-from : (l : List ℕ) (b e d : ℕ) → d ≤ e → e < length l → b ≡ d → drop b l ≡ take (e - b) (drop b l) ++ get_or l e 0 ∷ drop (e + 1) l
cut-from l b e d le lt same =
    let sum : b + (e - b) ≡ e = omega (arith, same, le) in
    let tail : drop (e - b) (drop b l) ≡ drop e l = drop-drop (e - b) b l ∙ ap (λ (k : ℕ). drop k l) sum in
    sym (take-append-drop (e - b) (drop b l)) ∙ ap (λ (t : List ℕ). take (e - b) (drop b l) ++ t) (tail ∙ drop_more l e 0 lt)

-- a word before a space that is no number
pub no-word : (line : List ℕ) (b e : ℕ) (ns zs : List ℤ) → b ≤ e → e < length line → take b line ≡ begun_text ns → get_or line e 0 ≡ 32 → Free 32 (drop b (take e line))
    → Fit ns → ((z : ℤ) → FitsSigned w64 z → take (e - b) (drop b line) ≡ signed_decimal z → ⊥) → Fit zs → line ≡ words_text zs → ⊥
no-word line b e ns [] le lt begun at free fn none fit same =
    let empty : line ≡ [] = no-words line same in
    let short : length line ≡ 0 = ap length empty in
    absurd (omega arith)
no-word line b e ns (z ∷ zs) le lt begun at free fn none fit same =
    let word : List ℕ = take (e - b) (drop b line) in
    let here : Free 32 word = ap (list_any (λ c. c == 32)) (slice-run line b e le) ∙ free in
    let from : drop b line ≡ word ++ 32 ∷ drop (e + 1) line = rw at at (cut-from line b e b le lt refl) in
    let whole : line ≡ begun_text ns ++ (word ++ 32 ∷ drop (e + 1) line) =
    sym (take-append-drop b line) ∙ ap (λ (t : List ℕ). t ++ drop b line) begun ∙ ap (λ (t : List ℕ). begun_text ns ++ t) from in
    let k = word-between ns z zs word (drop (e + 1) line) fn fit here (sym whole ∙ same) in
    none k.0 k.1 k.2

-- a last word that is no number
pub no-last : (line : List ℕ) (b : ℕ) (ns zs : List ℤ) → 0 < length line → take b line ≡ begun_text ns → Free 32 (drop b line)
    → Fit ns → ((z : ℤ) → FitsSigned w64 z → drop b line ≡ signed_decimal z → ⊥) → Fit zs → line ≡ words_text zs → ⊥
no-last line b ns [] some begun free fn none fit same =
    let empty : line ≡ [] = no-words line same in
    let short : length line ≡ 0 = ap length empty in
    absurd (omega arith)
no-last line b ns (z ∷ zs) some begun free fn none fit same =
    let whole : line ≡ begun_text ns ++ drop b line = sym (take-append-drop b line) ∙ ap (λ (t : List ℕ). t ++ drop b line) begun in
    let k = word-last ns z zs (drop b line) fn fit free (sym whole ∙ same) in
    none k.0 k.1 k.2

some-digit : (ds rest : List ℕ) → 0 < length ds → ds ++ rest ≡ [] → ⊥
some-digit [] rest some e = omega arith
some-digit (d ∷ ds) rest some e = cc e

some-number : (z : ℤ) (rest : List ℕ) → FitsSigned w64 z → signed_decimal z ++ rest ≡ [] → ⊥
some-number (pos n) rest fits e = some-digit (decimal n) rest (decimal_nonempty n (omega (arith, ints))) e
some-number (negsuc n) rest fits e = cc e

number-once : (y z : ℤ) → FitsSigned w64 y → FitsSigned w64 z → signed_decimal y ≡ signed_decimal z → y ≡ z
number-once y z fy fz e = signed_decimal_injective y z (fits_mag y fy) (fits_mag z fz) e

-- a line is of one list of numbers
pub words-once : (xs ys : List ℤ) → Fit xs → Fit ys → words_text xs ≡ words_text ys → xs ≡ ys
unfolding words_text
words-once [] [] fx fy e = refl
words-once [] (y ∷ []) fx fy e = absurd (some-number y [] (fy 0 (omega arith)) (append-nil (signed_decimal y) ∙ sym e))
words-once [] (y ∷ w ∷ ys) fx fy e = absurd (some-number y (32 ∷ words_text (w ∷ ys)) (fy 0 (omega arith)) (sym e))
words-once (x ∷ []) [] fx fy e = absurd (some-number x [] (fx 0 (omega arith)) (append-nil (signed_decimal x) ∙ e))
words-once (x ∷ v ∷ xs) [] fx fy e = absurd (some-number x (32 ∷ words_text (v ∷ xs)) (fx 0 (omega arith)) e)
words-once (x ∷ []) (y ∷ []) fx fy e = ap (λ (z : ℤ). z ∷ []) (number-once x y (fx 0 (omega arith)) (fy 0 (omega arith)) e)
words-once (x ∷ []) (y ∷ w ∷ ys) fx fy e = absurd (not-cut 32 (signed_decimal x) (signed_decimal y) (words_text (w ∷ ys)) (free-number x (fx 0 (omega arith))) e)
words-once (x ∷ v ∷ xs) (y ∷ []) fx fy e = absurd (not-cut 32 (signed_decimal y) (signed_decimal x) (words_text (v ∷ xs)) (free-number y (fy 0 (omega arith))) (sym e))
words-once (x ∷ v ∷ xs) (y ∷ w ∷ ys) fx fy e =
    let k = cut-once 32 (signed_decimal x) (signed_decimal y) (words_text (v ∷ xs)) (words_text (w ∷ ys)) (free-number x (fx 0 (omega arith))) (free-number y (fy 0 (omega arith))) e in
    let first : x ≡ y = number-once x y (fx 0 (omega arith)) (fy 0 (omega arith)) k.0 in
    let more : v ∷ xs ≡ w ∷ ys = words-once (v ∷ xs) (w ∷ ys) (fit-tail x (v ∷ xs) fx) (fit-tail y (w ∷ ys) fy) k.1 in
    ap₂ (λ (z : ℤ) (zs : List ℤ). z ∷ zs) first more

pub no-bytes : (line : List ℕ) → length line ≡ 0 → line ≡ []
no-bytes [] e = refl
no-bytes (b ∷ line) e = absurd (omega (arith, e))
