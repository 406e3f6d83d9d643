-- A word before what doesn't prolong it is the longest lexeme there.
use Rattle.std.proofs.Common.{◌≡◌, ℕ, suc, ◌<◌, ◌+◌, ◌^◌, List, [], ◌∷◌, ◌++◌, length, take, Bool, true, false, refl, sym, ap, subst, ◌∙◌, arith, get_or, decimal}
use Rattle.std.specs.List.{list_all}
use Rattle.std.specs.Int.{IsInRange}
use Rattle.std.specs.Str.Parse.{AllDigits}
use Rattle.std.proofs.lemmas.Fmt.{digits_decimal, decimal_nonempty}
use Rattle.std.proofs.lemmas.Str.Parse.{numerals_by_value, tells_digits, digit_at}
use Rattle.std.proofs.lemmas.Bool.{and_parts}
use Rattle.std.proofs.lemmas.Bool.Decides.{nat_tests}
use Rattle.std.proofs.lemmas.List.{take_at, get_or-append-add, length-append}
use Rattle.record_core.specs.Names.{is_digit, is_name_byte, keyword_text}
use Rattle.record_core.specs.declared.keyword.Keyword.{Keyword}
use Rattle.record_core.specs.declared.keyword.Keyword.TheVariants as keyword
use Rattle.lexer.specs.declared.mark.Mark.{Mark}
use Rattle.lexer.specs.declared.mark.Mark.TheVariants as mark
use Rattle.lexer.specs.declared.token.TokenKind.{TokenKind}
use Rattle.lexer.specs.declared.token.TokenKind.TheVariants as kind
use Rattle.lexer.specs.Marks.{mark_text, BeginsWith}
use Rattle.lexer.specs.Lexemes.{shape_of, HasShape, IsLongest}
use Rattle.lexer.specs.Tokens.{Spells}
use Rattle.lexer.proofs.Lexemes.{longest_run, longest_mark}
use Rattle.lexer.proofs.Marks.{place}
use Rattle.lexer.proofs.Spelled.{shape_of_text, shape_of_kind, spelled_shape}

-- these bytes don't prolong that token
abbrev pub Ends : TokenKind → List ℕ → Type 0
Ends (kind.Mark m) r = 0 < length r → get_or r 0 0 ≡ 61 → ⊥
Ends k r = 0 < length r → is_name_byte (get_or r 0 0) ≡ false

digit_passes : (b : ℕ) → IsInRange 48 57 b → is_digit b ≡ true
digit_passes b h = grind (arith, nat_tests)

digits_pass : (bs : List ℕ) → AllDigits 10 bs → list_all is_digit bs ≡ true
digits_pass [] a = refl
digits_pass (b ∷ bs) a = rw (digit_passes b (digit_at (b ∷ bs) 0 a (omega arith))) (digits_pass bs a.1)

pub decimal_digits : (n : ℕ) → n < 2 ^ 63 → list_all is_digit (decimal n) ≡ true
decimal_digits n lt = digits_pass (decimal n) (digits_decimal (numerals_by_value (AllDigits 10) tells_digits) n (omega arith))

digit_no_name : (b : ℕ) → is_name_byte b ≡ false → is_digit b ≡ false
digit_no_name b f = grind (arith, nat_tests)

take_front : (bs r : List ℕ) → take (length bs) (bs ++ r) ≡ bs
take_front bs r = take_at bs r (length bs) refl

-- where a run of bytes ends
ends_run : (p : ℕ → Bool) (bs r : List ℕ) → (0 < length r → p (get_or r 0 0) ≡ false) → length bs < length (bs ++ r) → p (get_or (bs ++ r) (length bs) 0) ≡ false
ends_run p bs r stop lt =
    let some : 0 < length r = omega (arith, length-append bs r) in
    let at : length bs + 0 ≡ length bs = omega arith in
    let here : get_or (bs ++ r) (length bs) 0 ≡ get_or r 0 0 = ap (λ (i : ℕ). get_or (bs ++ r) i 0) (sym at) ∙ get_or-append-add bs r 0 0 in
    ap p here ∙ stop some

-- a byte and a run of bytes after it
run_longest : (k : TokenKind) (p : ℕ → Bool) (b : ℕ) (bs r : List ℕ) → shape_of b ≡ shape_of_kind k → HasShape (shape_of_kind k) b bs → ((xs : List ℕ) → HasShape (shape_of_kind k) b xs → list_all p xs ≡ true) → (0 < length r → p (get_or r 0 0) ≡ false) → IsLongest (b ∷ (bs ++ r)) (suc (length bs))
run_longest k p b bs r e h from stop =
    let size : length bs + 1 ≡ suc (length bs) = omega arith in
    let front : take (length bs) (bs ++ r) ≡ bs = take_front bs r in
    rw size at (longest_run (shape_of_kind k) p (b ∷ (bs ++ r)) b (bs ++ r) (length bs) refl e (λ q. rw front h) from (omega (arith, length-append bs r)) (rw front (from bs h)) (ends_run p bs r stop))

name_run : (w r : List ℕ) → shape_of_text w ≡ shape_of_kind kind.Name → list_all is_name_byte w ≡ true → (0 < length r → is_name_byte (get_or r 0 0) ≡ false) → IsLongest (w ++ r) (length w)
name_run [] r e each stop = absurd cc
name_run (b ∷ bs) r e each stop = run_longest kind.Name is_name_byte b bs r e (and_parts (is_name_byte b) (list_all is_name_byte bs) each).1 (λ xs h. h) stop

digit_run : (w r : List ℕ) → shape_of_text w ≡ shape_of_kind (kind.Number 0) → list_all is_digit w ≡ true → (0 < length r → is_digit (get_or r 0 0) ≡ false) → IsLongest (w ++ r) (length w)
digit_run [] r e each stop = absurd cc
digit_run (b ∷ bs) r e each stop = run_longest (kind.Number 0) is_digit b bs r e (and_parts (is_digit b) (list_all is_digit bs) each).1 (λ xs h. h) stop

column_run : (ds r : List ℕ) → 0 < length ds → list_all is_digit ds ≡ true → (0 < length r → is_digit (get_or r 0 0) ≡ false) → IsLongest (35 ∷ (ds ++ r)) (suc (length ds))
column_run ds r some each stop = run_longest (kind.Column 0) is_digit 35 ds r refl (some, each) (λ xs h. h.1) stop

-- the second byte
second : (w r : List ℕ) (c : ℕ) → length w ≡ 1 → take 2 (w ++ r) ≡ c ∷ 61 ∷ [] → (0 < length r) × (get_or r 0 0 ≡ 61)
second [] r c e f = absurd (omega arith)
second (x ∷ y ∷ zs) r c e f = absurd (omega arith)
second (x ∷ []) [] c e f = absurd cc
second (x ∷ []) (y ∷ ys) c e f = let g : y ≡ 61 = cc in (omega arith, g)

no_longer : (m : Mark) (r : List ℕ) → (0 < length r → get_or r 0 0 ≡ 61 → ⊥) → (c : ℕ) → length (mark_text m) < 2 → take 2 (mark_text m ++ r) ≡ c ∷ 61 ∷ [] → ⊥
no_longer m r stop c lt f =
    let some = (place m).size.0 in
    let one : length (mark_text m) ≡ 1 = omega arith in
    let e = second (mark_text m) r c one f in
    stop e.0 e.1

longer : (m n : Mark) (r : List ℕ) → (0 < length r → get_or r 0 0 ≡ 61 → ⊥) → length (mark_text m) < length (mark_text n) → BeginsWith (mark_text m ++ r) n → ⊥
longer m mark.NotEqual r stop lt b = no_longer m r stop 33 lt b
longer m mark.AtMost r stop lt b = no_longer m r stop 60 lt b
longer m mark.AtLeast r stop lt b = no_longer m r stop 62 lt b
longer m mark.Slash r stop lt b = let some = (place m).size.0 in absurd (omega arith)
longer m mark.Semicolon r stop lt b = let some = (place m).size.0 in absurd (omega arith)
longer m mark.Comma r stop lt b = let some = (place m).size.0 in absurd (omega arith)
longer m mark.OpenRound r stop lt b = let some = (place m).size.0 in absurd (omega arith)
longer m mark.CloseRound r stop lt b = let some = (place m).size.0 in absurd (omega arith)
longer m mark.OpenSquare r stop lt b = let some = (place m).size.0 in absurd (omega arith)
longer m mark.CloseSquare r stop lt b = let some = (place m).size.0 in absurd (omega arith)
longer m mark.Equal r stop lt b = let some = (place m).size.0 in absurd (omega arith)
longer m mark.Below r stop lt b = let some = (place m).size.0 in absurd (omega arith)
longer m mark.Above r stop lt b = let some = (place m).size.0 in absurd (omega arith)
longer m mark.Plus r stop lt b = let some = (place m).size.0 in absurd (omega arith)
longer m mark.Minus r stop lt b = let some = (place m).size.0 in absurd (omega arith)
longer m mark.Star r stop lt b = let some = (place m).size.0 in absurd (omega arith)

mark_longest : (w r : List ℕ) (m : Mark) → w ≡ mark_text m → shape_of_text w ≡ shape_of_kind (kind.Mark m) → (0 < length r → get_or r 0 0 ≡ 61 → ⊥) → IsLongest (w ++ r) (length w)
mark_longest [] r m is e stop = let some = (place m).size.0 in let size = ap length is in absurd (omega arith)
mark_longest (b ∷ bs) r m is e stop =
    let begins : take (length (mark_text m)) ((b ∷ bs) ++ r) ≡ mark_text m = ap (λ (v : List ℕ). take (length (mark_text m)) (v ++ r)) is ∙ take_front (mark_text m) r in
    let none : (n : Mark) → length (mark_text m) < length (mark_text n) → BeginsWith ((b ∷ bs) ++ r) n → ⊥ = λ n lt h. longer m n r stop lt (subst (λ (v : List ℕ). BeginsWith (v ++ r) n) is h) in
    rw (← ap length is) at (longest_mark (b ∷ (bs ++ r)) b (bs ++ r) m refl e (record { begins = begins; longest = none }))

keyword_bytes : (k : Keyword) → list_all is_name_byte (keyword_text k) ≡ true
keyword_bytes keyword.Input = refl
keyword_bytes keyword.Let = refl
keyword_bytes keyword.Output = refl
keyword_bytes keyword.Select = refl
keyword_bytes keyword.Where = refl
keyword_bytes keyword.Concat = refl
keyword_bytes keyword.Join = refl
keyword_bytes keyword.Group = refl
keyword_bytes keyword.Distinct = refl
keyword_bytes keyword.Except = refl
keyword_bytes keyword.Intersect = refl
keyword_bytes keyword.Iterate = refl
keyword_bytes keyword.Count = refl
keyword_bytes keyword.Sum = refl
keyword_bytes keyword.Min = refl
keyword_bytes keyword.Max = refl
keyword_bytes keyword.And = refl
keyword_bytes keyword.Or = refl
keyword_bytes keyword.Not = refl
keyword_bytes keyword.Epoch = refl

-- the word is the longest lexeme before what doesn't prolong it
pub is_longest : (w r : List ℕ) (k : TokenKind) → Spells w k → Ends k r → IsLongest (w ++ r) (length w)
is_longest w r kind.Name s stop = name_run w r (spelled_shape w kind.Name s) s.goes_on stop
is_longest w r (kind.Keyword k) s stop = name_run w r (spelled_shape w (kind.Keyword k) s) (ap (list_all is_name_byte) s ∙ keyword_bytes k) stop
is_longest w r (kind.Number n) s stop = digit_run w r (spelled_shape w (kind.Number n) s) (ap (list_all is_digit) s.0 ∙ decimal_digits n s.1) (λ h. digit_no_name (get_or r 0 0) (stop h))
is_longest w r (kind.Column n) s stop = rw s.0 (column_run (decimal n) r (decimal_nonempty n (omega (arith, s.1))) (decimal_digits n s.1) (λ h. digit_no_name (get_or r 0 0) (stop h)))
is_longest w r (kind.Mark m) s stop = mark_longest w r m s (spelled_shape w (kind.Mark m) s) stop
