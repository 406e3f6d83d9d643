-- A word spells at most one token, of the kind that its first byte shows.
use Rattle.std.proofs.Common.{◌≡◌, ◌≢◌, ◌<◌, ◌≤◌, ◌^◌, ◌∙◌, ℕ, List, [], ◌∷◌, length, take, true, refl, sym, ap, arith, rules, get_or, decimal, inl, inr, eqb}
use Rattle.std.specs.Str.Parse.{AllDigits}
use Rattle.std.specs.Int.{IsInRange}
use Rattle.std.proofs.lemmas.Fmt.{digits_decimal, decimal_nonempty}
use Rattle.std.proofs.lemmas.Str.Parse.{numerals_by_value, tells_digits, digit_at}
use Rattle.std.proofs.lemmas.Bool.Decides.{nat_tests}
use Rattle.std.proofs.lemmas.Bool.{cases_lt, cases_Bool, eqb-true}
use Rattle.std.proofs.Math.Seq.{take-length}
use Rattle.std.proofs.lemmas.Grind.{common_steps}
use Rattle.lexer.specs.declared.mark.Mark.{Mark}
use Rattle.lexer.specs.declared.mark.Mark.TheVariants as mark
use Rattle.record_core.specs.declared.keyword.Keyword.{Keyword}
use Rattle.record_core.specs.declared.keyword.Keyword.TheVariants as keyword
use Rattle.lexer.specs.declared.token.TokenKind.{TokenKind}
use Rattle.lexer.specs.declared.token.TokenKind.TheVariants as kind
use Rattle.lexer.specs.declared.lexeme.Shape.{Shape}
use Rattle.lexer.specs.declared.lexeme.Shape.TheVariants.{Word, Numeral, Reference, Sign}
use Rattle.record_core.specs.Names.{is_letter, is_digit, is_name_byte, keyword_text, IsName}
use Rattle.lexer.specs.Marks.{mark_text, BeginsWith, IsLongestMark}
use Rattle.lexer.specs.Lexemes.{shape_of, HasShape, IsLexeme}
use Rattle.lexer.specs.Tokens.{Spells}

abbrev pub shape_of_kind : TokenKind → Shape
shape_of_kind kind.Name = Word
shape_of_kind (kind.Number n) = Numeral
shape_of_kind (kind.Column n) = Reference
shape_of_kind (kind.Mark m) = Sign
shape_of_kind (kind.Keyword k) = Word

abbrev pub shape_of_text : List ℕ → Shape
shape_of_text bs = shape_of (get_or bs 0 0)

mark_shape : (m : Mark) → shape_of_text (mark_text m) ≡ Sign
mark_shape mark.NotEqual = refl
mark_shape mark.AtMost = refl
mark_shape mark.AtLeast = refl
mark_shape mark.Slash = refl
mark_shape mark.Semicolon = refl
mark_shape mark.Comma = refl
mark_shape mark.OpenRound = refl
mark_shape mark.CloseRound = refl
mark_shape mark.OpenSquare = refl
mark_shape mark.CloseSquare = refl
mark_shape mark.Equal = refl
mark_shape mark.Below = refl
mark_shape mark.Above = refl
mark_shape mark.Plus = refl
mark_shape mark.Minus = refl
mark_shape mark.Star = refl

keyword_shape : (k : Keyword) → shape_of_text (keyword_text k) ≡ Word
keyword_shape keyword.Input = refl
keyword_shape keyword.Let = refl
keyword_shape keyword.Output = refl
keyword_shape keyword.Select = refl
keyword_shape keyword.Where = refl
keyword_shape keyword.Concat = refl
keyword_shape keyword.Join = refl
keyword_shape keyword.Group = refl
keyword_shape keyword.Distinct = refl
keyword_shape keyword.Except = refl
keyword_shape keyword.Intersect = refl
keyword_shape keyword.Iterate = refl
keyword_shape keyword.Count = refl
keyword_shape keyword.Sum = refl
keyword_shape keyword.Min = refl
keyword_shape keyword.Max = refl
keyword_shape keyword.And = refl
keyword_shape keyword.Or = refl
keyword_shape keyword.Not = refl
keyword_shape keyword.Epoch = refl

digit_shape : (b : ℕ) → IsInRange 48 57 b → shape_of b ≡ Numeral
digit_shape b h = grind (arith, nat_tests)

letter_shape : (b : ℕ) → is_letter b ≡ true → shape_of b ≡ Word
letter_shape b h = rw h refl

decimal_shape : (n : ℕ) → n < 2 ^ 64 → shape_of_text (decimal n) ≡ Numeral
decimal_shape n lt = digit_shape (get_or (decimal n) 0 0) (digit_at (decimal n) 0 (digits_decimal (numerals_by_value (AllDigits 10) tells_digits) n lt) (decimal_nonempty n lt))

-- what a word spells has the word's shape
pub spelled_shape : (word : List ℕ) (t : TokenKind) → Spells word t → shape_of_text word ≡ shape_of_kind t
spelled_shape [] kind.Name h = let f = h.begins in absurd cc
spelled_shape (b ∷ bs) kind.Name h = letter_shape b h.begins
spelled_shape word (kind.Number n) h = ap shape_of_text h.0 ∙ decimal_shape n (omega (arith, h.1))
spelled_shape word (kind.Column n) h = ap shape_of_text h.0
spelled_shape word (kind.Mark m) h = ap shape_of_text h ∙ mark_shape m
spelled_shape word (kind.Keyword k) h = ap shape_of_text h ∙ keyword_shape k

-- the word isn't any number, so it spells nothing
pub no_number : (word : List ℕ) → shape_of_text word ≡ Numeral → ((n : ℕ) → n < 2 ^ 63 → word ≢ decimal n) → (t : TokenKind) → Spells word t → ⊥
no_number word s none (kind.Number n) h = none n h.1 h.0
no_number word s none kind.Name h = let e = spelled_shape word kind.Name h in cc
no_number word s none (kind.Column n) h = let e = spelled_shape word (kind.Column n) h in cc
no_number word s none (kind.Mark m) h = let e = spelled_shape word (kind.Mark m) h in cc
no_number word s none (kind.Keyword k) h = let e = spelled_shape word (kind.Keyword k) h in cc

reference_is : (b : ℕ) → shape_of b ≡ Reference → b ≡ 35
reference_is b e = elim (cases_Bool (is_letter b)) [
  | inl t ↦ let f : shape_of b ≡ Word = letter_shape b t in absurd cc
  | inr f ↦ elim (cases_Bool (is_digit b)) [
    | inl t ↦ let g : shape_of b ≡ Numeral = rw (f, t) refl in absurd cc
    | inr g ↦ elim (cases_Bool (eqb b 35)) [
      | inl t ↦ eqb-true b 35 t
      | inr h ↦ let k : shape_of b ≡ Sign = rw (f, g, h) refl in absurd cc
    ]
  ]
]

pub no_column : (word : List ℕ) (b : ℕ) (bs : List ℕ) → word ≡ b ∷ bs → shape_of b ≡ Reference → ((n : ℕ) → n < 2 ^ 63 → bs ≢ decimal n) → (t : TokenKind) → Spells word t → ⊥
no_column word b bs parts s none (kind.Column n) h = let e : b ∷ bs ≡ 35 ∷ decimal n = sym parts ∙ h.0 in let f : bs ≡ decimal n = cc in none n h.1 f
no_column word b bs parts s none kind.Name h = let e = spelled_shape word kind.Name h in let f : shape_of_text word ≡ Reference = ap shape_of_text parts ∙ s in cc
no_column word b bs parts s none (kind.Number n) h = let e = spelled_shape word (kind.Number n) h in let f : shape_of_text word ≡ Reference = ap shape_of_text parts ∙ s in cc
no_column word b bs parts s none (kind.Mark m) h = let e = spelled_shape word (kind.Mark m) h in let f : shape_of_text word ≡ Reference = ap shape_of_text parts ∙ s in cc
no_column word b bs parts s none (kind.Keyword k) h = let e = spelled_shape word (kind.Keyword k) h in let f : shape_of_text word ≡ Reference = ap shape_of_text parts ∙ s in cc

pub is_column : (word : List ℕ) (b : ℕ) (bs : List ℕ) (n : ℕ) → word ≡ b ∷ bs → shape_of b ≡ Reference → (bs ≡ decimal n) × (n < 2 ^ 63) → Spells word (kind.Column n)
is_column word b bs n parts s h = (parts ∙ ap (λ (x : ℕ). x ∷ bs) (reference_is b s) ∙ ap (λ (xs : List ℕ). 35 ∷ xs) h.0, h.1)

-- a word that isn't a keyword and is too long spells nothing
pub no_word : (word : List ℕ) → shape_of_text word ≡ Word → ((k : Keyword) → word ≢ keyword_text k) → 32 < length word → (t : TokenKind) → Spells word t → ⊥
no_word word s none long (kind.Keyword k) h = none k h
no_word word s none long kind.Name h = let short = h.short in absurd (omega arith)
no_word word s none long (kind.Number n) h = let e = spelled_shape word (kind.Number n) h in cc
no_word word s none long (kind.Column n) h = let e = spelled_shape word (kind.Column n) h in cc
no_word word s none long (kind.Mark m) h = let e = spelled_shape word (kind.Mark m) h in cc

word_letter : (b : ℕ) → shape_of b ≡ Word → is_letter b ≡ true
word_letter b e = elim (cases_Bool (is_letter b)) [
  | inl t ↦ t
  | inr f ↦ elim (cases_Bool (is_digit b)) [
    | inl t ↦ let g : shape_of b ≡ Numeral = rw (f, t) refl in absurd cc
    | inr g ↦ elim (cases_Bool (eqb b 35)) [
      | inl t ↦ let k : shape_of b ≡ Reference = rw (f, g, t) refl in absurd cc
      | inr h ↦ let k : shape_of b ≡ Sign = rw (f, g, h) refl in absurd cc
    ]
  ]
]

name_byte : (b : ℕ) → is_letter b ≡ true → is_name_byte b ≡ true
name_byte b t = rw t refl

pub is_name : (word : List ℕ) → IsLexeme word → shape_of_text word ≡ Word → ((k : Keyword) → word ≢ keyword_text k) → length word ≤ 32 → IsName word
is_name [] lexeme s none short = absurd lexeme
is_name (b ∷ bs) lexeme s none short =
    let h : HasShape Word b bs = rw s at lexeme in
    let letter = word_letter b s in
    record {
      begins = letter;
      goes_on = search (rules, name_byte b letter, h);
      short = short;
      free = none;
    }

sign_of : (word : List ℕ) → IsLexeme word → shape_of_text word ≡ Sign → (m : Mark) × (word ≡ mark_text m)
sign_of [] lexeme s = absurd lexeme
sign_of (b ∷ bs) lexeme s = let h : HasShape Sign b bs = rw s at lexeme in h

pub some_mark : (word : List ℕ) → IsLexeme word → shape_of_text word ≡ Sign → ((m : Mark) → BeginsWith word m → ⊥) → ⊥
some_mark word lexeme s none = let h = sign_of word lexeme s in none h.0 (ap (λ (n : ℕ). take n word) (ap length (sym h.1)) ∙ take-length word ∙ h.1)

pub is_mark : (word : List ℕ) (m : Mark) → IsLexeme word → shape_of_text word ≡ Sign → IsLongestMark word m → word ≡ mark_text m
is_mark word m lexeme s long =
    let h = sign_of word lexeme s in
    let there : BeginsWith word h.0 = ap (λ (n : ℕ). take n word) (ap length (sym h.1)) ∙ take-length word ∙ h.1 in
    let size : length word ≡ length (mark_text h.0) = ap length h.1 in
    elim (cases_lt (length (mark_text m)) (length word)) [
      | inl lt ↦ absurd (long.longest h.0 (omega arith) there)
      | inr ge ↦ sym (take_past word (length (mark_text m)) ge) ∙ long.begins
    ]
  where
    take_past : (xs : List ℕ) (n : ℕ) → length xs ≤ n → take n xs ≡ xs
    take_past xs n le = grind (arith, common_steps)
