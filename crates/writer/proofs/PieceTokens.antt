-- Tokens that are the words of pieces.
use Rattle.std.proofs.Common.{◌≡◌, ◌≢◌, ℕ, ◌≤◌, List, [], ◌∷◌, ◌++◌, length, refl, ap, arith}
use Rattle.record_core.specs.declared.span.Span.{Span}
use Rattle.record_core.specs.declared.keyword.Keyword.{Keyword}
use Rattle.record_core.specs.declared.keyword.Keyword.TheVariants as keyword
use Rattle.record_core.specs.Names.{IsName, keyword_text}
use Rattle.lexer.specs.declared.token.Token.{Token}
use Rattle.lexer.specs.declared.token.TokenKind.{TokenKind}
use Rattle.lexer.specs.declared.token.TokenKind.TheVariants as kind
use Rattle.grammar.specs.Tokens.{token}
use Rattle.grammar.specs.Relations.{closure_word, piece}
use Rattle.writer.specs.Pieces.{Piece, word, gap, Word, spelling}

abbrev pub kind_of : Word → TokenKind
kind_of (Word.name x) = kind.Name
kind_of (Word.number n) = kind.Number n
kind_of (Word.column n) = kind.Column n
kind_of (Word.mark m) = kind.Mark m
kind_of (Word.keyword k) = kind.Keyword k

-- the word is there in the text
abbrev pub IsWordAt : List ℕ → Span → List ℕ → Type 0
IsWordAt text s w = (s.end ≤ length text) × (piece text s ≡ w)

-- the tokens begin with those of the pieces, and these are left
abbrev pub Says : List ℕ → List Piece → List Token → List Token → Type 0
Says text [] ts us = ts ≡ us
Says text (gap b ∷ ps) ts us = Says text ps ts us
Says text (word x ∷ ps) ts us = (s : Span) × (vs : List Token) × (ts ≡ token (kind_of x) s ∷ vs) × IsWordAt text s (spelling x) × Says text ps vs us

pub record Cut (text : List ℕ) (a b : List Piece) (ts us : List Token) : Type 0 where
  pub vs : List Token
  pub first : Says text a ts vs
  pub second : Says text b vs us

pub cut : {text : List ℕ} (a b : List Piece) {ts us : List Token} → Says text (a ++ b) ts us → Cut text a b ts us
cut [] b {ts} s = record { vs = ts; first = refl; second = s }
cut (gap c ∷ ps) b s = let c = cut ps b s in record { vs = c.vs; first = c.first; second = c.second }
cut (word x ∷ ps) b s = let c = cut ps b s.4 in record { vs = c.vs; first = (s.0, s.1, s.2, s.3, c.first); second = c.second }

abbrev first_byte : List ℕ → ℕ
first_byte [] = 0
first_byte (b ∷ bs) = b

-- the word of a closure is a name
closure_free : (k : Keyword) → closure_word ≢ keyword_text k
closure_free keyword.Input e = let h : 7 ≡ 5 = ap length e in omega (arith, h)
closure_free keyword.Let e = let h : 7 ≡ 3 = ap length e in omega (arith, h)
closure_free keyword.Output e = let h : 7 ≡ 6 = ap length e in omega (arith, h)
closure_free keyword.Select e = let h : 7 ≡ 6 = ap length e in omega (arith, h)
closure_free keyword.Where e = let h : 7 ≡ 5 = ap length e in omega (arith, h)
closure_free keyword.Concat e = let h : 7 ≡ 6 = ap length e in omega (arith, h)
closure_free keyword.Join e = let h : 7 ≡ 4 = ap length e in omega (arith, h)
closure_free keyword.Group e = let h : 7 ≡ 5 = ap length e in omega (arith, h)
closure_free keyword.Distinct e = let h : 7 ≡ 8 = ap length e in omega (arith, h)
closure_free keyword.Except e = let h : 7 ≡ 6 = ap length e in omega (arith, h)
closure_free keyword.Intersect e = let h : 7 ≡ 9 = ap length e in omega (arith, h)
closure_free keyword.Iterate e = let h : 99 ≡ 105 = ap first_byte e in omega (arith, h)
closure_free keyword.Count e = let h : 7 ≡ 5 = ap length e in omega (arith, h)
closure_free keyword.Sum e = let h : 7 ≡ 3 = ap length e in omega (arith, h)
closure_free keyword.Min e = let h : 7 ≡ 3 = ap length e in omega (arith, h)
closure_free keyword.Max e = let h : 7 ≡ 3 = ap length e in omega (arith, h)
closure_free keyword.And e = let h : 7 ≡ 3 = ap length e in omega (arith, h)
closure_free keyword.Or e = let h : 7 ≡ 2 = ap length e in omega (arith, h)
closure_free keyword.Not e = let h : 7 ≡ 3 = ap length e in omega (arith, h)
closure_free keyword.Epoch e = let h : 7 ≡ 5 = ap length e in omega (arith, h)

pub closure_name : IsName closure_word
closure_name = record { begins = refl; goes_on = refl; short = omega arith; free = closure_free }
