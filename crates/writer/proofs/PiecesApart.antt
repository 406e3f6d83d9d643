-- Pieces whose words don't run together.
use Rattle.std.proofs.Common.{◌≡◌, ℕ, ◌<◌, List, [], ◌∷◌, ◌++◌, length, Bool, true, false, refl, sym, ap, ◌∙◌, arith, get_or}
use Rattle.std.specs.Prelude.{not}
use Rattle.std.proofs.lemmas.Bool.{not-true}
use Rattle.std.proofs.lemmas.Bool.Decides.{nat_tests}
use Rattle.record_core.specs.Names.{is_name_byte}
use Rattle.lexer.specs.declared.mark.Mark.{Mark}
use Rattle.lexer.specs.declared.mark.Mark.TheVariants as mark
use Rattle.lexer.specs.declared.token.TokenKind.{TokenKind}
use Rattle.lexer.specs.declared.token.TokenKind.TheVariants as kind
use Rattle.lexer.specs.Marks.{mark_text}
use Rattle.lexer.specs.Lexemes.{is_space, shape_of}
use Rattle.lexer.specs.Tokens.{Spells}
use Rattle.lexer.proofs.Spelled.{shape_of_kind, spelled_shape}
use Rattle.writer.specs.Pieces.{Piece, word, gap, Word, spelling, text_of}
use Rattle.writer.proofs.PieceTokens.{kind_of}
use Rattle.writer.proofs.Lexemes.{Ends}

-- a word that is no mark
abbrev pub is_word : Piece → Bool
is_word (gap b) = false
is_word (word (Word.mark m)) = false
is_word (word (Word.name x)) = true
is_word (word (Word.number n)) = true
is_word (word (Word.column n)) = true
is_word (word (Word.keyword k)) = true

abbrev pub equal_mark : Mark → Bool
equal_mark mark.Equal = true
equal_mark m = false

-- the mark `=`
abbrev pub is_equal : Piece → Bool
is_equal (gap b) = false
is_equal (word (Word.mark m)) = equal_mark m
is_equal (word (Word.name x)) = false
is_equal (word (Word.number n)) = false
is_equal (word (Word.column n)) = false
is_equal (word (Word.keyword k)) = false

abbrev pub begins_word : List Piece → Bool
begins_word [] = false
begins_word (p ∷ ps) = is_word p

abbrev pub begins_equal : List Piece → Bool
begins_equal [] = false
begins_equal (p ∷ ps) = is_equal p

-- what comes next doesn't prolong the word
abbrev pub Parts : Word → List Piece → Type 0
Parts (Word.mark m) ps = begins_equal ps ≡ false
Parts (Word.name x) ps = begins_word ps ≡ false
Parts (Word.number n) ps = begins_word ps ≡ false
Parts (Word.column n) ps = begins_word ps ≡ false
Parts (Word.keyword k) ps = begins_word ps ≡ false

-- each word is one, and ends where the next piece begins
abbrev pub Apart : List Piece → Type 0
Apart [] = Unit {0}
Apart (gap b ∷ ps) = (is_space b ≡ true) × Apart ps
Apart (word x ∷ ps) = Spells (spelling x) (kind_of x) × Parts x ps × Apart ps

-- they prolong no word
abbrev pub Soft : List Piece → Type 0
Soft ps = (begins_word ps ≡ false) × (begins_equal ps ≡ false)

parts_append : (x : Word) (ps b : List Piece) → Parts x ps → Soft b → Parts x (ps ++ b)
parts_append (Word.mark m) [] b h s = s.1
parts_append (Word.name x) [] b h s = s.0
parts_append (Word.number n) [] b h s = s.0
parts_append (Word.column n) [] b h s = s.0
parts_append (Word.keyword k) [] b h s = s.0
parts_append (Word.mark m) (p ∷ ps) b h s = h
parts_append (Word.name x) (p ∷ ps) b h s = h
parts_append (Word.number n) (p ∷ ps) b h s = h
parts_append (Word.column n) (p ∷ ps) b h s = h
parts_append (Word.keyword k) (p ∷ ps) b h s = h

pub apart_append : (a b : List Piece) → Apart a → Apart b → Soft b → Apart (a ++ b)
apart_append [] b h i s = i
apart_append (gap c ∷ ps) b h i s = (h.0, apart_append ps b h.1 i s)
apart_append (word x ∷ ps) b h i s = (h.0, parts_append x ps b h.1 s, apart_append ps b h.2 i s)

-- there are some, and no `=` first
abbrev pub opens : List Piece → Bool
opens [] = false
opens (p ∷ ps) = not (is_equal p)

pub opens_append : (a b : List Piece) → opens a ≡ true → opens (a ++ b) ≡ true
opens_append [] b h = absurd cc
opens_append (p ∷ ps) b h = h

pub no_equal_first : (ps : List Piece) → opens ps ≡ true → begins_equal ps ≡ false
no_equal_first [] h = refl
no_equal_first (p ∷ ps) h = not-true (is_equal p) h

space_no_name : (b : ℕ) → is_space b ≡ true → is_name_byte b ≡ false
space_no_name b h = grind (arith, nat_tests)

space_no_equal : (b : ℕ) → is_space b ≡ true → b ≡ 61 → ⊥
space_no_equal b h e = let f : is_space 61 ≡ true = ap is_space (sym e) ∙ h in cc

mark_no_name : (m : Mark) (r : List ℕ) → is_name_byte (get_or (mark_text m ++ r) 0 0) ≡ false
mark_no_name mark.NotEqual r = refl
mark_no_name mark.AtMost r = refl
mark_no_name mark.AtLeast r = refl
mark_no_name mark.Slash r = refl
mark_no_name mark.Semicolon r = refl
mark_no_name mark.Comma r = refl
mark_no_name mark.OpenRound r = refl
mark_no_name mark.CloseRound r = refl
mark_no_name mark.OpenSquare r = refl
mark_no_name mark.CloseSquare r = refl
mark_no_name mark.Equal r = refl
mark_no_name mark.Below r = refl
mark_no_name mark.Above r = refl
mark_no_name mark.Plus r = refl
mark_no_name mark.Minus r = refl
mark_no_name mark.Star r = refl

mark_no_equal : (m : Mark) (r : List ℕ) → equal_mark m ≡ false → get_or (mark_text m ++ r) 0 0 ≡ 61 → ⊥
mark_no_equal mark.NotEqual r h e = absurd (omega arith)
mark_no_equal mark.AtMost r h e = absurd (omega arith)
mark_no_equal mark.AtLeast r h e = absurd (omega arith)
mark_no_equal mark.Slash r h e = absurd (omega arith)
mark_no_equal mark.Semicolon r h e = absurd (omega arith)
mark_no_equal mark.Comma r h e = absurd (omega arith)
mark_no_equal mark.OpenRound r h e = absurd (omega arith)
mark_no_equal mark.CloseRound r h e = absurd (omega arith)
mark_no_equal mark.OpenSquare r h e = absurd (omega arith)
mark_no_equal mark.CloseSquare r h e = absurd (omega arith)
mark_no_equal mark.Equal r h e = absurd cc
mark_no_equal mark.Below r h e = absurd (omega arith)
mark_no_equal mark.Above r h e = absurd (omega arith)
mark_no_equal mark.Plus r h e = absurd (omega arith)
mark_no_equal mark.Minus r h e = absurd (omega arith)
mark_no_equal mark.Star r h e = absurd (omega arith)

-- a word of another shape doesn't begin with `=`
word_no_equal : (w r : List ℕ) (k : TokenKind) → Spells w k → (shape_of_kind k ≡ shape_of_kind (kind.Mark mark.Equal) → ⊥) → get_or (w ++ r) 0 0 ≡ 61 → ⊥
word_no_equal [] r k s other e = other (sym (spelled_shape [] k s))
word_no_equal (b ∷ bs) r k s other e = other (sym (spelled_shape (b ∷ bs) k s) ∙ ap shape_of e)

ends_name : (ps : List Piece) → Apart ps → begins_word ps ≡ false → 0 < length (text_of ps) → is_name_byte (get_or (text_of ps) 0 0) ≡ false
ends_name [] a h some = absurd (omega arith)
ends_name (gap b ∷ ps) a h some = space_no_name b a.0
ends_name (word (Word.mark m) ∷ ps) a h some = mark_no_name m (text_of ps)
ends_name (word (Word.name x) ∷ ps) a h some = absurd cc
ends_name (word (Word.number n) ∷ ps) a h some = absurd cc
ends_name (word (Word.column n) ∷ ps) a h some = absurd cc
ends_name (word (Word.keyword k) ∷ ps) a h some = absurd cc

ends_mark : (ps : List Piece) → Apart ps → begins_equal ps ≡ false → 0 < length (text_of ps) → get_or (text_of ps) 0 0 ≡ 61 → ⊥
ends_mark [] a h some e = absurd (omega arith)
ends_mark (gap b ∷ ps) a h some e = space_no_equal b a.0 e
ends_mark (word (Word.mark m) ∷ ps) a h some e = mark_no_equal m (text_of ps) h e
ends_mark (word (Word.name x) ∷ ps) a h some e = word_no_equal x (text_of ps) kind.Name a.0 (λ q. cc) e
ends_mark (word (Word.number n) ∷ ps) a h some e = word_no_equal (spelling (Word.number n)) (text_of ps) (kind.Number n) a.0 (λ q. cc) e
ends_mark (word (Word.column n) ∷ ps) a h some e = word_no_equal (spelling (Word.column n)) (text_of ps) (kind.Column n) a.0 (λ q. cc) e
ends_mark (word (Word.keyword k) ∷ ps) a h some e = word_no_equal (spelling (Word.keyword k)) (text_of ps) (kind.Keyword k) a.0 (λ q. cc) e

pub ends : (x : Word) (ps : List Piece) → Parts x ps → Apart ps → Ends (kind_of x) (text_of ps)
ends (Word.mark m) ps h a = ends_mark ps a h
ends (Word.name x) ps h a = ends_name ps a h
ends (Word.number n) ps h a = ends_name ps a h
ends (Word.column n) ps h a = ends_name ps a h
ends (Word.keyword k) ps h a = ends_name ps a h
