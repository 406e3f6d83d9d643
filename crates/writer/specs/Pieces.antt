-- A text as its words and the gaps between them.
use Rattle.std.specs.Prelude.{◌≡◌, ℕ, Bool, true, false, List, [], ◌∷◌, ◌++◌, codes, decimal}
use Rattle.std.specs.List.{flat_map}
use Rattle.record_core.specs.Names.{keyword_text}
use Rattle.record_core.specs.declared.keyword.Keyword.{Keyword}
use Rattle.lexer.specs.declared.mark.Mark.{Mark}
use Rattle.lexer.specs.declared.mark.Mark.TheVariants as sign
use Rattle.lexer.specs.Marks.{mark_text}

-- a token, as it is to be written
pub data Word : Type 0 where
  name : List ℕ → Word
  number : ℕ → Word
  column : ℕ → Word
  mark : Mark → Word
  keyword : Keyword → Word

-- a word, or a byte of white space
pub data Piece : Type 0 where
  word : Word → Piece
  gap : ℕ → Piece

-- the bytes of a word
abbrev pub spelling : Word → List ℕ
spelling (Word.name x) = x
spelling (Word.number n) = decimal n
spelling (Word.column n) = codes "#" ++ decimal n
spelling (Word.mark m) = mark_text m
spelling (Word.keyword k) = keyword_text k

-- the bytes of a piece
abbrev pub bytes_of : Piece → List ℕ
bytes_of (word x) = spelling x
bytes_of (gap b) = b ∷ []

-- the bytes of pieces in a row
abbrev pub text_of : List Piece → List ℕ
text_of ps = flat_map bytes_of ps

abbrev pub of_mark : Mark → Piece
of_mark m = word (Word.mark m)

abbrev pub of_keyword : Keyword → Piece
of_keyword k = word (Word.keyword k)

-- one space
abbrev pub space : Piece
space = gap 32

-- a mark with one space on each side
abbrev pub spaced : Mark → List Piece
spaced m = space ∷ of_mark m ∷ space ∷ []

-- pieces in brackets, or not
abbrev pub in_round : Bool → List Piece → List Piece
in_round true ps = of_mark sign.OpenRound ∷ ps ++ of_mark sign.CloseRound ∷ []
in_round false ps = ps

abbrev pub in_square : Bool → List Piece → List Piece
in_square true ps = of_mark sign.OpenSquare ∷ ps ++ of_mark sign.CloseSquare ∷ []
in_square false ps = ps

-- a comma or a semicolon, and a space
abbrev pub comma : List Piece
comma = of_mark sign.Comma ∷ space ∷ []

abbrev pub semicolon : List Piece
semicolon = of_mark sign.Semicolon ∷ space ∷ []

-- things one after the other, with commas between them
abbrev pub listed : {X : Type 0} → (X → List Piece) → List X → List Piece
listed f [] = []
listed f (x ∷ xs) = f x ++ flat_map (λ y. comma ++ f y) xs

-- a keyword and what it takes, in brackets
abbrev pub form : Keyword → List Piece → List Piece
form k ps = of_keyword k ∷ of_mark sign.OpenRound ∷ ps ++ of_mark sign.CloseRound ∷ []

-- a word and what it takes, in brackets
abbrev pub headed : Word → List Piece → List Piece
headed x ps = word x ∷ of_mark sign.OpenRound ∷ ps ++ of_mark sign.CloseRound ∷ []

-- the old bytes, and perhaps more after them
abbrev pub Extends : List ℕ → List ℕ → Type 0
Extends old new = (rest : List ℕ) × (new ≡ old ++ rest)
