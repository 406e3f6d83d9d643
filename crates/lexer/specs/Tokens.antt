-- The tokens of a text: at each place the longest, and only white space between them.
use Rattle.std.specs.Prelude.{◌≡◌, ℕ, ◌-◌, ◌<◌, ◌≤◌, ◌^◌, IsTrue, List, [], ◌∷◌, length, drop, decimal, codes, ◌++◌}
use Rattle.std.specs.List.{list_all, slice_range}
use Rattle.record_core.specs.Names.{keyword_text, IsName}
use Rattle.lexer.specs.declared.token.Token.{Token}
use Rattle.lexer.specs.declared.token.TokenKind.{TokenKind}
use Rattle.lexer.specs.declared.token.TokenKind.TheVariants as kind
use Rattle.lexer.specs.Marks.{mark_text}
use Rattle.lexer.specs.Lexemes.{is_space, IsLongest}

-- the word spells the token
abbrev pub Spells : List ℕ → TokenKind → Type 0
Spells word kind.Name = IsName word
Spells word (kind.Number n) = (word ≡ decimal n) × (n < 2 ^ 63)
Spells word (kind.Column n) = (word ≡ codes "#" ++ decimal n) × (n < 2 ^ 63)
Spells word (kind.Mark m) = word ≡ mark_text m
Spells word (kind.Keyword k) = word ≡ keyword_text k

-- from at on the text has white space, and then this token
pub record IsNext (text : List ℕ) (at : ℕ) (t : Token) : Type 0 where
  pub after : at ≤ t.span.start
  pub spaces : IsTrue (list_all is_space (slice_range text at t.span.start))
  pub order : t.span.start < t.span.end
  pub longest : IsLongest (drop t.span.start text) (t.span.end - t.span.start)
  pub spelled : Spells (slice_range text t.span.start t.span.end) t.kind

-- the token is inside the text, and the slice at its span spells it
pub record IsPlaced (text : List ℕ) (t : Token) : Type 0 where
  pub order : t.span.start < t.span.end
  pub within : t.span.end ≤ length text
  pub spelled : Spells (slice_range text t.span.start t.span.end) t.kind

-- from at up to stop the text has exactly these tokens
abbrev pub LexesTo : List ℕ → ℕ → List Token → ℕ → Type 0
LexesTo text at [] stop = at ≡ stop
LexesTo text at (t ∷ ts) stop = IsNext text at t × LexesTo text t.span.end ts stop

-- the longest text that is read, in bytes
abbrev pub max_length : ℕ
max_length = 1048576

-- these are the tokens of the text
pub record Lexes (text : List ℕ) (ts : List Token) : Type 0 where
  pub short : length text ≤ max_length
  pub stop : ℕ
  pub tokens : LexesTo text 0 ts stop
  pub rest : IsTrue (list_all is_space (drop stop text))
