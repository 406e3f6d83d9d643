-- The first fault of a text.
use Rattle.std.specs.Prelude.{◌≡◌, ⊤, ℕ, ◌+◌, ◌-◌, ◌<◌, ◌≤◌, IsTrue, IsFalse, List, length, take, drop, slice_index, Option, Some, None, ◌⊎◌}
use Rattle.std.specs.List.{list_all, slice_range}
use Rattle.record_core.specs.declared.span.Refusal.{Refusal}
use Rattle.record_core.specs.declared.span.Refusal.TheVariants.{At, NoMemory}
use Rattle.lexer.specs.declared.token.Token.{Token}
use Rattle.lexer.specs.declared.token.TokenKind.{TokenKind}
use Rattle.lexer.specs.declared.lexeme.Shape.{Shape}
use Rattle.lexer.specs.declared.lexeme.Shape.TheVariants.{Word, Numeral, Reference, Sign}
use Rattle.lexer.specs.declared.refusals.TheConstants.{NO_TOKEN, BAD_NUMBER, NAME_TOO_LONG, TEXT_TOO_LONG}
use Rattle.lexer.specs.Lexemes.{is_space, shape_of, IsLexeme, IsLongest}
use Rattle.lexer.specs.Tokens.{Spells, IsNext, LexesTo, max_length}

-- the first byte begins no token, and isn't white space
pub record IsStray (bytes : List ℕ) : Type 0 where
  pub some : 0 < length bytes
  pub solid : IsFalse (is_space (slice_index bytes 0))
  pub none : (k : ℕ) → k ≤ length bytes → IsLexeme (take k bytes) → ⊥

-- the longest lexeme at the front has n bytes, and they spell no token
pub record IsMisspelled (bytes : List ℕ) (n : ℕ) : Type 0 where
  pub longest : IsLongest bytes n
  pub none : (t : TokenKind) → Spells (take n bytes) t → ⊥

-- the code of a lexeme that spells no token, by its first byte
abbrev pub fault_code : Shape → ℕ
fault_code Word = NAME_TOO_LONG
fault_code Numeral = BAD_NUMBER
fault_code Reference = BAD_NUMBER
fault_code Sign = NO_TOKEN

-- from at on the text has white space, and then this fault
pub record IsFault (text : List ℕ) (at code start end : ℕ) : Type 0 where
  pub after : at ≤ start
  pub spaces : IsTrue (list_all is_space (slice_range text at start))
  pub order : start < end
  pub what : ((code ≡ NO_TOKEN) × (end ≡ start + 1) × IsStray (drop start text))
      ⊎ ((code ≡ fault_code (shape_of (slice_index text start))) × IsMisspelled (drop start text) (end - start))

-- Why a text is refused: it is too long, or has tokens up to a fault. Any text may be refused for lack of memory.
abbrev pub Refuses : List ℕ → Refusal → Type 0
Refuses text NoMemory = ⊤
Refuses text (At code span) = ((max_length < length text) × (code ≡ TEXT_TOO_LONG) × (span.start ≡ max_length) × (span.end ≡ max_length))
    ⊎ ((length text ≤ max_length) × (ts : List Token) × (at : ℕ) × LexesTo text 0 ts at × IsFault text at code span.start span.end)

-- what the text has next at a place: only white space, or white space and a token
abbrev pub Begins : List ℕ → ℕ → Option Token → Type 0
Begins text at None = IsTrue (list_all is_space (drop at text))
Begins text at (Some t) = IsNext text at t

-- white space, and then a fault
abbrev pub Stops : List ℕ → ℕ → Refusal → Type 0
Stops text at NoMemory = ⊥
Stops text at (At code span) = IsFault text at code span.start span.end
