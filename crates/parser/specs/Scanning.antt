-- What isn't at the front of the tokens.
use Rattle.std.specs.Prelude.{ℕ, ◌<◌, ◌^◌, List, [], ◌∷◌}
use Rattle.record_core.specs.declared.span.Span.{Span}
use Rattle.lexer.specs.declared.token.Token.{Token}
use Rattle.lexer.specs.declared.token.TokenKind.{TokenKind}
use Rattle.lexer.specs.declared.token.TokenKind.TheVariants as kind
use Rattle.grammar.specs.Relations.{IsNameAt}

abbrev pub IsNotNumber : TokenKind → Type 0
IsNotNumber (kind.Number n) = n < 2 ^ 63 → ⊥
IsNotNumber k = Unit {0}

-- a number doesn't come next
abbrev pub NoNumber : List Token → Type 0
NoNumber [] = Unit {0}
NoNumber (t ∷ ts) = IsNotNumber t.kind

abbrev pub IsNotColumn : TokenKind → Type 0
IsNotColumn (kind.Column n) = ⊥
IsNotColumn k = Unit {0}

-- a column doesn't come next
abbrev pub NoColumn : List Token → Type 0
NoColumn [] = Unit {0}
NoColumn (t ∷ ts) = IsNotColumn t.kind

abbrev pub IsNotName : List ℕ → TokenKind → Span → Type 0
IsNotName text kind.Name s = IsNameAt text s → ⊥
IsNotName text k s = Unit {0}

-- a name doesn't come next
abbrev pub NoName : List ℕ → List Token → Type 0
NoName text [] = Unit {0}
NoName text (t ∷ ts) = IsNotName text t.kind t.span
