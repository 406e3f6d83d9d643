-- Tokens at their places, and what doesn't come next.
use Rattle.std.specs.Prelude.{◌≢◌, List, [], ◌∷◌}
use Rattle.record_core.specs.declared.span.Span.{Span}
use Rattle.record_core.specs.declared.keyword.Keyword.{Keyword}
use Rattle.lexer.specs.declared.token.Token.{Token}
use Rattle.lexer.specs.declared.token.TokenKind.{TokenKind}
use Rattle.lexer.specs.declared.token.TokenKind.TheVariants as kind
use Rattle.lexer.specs.declared.mark.Mark.{Mark}

-- from the first of two spans to the end of the second
abbrev pub reaching : Span → Span → Span
reaching a b = record { start = a.start; end = b.end }

-- a token of that kind at that place
abbrev pub token : TokenKind → Span → Token
token k s = record { kind = k; span = s }

-- that mark at that place
abbrev pub mark_at : Mark → Span → Token
mark_at m s = token (kind.Mark m) s

-- that keyword at that place
abbrev pub keyword_at : Keyword → Span → Token
keyword_at k s = token (kind.Keyword k) s

-- that mark doesn't come next
abbrev pub NoMark : Mark → List Token → Type 0
NoMark m [] = Unit {0}
NoMark m (t ∷ ts) = t.kind ≢ kind.Mark m

-- that keyword doesn't come next
abbrev pub NoKeyword : Keyword → List Token → Type 0
NoKeyword k [] = Unit {0}
NoKeyword k (t ∷ ts) = t.kind ≢ kind.Keyword k
