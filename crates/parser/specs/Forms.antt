-- What a form of relation begins with.
use Rattle.std.specs.Prelude.{ℕ, ◌<◌, ◌^◌, ◌≡◌, List, [], ◌∷◌, Option, Some, None}
use Rattle.record_core.specs.declared.span.Span.{Span}
use Rattle.record_core.specs.declared.keyword.Keyword.{Keyword}
use Rattle.record_core.specs.declared.keyword.Keyword.TheVariants as keyword
use Rattle.lexer.specs.declared.token.Token.{Token}
use Rattle.lexer.specs.declared.token.TokenKind.{TokenKind}
use Rattle.lexer.specs.declared.token.TokenKind.TheVariants as kind
use Rattle.lexer.specs.declared.mark.Mark.TheVariants as mark
use Rattle.expr_tree.specs.declared.relation.SetOperator.TheVariants.{Concat, Except, Intersect}
use Rattle.grammar.specs.Tokens.{token, mark_at, keyword_at, NoMark}
use Rattle.grammar.specs.Relations.{operator_keyword, closure_word, piece, IsNameAt}
use Rattle.parser.specs.declared.relation.Form.{Form}
use Rattle.parser.specs.declared.relation.Form.TheVariants as form
use Rattle.parser.specs.declared.relation.Opening.{Opening}

-- the form of a keyword
abbrev pub form_of : Keyword → Option Form
form_of keyword.Select = Some form.Select
form_of keyword.Where = Some form.Where
form_of keyword.Concat = Some (form.SetOperation Concat)
form_of keyword.Except = Some (form.SetOperation Except)
form_of keyword.Intersect = Some (form.SetOperation Intersect)
form_of keyword.Join = Some form.Join
form_of keyword.Group = Some form.Group
form_of keyword.Distinct = Some form.Distinct
form_of keyword.Iterate = Some form.Iterate
form_of k = None

-- the keyword of a form
abbrev pub keyword_of : Form → Keyword
keyword_of form.Select = keyword.Select
keyword_of form.Where = keyword.Where
keyword_of (form.SetOperation w) = operator_keyword w
keyword_of form.Join = keyword.Join
keyword_of form.Group = keyword.Group
keyword_of form.Distinct = keyword.Distinct
keyword_of form.Iterate = keyword.Iterate

-- the keyword of a form, at that place
abbrev pub form_token : Form → Span → Token
form_token f s = keyword_at (keyword_of f) s

-- the keyword of a form, its bracket, and what follows
abbrev pub opening : Form → Span → Span → List Token → List Token
opening f s o ts = form_token f s ∷ mark_at mark.OpenRound o ∷ ts

abbrev pub opened : Form → Opening → List Token → List Token
opened f o ts = opening f o.keyword o.bracket ts

abbrev pub IsNotForm : TokenKind → Type 0
IsNotForm (kind.Keyword k) = form_of k ≡ None
IsNotForm k = Unit {0}

-- the keyword of a form doesn't come next
abbrev pub NoForm : List Token → Type 0
NoForm [] = Unit {0}
NoForm (t ∷ ts) = IsNotForm t.kind

-- the head of a loop, inside its bracket: NUMBER ";" NAME "="
abbrev pub Heads : List ℕ → List Token → Span → ℕ → Span → List Token → Type 0
Heads text ts d n x us =
    (p : Span) × (i : Span) × (n < 2 ^ 63) × IsNameAt text x
    × (ts ≡ token (kind.Number n) d ∷ mark_at mark.Semicolon p ∷ token kind.Name x ∷ mark_at mark.Equal i ∷ us)

-- no head of a loop comes next
abbrev pub NoHead : List ℕ → List Token → Type 0
NoHead text ts = (d : Span) (n : ℕ) (x : Span) (us : List Token) → Heads text ts d n x us → ⊥

-- the word of a closure is there
abbrev pub IsClosureAt : List ℕ → Span → Type 0
IsClosureAt text s = IsNameAt text s × (piece text s ≡ closure_word)

-- that word, its bracket, and what follows
abbrev pub closing : Opening → List Token → List Token
closing o ts = token kind.Name o.keyword ∷ mark_at mark.OpenRound o.bracket ∷ ts

-- if that word comes next, no bracket follows it
abbrev pub NoClosure : List ℕ → List Token → Type 0
NoClosure text ts = (s : Span) (us : List Token) → ts ≡ token kind.Name s ∷ us → IsNameAt text s → piece text s ≡ closure_word → NoMark mark.OpenRound us
