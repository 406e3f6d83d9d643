-- Inputs, named relations and outputs after their keywords.
use Rattle.std.specs.Prelude.{ℕ, ◌<◌, ◌^◌, ◌≡◌, List, ◌∷◌, ◌⊎◌}
use Rattle.record_core.specs.declared.span.Span.{Span}
use Rattle.lexer.specs.declared.token.Token.{Token}
use Rattle.lexer.specs.declared.token.TokenKind.TheVariants as kind
use Rattle.lexer.specs.declared.mark.Mark.TheVariants as mark
use Rattle.expr_tree.specs.declared.program.Input.{Input}
use Rattle.expr_tree.specs.Trees.{LetTree, OutputTree}
use Rattle.grammar.specs.Tokens.{token, mark_at}
use Rattle.grammar.specs.Relations.{piece, IsNameAt}
use Rattle.grammar.specs.Relations as relation
use Rattle.grammar.specs.Programs.{Inputs, Outputs, default_name}

-- NAME "/" NUMBER ";"
abbrev pub Declares : List ℕ → List Token → Input → List Token → Type 0
Declares text ts i us =
    (p : Span) × (q : Span) × (i.arity < 2 ^ 63) × IsNameAt text i.name_span × (i.name ≡ piece text i.name_span)
    × (ts ≡ token kind.Name i.name_span ∷ mark_at mark.Slash p ∷ token (kind.Number i.arity) i.arity_span ∷ mark_at mark.Semicolon q ∷ us)

-- no such declaration comes next
abbrev pub NoDeclaration : List ℕ → List Token → Type 0
NoDeclaration text ts = (i : Input) (us : List Token) → Declares text ts i us → ⊥

-- no inputs come next, not even none
abbrev pub NoInputs : List ℕ → List Token → Type 0
NoInputs text ts = (is : List Input) (us : List Token) → Inputs text ts is us → ⊥

-- NAME "=" rel ";"
abbrev pub Binds : List ℕ → List Token → LetTree → ℕ → List Token → Type 0
Binds text ts l h us =
    (p : Span) × (q : Span) × (vs : List Token) × IsNameAt text l.name_span × (l.name ≡ piece text l.name_span)
    × (ts ≡ token kind.Name l.name_span ∷ mark_at mark.Equal p ∷ vs) × relation.Reads text vs l.relation h (mark_at mark.Semicolon q ∷ us)

-- NAME "="
abbrev pub BeginsNamed : List ℕ → List Token → Span → List Token → Type 0
BeginsNamed text ts x us = (p : Span) × IsNameAt text x × (ts ≡ token kind.Name x ∷ mark_at mark.Equal p ∷ us)

-- what names an output whose keyword is at s: NAME "=", or nothing
abbrev pub NamesOutput : List ℕ → (s : Span) → List Token → Span → List ℕ → List Token → Type 0
NamesOutput text s ts x n us =
    (BeginsNamed text ts x us × (n ≡ piece text x)) ⊎ (((y : Span) (vs : List Token) → BeginsNamed text ts y vs → ⊥) × (x ≡ s) × (n ≡ default_name) × (us ≡ ts))

-- the tokens are no outputs, or some are higher than that
abbrev pub NoOutputs : List ℕ → List Token → ℕ → Type 0
NoOutputs text ts m = (os : List OutputTree) (h : ℕ) → Outputs text ts os h → m < h
