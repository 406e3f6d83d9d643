-- Scalars that aren't there.
use Rattle.std.specs.Prelude.{ℕ, ◌<◌, List}
use Rattle.record_core.specs.declared.span.Span.{Span}
use Rattle.lexer.specs.declared.token.Token.{Token}
use Rattle.expr_tree.specs.Trees.{ScalarTree}
use Rattle.grammar.specs.Scalars.{Part, Reads}

-- every reading of that part is higher than that
abbrev pub Unread : Part → List Token → ℕ → Type 0
Unread p ts m = (t : ScalarTree) (e : Span) (h : ℕ) (us : List Token) → Reads p ts t e h us → m < h
