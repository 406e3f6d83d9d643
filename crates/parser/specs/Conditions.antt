-- Conditions and comparisons that aren't there.
use Rattle.std.specs.Prelude.{ℕ, ◌<◌, ◌≡◌, List, [], ◌∷◌, None}
use Rattle.record_core.specs.declared.span.Span.{Span}
use Rattle.lexer.specs.declared.token.Token.{Token}
use Rattle.expr_tree.specs.Trees.{CondTree}
use Rattle.grammar.specs.Conditions.{Part, Reads, compares}

-- every reading of that part is higher than that
abbrev pub Unread : Part → List Token → ℕ → Type 0
Unread p ts m = (t : CondTree) (e : Span) (h : ℕ) (us : List Token) → Reads p ts t e h us → m < h

-- no comparison comes next
abbrev pub NoComparison : List Token → Type 0
NoComparison [] = Unit {0}
NoComparison (t ∷ ts) = compares t.kind ≡ None
