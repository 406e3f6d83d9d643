-- The grammar of relations, as a relation between tokens and trees; `text` has the bytes of the names.
use Rattle.std.specs.Prelude.{ℕ, suc, max, length, ◌<◌, ◌≤◌, ◌^◌, ◌-◌, ◌≡◌, List, ◌∷◌, take, drop, codes}
use Rattle.record_core.specs.declared.span.Span.{Span}
use Rattle.record_core.specs.declared.keyword.Keyword.{Keyword}
use Rattle.record_core.specs.declared.keyword.Keyword.TheVariants as keyword
use Rattle.record_core.specs.Names.{IsName}
use Rattle.lexer.specs.declared.token.Token.{Token}
use Rattle.lexer.specs.declared.token.TokenKind.TheVariants as kind
use Rattle.lexer.specs.declared.mark.Mark.TheVariants as mark
use Rattle.expr_tree.specs.declared.relation.Agg.{Agg}
use Rattle.expr_tree.specs.declared.relation.Agg.TheVariants.{Count, Sum, Min, Max}
use Rattle.expr_tree.specs.declared.relation.Column.{Column}
use Rattle.expr_tree.specs.declared.relation.Pair.{Pair}
use Rattle.expr_tree.specs.declared.relation.SetOperator.{SetOperator}
use Rattle.expr_tree.specs.declared.relation.SetOperator.TheVariants.{Concat, Except, Intersect}
use Rattle.expr_tree.specs.declared.relation.LoopForm.TheVariants.{Iterate, Closure}
use Rattle.expr_tree.specs.Trees.{ScalarTree, CondTree, RelTree}
use Rattle.grammar.specs.Tokens.{reaching, token, mark_at, keyword_at, NoMark}
use Rattle.grammar.specs.Phrases.{Listed}
use Rattle.grammar.specs.Scalars.{ScalarAt}
use Rattle.grammar.specs.Conditions.{ConditionAt}

-- the bytes of a span
abbrev pub piece : List ℕ → Span → List ℕ
piece text s = take (s.end - s.start) (drop s.start text)

-- the span has a name
abbrev pub IsNameAt : List ℕ → Span → Type 0
IsNameAt text s = (s.end ≤ length text) × IsName (piece text s)

-- that column as a token
abbrev pub column_at : Column → Token
column_at c = token (kind.Column c.index) c.span

-- COLUMN
abbrev pub ColumnAt : List Token → Column → ℕ → List Token → Type 0
ColumnAt ts c h us = (ts ≡ column_at c ∷ us) × (h ≡ 1)

-- pair = COLUMN "=" COLUMN; the left one is of the left relation
abbrev pub PairAt : List Token → Pair → ℕ → List Token → Type 0
PairAt ts p h us = (s : Span) × (ts ≡ column_at p.left ∷ mark_at mark.Equal s ∷ column_at p.right ∷ us) × (h ≡ 1)

-- a keyword and a column, and the span over both
abbrev pub AggOf : Keyword → Span → Column → List Token → List Token → Type 0
AggOf k s c ts us = (r : Span) × (s ≡ reaching r c.span) × (ts ≡ keyword_at k r ∷ column_at c ∷ us)

-- agg = "count" | "sum" COLUMN | "min" COLUMN | "max" COLUMN
abbrev pub AggAt : List Token → Agg → ℕ → List Token → Type 0
AggAt ts (Count s) h us = (ts ≡ keyword_at keyword.Count s ∷ us) × (h ≡ 1)
AggAt ts (Sum s c) h us = AggOf keyword.Sum s c ts us × (h ≡ 1)
AggAt ts (Min s c) h us = AggOf keyword.Min s c ts us × (h ≡ 1)
AggAt ts (Max s c) h us = AggOf keyword.Max s c ts us × (h ≡ 1)

-- the keyword of a set operator
abbrev pub operator_keyword : SetOperator → Keyword
operator_keyword Concat = keyword.Concat
operator_keyword Except = keyword.Except
operator_keyword Intersect = keyword.Intersect

-- the word of a closure: a name that is no keyword, and begins a closure only before a bracket
abbrev pub closure_word : List ℕ
closure_word = codes "closure"

-- the tokens begin with a relation, which is this tree with this height, and these tokens are left
pub data Reads (text : List ℕ) : List Token → RelTree → ℕ → List Token → Type 0 where
  -- rel = NAME, but for the word of a closure before "("
  named : {s : Span} {ts : List Token} → IsNameAt text s → (piece text s ≡ closure_word → NoMark mark.OpenRound ts) → Reads text (token kind.Name s ∷ ts) (RelTree.named s (piece text s)) 1 ts
  -- | "select" "(" rel ";" scalar { "," scalar } ")"
  select : {s o p q : Span} {r : RelTree} {xs : List ScalarTree} {h k : ℕ} {ts us vs : List Token} → Reads text ts r h (mark_at mark.Semicolon p ∷ us)
      → Listed ScalarAt us xs k (mark_at mark.CloseRound q ∷ vs)
      → Reads text (keyword_at keyword.Select s ∷ mark_at mark.OpenRound o ∷ ts) (RelTree.select (reaching s q) r xs) (suc (max h k)) vs
  -- | "where" "(" rel ";" cond ")"
  filter : {s o p q : Span} {r : RelTree} {c : CondTree} {h k : ℕ} {ts us vs : List Token} → Reads text ts r h (mark_at mark.Semicolon p ∷ us)
      → ConditionAt us c k (mark_at mark.CloseRound q ∷ vs)
      → Reads text (keyword_at keyword.Where s ∷ mark_at mark.OpenRound o ∷ ts) (RelTree.filter (reaching s q) r c) (suc (max h k)) vs
  -- | ( "concat" | "except" | "intersect" ) "(" rel "," rel ")"
  set_operation : {w : SetOperator} {x : Keyword} {s o p q : Span} {a b : RelTree} {h k : ℕ} {ts us vs : List Token} → x ≡ operator_keyword w
      → Reads text ts a h (mark_at mark.Comma p ∷ us) → Reads text us b k (mark_at mark.CloseRound q ∷ vs)
      → Reads text (keyword_at x s ∷ mark_at mark.OpenRound o ∷ ts) (RelTree.set_operation (reaching s q) w a b) (suc (max h k)) vs
  -- | "join" "(" rel "," rel ";" pair { "," pair } ")"
  join : {s o p i q : Span} {a b : RelTree} {xs : List Pair} {h k n : ℕ} {ts us vs ws : List Token} → Reads text ts a h (mark_at mark.Comma p ∷ us)
      → Reads text us b k (mark_at mark.Semicolon i ∷ vs) → Listed PairAt vs xs n (mark_at mark.CloseRound q ∷ ws)
      → Reads text (keyword_at keyword.Join s ∷ mark_at mark.OpenRound o ∷ ts) (RelTree.join (reaching s q) a b xs) (suc (max (max h k) n)) ws
  -- | "group" "(" rel ";" COLUMN { "," COLUMN } ";" agg { "," agg } ")"
  group : {s o p i q : Span} {r : RelTree} {ks : List Column} {xs : List Agg} {h k n : ℕ} {ts us vs ws : List Token}
      → Reads text ts r h (mark_at mark.Semicolon p ∷ us) → Listed ColumnAt us ks k (mark_at mark.Semicolon i ∷ vs)
      → Listed AggAt vs xs n (mark_at mark.CloseRound q ∷ ws)
      → Reads text (keyword_at keyword.Group s ∷ mark_at mark.OpenRound o ∷ ts) (RelTree.group (reaching s q) r ks xs) (suc (max (max h k) n)) ws
  -- | "distinct" "(" rel ")"
  distinct : {s o q : Span} {r : RelTree} {h : ℕ} {ts us : List Token} → Reads text ts r h (mark_at mark.CloseRound q ∷ us)
      → Reads text (keyword_at keyword.Distinct s ∷ mark_at mark.OpenRound o ∷ ts) (RelTree.distinct (reaching s q) r) (suc h) us
  -- | "iterate" "(" NUMBER ";" NAME "=" rel ";" rel ")"
  iterate : {s o d p x i j q : Span} {n h k : ℕ} {r b : RelTree} {ts us vs : List Token} → n < 2 ^ 63 → IsNameAt text x
      → Reads text ts r h (mark_at mark.Semicolon j ∷ us) → Reads text us b k (mark_at mark.CloseRound q ∷ vs)
      → Reads text
      (keyword_at keyword.Iterate s ∷ mark_at mark.OpenRound o ∷ token (kind.Number n) d ∷ mark_at mark.Semicolon p
      ∷ token kind.Name x ∷ mark_at mark.Equal i ∷ ts)
      (RelTree.loop (reaching s q) Iterate d n x (piece text x) r b) (suc (max h k)) vs
  -- | "closure" "(" NUMBER ";" NAME "=" rel ";" rel ")"
  closure : {s o d p x i j q : Span} {n h k : ℕ} {r b : RelTree} {ts us vs : List Token} → IsNameAt text s → piece text s ≡ closure_word → n < 2 ^ 63
      → IsNameAt text x → Reads text ts r h (mark_at mark.Semicolon j ∷ us) → Reads text us b k (mark_at mark.CloseRound q ∷ vs)
      → Reads text
      (token kind.Name s ∷ mark_at mark.OpenRound o ∷ token (kind.Number n) d ∷ mark_at mark.Semicolon p
      ∷ token kind.Name x ∷ mark_at mark.Equal i ∷ ts)
      (RelTree.loop (reaching s q) Closure d n x (piece text x) r b) (suc (max h k)) vs
