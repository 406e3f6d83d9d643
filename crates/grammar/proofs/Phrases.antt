-- Tokens begin with at most one list of phrases, columns, pairs or aggregates.
use Rattle.std.proofs.Common.{◌≡◌, ℕ, List, [], ◌∷◌, refl, ap, ap₂, sym, ◌∙◌}
use Rattle.record_core.specs.declared.span.Span.{Span}
use Rattle.record_core.specs.declared.keyword.Keyword.{Keyword}
use Rattle.expr_tree.specs.declared.relation.Agg.TheVariants.{Count, Sum, Min, Max}
use Rattle.expr_tree.specs.declared.relation.Column.{Column}
use Rattle.expr_tree.specs.declared.relation.Pair.{Pair}
use Rattle.lexer.specs.declared.token.Token.{Token}
use Rattle.lexer.specs.declared.token.TokenKind.TheVariants as kind
use Rattle.lexer.specs.declared.mark.Mark.TheVariants as mark
use Rattle.grammar.specs.Tokens.{reaching, mark_at, keyword_at, NoMark}
use Rattle.grammar.specs.Phrases.{Listed, one, more, Agree, IsOne}
use Rattle.grammar.specs.Relations.{column_at, ColumnAt, PairAt, AggAt, AggOf}
use Rattle.grammar.proofs.Tokens.{first_one, rest_one}

no_comma : {s : Span} {us vs : List Token} → NoMark mark.Comma us → us ≡ mark_at mark.Comma s ∷ vs → ⊥
no_comma h e = (rw e at h) refl

pub one_list : {X : Type 0} (P : List Token → X → ℕ → List Token → Type 0) → IsOne P → (ts us vs : List Token) (xs ys : List X) (h k : ℕ) → Listed P ts xs h us → Listed P ts ys k vs → Agree xs ys h k us vs
one_list P q ts us vs xs ys h k (one d f) (one x g) = let a = q _ _ _ _ _ _ _ d x in record { value = ap (λ v. v ∷ []) a.value; height = a.height; left = a.left }
one_list P q ts us vs xs ys h k (one d f) (more x y) = let a = q _ _ _ _ _ _ _ d x in absurd (no_comma f a.left)
one_list P q ts us vs xs ys h k (more d r) (one x g) = let a = q _ _ _ _ _ _ _ d x in absurd (no_comma g (sym a.left))
one_list P q ts us vs xs ys h k (more d r) (more x y) =
    let a = q _ _ _ _ _ _ _ d x in
    let b = one_list P q _ _ _ _ _ _ _ r (rw (← rest_one a.left) at y) in
    record { value = cc (a.value, b.value); height = cc (a.height, b.height); left = b.left }

made_column : Span → ℕ → Column
made_column s n = record { span = s; index = n }

made_pair : Column → Column → Pair
made_pair a b = record { left = a; right = b }

record OneOf (k l : Keyword) (s r : Span) (c d : Column) (us vs : List Token) : Type 0 where
  pub keyword : k ≡ l
  pub span : s ≡ r
  pub column : c ≡ d
  pub left : us ≡ vs

-- two columns that are the same token
same_column : (c d : Column) → column_at c ≡ column_at d → c ≡ d
unfolding made_column
same_column c d e =
    let k : kind.Column c.index ≡ kind.Column d.index = ap (λ t. t.kind) e in
    let s : c.span ≡ d.span = ap (λ t. t.span) e in
    let n : c.index ≡ d.index = cc in
    ap₂ made_column s n

pub one_column : IsOne ColumnAt
one_column ts us vs x y h k d e = let a = sym d.0 ∙ e.0 in record { value = same_column x y (first_one a); height = d.1 ∙ sym e.1; left = rest_one a }

pub one_pair : IsOne PairAt
unfolding made_pair
one_pair ts us vs x y h k d e =
    let a = sym d.1 ∙ e.1 in
    let b = rest_one (rest_one a) in
    record { value = ap₂ made_pair (same_column x.left y.left (first_one a)) (same_column x.right y.right (first_one b)); height = d.2 ∙ sym e.2; left = rest_one b }

-- two aggregates with the same keyword
one_of : {k l : Keyword} {s r : Span} {c d : Column} {ts us vs : List Token} → AggOf k s c ts us → AggOf l r d ts vs → OneOf k l s r c d us vs
one_of {k = k} {l = l} {c = c} {d = d} f g =
    let a = sym f.2 ∙ g.2 in
    let b = rest_one a in
    let w = same_column c d (first_one b) in
    let t = first_one a in
    let p : f.0 ≡ g.0 = ap (λ x. x.span) t in
    let e : kind.Keyword k ≡ kind.Keyword l = ap (λ x. x.kind) t in
    record { keyword = cc; span = f.1 ∙ (ap₂ (λ x (y : Column). reaching x y.span) p w ∙ sym g.1); column = w; left = rest_one b }

-- a keyword alone isn't a keyword with a column
apart : {k l : Keyword} {s r : Span} {c : Column} {ts us vs : List Token} → ts ≡ keyword_at k s ∷ us → AggOf l r c ts vs → k ≡ l
apart {k = k} {l = l} d g = let t = first_one (sym d ∙ g.2) in let e : kind.Keyword k ≡ kind.Keyword l = ap (λ x. x.kind) t in cc

pub one_agg : IsOne AggAt
one_agg ts us vs (Count s) (Count r) h k d e = let a = sym d.0 ∙ e.0 in record { value = ap (λ (t : Token). Count t.span) (first_one a); height = d.1 ∙ sym e.1; left = rest_one a }
one_agg ts us vs (Sum s c) (Sum r f) h k d e = let a = one_of d.0 e.0 in record { value = ap₂ Sum a.span a.column; height = d.1 ∙ sym e.1; left = a.left }
one_agg ts us vs (Min s c) (Min r f) h k d e = let a = one_of d.0 e.0 in record { value = ap₂ Min a.span a.column; height = d.1 ∙ sym e.1; left = a.left }
one_agg ts us vs (Max s c) (Max r f) h k d e = let a = one_of d.0 e.0 in record { value = ap₂ Max a.span a.column; height = d.1 ∙ sym e.1; left = a.left }
one_agg ts us vs (Count s) (Sum r f) h k d e = absurd (cc (apart d.0 e.0))
one_agg ts us vs (Count s) (Min r f) h k d e = absurd (cc (apart d.0 e.0))
one_agg ts us vs (Count s) (Max r f) h k d e = absurd (cc (apart d.0 e.0))
one_agg ts us vs (Sum s c) (Count r) h k d e = absurd (cc (apart e.0 d.0))
one_agg ts us vs (Min s c) (Count r) h k d e = absurd (cc (apart e.0 d.0))
one_agg ts us vs (Max s c) (Count r) h k d e = absurd (cc (apart e.0 d.0))
one_agg ts us vs (Sum s c) (Min r f) h k d e = absurd (cc (one_of d.0 e.0).keyword)
one_agg ts us vs (Sum s c) (Max r f) h k d e = absurd (cc (one_of d.0 e.0).keyword)
one_agg ts us vs (Min s c) (Sum r f) h k d e = absurd (cc (one_of d.0 e.0).keyword)
one_agg ts us vs (Min s c) (Max r f) h k d e = absurd (cc (one_of d.0 e.0).keyword)
one_agg ts us vs (Max s c) (Sum r f) h k d e = absurd (cc (one_of d.0 e.0).keyword)
one_agg ts us vs (Max s c) (Min r f) h k d e = absurd (cc (one_of d.0 e.0).keyword)
