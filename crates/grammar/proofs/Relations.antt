-- Tokens begin with at most one relation.
use Rattle.std.proofs.Common.{◌≡◌, ℕ, List, Option, Some, None, refl, ap, sym, ◌∙◌}
use Rattle.record_core.specs.declared.keyword.Keyword.{Keyword}
use Rattle.record_core.specs.declared.keyword.Keyword.TheVariants as keyword
use Rattle.expr_tree.specs.declared.relation.SetOperator.{SetOperator}
use Rattle.expr_tree.specs.declared.relation.SetOperator.TheVariants.{Concat, Except, Intersect}
use Rattle.expr_tree.specs.Trees.{RelTree}
use Rattle.lexer.specs.declared.token.Token.{Token}
use Rattle.grammar.specs.Tokens.{reaching}
use Rattle.grammar.specs.Phrases.{Agree, IsOne}
use Rattle.grammar.specs.Scalars.{ScalarAt}
use Rattle.grammar.specs.Relations.{Reads, named, select, filter, set_operation, join, group, distinct, iterate, closure, operator_keyword, PairAt, ColumnAt, AggAt}
use Rattle.grammar.proofs.Tokens.{first_one, rest_one, some_one}
use Rattle.grammar.proofs.Scalars.{one_scalar}
use Rattle.grammar.proofs.Conditions.{one_condition}
use Rattle.grammar.proofs.Phrases.{one_list, one_column, one_pair, one_agg}

-- the set operator of a keyword
abbrev set_operator : Keyword → Option SetOperator
set_operator keyword.Concat = Some Concat
set_operator keyword.Except = Some Except
set_operator keyword.Intersect = Some Intersect
set_operator k = None

of_keyword : (w : SetOperator) → set_operator (operator_keyword w) ≡ Some w
of_keyword Concat = refl
of_keyword Except = refl
of_keyword Intersect = refl

pub one_operator : {w v : SetOperator} → operator_keyword w ≡ operator_keyword v → w ≡ v
one_operator {w = w} {v = v} e = some_one (sym (of_keyword w) ∙ (ap set_operator e ∙ of_keyword v))

-- the other keywords have no set operator
pub no_operator : {k : Keyword} (w : SetOperator) → set_operator k ≡ None → k ≡ operator_keyword w → ⊥
no_operator w n e = let f : None ≡ Some w = sym n ∙ (ap set_operator e ∙ of_keyword w) in absurd cc

pub one_reading : {text : List ℕ} {ts us vs : List Token} {x y : RelTree} {h k : ℕ} → Reads text ts x h us → Reads text ts y k vs → Agree x y h k us vs
one_reading (named d f) (named e g) = record { value = refl; height = refl; left = refl }
one_reading (named d f) (closure e c n i a b) = absurd (f c refl)
one_reading (closure e c n i a b) (named d f) = absurd (f c refl)
one_reading (closure {s = s} f c n i d r) (closure g a m j e t) =
    let a = one_reading d e in
    let b = one_reading r (rw (← rest_one a.left) at t) in
    let q = ap (λ (t : Token). reaching s t.span) (first_one b.left) in
    record { value = cc (a.value, b.value, q); height = cc (a.height, b.height); left = rest_one b.left }
one_reading (select {s = s} d r) (select e t) =
    let a = one_reading d e in
    let b = one_list ScalarAt one_scalar _ _ _ _ _ _ _ r (rw (← rest_one a.left) at t) in
    let q = ap (λ (t : Token). reaching s t.span) (first_one b.left) in
    record { value = cc (a.value, b.value, q); height = cc (a.height, b.height); left = rest_one b.left }
one_reading (filter {s = s} d r) (filter e t) =
    let a = one_reading d e in
    let b = one_condition _ _ _ _ _ _ _ r (rw (← rest_one a.left) at t) in
    let q = ap (λ (t : Token). reaching s t.span) (first_one b.left) in
    record { value = cc (a.value, b.value, q); height = cc (a.height, b.height); left = rest_one b.left }
one_reading (set_operation {w = w} {s = s} i d r) (set_operation {w = v} j e t) =
    let a = one_reading d e in
    let b = one_reading r (rw (← rest_one a.left) at t) in
    let q = ap (λ (t : Token). reaching s t.span) (first_one b.left) in
    let o : w ≡ v = one_operator (sym i ∙ j) in
    record { value = cc (a.value, b.value, q, o); height = cc (a.height, b.height); left = rest_one b.left }
one_reading (set_operation i d r) y = absurd (no_operator _ refl i)
one_reading x (set_operation i d r) = absurd (no_operator _ refl i)
one_reading (join {s = s} d r f) (join e t g) =
    let a = one_reading d e in
    let b = one_reading r (rw (← rest_one a.left) at t) in
    let c = one_list PairAt one_pair _ _ _ _ _ _ _ f (rw (← rest_one b.left) at g) in
    let q = ap (λ (t : Token). reaching s t.span) (first_one c.left) in
    record { value = cc (a.value, b.value, c.value, q); height = cc (a.height, b.height, c.height); left = rest_one c.left }
one_reading (group {s = s} d r f) (group e t g) =
    let a = one_reading d e in
    let b = one_list ColumnAt one_column _ _ _ _ _ _ _ r (rw (← rest_one a.left) at t) in
    let c = one_list AggAt one_agg _ _ _ _ _ _ _ f (rw (← rest_one b.left) at g) in
    let q = ap (λ (t : Token). reaching s t.span) (first_one c.left) in
    record { value = cc (a.value, b.value, c.value, q); height = cc (a.height, b.height, c.height); left = rest_one c.left }
one_reading (distinct {s = s} d) (distinct e) =
    let a = one_reading d e in
    let q = ap (λ (t : Token). reaching s t.span) (first_one a.left) in
    record { value = cc (a.value, q); height = cc a.height; left = rest_one a.left }
one_reading (iterate {s = s} n i d r) (iterate m j e t) =
    let a = one_reading d e in
    let b = one_reading r (rw (← rest_one a.left) at t) in
    let q = ap (λ (t : Token). reaching s t.span) (first_one b.left) in
    record { value = cc (a.value, b.value, q); height = cc (a.height, b.height); left = rest_one b.left }

pub one_relation : (text : List ℕ) → IsOne (Reads text)
one_relation text ts us vs x y h k d e = one_reading d e
