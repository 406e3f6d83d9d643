-- The canonical text of a condition reads as that condition.
use Rattle.std.proofs.Common.{◌≡◌, ℕ, suc, max, Bool, true, false, List, [], ◌∷◌, ◌++◌, refl, Some, None}
use Rattle.record_core.specs.declared.span.Span.{Span}
use Rattle.record_core.specs.declared.keyword.Keyword.TheVariants as keyword
use Rattle.expr_tree.specs.declared.condition.Comparison.{Comparison}
use Rattle.expr_tree.specs.declared.condition.Comparison.TheVariants as comparison
use Rattle.expr_tree.specs.declared.condition.Connective.{Connective}
use Rattle.expr_tree.specs.declared.condition.Connective.TheVariants.{And, Or}
use Rattle.expr_tree.specs.Trees.{ScalarTree, CondTree}
use Rattle.expr_tree.specs.Plain.{plain_scalar, plain_cond, plain_comparison}
use Rattle.semantics.specs.Query as query
use Rattle.lexer.specs.declared.token.Token.{Token}
use Rattle.lexer.specs.declared.token.TokenKind.TheVariants as kind
use Rattle.lexer.specs.declared.mark.Mark.TheVariants as sign
use Rattle.grammar.specs.declared.level.OperatorLevel.TheVariants.{Products, Sums}
use Rattle.grammar.specs.declared.level.ConnectiveLevel.{ConnectiveLevel}
use Rattle.grammar.specs.declared.level.ConnectiveLevel.TheVariants.{Conjunctions, Disjunctions}
use Rattle.grammar.specs.Tokens.{reaching, mark_at, keyword_at}
use Rattle.grammar.specs.Scalars as scalar
use Rattle.grammar.specs.Scalars.{operator, NoOperator}
use Rattle.grammar.specs.Conditions.{Reads, Square, Single, Chain, Rest, square, negated, bracketed, compared, chain, stop, more, connective, operand, compares, NoConnective}
use Rattle.writer.specs.declared.rank.CondRank.{CondRank}
use Rattle.writer.specs.declared.rank.CondRank.TheVariants.{Disjunction, Conjunction, Test}
use Rattle.writer.specs.Pieces.{of_mark, of_keyword, space, spaced, in_square}
use Rattle.writer.specs.Scalars.{scalar_pieces, raised}
use Rattle.writer.specs.Conditions.{is_below, cond_rank, sign_of, cond_pieces, cond_height}
use Rattle.writer.specs.Sources.{IsScalarSource, IsCondSource}
use Rattle.writer.proofs.PieceTokens.{Says, cut}
use Rattle.writer.proofs.Scalars as scalars

abbrev pub Completes : ConnectiveLevel → List Token → CondTree → Span → ℕ → List Token → Type 0
Completes l ts a e h us = (t : CondTree) (f : Span) (n : ℕ) (ws : List Token) → Reads (Rest l a e h) us t f n ws → Reads (Chain l) ts t f n ws

abbrev pub Reading : CondRank → List Token → CondTree → Span → ℕ → List Token → Type 0
Reading Disjunction ts a e h us = Completes Disjunctions ts a e h us
Reading Conjunction ts a e h us = Completes Conjunctions ts a e h us
Reading Test ts a e h us = Reads Single ts a e h us

pub record Claim (r : CondRank) (t : CondTree) (n : ℕ) (ts us : List Token) : Type 0 where
  pub tree : CondTree
  pub extent : Span
  pub same : plain_cond tree ≡ plain_cond t
  pub reading : Reading r ts tree extent n us

-- no operator of scalars follows
abbrev pub Free : List Token → Type 0
Free us = NoOperator Products us × NoOperator Sums us

-- a disjunction is followed by no `and`
abbrev pub Follows : CondRank → List Token → Type 0
Follows Disjunction us = NoConnective Conjunctions us
Follows r us = Unit {0}

down_test : {t : CondTree} {n : ℕ} {ts us : List Token} → Claim Test t n ts us → Claim Conjunction t n ts us
down_test c = record { tree = c.tree; extent = c.extent; same = c.same; reading = λ t f n ws r. chain c.reading r }

down_conjunction : {t : CondTree} {n : ℕ} {ts us : List Token} → NoConnective Conjunctions us → Claim Conjunction t n ts us → Claim Disjunction t n ts us
down_conjunction h c = record { tree = c.tree; extent = c.extent; same = c.same; reading = λ t f n ws r. chain (c.reading _ _ _ _ (stop h)) r }

pub lower : (r s : CondRank) {t : CondTree} {n : ℕ} {ts us : List Token} → is_below r s ≡ false → Follows s us → Claim r t n ts us → Claim s t n ts us
lower Disjunction Disjunction e h c = c
lower Disjunction Conjunction e h c = absurd cc
lower Disjunction Test e h c = absurd cc
lower Conjunction Disjunction e h c = down_conjunction h c
lower Conjunction Conjunction e h c = c
lower Conjunction Test e h c = absurd cc
lower Test Disjunction e h c = down_conjunction h (down_test c)
lower Test Conjunction e h c = down_test c
lower Test Test e h c = c

follows : (r s : CondRank) (us : List Token) → is_below r s ≡ false → Follows s us → Follows r us
follows Disjunction Disjunction us e h = h
follows Disjunction Conjunction us e h = absurd cc
follows Disjunction Test us e h = absurd cc
follows Conjunction s us e h = tt
follows Test s us e h = tt

closing : (r : CondRank) (c : Token) (us : List Token) → connective Conjunctions c.kind ≡ None → Follows r (c ∷ us)
closing Disjunction c us e = e
closing Conjunction c us e = tt
closing Test c us e = tt

not_below_any : (r : CondRank) → is_below r Disjunction ≡ false
not_below_any Disjunction = refl
not_below_any Conjunction = refl
not_below_any Test = refl

not_below : (r : CondRank) → is_below Test r ≡ false
not_below Disjunction = refl
not_below Conjunction = refl
not_below Test = refl

pub record Whole (t : CondTree) (n : ℕ) (ts us : List Token) : Type 0 where
  pub tree : CondTree
  pub extent : Span
  pub same : plain_cond tree ≡ plain_cond t
  pub reads : Reads (Chain Disjunctions) ts tree extent n us

whole : {t : CondTree} {n : ℕ} {ts us : List Token} → NoConnective Disjunctions us → Claim Disjunction t n ts us → Whole t n ts us
whole h c = record { tree = c.tree; extent = c.extent; same = c.same; reads = c.reading _ _ _ _ (stop h) }

abbrev pub Writes : List ℕ → CondTree → Type 0
Writes text t = (ts us : List Token) → Says text (cond_pieces t) ts us → Free us → Follows (cond_rank t) us → Claim (cond_rank t) t (cond_height t) ts us

pub record Squared (t : CondTree) (n : ℕ) (ts us : List Token) : Type 0 where
  pub tree : CondTree
  pub extent : Span
  pub same : plain_cond tree ≡ plain_cond t
  pub reads : Reads Square ts tree extent n us

close_up : {s r e : Span} {t : CondTree} {h : ℕ} {ts vs zs us : List Token} → ts ≡ mark_at sign.OpenSquare s ∷ vs → zs ≡ us → Reads (Chain Disjunctions) vs t e h (mark_at sign.CloseSquare r ∷ zs) → Reads Square ts t (reaching s r) (suc h) us
close_up i j d = rw (i, ← j) (square d)

in_squares : (text : List ℕ) (t : CondTree) (ts us : List Token) → Writes text t → Says text (in_square true (cond_pieces t)) ts us → Squared t (suc (cond_height t)) ts us
in_squares text t ts us w s =
    let c = cut (cond_pieces t) (of_mark sign.CloseSquare ∷ []) s.4 in
    let z = c.second in
    let k = w s.1 (mark_at sign.CloseSquare z.0 ∷ z.1) (rw z.2 at c.first) (refl, refl) (closing (cond_rank t) (mark_at sign.CloseSquare z.0) z.1 refl) in
    let v = whole refl (lower (cond_rank t) Disjunction (not_below_any (cond_rank t)) refl k) in
    record { tree = v.tree; extent = reaching s.0 z.0; same = v.same; reads = close_up s.2 z.4 v.reads }

alone : {t : CondTree} {n : ℕ} {ts us : List Token} → Squared t n ts us → Claim Test t n ts us
alone c = record { tree = c.tree; extent = c.extent; same = c.same; reading = bracketed c.reads }

operand_claim : (text : List ℕ) (t : CondTree) (least : CondRank) (b : Bool) (ts us : List Token) → is_below (cond_rank t) least ≡ b → Writes text t → Says text (in_square b (cond_pieces t)) ts us → Free us → Follows least us → Claim least t (raised b (cond_height t)) ts us
operand_claim text t least true ts us e w s i f = lower Test least (not_below least) f (alone (in_squares text t ts us w s))
operand_claim text t least false ts us e w s i f = lower (cond_rank t) least e f (w ts us s i (follows (cond_rank t) least us e f))

more_here : {l : ConnectiveLevel} {o : Connective} {a b t : CondTree} {x : Token} {e f g : Span} {h k n : ℕ} {us vs ws zs : List Token} → us ≡ x ∷ vs → connective l x.kind ≡ Some o → Reads (operand l) vs b f k ws → Reads (Rest l (CondTree.logical (reaching e f) o a b) (reaching e f) (suc (max h k))) ws t g n zs → Reads (Rest l a e h) us t g n zs
more_here i j d r = rw i (more j d r)

free_before : (x : Token) (us vs : List Token) → us ≡ x ∷ vs → operator Products x.kind ≡ None → operator Sums x.kind ≡ None → Free us
free_before x us vs e p q = rw e (p, q)

none_before : (x : Token) (us vs : List Token) → us ≡ x ∷ vs → connective Conjunctions x.kind ≡ None → NoConnective Conjunctions us
none_before x us vs e p = rw e p

and_claim : (text : List ℕ) (s : Span) (a b : CondTree) → Writes text a → Writes text b → Writes text (CondTree.logical s And a b)
and_claim text s a b wa wb ts us h i f =
    let c = cut (in_square (is_below (cond_rank a) Conjunction) (cond_pieces a)) (space ∷ of_keyword keyword.And ∷ space ∷ in_square (is_below (cond_rank b) Test) (cond_pieces b)) h in
    let z = c.second in
    let x = operand_claim text a Conjunction (is_below (cond_rank a) Conjunction) ts c.vs refl wa c.first (free_before (keyword_at keyword.And z.0) c.vs z.1 z.2 refl refl) tt in
    let y = operand_claim text b Test (is_below (cond_rank b) Test) z.1 us refl wb z.4 i tt in
    let o : connective Conjunctions (kind.Keyword keyword.And) ≡ Some And = refl in
    record {
      tree = CondTree.logical (reaching x.extent y.extent) And x.tree y.tree;
      extent = reaching x.extent y.extent;
      same = cc (x.same, y.same);
      reading = λ t g n ws r. x.reading _ _ _ _ (more_here z.2 o y.reading r);
    }

or_claim : (text : List ℕ) (s : Span) (a b : CondTree) → Writes text a → Writes text b → Writes text (CondTree.logical s Or a b)
or_claim text s a b wa wb ts us h i f =
    let c = cut (in_square (is_below (cond_rank a) Disjunction) (cond_pieces a)) (space ∷ of_keyword keyword.Or ∷ space ∷ in_square (is_below (cond_rank b) Conjunction) (cond_pieces b)) h in
    let z = c.second in
    let x = operand_claim text a Disjunction (is_below (cond_rank a) Disjunction) ts c.vs refl wa c.first (free_before (keyword_at keyword.Or z.0) c.vs z.1 z.2 refl refl) (none_before (keyword_at keyword.Or z.0) c.vs z.1 z.2 refl) in
    let y = operand_claim text b Conjunction (is_below (cond_rank b) Conjunction) z.1 us refl wb z.4 i tt in
    let o : connective Disjunctions (kind.Keyword keyword.Or) ≡ Some Or = refl in
    record {
      tree = CondTree.logical (reaching x.extent y.extent) Or x.tree y.tree;
      extent = reaching x.extent y.extent;
      same = cc (x.same, y.same);
      reading = λ t g n ws r. x.reading _ _ _ _ (more_here z.2 o (y.reading _ _ _ _ (stop f)) r);
    }

not_claim : (text : List ℕ) (s : Span) (a : CondTree) → Writes text a → Writes text (CondTree.negate s a)
not_claim text s a w ts us h i f =
    let x = in_squares text a h.1 us w h.4 in
    record {
      tree = CondTree.negate (reaching h.0 x.extent) x.tree;
      extent = reaching h.0 x.extent;
      same = cc x.same;
      reading = rw h.2 (negated x.reads);
    }

sign_compares : (o : Comparison) → compares (kind.Mark (sign_of o)) ≡ Some o
sign_compares comparison.Equal = refl
sign_compares comparison.NotEqual = refl
sign_compares comparison.Less = refl
sign_compares comparison.AtMost = refl
sign_compares comparison.Greater = refl
sign_compares comparison.AtLeast = refl

sign_free : (o : Comparison) → (operator Products (kind.Mark (sign_of o)) ≡ None) × (operator Sums (kind.Mark (sign_of o)) ≡ None)
sign_free comparison.Equal = (refl, refl)
sign_free comparison.NotEqual = (refl, refl)
sign_free comparison.Less = (refl, refl)
sign_free comparison.AtMost = (refl, refl)
sign_free comparison.Greater = (refl, refl)
sign_free comparison.AtLeast = (refl, refl)

compared_here : {a b : ScalarTree} {o : Comparison} {x : Token} {e f : Span} {h k : ℕ} {ts zs us vs : List Token} → scalar.Reads (scalar.Chain Sums) ts a e h zs → zs ≡ x ∷ us → compares x.kind ≡ Some o → scalar.Reads (scalar.Chain Sums) us b f k vs → Reads Single ts (CondTree.compare (reaching e f) o a b) (reaching e f) (suc (max h k)) vs
compared_here d e i q = compared (rw e at d) i q

same_sides : (o : Comparison) (a b c d : ScalarTree) → plain_scalar a ≡ plain_scalar c → plain_scalar b ≡ plain_scalar d → query.Cond.compare (plain_comparison o) (plain_scalar a) (plain_scalar b) ≡ query.Cond.compare (plain_comparison o) (plain_scalar c) (plain_scalar d)
same_sides o a b c d e f = rw (e, f) refl

compare_claim : (text : List ℕ) (s : Span) (o : Comparison) (a b : ScalarTree) → IsScalarSource a → IsScalarSource b → Writes text (CondTree.compare s o a b)
compare_claim text s o a b wa wb ts us h i f =
    let c = cut (scalar_pieces a) (spaced (sign_of o) ++ scalar_pieces b) h in
    let z = c.second in
    let p = free_before (mark_at (sign_of o) z.0) c.vs z.1 z.2 (sign_free o).0 (sign_free o).1 in
    let x = scalars.reads_back text a wa ts c.vs c.first p.0 p.1 in
    let y = scalars.reads_back text b wb z.1 us z.4 i.0 i.1 in
    record {
      tree = CondTree.compare (reaching x.extent y.extent) o x.tree y.tree;
      extent = reaching x.extent y.extent;
      same = same_sides o x.tree y.tree a b x.same y.same;
      reading = compared_here x.reads z.2 (sign_compares o) y.reads;
    }

pub writes : (text : List ℕ) (t : CondTree) → IsCondSource t → Writes text t
writes text (CondTree.compare s o a b) w = compare_claim text s o a b w.0 w.1
writes text (CondTree.logical s And a b) w = and_claim text s a b (writes text a w.0) (writes text b w.1)
writes text (CondTree.logical s Or a b) w = or_claim text s a b (writes text a w.0) (writes text b w.1)
writes text (CondTree.negate s a) w = not_claim text s a (writes text a w)

-- the canonical text of a condition reads as it, spans aside
pub reads_back : (text : List ℕ) (t : CondTree) → IsCondSource t → (ts us : List Token) → Says text (cond_pieces t) ts us → Free us → NoConnective Conjunctions us → NoConnective Disjunctions us → Whole t (cond_height t) ts us
reads_back text t w ts us s i p q = whole q (lower (cond_rank t) Disjunction (not_below_any (cond_rank t)) p (writes text t w ts us s i (follows (cond_rank t) Disjunction us (not_below_any (cond_rank t)) p)))
