-- The canonical text of a scalar reads as that scalar.
use Rattle.std.proofs.Common.{◌≡◌, ℕ, suc, max, ℤ, pos, negsuc, Bool, true, false, List, [], ◌∷◌, ◌++◌, refl, subst, Some, None}
use Rattle.record_core.specs.declared.span.Span.{Span}
use Rattle.expr_tree.specs.declared.scalar.Operator.{Operator}
use Rattle.expr_tree.specs.declared.scalar.Operator.TheVariants.{Add, Subtract, Multiply}
use Rattle.expr_tree.specs.Trees.{ScalarTree}
use Rattle.expr_tree.specs.Plain.{plain_scalar, plain_operator}
use Rattle.lexer.specs.declared.token.Token.{Token}
use Rattle.lexer.specs.declared.token.TokenKind.TheVariants as kind
use Rattle.lexer.specs.declared.mark.Mark.TheVariants as sign
use Rattle.grammar.specs.declared.level.OperatorLevel.{OperatorLevel}
use Rattle.grammar.specs.declared.level.OperatorLevel.TheVariants.{Products, Sums}
use Rattle.grammar.specs.Tokens.{reaching, mark_at}
use Rattle.grammar.specs.Scalars.{Reads, Atom, Unary, Chain, Rest, number, column, bracket, minus, plain, chain, stop, more, operator, operand, NoOperator}
use Rattle.writer.specs.declared.rank.ScalarRank.{ScalarRank}
use Rattle.writer.specs.declared.rank.ScalarRank.TheVariants.{Sum, Product, Negation, Single}
use Rattle.writer.specs.Pieces.{of_mark, spaced, in_round}
use Rattle.writer.specs.Scalars.{is_below, rank_of, right_of, scalar_rank, sign_of, scalar_pieces, raised, scalar_height}
use Rattle.writer.specs.Sources.{IsLiteral, IsScalarSource}
use Rattle.writer.proofs.PieceTokens.{Says, cut}

-- what completes the rest of a chain completes the whole
abbrev pub Completes : OperatorLevel → List Token → ScalarTree → Span → ℕ → List Token → Type 0
Completes l ts a e h us = (t : ScalarTree) (f : Span) (n : ℕ) (ws : List Token) → Reads (Rest l a e h) us t f n ws → Reads (Chain l) ts t f n ws

abbrev pub Reading : ScalarRank → List Token → ScalarTree → Span → ℕ → List Token → Type 0
Reading Sum ts a e h us = Completes Sums ts a e h us
Reading Product ts a e h us = Completes Products ts a e h us
Reading Negation ts a e h us = Reads Unary ts a e h us
Reading Single ts a e h us = Reads Atom ts a e h us

pub record Claim (r : ScalarRank) (t : ScalarTree) (n : ℕ) (ts us : List Token) : Type 0 where
  pub tree : ScalarTree
  pub extent : Span
  pub same : plain_scalar tree ≡ plain_scalar t
  pub reading : Reading r ts tree extent n us

-- a sum is followed by no `*`
abbrev pub Follows : ScalarRank → List Token → Type 0
Follows Sum us = NoOperator Products us
Follows r us = Unit {0}

down_single : {t : ScalarTree} {n : ℕ} {ts us : List Token} → Claim Single t n ts us → Claim Negation t n ts us
down_single c = record { tree = c.tree; extent = c.extent; same = c.same; reading = plain c.reading }

down_negation : {t : ScalarTree} {n : ℕ} {ts us : List Token} → Claim Negation t n ts us → Claim Product t n ts us
down_negation c = record { tree = c.tree; extent = c.extent; same = c.same; reading = λ t f n ws r. chain c.reading r }

down_product : {t : ScalarTree} {n : ℕ} {ts us : List Token} → NoOperator Products us → Claim Product t n ts us → Claim Sum t n ts us
down_product h c = record { tree = c.tree; extent = c.extent; same = c.same; reading = λ t f n ws r. chain (c.reading _ _ _ _ (stop h)) r }

pub lower : (r s : ScalarRank) {t : ScalarTree} {n : ℕ} {ts us : List Token} → is_below r s ≡ false → Follows s us → Claim r t n ts us → Claim s t n ts us
lower Sum Sum e h c = c
lower Sum Product e h c = absurd cc
lower Sum Negation e h c = absurd cc
lower Sum Single e h c = absurd cc
lower Product Sum e h c = down_product h c
lower Product Product e h c = c
lower Product Negation e h c = absurd cc
lower Product Single e h c = absurd cc
lower Negation Sum e h c = down_product h (down_negation c)
lower Negation Product e h c = down_negation c
lower Negation Negation e h c = c
lower Negation Single e h c = absurd cc
lower Single Sum e h c = down_product h (down_negation (down_single c))
lower Single Product e h c = down_negation (down_single c)
lower Single Negation e h c = down_single c
lower Single Single e h c = c

-- the same follows where the place asks for no less
follows : (r s : ScalarRank) (us : List Token) → is_below r s ≡ false → Follows s us → Follows r us
follows Sum Sum us e h = h
follows Sum Product us e h = absurd cc
follows Sum Negation us e h = absurd cc
follows Sum Single us e h = absurd cc
follows Product s us e h = tt
follows Negation s us e h = tt
follows Single s us e h = tt

closing : (r : ScalarRank) (c : Token) (us : List Token) → operator Products c.kind ≡ None → Follows r (c ∷ us)
closing Sum c us e = e
closing Product c us e = tt
closing Negation c us e = tt
closing Single c us e = tt

not_below_sum : (r : ScalarRank) → is_below r Sum ≡ false
not_below_sum Sum = refl
not_below_sum Product = refl
not_below_sum Negation = refl
not_below_sum Single = refl

not_below : (r : ScalarRank) → is_below Single r ≡ false
not_below Sum = refl
not_below Product = refl
not_below Negation = refl
not_below Single = refl

-- the whole scalar, where no operator follows
pub record Whole (t : ScalarTree) (n : ℕ) (ts us : List Token) : Type 0 where
  pub tree : ScalarTree
  pub extent : Span
  pub same : plain_scalar tree ≡ plain_scalar t
  pub reads : Reads (Chain Sums) ts tree extent n us

whole : {t : ScalarTree} {n : ℕ} {ts us : List Token} → NoOperator Sums us → Claim Sum t n ts us → Whole t n ts us
whole h c = record { tree = c.tree; extent = c.extent; same = c.same; reads = c.reading _ _ _ _ (stop h) }

-- what the induction says of an operand
abbrev pub Writes : List ℕ → ScalarTree → Type 0
Writes text t = (ts us : List Token) → Says text (scalar_pieces t) ts us → Follows (scalar_rank t) us → Claim (scalar_rank t) t (scalar_height t) ts us

close_up : {s r e : Span} {t : ScalarTree} {h : ℕ} {ts vs zs us : List Token} → ts ≡ mark_at sign.OpenRound s ∷ vs → zs ≡ us → Reads (Chain Sums) vs t e h (mark_at sign.CloseRound r ∷ zs) → Reads Atom ts t (reaching s r) (suc h) us
close_up i j d = rw (i, ← j) (bracket d)

in_brackets : (text : List ℕ) (t : ScalarTree) (ts us : List Token) → Writes text t → Says text (in_round true (scalar_pieces t)) ts us → Claim Single t (suc (scalar_height t)) ts us
in_brackets text t ts us w s =
    let c = cut (scalar_pieces t) (of_mark sign.CloseRound ∷ []) s.4 in
    let z = c.second in
    let q = w s.1 (mark_at sign.CloseRound z.0 ∷ z.1) (rw z.2 at c.first) (closing (scalar_rank t) (mark_at sign.CloseRound z.0) z.1 refl) in
    let v = whole refl (lower (scalar_rank t) Sum (not_below_sum (scalar_rank t)) refl q) in
    record { tree = v.tree; extent = reaching s.0 z.0; same = v.same; reading = close_up s.2 z.4 v.reads }

operand_claim : (text : List ℕ) (t : ScalarTree) (least : ScalarRank) (b : Bool) (ts us : List Token) → is_below (scalar_rank t) least ≡ b → Writes text t → Says text (in_round b (scalar_pieces t)) ts us → Follows least us → Claim least t (raised b (scalar_height t)) ts us
operand_claim text t least true ts us e w s f = lower Single least (not_below least) f (in_brackets text t ts us w s)
operand_claim text t least false ts us e w s f = lower (scalar_rank t) least e f (w ts us s (follows (scalar_rank t) least us e f))

more_here : {l : OperatorLevel} {o : Operator} {a b t : ScalarTree} {x : Token} {e f g : Span} {h k n : ℕ} {us vs ws zs : List Token} → us ≡ x ∷ vs → operator l x.kind ≡ Some o → Reads (operand l) vs b f k ws → Reads (Rest l (ScalarTree.binary (reaching e f) o a b) (reaching e f) (suc (max h k))) ws t g n zs → Reads (Rest l a e h) us t g n zs
more_here i j d r = rw i (more j d r)

sum_follows : (r : ScalarRank) (x : Token) (vs ws : List Token) → r ≡ Sum → vs ≡ x ∷ ws → operator Products x.kind ≡ None → Follows r vs
sum_follows r x vs ws e i h = rw (e, i) h

product_follows : (r : ScalarRank) (us : List Token) → r ≡ Product → Follows r us
product_follows r us e = rw e tt

-- a product
times_claim : (text : List ℕ) (s : Span) (a b : ScalarTree) → Writes text a → Writes text b → Writes text (ScalarTree.binary s Multiply a b)
times_claim text s a b wa wb ts us h f =
    let c = cut (in_round (is_below (scalar_rank a) Product) (scalar_pieces a)) (spaced sign.Star ++ in_round (is_below (scalar_rank b) Negation) (scalar_pieces b)) h in
    let z = c.second in
    let x = operand_claim text a Product (is_below (scalar_rank a) Product) ts c.vs refl wa c.first tt in
    let y = operand_claim text b Negation (is_below (scalar_rank b) Negation) z.1 us refl wb z.4 tt in
    let o : operator Products (kind.Mark sign.Star) ≡ Some Multiply = refl in
    record {
      tree = ScalarTree.binary (reaching x.extent y.extent) Multiply x.tree y.tree;
      extent = reaching x.extent y.extent;
      same = cc (x.same, y.same);
      reading = λ t g n ws r. x.reading _ _ _ _ (more_here z.2 o y.reading r);
    }

same_operands : (o : Operator) (a b c d : ScalarTree) → plain_scalar a ≡ plain_scalar c → plain_scalar b ≡ plain_scalar d → plain_operator o (plain_scalar a) (plain_scalar b) ≡ plain_operator o (plain_scalar c) (plain_scalar d)
same_operands o a b c d e f = rw (e, f) refl

-- a sum or a difference
plus_claim : (text : List ℕ) (s : Span) (o : Operator) (a b : ScalarTree) → rank_of o ≡ Sum → right_of o ≡ Product → operator Products (kind.Mark (sign_of o)) ≡ None → operator Sums (kind.Mark (sign_of o)) ≡ Some o → Writes text a → Writes text b → (ts us : List Token) → Says text (scalar_pieces (ScalarTree.binary s o a b)) ts us → NoOperator Products us → Claim Sum (ScalarTree.binary s o a b) (scalar_height (ScalarTree.binary s o a b)) ts us
plus_claim text s o a b e i none some wa wb ts us h f =
    let c = cut (in_round (is_below (scalar_rank a) (rank_of o)) (scalar_pieces a)) (spaced (sign_of o) ++ in_round (is_below (scalar_rank b) (right_of o)) (scalar_pieces b)) h in
    let z = c.second in
    let left : Follows (rank_of o) c.vs = sum_follows (rank_of o) (mark_at (sign_of o) z.0) c.vs z.1 e z.2 none in
    let x0 = operand_claim text a (rank_of o) (is_below (scalar_rank a) (rank_of o)) ts c.vs refl wa c.first left in
    let y0 = operand_claim text b (right_of o) (is_below (scalar_rank b) (right_of o)) z.1 us refl wb z.4 (product_follows (right_of o) us i) in
    let x : Claim Sum a (raised (is_below (scalar_rank a) (rank_of o)) (scalar_height a)) ts c.vs = subst (λ r. Claim r a (raised (is_below (scalar_rank a) (rank_of o)) (scalar_height a)) ts c.vs) e x0 in
    let y : Claim Product b (raised (is_below (scalar_rank b) (right_of o)) (scalar_height b)) z.1 us = subst (λ r. Claim r b (raised (is_below (scalar_rank b) (right_of o)) (scalar_height b)) z.1 us) i y0 in
    record {
      tree = ScalarTree.binary (reaching x.extent y.extent) o x.tree y.tree;
      extent = reaching x.extent y.extent;
      same = same_operands o x.tree y.tree a b x.same y.same;
      reading = λ t g n ws r. x.reading _ _ _ _ (more_here z.2 some (y.reading _ _ _ _ (stop f)) r);
    }

minus_claim : (text : List ℕ) (s : Span) (a : ScalarTree) → Writes text a → Writes text (ScalarTree.negate s a)
minus_claim text s a w ts us h f =
    let x = operand_claim text a Single (is_below (scalar_rank a) Single) h.1 us refl w h.4 tt in
    record {
      tree = ScalarTree.negate (reaching h.0 x.extent) x.tree;
      extent = reaching h.0 x.extent;
      same = cc x.same;
      reading = rw h.2 (minus x.reading);
    }

literal_claim : (text : List ℕ) (s : Span) (z : ℤ) → IsLiteral z → Writes text (ScalarTree.literal s z)
literal_claim text s (pos n) w ts us h f = record { tree = ScalarTree.literal h.0 (pos n); extent = h.0; same = refl; reading = rw (h.2, h.4) (number w) }
literal_claim text s (negsuc n) w ts us h f = absurd w

column_claim : (text : List ℕ) (s : Span) (n : ℕ) → Writes text (ScalarTree.column s n)
column_claim text s n ts us h f = record { tree = ScalarTree.column h.0 n; extent = h.0; same = refl; reading = rw (h.2, h.4) column }

pub writes : (text : List ℕ) (t : ScalarTree) → IsScalarSource t → Writes text t
writes text (ScalarTree.literal s z) w = literal_claim text s z w
writes text (ScalarTree.column s n) w = column_claim text s n
writes text (ScalarTree.binary s Multiply a b) w = times_claim text s a b (writes text a w.0) (writes text b w.1)
writes text (ScalarTree.binary s Add a b) w = λ ts us h f. plus_claim text s Add a b refl refl refl refl (writes text a w.0) (writes text b w.1) ts us h f
writes text (ScalarTree.binary s Subtract a b) w = λ ts us h f. plus_claim text s Subtract a b refl refl refl refl (writes text a w.0) (writes text b w.1) ts us h f
writes text (ScalarTree.negate s a) w = minus_claim text s a (writes text a w)

-- the canonical text of a scalar reads as it, spans aside
pub reads_back : (text : List ℕ) (t : ScalarTree) → IsScalarSource t → (ts us : List Token) → Says text (scalar_pieces t) ts us → NoOperator Products us → NoOperator Sums us → Whole t (scalar_height t) ts us
reads_back text t w ts us s p q = whole q (lower (scalar_rank t) Sum (not_below_sum (scalar_rank t)) p (writes text t w ts us s (follows (scalar_rank t) Sum us (not_below_sum (scalar_rank t)) p)))
