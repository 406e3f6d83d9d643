-- What is read is a source: its canonical text is no higher than the text that was read.
use Rattle.std.proofs.Common.{◌≡◌, ◌≤◌, ◌<◌, ◌^◌, ℕ, suc, max, List, [], ◌∷◌, Bool, true, false, Some, refl, arith}
use Rattle.record_core.specs.declared.span.Span.{Span}
use Rattle.record_core.specs.declared.keyword.Keyword.TheVariants as keyword
use Rattle.expr_tree.specs.declared.scalar.Operator.{Operator}
use Rattle.expr_tree.specs.declared.scalar.Operator.TheVariants.{Add, Subtract, Multiply}
use Rattle.expr_tree.specs.declared.condition.Connective.{Connective}
use Rattle.expr_tree.specs.declared.condition.Connective.TheVariants.{And, Or}
use Rattle.expr_tree.specs.Trees.{ScalarTree, CondTree}
use Rattle.lexer.specs.declared.token.Token.{Token}
use Rattle.lexer.specs.declared.token.TokenKind.{TokenKind}
use Rattle.lexer.specs.declared.token.TokenKind.TheVariants as kind
use Rattle.lexer.specs.declared.mark.Mark.TheVariants as sign
use Rattle.grammar.specs.declared.level.OperatorLevel.{OperatorLevel}
use Rattle.grammar.specs.declared.level.OperatorLevel.TheVariants.{Products, Sums}
use Rattle.grammar.specs.declared.level.ConnectiveLevel.{ConnectiveLevel}
use Rattle.grammar.specs.declared.level.ConnectiveLevel.TheVariants.{Conjunctions, Disjunctions}
use Rattle.grammar.specs.Scalars as scalar
use Rattle.grammar.specs.Scalars.{operator}
use Rattle.grammar.specs.Conditions as condition
use Rattle.grammar.specs.Conditions.{connective}
use Rattle.writer.specs.declared.rank.ScalarRank.{ScalarRank}
use Rattle.writer.specs.declared.rank.ScalarRank.TheVariants.{Sum, Product, Negation, Single}
use Rattle.writer.specs.declared.rank.CondRank.{CondRank}
use Rattle.writer.specs.declared.rank.CondRank.TheVariants.{Disjunction, Conjunction, Test}
use Rattle.writer.specs.Scalars as scalars
use Rattle.writer.specs.Scalars.{nowhere, raised, scalar_rank, scalar_height}
use Rattle.writer.specs.Conditions as conditions
use Rattle.writer.specs.Conditions.{cond_rank, cond_height}
use Rattle.writer.specs.Sources.{IsScalarSource, IsCondSource}

abbrev pub IsSmall : TokenKind → Type 0
IsSmall (kind.Column n) = n < 2 ^ 63
IsSmall kind.Name = Unit {0}
IsSmall (kind.Number n) = Unit {0}
IsSmall (kind.Mark m) = Unit {0}
IsSmall (kind.Keyword k) = Unit {0}

-- no column among the tokens is too large
abbrev pub Small : List Token → Type 0
Small [] = Unit {0}
Small (t ∷ ts) = IsSmall t.kind × Small ts

raised_more : (b : Bool) (n : ℕ) → raised b n ≤ suc n
raised_more true n = omega arith
raised_more false n = omega arith

raised_less : (b : Bool) (n : ℕ) → n ≤ raised b n
raised_less true n = omega arith
raised_less false n = omega arith

raised_none : (b : Bool) (n h : ℕ) → b ≡ false → n ≤ h → raised b n ≤ h
raised_none b n h e le = rw e le

-- what each part is at least
abbrev pub level_rank : OperatorLevel → ScalarRank
level_rank Products = Product
level_rank Sums = Sum

abbrev pub least : scalar.Part → ScalarRank
least scalar.Atom = Single
least scalar.Unary = Negation
least (scalar.Chain l) = level_rank l
least (scalar.Rest l a e h) = level_rank l

abbrev pub Low : ScalarRank → ScalarTree → ℕ → Type 0
Low r t h = raised (scalars.is_below (scalar_rank t) r) (scalar_height t) ≤ h

pub record Scalar (r : ScalarRank) (t : ScalarTree) (h : ℕ) (us : List Token) : Type 0 where
  pub source : IsScalarSource t
  pub low : Low r t h
  pub rest : Small us

-- of the rest of a chain: what comes before it
abbrev pub Given : scalar.Part → Type 0
Given scalar.Atom = Unit {0}
Given scalar.Unary = Unit {0}
Given (scalar.Chain l) = Unit {0}
Given (scalar.Rest l a e h) = IsScalarSource a × Low (level_rank l) a h

single_negation : (r : ScalarRank) (n : ℕ) → raised (scalars.is_below r Negation) n ≤ raised (scalars.is_below r Single) n
single_negation Sum n = omega arith
single_negation Product n = omega arith
single_negation Negation n = omega arith
single_negation Single n = omega arith

negation_product : (r : ScalarRank) (n : ℕ) → raised (scalars.is_below r Product) n ≤ raised (scalars.is_below r Negation) n
negation_product Sum n = omega arith
negation_product Product n = omega arith
negation_product Negation n = omega arith
negation_product Single n = omega arith

product_sum : (r : ScalarRank) (n : ℕ) → raised (scalars.is_below r Sum) n ≤ raised (scalars.is_below r Product) n
product_sum Sum n = omega arith
product_sum Product n = omega arith
product_sum Negation n = omega arith
product_sum Single n = omega arith

below_sum : (r : ScalarRank) → scalars.is_below r Sum ≡ false
below_sum Sum = refl
below_sum Product = refl
below_sum Negation = refl
below_sum Single = refl

not_below_itself : (r : ScalarRank) → scalars.is_below r r ≡ false
not_below_itself Sum = refl
not_below_itself Product = refl
not_below_itself Negation = refl
not_below_itself Single = refl

-- the first operand of a chain
abbrev operand_given : (l : OperatorLevel) (a : ScalarTree) (h : ℕ) → Low (least (scalar.operand l)) a h → Low (level_rank l) a h
operand_given Products a h p = let q = negation_product (scalar_rank a) (scalar_height a) in omega arith
operand_given Sums a h p = let q = product_sum (scalar_rank a) (scalar_height a) in omega arith

level_of : (l : OperatorLevel) (k : TokenKind) (o : Operator) → operator l k ≡ Some o → (scalars.rank_of o ≡ level_rank l) × (scalars.right_of o ≡ least (scalar.operand l))
level_of Products (kind.Mark sign.Star) o e = let q : Multiply ≡ o = cc in rw (← q) (refl, refl)
level_of Sums (kind.Mark sign.Plus) o e = let q : Add ≡ o = cc in rw (← q) (refl, refl)
level_of Sums (kind.Mark sign.Minus) o e = let q : Subtract ≡ o = cc in rw (← q) (refl, refl)
level_of l k o e = absurd cc

more_low : (l : OperatorLevel) (s : Span) (o : Operator) (a b : ScalarTree) (h k : ℕ) → scalars.rank_of o ≡ level_rank l → scalars.right_of o ≡ least (scalar.operand l) → Low (level_rank l) a h → Low (least (scalar.operand l)) b k → Low (level_rank l) (ScalarTree.binary s o a b) (suc (max h k))
more_low l s o a b h k e f p q =
    let x : Low (scalars.rank_of o) a h = rw e p in
    let y : Low (scalars.right_of o) b k = rw f q in
    let n : scalars.is_below (scalars.rank_of o) (level_rank l) ≡ false = rw e (not_below_itself (level_rank l)) in
    raised_none (scalars.is_below (scalars.rank_of o) (level_rank l)) (scalar_height (ScalarTree.binary s o a b)) (suc (max h k)) n (omega arith)

pub from_scalar : {p : scalar.Part} {t : ScalarTree} {e : Span} {h : ℕ} {ts us : List Token} → scalar.Reads p ts t e h us → Small ts → Given p → Scalar (least p) t h us
from_scalar (scalar.number w) s g = record { source = w; low = omega arith; rest = s.1 }
from_scalar scalar.column s g = record { source = s.0; low = omega arith; rest = s.1 }
from_scalar (scalar.bracket {t = t} d) s g =
    let a = from_scalar d s.1 tt in
    let n = a.low in
    let k = raised_less (scalars.is_below (scalar_rank t) Sum) (scalar_height t) in
    let m = raised_more (scalars.is_below (scalar_rank t) Single) (scalar_height t) in
    record { source = a.source; low = omega arith; rest = a.rest.1 }
from_scalar (scalar.minus d) s g = let a = from_scalar d s.1 tt in let n = a.low in record { source = a.source; low = omega arith; rest = a.rest }
from_scalar (scalar.plain {t = t} d) s g = let a = from_scalar d s tt in let n = a.low in let k = single_negation (scalar_rank t) (scalar_height t) in record { source = a.source; low = omega arith; rest = a.rest }
from_scalar (scalar.chain {l = Products} {a = b} {h = h} d r) s g = let a = from_scalar d s tt in from_scalar r a.rest (a.source, operand_given Products b h a.low)
from_scalar (scalar.chain {l = Sums} {a = b} {h = h} d r) s g = let a = from_scalar d s tt in from_scalar r a.rest (a.source, operand_given Sums b h a.low)
from_scalar (scalar.stop n) s g = record { source = g.0; low = g.1; rest = s }
from_scalar (scalar.more {l = Products} {o = o} {a = a} {b = b} {x = x} {e = e} {f = f} {h = h} {k = k} i d r) s g =
    let c = from_scalar d s.1 tt in
    let v = level_of Products x.kind o i in
    from_scalar r c.rest ((g.0, c.source), more_low Products nowhere o a b h k v.0 v.1 g.1 c.low)
from_scalar (scalar.more {l = Sums} {o = o} {a = a} {b = b} {x = x} {e = e} {f = f} {h = h} {k = k} i d r) s g =
    let c = from_scalar d s.1 tt in
    let v = level_of Sums x.kind o i in
    from_scalar r c.rest ((g.0, c.source), more_low Sums nowhere o a b h k v.0 v.1 g.1 c.low)

-- a whole scalar
pub scalar_low : (t : ScalarTree) (h : ℕ) → Low Sum t h → scalar_height t ≤ h
scalar_low t h p = let k = raised_less (scalars.is_below (scalar_rank t) Sum) (scalar_height t) in omega arith

abbrev pub connective_rank : ConnectiveLevel → CondRank
connective_rank Conjunctions = Conjunction
connective_rank Disjunctions = Disjunction

abbrev pub CondLow : CondRank → CondTree → ℕ → Type 0
CondLow r t h = raised (conditions.is_below (cond_rank t) r) (cond_height t) ≤ h

-- brackets count
abbrev pub PartLow : condition.Part → CondTree → ℕ → Type 0
PartLow condition.Square t h = suc (cond_height t) ≤ h
PartLow condition.Single t h = CondLow Test t h
PartLow (condition.Chain l) t h = CondLow (connective_rank l) t h
PartLow (condition.Rest l a e k) t h = CondLow (connective_rank l) t h

pub record Cond (p : condition.Part) (t : CondTree) (h : ℕ) (us : List Token) : Type 0 where
  pub source : IsCondSource t
  pub low : PartLow p t h
  pub rest : Small us

abbrev pub CondGiven : condition.Part → Type 0
CondGiven condition.Square = Unit {0}
CondGiven condition.Single = Unit {0}
CondGiven (condition.Chain l) = Unit {0}
CondGiven (condition.Rest l a e h) = IsCondSource a × CondLow (connective_rank l) a h

test_conjunction : (r : CondRank) (n : ℕ) → raised (conditions.is_below r Conjunction) n ≤ raised (conditions.is_below r Test) n
test_conjunction Disjunction n = omega arith
test_conjunction Conjunction n = omega arith
test_conjunction Test n = omega arith

conjunction_disjunction : (r : CondRank) (n : ℕ) → raised (conditions.is_below r Disjunction) n ≤ raised (conditions.is_below r Conjunction) n
conjunction_disjunction Disjunction n = omega arith
conjunction_disjunction Conjunction n = omega arith
conjunction_disjunction Test n = omega arith

cond_itself : (r : CondRank) → conditions.is_below r r ≡ false
cond_itself Disjunction = refl
cond_itself Conjunction = refl
cond_itself Test = refl

connective_of : (l : ConnectiveLevel) (k : TokenKind) (o : Connective) → connective l k ≡ Some o → (conditions.rank_of o ≡ connective_rank l)
connective_of Conjunctions (kind.Keyword keyword.And) o e = let q : And ≡ o = cc in rw (← q) refl
connective_of Disjunctions (kind.Keyword keyword.Or) o e = let q : Or ≡ o = cc in rw (← q) refl
connective_of l k o e = absurd cc

-- what a connective's right operand has to be
abbrev right_rank : ConnectiveLevel → CondRank
right_rank Conjunctions = Test
right_rank Disjunctions = Conjunction

right_of_level : (l : ConnectiveLevel) (o : Connective) → conditions.rank_of o ≡ connective_rank l → conditions.right_of o ≡ right_rank l
right_of_level Conjunctions And e = refl
right_of_level Conjunctions Or e = absurd cc
right_of_level Disjunctions And e = absurd cc
right_of_level Disjunctions Or e = refl

cond_more_low : (l : ConnectiveLevel) (s : Span) (o : Connective) (a b : CondTree) (h k : ℕ) → conditions.rank_of o ≡ connective_rank l → CondLow (connective_rank l) a h → CondLow (right_rank l) b k → CondLow (connective_rank l) (CondTree.logical s o a b) (suc (max h k))
cond_more_low l s o a b h k e p q =
    let x : CondLow (conditions.rank_of o) a h = rw e p in
    let y : CondLow (conditions.right_of o) b k = rw (right_of_level l o e) q in
    let n : conditions.is_below (conditions.rank_of o) (connective_rank l) ≡ false = rw e (cond_itself (connective_rank l)) in
    raised_none (conditions.is_below (conditions.rank_of o) (connective_rank l)) (cond_height (CondTree.logical s o a b)) (suc (max h k)) n (omega arith)

pub from_cond : {p : condition.Part} {t : CondTree} {e : Span} {h : ℕ} {ts us : List Token} → condition.Reads p ts t e h us → Small ts → CondGiven p → Cond p t h us
from_cond (condition.square {t = t} d) s g =
    let a = from_cond d s.1 tt in
    let n = a.low in
    let k = raised_less (conditions.is_below (cond_rank t) Disjunction) (cond_height t) in
    record { source = a.source; low = omega arith; rest = a.rest.1 }
from_cond (condition.negated d) s g = let a = from_cond d s.1 tt in record { source = a.source; low = a.low; rest = a.rest }
from_cond (condition.bracketed {t = t} d) s g =
    let a = from_cond d s tt in
    let n = a.low in
    let m = raised_more (conditions.is_below (cond_rank t) Test) (cond_height t) in
    record { source = a.source; low = omega arith; rest = a.rest }
from_cond (condition.compared {a = p} {b = q} {h = h} {k = k} d i r) s g =
    let a = from_scalar d s tt in
    let b = from_scalar r a.rest.1 tt in
    let m = scalar_low p h a.low in
    let n = scalar_low q k b.low in
    record { source = (a.source, b.source); low = omega arith; rest = b.rest }
from_cond (condition.chain {l = Conjunctions} {a = b} d r) s g = let a = from_cond d s tt in let n = a.low in let k = test_conjunction (cond_rank b) (cond_height b) in let v = from_cond r a.rest (a.source, omega arith) in record { source = v.source; low = v.low; rest = v.rest }
from_cond (condition.chain {l = Disjunctions} {a = b} d r) s g = let a = from_cond d s tt in let n = a.low in let k = conjunction_disjunction (cond_rank b) (cond_height b) in let v = from_cond r a.rest (a.source, omega arith) in record { source = v.source; low = v.low; rest = v.rest }
from_cond (condition.stop n) s g = record { source = g.0; low = g.1; rest = s }
from_cond (condition.more {l = Conjunctions} {o = o} {a = a} {b = b} {x = x} {h = h} {k = k} i d r) s g =
    let c = from_cond d s.1 tt in
    let v = from_cond r c.rest ((g.0, c.source), cond_more_low Conjunctions nowhere o a b h k (connective_of Conjunctions x.kind o i) g.1 c.low) in
    record { source = v.source; low = v.low; rest = v.rest }
from_cond (condition.more {l = Disjunctions} {o = o} {a = a} {b = b} {x = x} {h = h} {k = k} i d r) s g =
    let c = from_cond d s.1 tt in
    let v = from_cond r c.rest ((g.0, c.source), cond_more_low Disjunctions nowhere o a b h k (connective_of Disjunctions x.kind o i) g.1 c.low) in
    record { source = v.source; low = v.low; rest = v.rest }

pub cond_low : (t : CondTree) (h : ℕ) → CondLow Disjunction t h → cond_height t ≤ h
cond_low t h p = let k = raised_less (conditions.is_below (cond_rank t) Disjunction) (cond_height t) in omega arith
