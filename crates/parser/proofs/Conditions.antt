-- The rules for conditions, at tokens that are known by an equation.
use Rattle.std.proofs.Common.{◌≡◌, ℕ, ◌+◌, ◌<◌, ◌≤◌, suc, max, add-one, arith, List, ◌∷◌, refl, sym, ◌∙◌, Some, None}
use Rattle.record_core.specs.declared.span.Span.{Span}
use Rattle.record_core.specs.declared.keyword.Keyword.TheVariants as keyword
use Rattle.lexer.specs.declared.token.Token.{Token}
use Rattle.lexer.specs.declared.mark.Mark.TheVariants as mark
use Rattle.expr_tree.specs.declared.condition.Comparison.{Comparison}
use Rattle.expr_tree.specs.declared.condition.Connective.{Connective}
use Rattle.expr_tree.specs.Trees.{ScalarTree, CondTree}
use Rattle.grammar.specs.declared.level.OperatorLevel.TheVariants.{Sums}
use Rattle.grammar.specs.declared.level.ConnectiveLevel.{ConnectiveLevel}
use Rattle.grammar.specs.declared.level.ConnectiveLevel.TheVariants.{Conjunctions, Disjunctions}
use Rattle.grammar.specs.Tokens.{reaching, mark_at, keyword_at, NoMark, NoKeyword}
use Rattle.grammar.specs.Scalars as scalar
use Rattle.grammar.specs.Conditions.{Reads, Square, Single, Chain, Rest, square, negated, bracketed, compared, chain, stop, more, connective, operand, compares}
use Rattle.grammar.proofs.Tokens.{rest_one}
use Rattle.grammar.proofs.Scalars as scalar_laws
use Rattle.grammar.proofs.Conditions.{one_reading, grows, no_scalar}
use Rattle.parser.specs.Scalars as missing
use Rattle.parser.specs.Conditions.{Unread, NoComparison}

-- how many calls lead from one level to conditions without connectives
abbrev pub steps : ConnectiveLevel → ℕ
steps Conjunctions = 2
steps Disjunctions = 4

pub square_at : (ts us vs ws : List Token) (s r x y : Span) (t : CondTree) (n m : ℕ) → ts ≡ mark_at mark.OpenSquare s ∷ us → Reads (Chain Disjunctions) us t x n vs → vs ≡ mark_at mark.CloseSquare r ∷ ws → y ≡ reaching s r → m ≡ n + 1 → Reads Square ts t y m ws
square_at ts us vs ws s r x y t n m e d h k q = let f : Reads (Chain Disjunctions) us t x n (mark_at mark.CloseSquare r ∷ ws) = rw h at d in rw (e, k, q, add-one) (square f)

record Inside (ts us : List Token) (t : CondTree) (n : ℕ) : Type 0 where
  pub m : ℕ
  pub extent : Span
  pub close : Span
  pub is : n ≡ suc m
  pub reads : Reads (Chain Disjunctions) ts t extent m (mark_at mark.CloseSquare close ∷ us)

inside : {s e : Span} {t : CondTree} {n : ℕ} {ts us : List Token} → Reads Square (mark_at mark.OpenSquare s ∷ ts) t e n us → Inside ts us t n
inside (square {r = r} {e = x} {h = h} d) = record { m = h; extent = x; close = r; is = refl; reads = d }

pub no_square_at : (ts : List Token) (m : ℕ) → NoMark mark.OpenSquare ts → Unread Square ts m
no_square_at ts m h t e n us (square d) = absurd (h refl)

pub unread_inner : (ts vs : List Token) (s : Span) (m l : ℕ) → ts ≡ mark_at mark.OpenSquare s ∷ vs → m ≤ l + 1 → Unread (Chain Disjunctions) vs l → Unread Square ts m
unread_inner ts vs s m l h q k t e n us d = let i = inside (rw h at d) in let b = k _ _ _ _ i.reads in let w = i.is in omega arith

pub unread_open : (ts vs : List Token) (s : Span) → ts ≡ mark_at mark.OpenSquare s ∷ vs → Unread Square ts 0
unread_open ts vs s h t e n us d = let i = inside (rw h at d) in let w = i.is in omega arith

pub high_square : (ts vs ws : List Token) (s x : Span) (u : CondTree) (l m : ℕ) → ts ≡ mark_at mark.OpenSquare s ∷ vs → Reads (Chain Disjunctions) vs u x l ws → m ≤ l → Unread Square ts m
high_square ts vs ws s x u l m h f q t e n us d =
    let i = inside (rw h at d) in let o = one_reading f i.reads in let w = i.is in let v = o.height in omega arith

pub no_close : (ts vs ws : List Token) (s x : Span) (u : CondTree) (l m : ℕ) → ts ≡ mark_at mark.OpenSquare s ∷ vs → Reads (Chain Disjunctions) vs u x l ws → NoMark mark.CloseSquare ws → Unread Square ts m
no_close ts vs ws s x u l m h f k t e n us d = let i = inside (rw h at d) in let o = one_reading f i.reads in absurd ((rw o.left at k) refl)

pub negated_at : (ts us vs : List Token) (s x y : Span) (t l : CondTree) (n : ℕ) → ts ≡ keyword_at keyword.Not s ∷ us → Reads Square us t x n vs → y ≡ reaching s x → l ≡ CondTree.negate y t → Reads Single ts l y n vs
negated_at ts us vs s x y t l n e d k i = rw (e, i, k) (negated d)

after_not : {s e : Span} {t : CondTree} {n m : ℕ} {ts us : List Token} → Unread Square ts m → Reads Single (keyword_at keyword.Not s ∷ ts) t e n us → m < n
after_not k (negated d) = k _ _ _ _ d
after_not k (bracketed d) = elim d [ ]
after_not k (compared d i r) = absurd (no_scalar d)

pub unread_not : (ts vs : List Token) (s : Span) (m : ℕ) → ts ≡ keyword_at keyword.Not s ∷ vs → Unread Square vs m → Unread Single ts m
unread_not ts vs s m h k t e n us d = after_not k (rw h at d)

after_bracket : {s e : Span} {t : CondTree} {n m : ℕ} {ts us : List Token} → Unread Square (mark_at mark.OpenSquare s ∷ ts) m → Reads Single (mark_at mark.OpenSquare s ∷ ts) t e n us → m < n
after_bracket k (bracketed d) = k _ _ _ _ d
after_bracket k (compared d i r) = absurd (no_scalar d)

pub unread_square : (ts vs : List Token) (s : Span) (m : ℕ) → ts ≡ mark_at mark.OpenSquare s ∷ vs → Unread Square ts m → Unread Single ts m
unread_square ts vs s m h k t e n us d = after_bracket (rw h at k) (rw h at d)

pub compared_at : (ts us vs ws : List Token) (z : Token) (o : Comparison) (e f x : Span) (a b : ScalarTree) (c : CondTree) (m k n : ℕ) → scalar.Reads (scalar.Chain Sums) ts a e m us → us ≡ z ∷ vs → compares z.kind ≡ Some o → scalar.Reads (scalar.Chain Sums) vs b f k ws → x ≡ reaching e f → c ≡ CondTree.compare x o a b → n ≡ max m k + 1 → Reads Single ts c x n ws
compared_at ts us vs ws z o e f x a b c m k n d h i r j p q = rw (p, j, q, add-one) (compared (rw h at d) i r)

record Comparing (ts : List Token) (n : ℕ) (us : List Token) : Type 0 where
  pub left : ScalarTree
  pub right : ScalarTree
  pub token : Token
  pub first : Span
  pub second : Span
  pub m : ℕ
  pub k : ℕ
  pub tokens : List Token
  pub operator : Comparison
  pub compares : compares token.kind ≡ Some operator
  pub is : n ≡ suc (max m k)
  pub reads : scalar.Reads (scalar.Chain Sums) ts left first m (token ∷ tokens)
  pub reads_right : scalar.Reads (scalar.Chain Sums) tokens right second k us

comparing : {t : CondTree} {e : Span} {n : ℕ} {ts us : List Token} → NoKeyword keyword.Not ts → NoMark mark.OpenSquare ts → Reads Single ts t e n us → Comparing ts n us
comparing h k (negated d) = absurd (h refl)
comparing h k (bracketed (square d)) = absurd (k refl)
comparing h k (compared {a = a} {b = b} {o = o} {x = x} {e = e} {f = f} {h = m} {k = n} {us = us} d i r) = record { left = a; right = b; token = x; first = e; second = f; m = m; k = n; tokens = us; operator = o; compares = i; is = refl; reads = d; reads_right = r }

pub no_left : (ts : List Token) (m : ℕ) → NoKeyword keyword.Not ts → NoMark mark.OpenSquare ts → missing.Unread (scalar.Chain Sums) ts m → Unread Single ts m
no_left ts m h k u t e n us d = let c = comparing h k d in let w = u _ _ _ _ c.reads in let v = c.is in omega arith

pub no_comparison : (ts vs : List Token) (m l : ℕ) (a : ScalarTree) (e : Span) → NoKeyword keyword.Not ts → NoMark mark.OpenSquare ts → scalar.Reads (scalar.Chain Sums) ts a e l vs → NoComparison vs → Unread Single ts m
no_comparison ts vs m l a x h k f i t e n us d =
    let c = comparing h k d in let o = scalar_laws.one_reading f c.reads in let w : compares c.token.kind ≡ None = rw o.left at i in let q = c.compares in absurd (cc (w, q))

record Seconds (c : Token) (vs us : List Token) (n m : ℕ) : Type 0 where
  pub term : ScalarTree
  pub extent : Span
  pub k : ℕ
  pub is : n ≡ suc (max m k)
  pub reads : scalar.Reads (scalar.Chain Sums) vs term extent k us

seconds : {ts zs vs us : List Token} {z : Token} {a : ScalarTree} {e x : Span} {m n : ℕ} {t : CondTree} → NoKeyword keyword.Not ts → NoMark mark.OpenSquare ts → scalar.Reads (scalar.Chain Sums) ts a e m zs → zs ≡ z ∷ vs → Reads Single ts t x n us → Seconds z vs us n m
seconds {z = z} h k f i d =
    let c = comparing h k d in
    let o = scalar_laws.one_reading f c.reads in
    let q = rest_one (sym i ∙ o.left) in
    record { term = c.right; extent = c.second; k = c.k; is = rw o.height c.is; reads = rw q c.reads_right }

pub no_right : (ts zs vs : List Token) (z : Token) (a : ScalarTree) (e : Span) (l m : ℕ) → NoKeyword keyword.Not ts → NoMark mark.OpenSquare ts → scalar.Reads (scalar.Chain Sums) ts a e l zs → zs ≡ z ∷ vs → missing.Unread (scalar.Chain Sums) vs m → Unread Single ts m
no_right ts zs vs z a e l m h k f i u t x n us d = let c = seconds h k f i d in let w = u _ _ _ _ c.reads in let v = c.is in omega arith

pub high_compared : (ts zs vs ws : List Token) (z : Token) (a b : ScalarTree) (e y : Span) (l k m : ℕ) → NoKeyword keyword.Not ts → NoMark mark.OpenSquare ts → scalar.Reads (scalar.Chain Sums) ts a e l zs → zs ≡ z ∷ vs → scalar.Reads (scalar.Chain Sums) vs b y k ws → m ≤ max l k → Unread Single ts m
high_compared ts zs vs ws z a b e y l k m h g f i r q t x n us d = let c = seconds h g f i d in let o = scalar_laws.one_reading r c.reads in let w = o.height in let v = c.is in omega arith

-- what completes a chain so far completes the whole, and each reading of the whole goes on from here
pub record GoesOn (l : ConnectiveLevel) (ts : List Token) (a : CondTree) (e : Span) (h : ℕ) (us : List Token) : Type 0 where
  pub completes : (t : CondTree) (f : Span) (n : ℕ) (ws : List Token) → Reads (Rest l a e h) us t f n ws → Reads (Chain l) ts t f n ws
  pub only : (t : CondTree) (f : Span) (n : ℕ) (ws : List Token) → Reads (Chain l) ts t f n ws → Reads (Rest l a e h) us t f n ws

chained : {l : ConnectiveLevel} {a t : CondTree} {e f : Span} {h n : ℕ} {ts us ws : List Token} → Reads (operand l) ts a e h us → Reads (Chain l) ts t f n ws → Reads (Rest l a e h) us t f n ws
chained d (chain x r) = let o = one_reading d x in rw (← o.tree, ← o.extent, ← o.height, ← o.left) at r

pub begins : (l : ConnectiveLevel) (ts us : List Token) (a : CondTree) (e : Span) (h : ℕ) → Reads (operand l) ts a e h us → GoesOn l ts a e h us
begins l ts us a e h d = record { completes = λ t f n ws r. chain d r; only = λ t f n ws r. chained d r }

pub unread_chain : (l : ConnectiveLevel) (ts : List Token) (m : ℕ) → Unread (operand l) ts m → Unread (Chain l) ts m
unread_chain l ts m h t e n us (chain d r) = let a = h _ _ _ _ d in let b = grows r in omega arith

after : {l : ConnectiveLevel} {o : Connective} {x : Token} {a b t : CondTree} {e f g : Span} {m k n : ℕ} {vs ws zs : List Token} → connective l x.kind ≡ Some o → Reads (operand l) vs b f k ws → Reads (Rest l a e m) (x ∷ vs) t g n zs → Reads (Rest l (CondTree.logical (reaching e f) o a b) (reaching e f) (suc (max m k))) ws t g n zs
after i d (stop h) = absurd cc
after {o = o} i d (more {o = p} j x r) = let w = one_reading d x in let q : o ≡ p = cc in rw (← q, ← w.tree, ← w.extent, ← w.height, ← w.left) at r

pub goes_on : (l : ConnectiveLevel) (o : Connective) (z : Token) (ts us vs ws : List Token) (a b c : CondTree) (e f x : Span) (m k n : ℕ) → GoesOn l ts a e m us → us ≡ z ∷ vs → connective l z.kind ≡ Some o → Reads (operand l) vs b f k ws → x ≡ reaching e f → c ≡ CondTree.logical x o a b → n ≡ max m k + 1 → GoesOn l ts c x n ws
goes_on l o z ts us vs ws a b c e f x m k n g h i d p j q = record {
  completes = λ t y w zs r. g.completes t y w zs (rw h (more i d (let r2 : Reads (Rest l (CondTree.logical (reaching e f) o a b) (reaching e f) (suc (max m k))) ws t y w zs = rw (j, p, q, add-one) at r in r2)));
  only = λ t y w zs r. rw (j, p, q, add-one) (after i d (rw h at (g.only t y w zs r)));
}

operand_of : {l : ConnectiveLevel} {o : Connective} {x : Token} {a t : CondTree} {e g : Span} {m n j : ℕ} {vs zs : List Token} → connective l x.kind ≡ Some o → Unread (operand l) vs j → Reads (Rest l a e m) (x ∷ vs) t g n zs → j < n
operand_of i u (stop h) = absurd cc
operand_of {m = m} i u (more {k = k} j x r) = let a = u _ _ _ _ x in let b = grows r in omega arith

pub no_operand : (l : ConnectiveLevel) (o : Connective) (z : Token) (ts us vs : List Token) (a : CondTree) (e : Span) (m j : ℕ) → GoesOn l ts a e m us → us ≡ z ∷ vs → connective l z.kind ≡ Some o → Unread (operand l) vs j → Unread (Chain l) ts j
no_operand l o z ts us vs a e m j g h i u t f n ws d = operand_of i u (rw h at (g.only t f n ws d))

pub high_operand : (l : ConnectiveLevel) (o : Connective) (z : Token) (ts us vs ws : List Token) (a b : CondTree) (e f : Span) (m k j : ℕ) → GoesOn l ts a e m us → us ≡ z ∷ vs → connective l z.kind ≡ Some o → Reads (operand l) vs b f k ws → j ≤ max m k → Unread (Chain l) ts j
high_operand l o z ts us vs ws a b e f m k j g h i d q t x n zs r = let w = grows (after i d (rw h at (g.only t x n zs r))) in omega arith
