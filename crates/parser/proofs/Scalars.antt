-- The rules for scalars, at tokens that are known by an equation.
use Rattle.std.proofs.Common.{◌≡◌, ℕ, ◌+◌, ◌<◌, ◌≤◌, ◌^◌, suc, max, add-one, arith, ℤ, pos, List, ◌∷◌, refl, Some}
use Rattle.record_core.specs.declared.span.Span.{Span}
use Rattle.lexer.specs.declared.token.Token.{Token}
use Rattle.lexer.specs.declared.token.TokenKind.TheVariants as kind
use Rattle.lexer.specs.declared.mark.Mark.TheVariants as mark
use Rattle.expr_tree.specs.declared.scalar.Operator.{Operator}
use Rattle.expr_tree.specs.Trees.{ScalarTree}
use Rattle.grammar.specs.declared.level.OperatorLevel.{OperatorLevel}
use Rattle.grammar.specs.declared.level.OperatorLevel.TheVariants.{Products, Sums}
use Rattle.grammar.specs.Tokens.{reaching, token, mark_at, NoMark}
use Rattle.grammar.specs.Scalars.{Reads, Atom, Unary, Chain, Rest, number, column, bracket, minus, plain, chain, stop, more, operator, operand}
use Rattle.grammar.proofs.Scalars.{one_reading, grows}
use Rattle.parser.specs.Scanning.{NoNumber, NoColumn}
use Rattle.parser.specs.Scalars.{Unread}

-- how many calls lead from one level to atoms
abbrev pub steps : OperatorLevel → ℕ
steps Products = 2
steps Sums = 4

pub number_at : (ts us : List Token) (s : Span) (n : ℕ) (z : ℤ) → ts ≡ token (kind.Number n) s ∷ us → n < 2 ^ 63 → z ≡ pos n → Reads Atom ts (ScalarTree.literal s z) s 1 us
number_at ts us s n z e h k = rw (e, k) (number h)

pub column_at : (ts us : List Token) (s : Span) (n : ℕ) → ts ≡ token (kind.Column n) s ∷ us → Reads Atom ts (ScalarTree.column s n) s 1 us
column_at ts us s n e = rw e column

pub bracket_at : (ts us vs ws : List Token) (s r x y : Span) (t : ScalarTree) (n m : ℕ) → ts ≡ mark_at mark.OpenRound s ∷ us → Reads (Chain Sums) us t x n vs → vs ≡ mark_at mark.CloseRound r ∷ ws → y ≡ reaching s r → m ≡ n + 1 → Reads Atom ts t y m ws
bracket_at ts us vs ws s r x y t n m e d h k q = let f : Reads (Chain Sums) us t x n (mark_at mark.CloseRound r ∷ ws) = rw h at d in rw (e, k, q, add-one) (bracket f)

pub minus_at : (ts us vs : List Token) (s x y : Span) (t l : ScalarTree) (n m : ℕ) → ts ≡ mark_at mark.Minus s ∷ us → Reads Atom us t x n vs → y ≡ reaching s x → l ≡ ScalarTree.negate y t → m ≡ n + 1 → Reads Unary ts l y m vs
minus_at ts us vs s x y t l n m e d k i q = rw (e, i, k, q, add-one) (minus d)

pub no_atom : (ts : List Token) (m : ℕ) → NoNumber ts → NoColumn ts → NoMark mark.OpenRound ts → Unread Atom ts m
no_atom ts m h k i t e n us (number f) = absurd (h f)
no_atom ts m h k i t e n us column = absurd k
no_atom ts m h k i t e n us (bracket d) = absurd (i refl)

record Inside (ts us : List Token) (t : ScalarTree) (n : ℕ) : Type 0 where
  pub m : ℕ
  pub extent : Span
  pub close : Span
  pub is : n ≡ suc m
  pub reads : Reads (Chain Sums) ts t extent m (mark_at mark.CloseRound close ∷ us)

inside : {s e : Span} {t : ScalarTree} {n : ℕ} {ts us : List Token} → Reads Atom (mark_at mark.OpenRound s ∷ ts) t e n us → Inside ts us t n
inside (bracket {r = r} {e = x} {h = h} d) = record { m = h; extent = x; close = r; is = refl; reads = d }

pub unread_inner : (ts vs : List Token) (s : Span) (m l : ℕ) → ts ≡ mark_at mark.OpenRound s ∷ vs → m ≤ l + 1 → Unread (Chain Sums) vs l → Unread Atom ts m
unread_inner ts vs s m l h q k t e n us d = let i = inside (rw h at d) in let b = k _ _ _ _ i.reads in let w = i.is in omega arith

pub unread_open : (ts vs : List Token) (s : Span) → ts ≡ mark_at mark.OpenRound s ∷ vs → Unread Atom ts 0
unread_open ts vs s h t e n us d = let i = inside (rw h at d) in let w = i.is in omega arith

pub high_bracket : (ts vs ws : List Token) (s x : Span) (u : ScalarTree) (l m : ℕ) → ts ≡ mark_at mark.OpenRound s ∷ vs → Reads (Chain Sums) vs u x l ws → m ≤ l → Unread Atom ts m
high_bracket ts vs ws s x u l m h f q t e n us d =
    let i = inside (rw h at d) in let o = one_reading f i.reads in let w = i.is in let v = o.height in omega arith

pub no_close : (ts vs ws : List Token) (s x : Span) (u : ScalarTree) (l m : ℕ) → ts ≡ mark_at mark.OpenRound s ∷ vs → Reads (Chain Sums) vs u x l ws → NoMark mark.CloseRound ws → Unread Atom ts m
no_close ts vs ws s x u l m h f k t e n us d = let i = inside (rw h at d) in let o = one_reading f i.reads in absurd ((rw o.left at k) refl)

pub no_plain : (ts : List Token) (m : ℕ) → NoMark mark.Minus ts → Unread Atom ts m → Unread Unary ts m
no_plain ts m h k t e n us (minus d) = absurd (h refl)
no_plain ts m h k t e n us (plain d) = k _ _ _ _ d

record Negated (ts us : List Token) (n : ℕ) : Type 0 where
  pub m : ℕ
  pub term : ScalarTree
  pub extent : Span
  pub is : n ≡ suc m
  pub reads : Reads Atom ts term extent m us

negated : {s e : Span} {t : ScalarTree} {n : ℕ} {ts us : List Token} → Reads Unary (mark_at mark.Minus s ∷ ts) t e n us → Negated ts us n
negated (minus {e = x} {t = t} {h = h} d) = record { m = h; term = t; extent = x; is = refl; reads = d }
negated (plain d) = elim d [ ]

pub unread_minus : (ts vs : List Token) (s : Span) (m : ℕ) → ts ≡ mark_at mark.Minus s ∷ vs → Unread Atom vs m → Unread Unary ts m
unread_minus ts vs s m h k t e n us d = let i = negated (rw h at d) in let b = k _ _ _ _ i.reads in let w = i.is in omega arith

pub high_minus : (ts vs ws : List Token) (s x : Span) (u : ScalarTree) (l m : ℕ) → ts ≡ mark_at mark.Minus s ∷ vs → Reads Atom vs u x l ws → m ≤ l → Unread Unary ts m
high_minus ts vs ws s x u l m h f q t e n us d = let i = negated (rw h at d) in let o = one_reading f i.reads in let w = i.is in let v = o.height in omega arith

-- what completes a chain so far completes the whole, and each reading of the whole goes on from here
pub record GoesOn (l : OperatorLevel) (ts : List Token) (a : ScalarTree) (e : Span) (h : ℕ) (us : List Token) : Type 0 where
  pub completes : (t : ScalarTree) (f : Span) (n : ℕ) (ws : List Token) → Reads (Rest l a e h) us t f n ws → Reads (Chain l) ts t f n ws
  pub only : (t : ScalarTree) (f : Span) (n : ℕ) (ws : List Token) → Reads (Chain l) ts t f n ws → Reads (Rest l a e h) us t f n ws

chained : {l : OperatorLevel} {a t : ScalarTree} {e f : Span} {h n : ℕ} {ts us ws : List Token} → Reads (operand l) ts a e h us → Reads (Chain l) ts t f n ws → Reads (Rest l a e h) us t f n ws
chained d (chain x r) = let o = one_reading d x in rw (← o.tree, ← o.extent, ← o.height, ← o.left) at r

pub begins : (l : OperatorLevel) (ts us : List Token) (a : ScalarTree) (e : Span) (h : ℕ) → Reads (operand l) ts a e h us → GoesOn l ts a e h us
begins l ts us a e h d = record { completes = λ t f n ws r. chain d r; only = λ t f n ws r. chained d r }

pub unread_chain : (l : OperatorLevel) (ts : List Token) (m : ℕ) → Unread (operand l) ts m → Unread (Chain l) ts m
unread_chain l ts m h t e n us (chain d r) = let a = h _ _ _ _ d in let b = grows r in omega arith

after : {l : OperatorLevel} {o : Operator} {x : Token} {a b t : ScalarTree} {e f g : Span} {m k n : ℕ} {vs ws zs : List Token} → operator l x.kind ≡ Some o → Reads (operand l) vs b f k ws → Reads (Rest l a e m) (x ∷ vs) t g n zs → Reads (Rest l (ScalarTree.binary (reaching e f) o a b) (reaching e f) (suc (max m k))) ws t g n zs
after i d (stop h) = absurd cc
after {o = o} i d (more {o = p} j x r) = let w = one_reading d x in let q : o ≡ p = cc in rw (← q, ← w.tree, ← w.extent, ← w.height, ← w.left) at r

pub goes_on : (l : OperatorLevel) (o : Operator) (z : Token) (ts us vs ws : List Token) (a b c : ScalarTree) (e f x : Span) (m k n : ℕ) → GoesOn l ts a e m us → us ≡ z ∷ vs → operator l z.kind ≡ Some o → Reads (operand l) vs b f k ws → x ≡ reaching e f → c ≡ ScalarTree.binary x o a b → n ≡ max m k + 1 → GoesOn l ts c x n ws
goes_on l o z ts us vs ws a b c e f x m k n g h i d p j q = record {
  completes = λ t y w zs r. g.completes t y w zs (rw h (more i d (let r2 : Reads (Rest l (ScalarTree.binary (reaching e f) o a b) (reaching e f) (suc (max m k))) ws t y w zs = rw (j, p, q, add-one) at r in r2)));
  only = λ t y w zs r. rw (j, p, q, add-one) (after i d (rw h at (g.only t y w zs r)));
}

operand_of : {l : OperatorLevel} {o : Operator} {x : Token} {a t : ScalarTree} {e g : Span} {m n j : ℕ} {vs zs : List Token} → operator l x.kind ≡ Some o → Unread (operand l) vs j → Reads (Rest l a e m) (x ∷ vs) t g n zs → j < n
operand_of i u (stop h) = absurd cc
operand_of {m = m} i u (more {k = k} j x r) = let a = u _ _ _ _ x in let b = grows r in omega arith

pub no_operand : (l : OperatorLevel) (o : Operator) (z : Token) (ts us vs : List Token) (a : ScalarTree) (e : Span) (m j : ℕ) → GoesOn l ts a e m us → us ≡ z ∷ vs → operator l z.kind ≡ Some o → Unread (operand l) vs j → Unread (Chain l) ts j
no_operand l o z ts us vs a e m j g h i u t f n ws d = operand_of i u (rw h at (g.only t f n ws d))

pub high_operand : (l : OperatorLevel) (o : Operator) (z : Token) (ts us vs ws : List Token) (a b : ScalarTree) (e f : Span) (m k j : ℕ) → GoesOn l ts a e m us → us ≡ z ∷ vs → operator l z.kind ≡ Some o → Reads (operand l) vs b f k ws → j ≤ max m k → Unread (Chain l) ts j
high_operand l o z ts us vs ws a b e f m k j g h i d q t x n zs r = let w = grows (after i d (rw h at (g.only t x n zs r))) in omega arith
