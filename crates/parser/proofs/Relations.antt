-- The forms of relations, at tokens that are known by an equation.
use Rattle.std.proofs.Common.{◌≡◌, ℕ, ◌+◌, ◌<◌, ◌≤◌, ◌^◌, suc, max, add-one, arith, ap, List, ◌∷◌, refl, sym, subst, ◌∙◌}
use Rattle.record_core.specs.declared.span.Span.{Span}
use Rattle.lexer.specs.declared.token.Token.{Token}
use Rattle.lexer.specs.declared.token.TokenKind.TheVariants as kind
use Rattle.lexer.specs.declared.mark.Mark.TheVariants as mark
use Rattle.expr_tree.specs.Trees.{ScalarTree, CondTree, RelTree}
use Rattle.expr_tree.specs.declared.relation.Agg.{Agg}
use Rattle.expr_tree.specs.declared.relation.Column.{Column}
use Rattle.expr_tree.specs.declared.relation.Pair.{Pair}
use Rattle.expr_tree.specs.declared.relation.LoopForm.TheVariants.{Iterate, Closure}
use Rattle.expr_tree.specs.declared.relation.SetOperator.{SetOperator}
use Rattle.expr_tree.specs.declared.relation.SetOperator.TheVariants.{Concat, Except, Intersect}
use Rattle.grammar.specs.Tokens.{reaching, token, mark_at, NoMark}
use Rattle.grammar.specs.Phrases.{Listed, IsOne, Unread, Ended}
use Rattle.grammar.specs.Scalars.{ScalarAt}
use Rattle.grammar.specs.Conditions.{ConditionAt}
use Rattle.grammar.specs.Relations.{Reads, named, select, filter, set_operation, join, group, iterate, closure, distinct, ColumnAt, PairAt, AggAt, IsNameAt, closure_word, piece}
use Rattle.grammar.proofs.Tokens.{first_one, rest_one}
use Rattle.grammar.proofs.Relations.{no_operator}
use Rattle.parser.specs.Scanning.{NoName, NoNumber}
use Rattle.parser.specs.Forms.{keyword_of, form_token, opening, closing, IsClosureAt, NoClosure, NoForm, Heads, NoHead}
use Rattle.parser.specs.declared.relation.Form.{Form}
use Rattle.parser.specs.declared.relation.Opening.{Opening}
use Rattle.parser.specs.declared.relation.Form.TheVariants as form

-- two phrases inside a form
pub record Two {X Y : Type 0} (P : List Token → X → ℕ → List Token → Type 0) (Q : List Token → Y → ℕ → List Token → Type 0) (ts : List Token) (n : ℕ) (vs : List Token) : Type 0 where
  pub x : X
  pub y : Y
  pub h : ℕ
  pub k : ℕ
  pub us : List Token
  pub first : P ts x h us
  pub second : Q us y k vs
  pub is : n ≡ suc (max h k)

pub two_first : {X Y : Type 0} (P : List Token → X → ℕ → List Token → Type 0) (Q : List Token → Y → ℕ → List Token → Type 0) (ts vs : List Token) (m l n : ℕ) → m ≤ l + 1 → Unread P ts l → Two P Q ts n vs → m < n
two_first P Q ts vs m l n e u t = let a = u _ _ _ t.first in let i = t.is in omega arith

pub two_second : {X Y : Type 0} (P : List Token → X → ℕ → List Token → Type 0) (Q : List Token → Y → ℕ → List Token → Type 0) (ts us vs : List Token) (x : X) (h m l n : ℕ) → m ≤ l + 1 → IsOne P → P ts x h us → Unread Q us l → Two P Q ts n vs → m < n
two_second P Q ts us vs x h m l n e q d u t = let o = q _ _ _ _ _ _ _ d t.first in let a = u _ _ _ (rw (← o.left) at t.second) in let i = t.is in omega arith

pub two_high : {X Y : Type 0} (P : List Token → X → ℕ → List Token → Type 0) (Q : List Token → Y → ℕ → List Token → Type 0) (ts us vs ws : List Token) (x : X) (y : Y) (h k m n : ℕ) → IsOne P → IsOne Q → P ts x h us → Q us y k vs → m ≤ max h k → Two P Q ts n ws → m < n
two_high P Q ts us vs ws x y h k m n q r d e i t =
    let o = q _ _ _ _ _ _ _ d t.first in
    let w = r _ _ _ _ _ _ _ e (rw (← o.left) at t.second) in
    let a = o.height in let b = w.height in let j = t.is in omega arith

-- three phrases inside a form
pub record Three {X Y Z : Type 0} (P : List Token → X → ℕ → List Token → Type 0) (Q : List Token → Y → ℕ → List Token → Type 0) (R : List Token → Z → ℕ → List Token → Type 0) (ts : List Token) (n : ℕ) (ws : List Token) : Type 0 where
  pub x : X
  pub y : Y
  pub z : Z
  pub h : ℕ
  pub k : ℕ
  pub l : ℕ
  pub us : List Token
  pub vs : List Token
  pub first : P ts x h us
  pub second : Q us y k vs
  pub third : R vs z l ws
  pub is : n ≡ suc (max (max h k) l)

pub three_first : {X Y Z : Type 0} (P : List Token → X → ℕ → List Token → Type 0) (Q : List Token → Y → ℕ → List Token → Type 0) (R : List Token → Z → ℕ → List Token → Type 0) (ts ws : List Token) (m l n : ℕ) → m ≤ l + 1 → Unread P ts l → Three P Q R ts n ws → m < n
three_first P Q R ts ws m l n e u t = let a = u _ _ _ t.first in let i = t.is in omega arith

pub three_second : {X Y Z : Type 0} (P : List Token → X → ℕ → List Token → Type 0) (Q : List Token → Y → ℕ → List Token → Type 0) (R : List Token → Z → ℕ → List Token → Type 0) (ts us ws : List Token) (x : X) (h m l n : ℕ) → m ≤ l + 1 → IsOne P → P ts x h us → Unread Q us l → Three P Q R ts n ws → m < n
three_second P Q R ts us ws x h m l n e q d u t = let o = q _ _ _ _ _ _ _ d t.first in let a = u _ _ _ (rw (← o.left) at t.second) in let i = t.is in omega arith

pub three_third : {X Y Z : Type 0} (P : List Token → X → ℕ → List Token → Type 0) (Q : List Token → Y → ℕ → List Token → Type 0) (R : List Token → Z → ℕ → List Token → Type 0) (ts us vs ws : List Token) (x : X) (y : Y) (h k m l n : ℕ) → m ≤ l + 1 → IsOne P → IsOne Q → P ts x h us → Q us y k vs → Unread R vs l → Three P Q R ts n ws → m < n
three_third P Q R ts us vs ws x y h k m l n e q r d f u t =
    let o = q _ _ _ _ _ _ _ d t.first in
    let w = r _ _ _ _ _ _ _ f (rw (← o.left) at t.second) in
    let a = u _ _ _ (rw (← w.left) at t.third) in let i = t.is in omega arith

pub three_high : {X Y Z : Type 0} (P : List Token → X → ℕ → List Token → Type 0) (Q : List Token → Y → ℕ → List Token → Type 0) (R : List Token → Z → ℕ → List Token → Type 0) (ts us vs ws : List Token) (x : X) (y : Y) (h k m n : ℕ) → IsOne P → IsOne Q → P ts x h us → Q us y k vs → m ≤ max h k → Three P Q R ts n ws → m < n
three_high P Q R ts us vs ws x y h k m n q r d f e t =
    let o = q _ _ _ _ _ _ _ d t.first in
    let w = r _ _ _ _ _ _ _ f (rw (← o.left) at t.second) in
    let a = o.height in let b = w.height in let i = t.is in omega arith

pub inside_select : {text : List ℕ} {s o : Span} {ts us : List Token} {q : RelTree} {n : ℕ} → Reads text (opening form.Select s o ts) q n us → Two (Ended (Reads text) mark.Semicolon) (Ended (Listed ScalarAt) mark.CloseRound) ts n us
inside_select (select {p = p} {q = q} {r = r} {xs = xs} {h = h} {k = k} {us = us} d e) = record { x = r; y = xs; h = h; k = k; us = us; first = (p, d); second = (q, e); is = refl }
inside_select (set_operation i d e) = absurd (no_operator _ refl i)

pub inside_where : {text : List ℕ} {s o : Span} {ts us : List Token} {q : RelTree} {n : ℕ} → Reads text (opening form.Where s o ts) q n us → Two (Ended (Reads text) mark.Semicolon) (Ended ConditionAt mark.CloseRound) ts n us
inside_where (filter {p = p} {q = q} {r = r} {c = c} {h = h} {k = k} {us = us} d e) = record { x = r; y = c; h = h; k = k; us = us; first = (p, d); second = (q, e); is = refl }
inside_where (set_operation i d e) = absurd (no_operator _ refl i)

pub named_at : (text : List ℕ) (ts us : List Token) (s : Span) (n : List ℕ) → ts ≡ token kind.Name s ∷ us → n ≡ piece text s → IsNameAt text s → NoClosure text ts → Reads text ts (RelTree.named s n) 1 us
named_at text ts us s n e h i k = rw (e, h) (named i (k s us e i))

pub no_name_no_closure : (text : List ℕ) (ts : List Token) → NoName text ts → NoClosure text ts
no_name_no_closure text ts h s us e i w = absurd ((rw e at h) i)

-- where another name comes next, or no bracket after it
pub other_name : (text : List ℕ) (ts vs : List Token) (x : Span) → ts ≡ token kind.Name x ∷ vs → (piece text x ≡ closure_word → NoMark mark.OpenRound vs) → NoClosure text ts
other_name text ts vs x e h s us f i w =
    subst (NoMark mark.OpenRound) (rest_one (sym e ∙ f)) (h (subst (λ z. piece text z ≡ closure_word) (ap (λ (t : Token). t.span) (first_one (sym f ∙ e))) w))

no_form_token : (f : Form) (s : Span) (ts : List Token) → NoForm (form_token f s ∷ ts) → ⊥
no_form_token form.Select s ts e = absurd cc
no_form_token form.Where s ts e = absurd cc
no_form_token (form.SetOperation Concat) s ts e = absurd cc
no_form_token (form.SetOperation Except) s ts e = absurd cc
no_form_token (form.SetOperation Intersect) s ts e = absurd cc
no_form_token form.Join s ts e = absurd cc
no_form_token form.Group s ts e = absurd cc
no_form_token form.Distinct s ts e = absurd cc
no_form_token form.Iterate s ts e = absurd cc

pub no_rel : (text : List ℕ) (ts : List Token) (m : ℕ) → NoName text ts → NoForm ts → Unread (Reads text) ts m
no_rel text ts m h k q n us (named d w) = absurd (h d)
no_rel text ts m h k q n us (select {s = s} {o = o} {ts = vs} d e) = absurd (no_form_token form.Select s (mark_at mark.OpenRound o ∷ vs) k)
no_rel text ts m h k q n us (filter {s = s} {o = o} {ts = vs} d e) = absurd (no_form_token form.Where s (mark_at mark.OpenRound o ∷ vs) k)
no_rel text ts m h k q n us (set_operation {w = w} {s = s} {o = o} {ts = vs} i d e) = absurd (no_form_token (form.SetOperation w) s (mark_at mark.OpenRound o ∷ vs) (rw i at k))
no_rel text ts m h k q n us (join {s = s} {o = o} {ts = vs} d e f) = absurd (no_form_token form.Join s (mark_at mark.OpenRound o ∷ vs) k)
no_rel text ts m h k q n us (group {s = s} {o = o} {ts = vs} d e f) = absurd (no_form_token form.Group s (mark_at mark.OpenRound o ∷ vs) k)
no_rel text ts m h k q n us (distinct {s = s} {o = o} {ts = vs} d) = absurd (no_form_token form.Distinct s (mark_at mark.OpenRound o ∷ vs) k)
no_rel text ts m h k q n us (iterate {s = s} {o = o} {d = d} {p = p} {x = x} {i = i} {n = z} {ts = vs} a b e f) = absurd (no_form_token form.Iterate s (mark_at mark.OpenRound o ∷ token (kind.Number z) d ∷ mark_at mark.Semicolon p ∷ token kind.Name x ∷ mark_at mark.Equal i ∷ vs) k)
no_rel text ts m h k q n us (closure d w a b e f) = absurd (h d)

-- a form's keyword wants its bracket
not_bare : {text : List ℕ} {ts vs : List Token} {q : RelTree} {n : ℕ} (f : Form) (s : Span) (us : List Token) → Reads text ts q n vs → ts ≡ form_token f s ∷ us → NoMark mark.OpenRound us → ⊥
not_bare f s us (named d w) e k = let a : kind.Name ≡ kind.Keyword (keyword_of f) = ap (λ (t : Token). t.kind) (first_one e) in absurd cc
not_bare f s us (select d c) e k = (rw (← rest_one e) at k) refl
not_bare f s us (filter d c) e k = (rw (← rest_one e) at k) refl
not_bare f s us (set_operation i d c) e k = (rw (← rest_one e) at k) refl
not_bare f s us (join d c b) e k = (rw (← rest_one e) at k) refl
not_bare f s us (group d c b) e k = (rw (← rest_one e) at k) refl
not_bare f s us (distinct d) e k = (rw (← rest_one e) at k) refl
not_bare f s us (iterate a b c d) e k = (rw (← rest_one e) at k) refl
not_bare f s us (closure d w a b x y) e k = let z : kind.Name ≡ kind.Keyword (keyword_of f) = ap (λ (t : Token). t.kind) (first_one e) in absurd cc

pub no_bracket : (text : List ℕ) (ts us : List Token) (f : Form) (s : Span) (m : ℕ) → ts ≡ form_token f s ∷ us → NoMark mark.OpenRound us → Unread (Reads text) ts m
no_bracket text ts us f s m e k q n vs d = absurd (not_bare f s us d e k)

-- every relation is higher than 0
higher : {text : List ℕ} {ts us : List Token} {q : RelTree} {n : ℕ} → Reads text ts q n us → 0 < n
higher (named d w) = omega arith
higher (select d e) = omega arith
higher (filter d e) = omega arith
higher (set_operation i d e) = omega arith
higher (join d e f) = omega arith
higher (group d e f) = omega arith
higher (distinct d) = omega arith
higher (iterate a b e f) = omega arith
higher (closure d w a b e f) = omega arith

pub unread_open : (text : List ℕ) (ts : List Token) (m : ℕ) → m ≡ 0 → Unread (Reads text) ts m
unread_open text ts m e q n us d = let w = higher d in omega arith

pub inside_set_operation : (w : SetOperator) {text : List ℕ} {s o : Span} {ts us : List Token} {q : RelTree} {n : ℕ} → Reads text (opening (form.SetOperation w) s o ts) q n us → Two (Ended (Reads text) mark.Comma) (Ended (Reads text) mark.CloseRound) ts n us
inside_set_operation Concat (set_operation {p = p} {q = q} {a = a} {b = b} {h = h} {k = k} {us = us} i d e) = record { x = a; y = b; h = h; k = k; us = us; first = (p, d); second = (q, e); is = refl }
inside_set_operation Except (set_operation {p = p} {q = q} {a = a} {b = b} {h = h} {k = k} {us = us} i d e) = record { x = a; y = b; h = h; k = k; us = us; first = (p, d); second = (q, e); is = refl }
inside_set_operation Intersect (set_operation {p = p} {q = q} {a = a} {b = b} {h = h} {k = k} {us = us} i d e) = record { x = a; y = b; h = h; k = k; us = us; first = (p, d); second = (q, e); is = refl }

pub set_operation_at : (text : List ℕ) (w : SetOperator) (ts us ws : List Token) (s o p q x : Span) (a b l : RelTree) (h k n : ℕ) → Reads text ts a h (mark_at mark.Comma p ∷ us) → Reads text us b k (mark_at mark.CloseRound q ∷ ws) → x ≡ reaching s q → l ≡ RelTree.set_operation x w a b → n ≡ max h k + 1 → Reads text (opening (form.SetOperation w) s o ts) l n ws
set_operation_at text w ts us ws s o p q x a b l h k n d e j i m = rw (i, j, m, add-one) (set_operation refl d e)

pub no_head_number : (text : List ℕ) (ts : List Token) → NoNumber ts → NoHead text ts
no_head_number text ts h d n x us k = (rw k.4 at h) k.2

pub no_head_mark : (text : List ℕ) (ts vs : List Token) (t : Token) → ts ≡ t ∷ vs → NoMark mark.Semicolon vs → NoHead text ts
no_head_mark text ts vs t e h d n x us k = (rw (rest_one (sym e ∙ k.4)) at h) refl

pub no_head_name : (text : List ℕ) (ts vs ws : List Token) (t u : Token) → ts ≡ t ∷ vs → vs ≡ u ∷ ws → NoName text ws → NoHead text ts
no_head_name text ts vs ws t u e f h d n x us k = (rw (rest_one (sym f ∙ rest_one (sym e ∙ k.4))) at h) k.3

pub no_head_equal : (text : List ℕ) (ts vs ws zs : List Token) (t u v : Token) → ts ≡ t ∷ vs → vs ≡ u ∷ ws → ws ≡ v ∷ zs → NoMark mark.Equal zs → NoHead text ts
no_head_equal text ts vs ws zs t u v e f g h d n x us k = (rw (rest_one (sym g ∙ rest_one (sym f ∙ rest_one (sym e ∙ k.4)))) at h) refl

pub head_at : (text : List ℕ) (ts vs ws ys zs : List Token) (d p x i : Span) (n : ℕ) → ts ≡ token (kind.Number n) d ∷ vs → n < 2 ^ 63 → vs ≡ mark_at mark.Semicolon p ∷ ws → ws ≡ token kind.Name x ∷ ys → IsNameAt text x → ys ≡ mark_at mark.Equal i ∷ zs → Heads text ts d n x zs
head_at text ts vs ws ys zs d p x i n a b c e f g = (p, i, b, f, rw (a, c, e, g) refl)

-- the loop inside its bracket
pub record Loop (text : List ℕ) (ts : List Token) (n : ℕ) (us : List Token) : Type 0 where
  pub d : Span
  pub turns : ℕ
  pub x : Span
  pub vs : List Token
  pub head : Heads text ts d turns x vs
  pub two : Two (Ended (Reads text) mark.Semicolon) (Ended (Reads text) mark.CloseRound) vs n us

pub inside_iterate : {text : List ℕ} {s o : Span} {ts us : List Token} {q : RelTree} {n : ℕ} → Reads text (opening form.Iterate s o ts) q n us → Loop text ts n us
inside_iterate (iterate {d = d} {p = p} {x = x} {i = i} {j = j} {q = q} {n = n} {h = h} {k = k} {r = r} {b = b} {ts = ts} {us = us} f g e c) = record { d = d; turns = n; x = x; vs = ts; head = (p, i, f, g, refl); two = record { x = r; y = b; h = h; k = k; us = us; first = (j, e); second = (q, c); is = refl } }
inside_iterate (set_operation i d e) = absurd (no_operator _ refl i)

pub inside_closure : {text : List ℕ} {o : Opening} {ts us : List Token} {q : RelTree} {n : ℕ} → piece text o.keyword ≡ closure_word → Reads text (closing o ts) q n us → Loop text ts n us
inside_closure w (named d h) = absurd (h w refl)
inside_closure w (closure {d = d} {p = p} {x = x} {i = i} {j = j} {q = q} {n = n} {h = h} {k = k} {r = r} {b = b} {ts = ts} {us = us} a v f g e c) = record { d = d; turns = n; x = x; vs = ts; head = (p, i, f, g, refl); two = record { x = r; y = b; h = h; k = k; us = us; first = (j, e); second = (q, c); is = refl } }

-- a head is followed by one rest
pub one_head : (text : List ℕ) (ts us vs : List Token) (d e : Span) (m n : ℕ) (x y : Span) → Heads text ts d m x us → Heads text ts e n y vs → us ≡ vs
one_head text ts us vs d e m n x y h k = rest_one (rest_one (rest_one (rest_one (sym h.4 ∙ k.4))))

pub iterate_at : (text : List ℕ) (ts vs us ws : List Token) (s o d x j q z : Span) (t : ℕ) (y : List ℕ) (a b l : RelTree) (h k n : ℕ) → Heads text ts d t x vs → y ≡ piece text x → Reads text vs a h (mark_at mark.Semicolon j ∷ us) → Reads text us b k (mark_at mark.CloseRound q ∷ ws) → z ≡ reaching s q → l ≡ RelTree.loop z Iterate d t x y a b → n ≡ max h k + 1 → Reads text (opening form.Iterate s o ts) l n ws
iterate_at text ts vs us ws s o d x j q z t y a b l h k n f g e c i m w = rw (f.4, m, i, w, g, add-one) (iterate f.2 f.3 e c)

pub closure_at : (text : List ℕ) (ts vs us ws : List Token) (o : Opening) (d x j q z : Span) (t : ℕ) (y : List ℕ) (a b l : RelTree) (h k n : ℕ) → IsClosureAt text o.keyword → Heads text ts d t x vs → y ≡ piece text x → Reads text vs a h (mark_at mark.Semicolon j ∷ us) → Reads text us b k (mark_at mark.CloseRound q ∷ ws) → z ≡ reaching o.keyword q → l ≡ RelTree.loop z Closure d t x y a b → n ≡ max h k + 1 → Reads text (closing o ts) l n ws
closure_at text ts vs us ws o d x j q z t y a b l h k n v f g e c i m w = rw (f.4, m, i, w, g, add-one) (closure v.0 v.1 f.2 f.3 e c)

pub no_closure_loop : (text : List ℕ) (ts : List Token) (o : Opening) (m : ℕ) → IsClosureAt text o.keyword → NoHead text ts → Unread (Reads text) (closing o ts) m
no_closure_loop text ts o m w h q n us d = let i = inside_closure w.1 d in absurd (h _ _ _ _ i.head)

pub closure_two : (text : List ℕ) (ts vs us : List Token) (o : Opening) (d x : Span) (t n : ℕ) (q : RelTree) → IsClosureAt text o.keyword → Heads text ts d t x vs → Reads text (closing o ts) q n us → Two (Ended (Reads text) mark.Semicolon) (Ended (Reads text) mark.CloseRound) vs n us
closure_two text ts vs us o d x t n q w h r = let i = inside_closure w.1 r in rw (one_head text ts vs i.vs d i.d t i.turns x i.x h i.head) i.two

pub no_loop : (text : List ℕ) (ts : List Token) (s o : Span) (m : ℕ) → NoHead text ts → Unread (Reads text) (opening form.Iterate s o ts) m
no_loop text ts s o m h q n us d = let i = inside_iterate d in absurd (h _ _ _ _ i.head)

pub loop_two : (text : List ℕ) (ts vs us : List Token) (s o d x : Span) (t n : ℕ) (q : RelTree) → Heads text ts d t x vs → Reads text (opening form.Iterate s o ts) q n us → Two (Ended (Reads text) mark.Semicolon) (Ended (Reads text) mark.CloseRound) vs n us
loop_two text ts vs us s o d x t n q h r = let i = inside_iterate r in rw (one_head text ts vs i.vs d i.d t i.turns x i.x h i.head) i.two

pub select_at : (text : List ℕ) (ts us ws : List Token) (s o p q x : Span) (r : RelTree) (xs : List ScalarTree) (l : RelTree) (h k n : ℕ) → Reads text ts r h (mark_at mark.Semicolon p ∷ us) → Listed ScalarAt us xs k (mark_at mark.CloseRound q ∷ ws) → x ≡ reaching s q → l ≡ RelTree.select x r xs → n ≡ max h k + 1 → Reads text (opening form.Select s o ts) l n ws
select_at text ts us ws s o p q x r xs l h k n d e j i w = rw (i, j, w, add-one) (select d e)

pub where_at : (text : List ℕ) (ts us ws : List Token) (s o p q x : Span) (r : RelTree) (c : CondTree) (l : RelTree) (h k n : ℕ) → Reads text ts r h (mark_at mark.Semicolon p ∷ us) → ConditionAt us c k (mark_at mark.CloseRound q ∷ ws) → x ≡ reaching s q → l ≡ RelTree.filter x r c → n ≡ max h k + 1 → Reads text (opening form.Where s o ts) l n ws
where_at text ts us ws s o p q x r c l h k n d e j i w = rw (i, j, w, add-one) (filter d e)

pub inside_join : {text : List ℕ} {s o : Span} {ts us : List Token} {q : RelTree} {n : ℕ} → Reads text (opening form.Join s o ts) q n us → Three (Ended (Reads text) mark.Comma) (Ended (Reads text) mark.Semicolon) (Ended (Listed PairAt) mark.CloseRound) ts n us
inside_join (join {p = p} {i = i} {q = q} {a = a} {b = b} {xs = xs} {h = h} {k = k} {n = n} {us = us} {vs = vs} d e f) = record { x = a; y = b; z = xs; h = h; k = k; l = n; us = us; vs = vs; first = (p, d); second = (i, e); third = (q, f); is = refl }
inside_join (set_operation i d e) = absurd (no_operator _ refl i)

pub join_at : (text : List ℕ) (ts us vs ws : List Token) (s o p i q x : Span) (a b l : RelTree) (xs : List Pair) (h k n : ℕ) → Reads text ts a h (mark_at mark.Comma p ∷ us) → Reads text us b k (mark_at mark.Semicolon i ∷ vs) → Listed PairAt vs xs 1 (mark_at mark.CloseRound q ∷ ws) → x ≡ reaching s q → l ≡ RelTree.join x a b xs → n ≡ max (max h k) 1 + 1 → Reads text (opening form.Join s o ts) l n ws
join_at text ts us vs ws s o p i q x a b l xs h k n d e f j m w = rw (m, j, w, add-one) (join d e f)

pub inside_group : {text : List ℕ} {s o : Span} {ts us : List Token} {q : RelTree} {n : ℕ} → Reads text (opening form.Group s o ts) q n us → Three (Ended (Reads text) mark.Semicolon) (Ended (Listed ColumnAt) mark.Semicolon) (Ended (Listed AggAt) mark.CloseRound) ts n us
inside_group (group {p = p} {i = i} {q = q} {r = r} {ks = ks} {xs = xs} {h = h} {k = k} {n = n} {us = us} {vs = vs} d e f) = record { x = r; y = ks; z = xs; h = h; k = k; l = n; us = us; vs = vs; first = (p, d); second = (i, e); third = (q, f); is = refl }
inside_group (set_operation i d e) = absurd (no_operator _ refl i)

pub group_at : (text : List ℕ) (ts us vs ws : List Token) (s o p i q x : Span) (r l : RelTree) (ks : List Column) (xs : List Agg) (h n : ℕ) → Reads text ts r h (mark_at mark.Semicolon p ∷ us) → Listed ColumnAt us ks 1 (mark_at mark.Semicolon i ∷ vs) → Listed AggAt vs xs 1 (mark_at mark.CloseRound q ∷ ws) → x ≡ reaching s q → l ≡ RelTree.group x r ks xs → n ≡ max (max h 1) 1 + 1 → Reads text (opening form.Group s o ts) l n ws
group_at text ts us vs ws s o p i q x r l ks xs h n d e f j m w = rw (m, j, w, add-one) (group d e f)

-- the relation inside a `distinct`
pub record Once (text : List ℕ) (ts : List Token) (n : ℕ) (us : List Token) : Type 0 where
  pub r : RelTree
  pub h : ℕ
  pub first : Ended (Reads text) mark.CloseRound ts r h us
  pub is : n ≡ suc h

pub inside_distinct : {text : List ℕ} {s o : Span} {ts us : List Token} {q : RelTree} {n : ℕ} → Reads text (opening form.Distinct s o ts) q n us → Once text ts n us
inside_distinct (distinct {q = q} {r = r} {h = h} d) = record { r = r; h = h; first = (q, d); is = refl }
inside_distinct (set_operation i d e) = absurd (no_operator _ refl i)

pub once_first : (text : List ℕ) (ts us : List Token) (m l n : ℕ) → m ≤ l + 1 → Unread (Ended (Reads text) mark.CloseRound) ts l → Once text ts n us → m < n
once_first text ts us m l n e u t = let a = u _ _ _ t.first in let i = t.is in omega arith

pub once_high : (text : List ℕ) (ts us ws : List Token) (x : RelTree) (h m n : ℕ) → IsOne (Ended (Reads text) mark.CloseRound) → Ended (Reads text) mark.CloseRound ts x h us → m ≤ h → Once text ts n ws → m < n
once_high text ts us ws x h m n q d e t = let o = q _ _ _ _ _ _ _ d t.first in let a = o.height in let i = t.is in omega arith

pub distinct_at : (text : List ℕ) (ts ws : List Token) (s o q x : Span) (r l : RelTree) (h n : ℕ) → Reads text ts r h (mark_at mark.CloseRound q ∷ ws) → x ≡ reaching s q → l ≡ RelTree.distinct x r → n ≡ h + 1 → Reads text (opening form.Distinct s o ts) l n ws
distinct_at text ts ws s o q x r l h n d j m w = rw (m, j, w, add-one) (distinct d)
