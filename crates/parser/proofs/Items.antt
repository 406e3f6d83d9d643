-- Inputs and named relations, read one after the other.
use Rattle.std.proofs.Common.{◌≡◌, ℕ, ◌<◌, ◌≤◌, ◌^◌, max, arith, ap, List, [], ◌∷◌, ◌++◌, append_assoc, append-nil, map, refl, sym, ◌∙◌}
use Rattle.record_core.specs.declared.span.Span.{Span}
use Rattle.record_core.specs.declared.keyword.Keyword.TheVariants as keyword
use Rattle.lexer.specs.declared.token.Token.{Token}
use Rattle.lexer.specs.declared.token.TokenKind.TheVariants as kind
use Rattle.lexer.specs.declared.mark.Mark.TheVariants as mark
use Rattle.expr_tree.specs.declared.program.Input.{Input}
use Rattle.expr_tree.specs.Trees.{RelTree, LetTree}
use Rattle.grammar.specs.Tokens.{token, mark_at, keyword_at, NoMark, NoKeyword}
use Rattle.grammar.specs.Phrases.{Unread, Ended}
use Rattle.grammar.specs.Relations.{piece, IsNameAt}
use Rattle.grammar.specs.Relations as relation
use Rattle.grammar.specs.Programs.{Inputs, no_input, input, Lets, no_let, binding}
use Rattle.grammar.proofs.Tokens.{first_one, rest_one}
use Rattle.grammar.proofs.Relations.{one_relation}
use Rattle.parser.specs.Scanning.{NoName}
use Rattle.parser.specs.Items.{Declares, NoDeclaration, NoInputs, Binds}
use Rattle.parser.proofs.Lists.{max_turned}

made_input : Span → List ℕ → Span → ℕ → Input
made_input s x d n = record { name_span = s; name = x; arity_span = d; arity = n }

same_input : (s r : Span) (x y : List ℕ) (d e : Span) (n m : ℕ) → s ≡ r → x ≡ y → d ≡ e → n ≡ m → made_input s x d n ≡ made_input r y e m
same_input s r x y d e n m a b c f = cc

is_made : (i : Input) → made_input i.name_span i.name i.arity_span i.arity ≡ i
unfolding made_input
is_made i = refl

-- an input of which its place is known is its declaration
input_from : (text : List ℕ) (s d p q r : Span) (n : ℕ) (is : List Input) (ts us : List Token) → n < 2 ^ 63 → IsNameAt text s → Inputs text ts is us → Inputs text (keyword_at keyword.Input r ∷ token kind.Name s ∷ mark_at mark.Slash p ∷ token (kind.Number n) d ∷ mark_at mark.Semicolon q ∷ ts) (made_input s (piece text s) d n ∷ is) us
unfolding made_input
input_from text s d p q r n is ts us a b c = input a b c

pub input_at : (text : List ℕ) (ts vs ws us : List Token) (s : Span) (i : Input) (is : List Input) → ts ≡ keyword_at keyword.Input s ∷ vs → Declares text vs i ws → Inputs text ws is us → Inputs text ts (i ∷ is) us
input_at text ts vs ws us s i is e d r =
    let made : made_input i.name_span (piece text i.name_span) i.arity_span i.arity ≡ i = same_input i.name_span i.name_span (piece text i.name_span) i.name i.arity_span i.arity_span i.arity i.arity refl (sym d.4) refl refl ∙ is_made i in
    rw (e, d.5) (rw made at (input_from text i.name_span i.arity_span d.0 d.1 s i.arity is ws us d.2 d.3 r))

record NextInput (text : List ℕ) (i : Input) (ws : List Token) (zs : List Input) (us : List Token) : Type 0 where
  pub is : List Input
  pub reads : Inputs text ws is us
  pub value : zs ≡ i ∷ is

same_declared : (text : List ℕ) (x y p r q o d e : Span) (n m : ℕ) (ts us : List Token) → token kind.Name x ∷ mark_at mark.Slash p ∷ token (kind.Number n) d ∷ mark_at mark.Semicolon q ∷ ts ≡ token kind.Name y ∷ mark_at mark.Slash r ∷ token (kind.Number m) e ∷ mark_at mark.Semicolon o ∷ us → (made_input x (piece text x) d n ≡ made_input y (piece text y) e m) × (ts ≡ us)
same_declared text x y p r q o d e n m ts us h =
    let a : x ≡ y = ap (λ (t : Token). t.span) (first_one h) in
    let third = rest_one (rest_one h) in
    let t = first_one third in
    let k : kind.Number n ≡ kind.Number m = ap (λ (t : Token). t.kind) t in
    let b : d ≡ e = ap (λ (t : Token). t.span) t in
    let c : n ≡ m = cc in
    (same_input x y (piece text x) (piece text y) d e n m a (ap (piece text) a) b c, rest_one (rest_one third))

next_input : {text : List ℕ} {s : Span} {i : Input} {vs ws us : List Token} {zs : List Input} → Declares text vs i ws → Inputs text (keyword_at keyword.Input s ∷ vs) zs us → NextInput text i ws zs us
unfolding made_input
next_input d (no_input f) = absurd (f refl)
next_input {text = text} {i = i} {ws = ws} d (input {x = x} {p = p} {d = e} {q = q} {n = n} {is = is} {ts = ts} a b r) =
    let h = same_declared text x i.name_span p d.0 q d.1 e i.arity_span n i.arity ts ws d.5 in
    let made : made_input i.name_span (piece text i.name_span) i.arity_span i.arity ≡ i = same_input i.name_span i.name_span (piece text i.name_span) i.name i.arity_span i.arity_span i.arity i.arity refl (sym d.4) refl refl ∙ is_made i in
    record { is = is; reads = rw (← h.1) r; value = ap (λ v. v ∷ is) (h.0 ∙ made) }

pub record GoesInputs (text : List ℕ) (xs : List Input) (us : List Token) (zs : List Input) (vs : List Token) : Type 0 where
  pub ys : List Input
  pub reads : Inputs text us ys vs
  pub value : zs ≡ xs ++ ys

-- what completes the inputs so far completes the whole, and each reading of the whole goes on from here
pub record InputsOn (text : List ℕ) (ts : List Token) (xs : List Input) (us : List Token) : Type 0 where
  pub completes : (ys : List Input) (vs : List Token) → Inputs text us ys vs → Inputs text ts (xs ++ ys) vs
  pub only : (zs : List Input) (vs : List Token) → Inputs text ts zs vs → GoesInputs text xs us zs vs

from_none : (text : List ℕ) (ts : List Token) → InputsOn text ts [] ts
from_none text ts = record { completes = λ ys vs d. d; only = λ zs vs d. record { ys = zs; reads = d; value = refl } }

pub inputs_begin : (text : List ℕ) (ts : List Token) (xs : List Input) → xs ≡ [] → InputsOn text ts xs ts
inputs_begin text ts xs e = rw e (from_none text ts)

pub inputs_go_on : (text : List ℕ) (ts us vs ws : List Token) (xs zs : List Input) (i : Input) (s : Span) → InputsOn text ts xs us → us ≡ keyword_at keyword.Input s ∷ vs → Declares text vs i ws → zs ≡ xs ++ i ∷ [] → InputsOn text ts zs ws
inputs_go_on text ts us vs ws xs zs i s g e d z = record {
  completes = λ ys us2 r. rw (z, append_assoc) (g.completes (i ∷ ys) us2 (input_at text us vs ws us2 s i ys e d r));
  only = λ ys us2 r. let a = g.only ys us2 r in let b = next_input d (rw e at a.reads) in record { ys = b.is; reads = b.reads; value = rw (z, append_assoc) (a.value ∙ ap (λ v. xs ++ v) b.value) };
}

pub inputs_end : (text : List ℕ) (ts us : List Token) (xs : List Input) → InputsOn text ts xs us → NoKeyword keyword.Input us → Inputs text ts xs us
inputs_end text ts us xs g n = rw append-nil at (g.completes [] us (no_input n))

no_next : {text : List ℕ} {s : Span} {vs us : List Token} {zs : List Input} → NoDeclaration text vs → Inputs text (keyword_at keyword.Input s ∷ vs) zs us → ⊥
no_next h (no_input f) = f refl
no_next {text = text} h (input {x = x} {p = p} {d = d} {q = q} {n = n} {ts = ts} a b r) = h (record { name_span = x; name = piece text x; arity_span = d; arity = n }) ts (p, q, a, b, refl, refl)

pub inputs_none : (text : List ℕ) (ts us vs : List Token) (xs : List Input) (s : Span) → InputsOn text ts xs us → us ≡ keyword_at keyword.Input s ∷ vs → NoDeclaration text vs → NoInputs text ts
inputs_none text ts us vs xs s g e n zs ws d = let a = g.only zs ws d in no_next n (rw e at a.reads)

-- named relations
made_let : Span → List ℕ → RelTree → LetTree
made_let s x r = record { name_span = s; name = x; relation = r }

same_let : (s r : Span) (x y : List ℕ) (a b : RelTree) → s ≡ r → x ≡ y → a ≡ b → made_let s x a ≡ made_let r y b
same_let s r x y a b e f g = cc

is_let : (l : LetTree) → made_let l.name_span l.name l.relation ≡ l
unfolding made_let
is_let l = refl

let_from : (text : List ℕ) (s p q r : Span) (a : RelTree) (h k : ℕ) (bs : List LetTree) (ts us vs : List Token) → IsNameAt text s → relation.Reads text ts a h (mark_at mark.Semicolon q ∷ us) → Lets text us bs k vs → Lets text (keyword_at keyword.Let r ∷ token kind.Name s ∷ mark_at mark.Equal p ∷ ts) (made_let s (piece text s) a ∷ bs) (max h k) vs
unfolding made_let
let_from text s p q r a h k bs ts us vs b c d = binding b c d

pub let_at : (text : List ℕ) (ts vs ws us : List Token) (s : Span) (l : LetTree) (bs : List LetTree) (h k : ℕ) → ts ≡ keyword_at keyword.Let s ∷ vs → Binds text vs l h ws → Lets text ws bs k us → Lets text ts (l ∷ bs) (max h k) us
let_at text ts vs ws us s l bs h k e d r =
    let made : made_let l.name_span (piece text l.name_span) l.relation ≡ l = same_let l.name_span l.name_span (piece text l.name_span) l.name l.relation l.relation refl (sym d.4) refl ∙ is_let l in
    rw (e, d.5) (rw made at (let_from text l.name_span d.0 d.1 s l.relation h k bs d.2 ws us d.3 d.6 r))

record NextLet (text : List ℕ) (l : LetTree) (h : ℕ) (ws : List Token) (zs : List LetTree) (n : ℕ) (us : List Token) : Type 0 where
  pub ls : List LetTree
  pub k : ℕ
  pub reads : Lets text ws ls k us
  pub value : zs ≡ l ∷ ls
  pub height : n ≡ max h k

next_let : {text : List ℕ} {s : Span} {l : LetTree} {vs ws us : List Token} {zs : List LetTree} {h n : ℕ} → Binds text vs l h ws → Lets text (keyword_at keyword.Let s ∷ vs) zs n us → NextLet text l h ws zs n us
unfolding made_let
next_let d (no_let f) = absurd (f refl)
next_let {text = text} {l = l} {ws = ws} {h = h} d (binding {x = x} {p = p} {q = q} {r = r} {h = m} {k = k} {bs = bs} {ts = ts} {us = us} b c e) =
    let first : token kind.Name x ≡ token kind.Name l.name_span = first_one d.5 in
    let a : x ≡ l.name_span = ap (λ (t : Token). t.span) first in
    let rest = rest_one (rest_one d.5) in
    let o = one_relation text ts _ _ _ _ _ _ c (rw (← rest) at d.6) in
    let made : made_let l.name_span (piece text l.name_span) l.relation ≡ l = same_let l.name_span l.name_span (piece text l.name_span) l.name l.relation l.relation refl (sym d.4) refl ∙ is_let l in
    record { ls = bs; k = k; reads = rw (← rest_one o.left) e; value = ap (λ v. v ∷ bs) (same_let x l.name_span (piece text x) (piece text l.name_span) r l.relation a (ap (piece text) a) o.value ∙ made); height = ap (λ v. max v k) o.height }

pub record GoesLets (text : List ℕ) (xs : List LetTree) (h : ℕ) (us : List Token) (zs : List LetTree) (n : ℕ) (vs : List Token) : Type 0 where
  pub ys : List LetTree
  pub k : ℕ
  pub reads : Lets text us ys k vs
  pub value : zs ≡ xs ++ ys
  pub height : max n 1 ≡ max h k

-- the same of named relations
pub record LetsOn (text : List ℕ) (ts : List Token) (xs : List LetTree) (h : ℕ) (us : List Token) : Type 0 where
  pub completes : (ys : List LetTree) (k : ℕ) (vs : List Token) → Lets text us ys k vs → Lets text ts (xs ++ ys) (max h k) vs
  pub only : (zs : List LetTree) (n : ℕ) (vs : List Token) → Lets text ts zs n vs → GoesLets text xs h us zs n vs

-- at least 1 high
lets_low : {text : List ℕ} {ts us : List Token} {bs : List LetTree} {n : ℕ} → Lets text ts bs n us → 1 ≤ n
lets_low (no_let f) = omega arith
lets_low (binding b c e) = let w = lets_low e in omega arith

max_one : (k : ℕ) → 1 ≤ k → k ≡ max 1 k
max_one k h = omega arith

no_lets_yet : (text : List ℕ) (ts : List Token) → LetsOn text ts [] 1 ts
no_lets_yet text ts = record {
  completes = λ ys k vs d. rw (← max_one k (lets_low d)) d;
  only = λ zs n vs d. record { ys = zs; k = n; reads = d; value = refl; height = omega arith };
}

pub lets_begin : {X : Type 0} (text : List ℕ) (ts : List Token) (f : X → LetTree) (xs : List X) → xs ≡ [] → LetsOn text ts (map f xs) 1 ts
lets_begin text ts f xs e = rw e (no_lets_yet text ts)

pub lets_go_on : (text : List ℕ) (ts us vs ws : List Token) (xs zs : List LetTree) (l : LetTree) (s : Span) (h k n : ℕ) → LetsOn text ts xs h us → us ≡ keyword_at keyword.Let s ∷ vs → Binds text vs l k ws → zs ≡ xs ++ l ∷ [] → n ≡ max k h → LetsOn text ts zs n ws
lets_go_on text ts us vs ws xs zs l s h k n g e d z j = record {
  completes = λ ys m us2 r. rw (z, j, append_assoc, max_turned h k m) (g.completes (l ∷ ys) (max k m) us2 (let_at text us vs ws us2 s l ys k m e d r));
  only = λ ys m us2 r. let a = g.only ys m us2 r in let b = next_let d (rw e at a.reads) in record { ys = b.ls; k = b.k; reads = b.reads; value = rw (z, append_assoc) (a.value ∙ ap (λ v. xs ++ v) b.value); height = let c = a.height in let f = b.height in omega arith };
}

pub lets_end : (text : List ℕ) (ts us : List Token) (xs : List LetTree) (h : ℕ) → 1 ≤ h → LetsOn text ts xs h us → NoKeyword keyword.Let us → Lets text ts xs h us
lets_end text ts us xs h low g n =
    let one : max h 1 ≡ h = omega arith in
    rw one at (rw append-nil at (g.completes [] 1 us (no_let n)))

no_binding : {text : List ℕ} {s : Span} {vs us : List Token} {zs : List LetTree} {n m : ℕ} → Unread (Binds text) vs m → Lets text (keyword_at keyword.Let s ∷ vs) zs n us → m < n
no_binding u (no_let f) = absurd (f refl)
no_binding {text = text} u (binding {x = x} {p = p} {q = q} {r = r} {h = h} {k = k} {ts = ts} b c e) =
    let w = u (record { name_span = x; name = piece text x; relation = r }) h _ (p, q, ts, b, refl, refl, c) in omega arith

pub lets_unread : (text : List ℕ) (ts us vs : List Token) (xs : List LetTree) (s : Span) (h m : ℕ) → LetsOn text ts xs h us → us ≡ keyword_at keyword.Let s ∷ vs → Unread (Binds text) vs m → Unread (Lets text) ts m
lets_unread text ts us vs xs s h m g e u zs n ws d =
    let a = g.only zs n ws d in let b = no_binding u (rw e at a.reads) in let c = a.height in let f = lets_low d in omega arith

-- the parts of a named relation
pub binds_at : (text : List ℕ) (ts us vs ws : List Token) (s p q : Span) (x : List ℕ) (r : RelTree) (l : LetTree) (h : ℕ) → ts ≡ token kind.Name s ∷ us → x ≡ piece text s → IsNameAt text s → us ≡ mark_at mark.Equal p ∷ vs → relation.Reads text vs r h (mark_at mark.Semicolon q ∷ ws) → l ≡ record { name_span = s; name = x; relation = r } → Binds text ts l h ws
binds_at text ts us vs ws s p q x r l h e f g i d j = rw j (p, q, vs, g, f, rw (e, i) refl, d)

pub no_bound_name : (text : List ℕ) (ts : List Token) (m : ℕ) → NoName text ts → Unread (Binds text) ts m
no_bound_name text ts m n l h us d = absurd ((rw d.5 at n) d.3)

pub no_bound_equal : (text : List ℕ) (ts us : List Token) (t : Token) (m : ℕ) → ts ≡ t ∷ us → NoMark mark.Equal us → Unread (Binds text) ts m
no_bound_equal text ts us t m e n l h vs d = absurd ((rw (rest_one (sym e ∙ d.5)) at n) refl)

pub unread_bound : (text : List ℕ) (ts us vs : List Token) (t u : Token) (m : ℕ) → ts ≡ t ∷ us → us ≡ u ∷ vs → Unread (Ended (relation.Reads text) mark.Semicolon) vs m → Unread (Binds text) ts m
unread_bound text ts us vs t u m e f n l h ws d =
    let same = rest_one (sym f ∙ rest_one (sym e ∙ d.5)) in
    n l.relation h ws (d.1, rw same d.6)
