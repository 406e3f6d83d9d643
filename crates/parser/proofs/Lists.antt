-- Lists of phrases, read one after the other.
use Rattle.std.proofs.Common.{◌≡◌, ℕ, ◌≤◌, max, arith, ap, List, [], ◌∷◌, ◌++◌, append_assoc, refl, sym, ◌∙◌}
use Rattle.record_core.specs.declared.span.Span.{Span}
use Rattle.record_core.specs.declared.keyword.Keyword.{Keyword}
use Rattle.record_core.specs.declared.keyword.Keyword.TheVariants as keyword
use Rattle.lexer.specs.declared.token.Token.{Token}
use Rattle.lexer.specs.declared.mark.Mark.{Mark}
use Rattle.lexer.specs.declared.mark.Mark.TheVariants as mark
use Rattle.lexer.specs.declared.token.TokenKind.TheVariants as kind
use Rattle.expr_tree.specs.declared.relation.Agg.TheVariants.{Count, Sum, Min, Max}
use Rattle.expr_tree.specs.declared.relation.Column.{Column}
use Rattle.grammar.specs.Tokens.{mark_at, keyword_at, NoMark, NoKeyword}
use Rattle.grammar.specs.Phrases.{Listed, one, more, IsOne, Unread, Ended}
use Rattle.grammar.specs.Relations.{column_at, ColumnAt, PairAt, AggAt, AggOf}
use Rattle.grammar.proofs.Tokens.{first_one, rest_one}
use Rattle.parser.specs.Scanning.{NoColumn}

pub one_ended : {X : Type 0} (P : List Token → X → ℕ → List Token → Type 0) (m : Mark) → IsOne P → IsOne (Ended P m)
one_ended P m q ts us vs x y h k d e = let a = q _ _ _ _ _ _ _ d.1 e.1 in record { value = a.value; height = a.height; left = rest_one a.left }

pub unread_ended : {X : Type 0} (P : List Token → X → ℕ → List Token → Type 0) (m : Mark) (ts : List Token) (n : ℕ) → Unread P ts n → Unread (Ended P m) ts n
unread_ended P m ts n u x h us d = u _ _ _ d.1

pub no_end : {X : Type 0} (P : List Token → X → ℕ → List Token → Type 0) (m : Mark) (ts us : List Token) (x : X) (h n : ℕ) → IsOne P → P ts x h us → NoMark m us → Unread (Ended P m) ts n
no_end P m ts us x h n q d f y k vs e = let a = q _ _ _ _ _ _ _ d e.1 in absurd ((rw a.left at f) refl)

pub unread_list : {X : Type 0} (P : List Token → X → ℕ → List Token → Type 0) (ts : List Token) (m : ℕ) → Unread P ts m → Unread (Listed P) ts m
unread_list P ts m u xs h us (one d f) = u _ _ _ d
unread_list P ts m u xs h us (more d r) = let a = u _ _ _ d in omega arith

pub record Goes {X : Type 0} (P : List Token → X → ℕ → List Token → Type 0) (xs : List X) (h : ℕ) (us : List Token) (zs : List X) (n : ℕ) (vs : List Token) : Type 0 where
  pub ys : List X
  pub k : ℕ
  pub reads : Listed P us ys k vs
  pub value : zs ≡ xs ++ ys
  pub height : n ≡ max h k

-- what completes a list so far completes the whole, and each reading of the whole goes on from here
pub record ListOn {X : Type 0} (P : List Token → X → ℕ → List Token → Type 0) (ts : List Token) (xs : List X) (h : ℕ) (us : List Token) : Type 0 where
  pub completes : (ys : List X) (k : ℕ) (vs : List Token) → Listed P us ys k vs → Listed P ts (xs ++ ys) (max h k) vs
  pub only : (zs : List X) (n : ℕ) (vs : List Token) → Listed P ts zs n vs → Goes P xs h us zs n vs

-- heights of lists, added up in another order
pub max_zero : (k : ℕ) → k ≡ max 0 k
max_zero k = omega arith

pub max_turned : (h k n : ℕ) → max (max k h) n ≡ max h (max k n)
max_turned h k n = omega arith

pub list_begins : {X : Type 0} (P : List Token → X → ℕ → List Token → Type 0) (ts : List Token) → ListOn P ts [] 0 ts
list_begins P ts = record {
  completes = λ ys k vs d. rw (← max_zero k) d;
  only = λ zs n vs d. record { ys = zs; k = n; reads = d; value = refl; height = omega arith };
}

max_assoc : (h k n : ℕ) → max (max h k) n ≡ max h (max k n)
max_assoc h k n = omega arith

next_item : {X : Type 0} {P : List Token → X → ℕ → List Token → Type 0} {us vs ws : List Token} {x : X} {k : ℕ} {s : Span} {ys : List X} {n : ℕ} → IsOne P → P us x k (mark_at mark.Comma s ∷ vs) → Listed P us ys n ws → Goes P (x ∷ []) k vs ys n ws
next_item q d (one e f) = let a = q _ _ _ _ _ _ _ d e in absurd ((rw (← a.left) at f) refl)
next_item q d (more {xs = xs} {k = k} e r) = let a = q _ _ _ _ _ _ _ d e in record { ys = xs; k = k; reads = rw (← rest_one a.left) at r; value = cc a.value; height = cc a.height }

pub list_goes_on : {X : Type 0} (P : List Token → X → ℕ → List Token → Type 0) (ts us vs ws : List Token) (xs zs : List X) (x : X) (h k n : ℕ) (s : Span) → IsOne P → ListOn P ts xs h us → P us x k vs → vs ≡ mark_at mark.Comma s ∷ ws → zs ≡ xs ++ x ∷ [] → n ≡ max h k → ListOn P ts zs n ws
list_goes_on P ts us vs ws xs zs x h k n s q g d e i j = record {
  completes = λ ys l us2 r. rw (i, j, append_assoc, max_assoc h k l) (g.completes (x ∷ ys) (max k l) us2 (more (rw e at d) r));
  only = λ ys l us2 r. let a = g.only ys l us2 r in let b = next_item q (rw e at d) a.reads in record { ys = b.ys; k = b.k; reads = b.reads; value = rw (i, append_assoc) (a.value ∙ ap (λ v. xs ++ v) b.value); height = let c = a.height in let f = b.height in omega arith };
}

pub list_ends : {X : Type 0} (P : List Token → X → ℕ → List Token → Type 0) (ts us vs : List Token) (xs zs : List X) (x : X) (h k n : ℕ) → ListOn P ts xs h us → P us x k vs → NoMark mark.Comma vs → zs ≡ xs ++ x ∷ [] → n ≡ max h k → Listed P ts zs n vs
list_ends P ts us vs xs zs x h k n g d f i j = rw (i, j) (g.completes (x ∷ []) k vs (one d f))

pub list_unread : {X : Type 0} (P : List Token → X → ℕ → List Token → Type 0) (ts us : List Token) (xs : List X) (h m : ℕ) → ListOn P ts xs h us → Unread P us m → Unread (Listed P) ts m
list_unread P ts us xs h m g u zs n vs d = let a = g.only zs n vs d in let b = unread_list P us m u _ _ _ a.reads in let c = a.height in omega arith

-- columns, pairs and aggregates that aren't there
pub no_column : (ts : List Token) (m : ℕ) → NoColumn ts → Unread ColumnAt ts m
no_column ts m n c h us d = absurd (rw d.0 at n)

pub no_left : (ts : List Token) (m : ℕ) → NoColumn ts → Unread PairAt ts m
no_left ts m n p h us d = absurd (rw d.1 at n)

pub no_equal : (ts us : List Token) (c : Column) (m : ℕ) → ts ≡ column_at c ∷ us → NoMark mark.Equal us → Unread PairAt ts m
no_equal ts us c m e n p h vs d = absurd ((rw (rest_one (sym e ∙ d.1)) at n) refl)

pub no_right : (ts us vs : List Token) (c : Column) (s : Span) (m : ℕ) → ts ≡ column_at c ∷ us → us ≡ mark_at mark.Equal s ∷ vs → NoColumn vs → Unread PairAt ts m
no_right ts us vs c s m e f n p h ws d = absurd (rw (rest_one (sym f ∙ rest_one (sym e ∙ d.1))) at n)

-- the keywords that want a column
pub data Folds : Keyword → Type 0 where
  sum : Folds keyword.Sum
  min : Folds keyword.Min
  max_of : Folds keyword.Max

no_fold_column : {k l : Keyword} {s r : Span} {c : Column} {ts us vs : List Token} → ts ≡ keyword_at k s ∷ us → NoColumn us → AggOf l r c ts vs → ⊥
no_fold_column e n g = rw (rest_one (sym e ∙ g.2)) at n

count_alone : {k : Keyword} {s r : Span} {ts us vs : List Token} → Folds k → ts ≡ keyword_at k s ∷ us → ts ≡ keyword_at keyword.Count r ∷ vs → ⊥
count_alone {k = k} f e g = let t = first_one (sym e ∙ g) in let q : kind.Keyword k ≡ kind.Keyword keyword.Count = ap (λ x. x.kind) t in not_count f (cc q)
  where
    not_count : {k : Keyword} → Folds k → k ≡ keyword.Count → ⊥
    not_count sum q = absurd cc
    not_count min q = absurd cc
    not_count max_of q = absurd cc

pub no_aggregated : (k : Keyword) (ts us : List Token) (s : Span) (m : ℕ) → Folds k → ts ≡ keyword_at k s ∷ us → NoColumn us → Unread AggAt ts m
no_aggregated k ts us s m f e n (Count r) h vs d = absurd (count_alone f e d.0)
no_aggregated k ts us s m f e n (Sum r c) h vs d = absurd (no_fold_column e n d.0)
no_aggregated k ts us s m f e n (Min r c) h vs d = absurd (no_fold_column e n d.0)
no_aggregated k ts us s m f e n (Max r c) h vs d = absurd (no_fold_column e n d.0)

pub no_agg : (ts : List Token) (m : ℕ) → NoKeyword keyword.Count ts → NoKeyword keyword.Sum ts → NoKeyword keyword.Min ts → NoKeyword keyword.Max ts → Unread AggAt ts m
no_agg ts m a b c e (Count r) h vs d = absurd ((rw d.0 at a) refl)
no_agg ts m a b c e (Sum r x) h vs d = absurd ((rw d.0.2 at b) refl)
no_agg ts m a b c e (Min r x) h vs d = absurd ((rw d.0.2 at c) refl)
no_agg ts m a b c e (Max r x) h vs d = absurd ((rw d.0.2 at e) refl)

-- the same of phrases of height 1
pub record OnesOn {X : Type 0} (P : List Token → X → ℕ → List Token → Type 0) (ts : List Token) (xs : List X) (us : List Token) : Type 0 where
  pub height : ℕ
  pub on : ListOn P ts xs height us
  pub low : height ≤ 1

pub ones_begin : {X : Type 0} (P : List Token → X → ℕ → List Token → Type 0) (ts : List Token) → OnesOn P ts [] ts
ones_begin P ts = record { height = 0; on = list_begins P ts; low = omega arith }

pub ones_go_on : {X : Type 0} (P : List Token → X → ℕ → List Token → Type 0) (ts us vs ws : List Token) (xs zs : List X) (x : X) (s : Span) → IsOne P → OnesOn P ts xs us → P us x 1 vs → vs ≡ mark_at mark.Comma s ∷ ws → zs ≡ xs ++ x ∷ [] → OnesOn P ts zs ws
ones_go_on P ts us vs ws xs zs x s q g d e i = record { height = max g.height 1; on = list_goes_on P ts us vs ws xs zs x g.height 1 (max g.height 1) s q g.on d e i refl; low = let l = g.low in omega arith }

pub ones_end : {X : Type 0} (P : List Token → X → ℕ → List Token → Type 0) (m : Mark) (ts us vs ws : List Token) (xs zs : List X) (x : X) (s : Span) → OnesOn P ts xs us → P us x 1 vs → NoMark mark.Comma vs → zs ≡ xs ++ x ∷ [] → vs ≡ mark_at m s ∷ ws → Listed P ts zs 1 (mark_at m s ∷ ws)
ones_end P m ts us vs ws xs zs x s g d n i e = let l = g.low in rw e at (list_ends P ts us vs xs zs x g.height 1 1 g.on d n i (omega arith))

pub ones_unread : {X : Type 0} (P : List Token → X → ℕ → List Token → Type 0) (e : Mark) (ts us : List Token) (xs : List X) (m : ℕ) → OnesOn P ts xs us → Unread P us m → Unread (Ended (Listed P) e) ts m
ones_unread P e ts us xs m g u = unread_ended (Listed P) e ts m (list_unread P ts us xs g.height m g.on u)

pub ones_no_end : {X : Type 0} (P : List Token → X → ℕ → List Token → Type 0) (e : Mark) (ts us vs : List Token) (xs : List X) (x : X) (m : ℕ) → IsOne (Listed P) → OnesOn P ts xs us → P us x 1 vs → NoMark mark.Comma vs → NoMark e vs → Unread (Ended (Listed P) e) ts m
ones_no_end P e ts us vs xs x m q g d n f = let l = g.low in no_end (Listed P) e ts vs (xs ++ x ∷ []) 1 m q (list_ends P ts us vs xs (xs ++ x ∷ []) x g.height 1 1 g.on d n refl (omega arith)) f
