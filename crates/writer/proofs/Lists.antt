-- The canonical text of a list reads as that list.
use Rattle.std.proofs.Common.{◌≡◌, ℕ, max, ◌≤◌, List, [], ◌∷◌, ◌++◌, map, refl, ap, ap₂, ◌∙◌, arith}
use Rattle.std.specs.List.{flat_map}
use Rattle.record_core.specs.declared.span.Span.{Span}
use Rattle.record_core.specs.declared.keyword.Keyword.{Keyword}
use Rattle.record_core.specs.declared.keyword.Keyword.TheVariants as keyword
use Rattle.expr_tree.specs.declared.relation.Agg.TheVariants.{Count, Sum, Min, Max}
use Rattle.expr_tree.specs.declared.relation.Column.{Column}
use Rattle.expr_tree.specs.declared.relation.Pair.{Pair}
use Rattle.expr_tree.specs.Plain.{plain_scalar, plain_pair, plain_agg}
use Rattle.lexer.specs.declared.token.Token.{Token}
use Rattle.lexer.specs.declared.token.TokenKind.TheVariants as kind
use Rattle.lexer.specs.declared.mark.Mark.TheVariants as sign
use Rattle.grammar.specs.Tokens.{reaching, token, mark_at, keyword_at, NoMark}
use Rattle.grammar.specs.Phrases.{Listed, one, more}
use Rattle.grammar.specs.Scalars.{ScalarAt}
use Rattle.grammar.specs.Relations.{ColumnAt, PairAt, AggAt, AggOf}
use Rattle.writer.specs.Pieces.{Piece, comma, listed}
use Rattle.writer.specs.Scalars.{scalar_pieces, scalar_height}
use Rattle.writer.specs.Relations.{column_pieces, pair_pieces, agg_of, agg_pieces, heights}
use Rattle.writer.specs.Sources.{Each, Filled, IsScalarSource, IsColumnSource, IsPairSource, IsAggSource}
use Rattle.writer.proofs.PieceTokens.{Says, cut}
use Rattle.writer.proofs.Conditions.{Free}
use Rattle.writer.proofs.Scalars as scalars

-- a phrase that is read as x, spans aside
pub record Back {X Y : Type 0} (P : List Token → X → ℕ → List Token → Type 0) (plain : X → Y) (x : X) (n : ℕ) (ts us : List Token) : Type 0 where
  pub value : X
  pub same : plain value ≡ plain x
  pub reads : P ts value n us

pub record Backs {X Y : Type 0} (P : List Token → X → ℕ → List Token → Type 0) (plain : X → Y) (xs : List X) (n : ℕ) (ts us : List Token) : Type 0 where
  pub values : List X
  pub same : map plain values ≡ map plain xs
  pub reads : Listed P ts values n us

-- each is read back, before what no operator is
abbrev pub ReadsBack : {X Y : Type 0} → List ℕ → (List Token → X → ℕ → List Token → Type 0) → (X → List Piece) → (X → Y) → (X → ℕ) → (X → Type 0) → Type 0
ReadsBack {X} text P f plain height S = (x : X) → S x → (ts us : List Token) → Says text (f x) ts us → Free us → Back P plain x (height x) ts us

max_zero : (n : ℕ) → max n 0 ≡ n
max_zero n = omega arith

list_from : {X Y : Type 0} (text : List ℕ) (P : List Token → X → ℕ → List Token → Type 0) (f : X → List Piece) (plain : X → Y) (height : X → ℕ) (S : X → Type 0) → ReadsBack text P f plain height S
    → (x : X) (xs : List X) → S x → Each S xs → (ts us : List Token) → Says text (listed f (x ∷ xs)) ts us → Free us → NoMark sign.Comma us → Backs P plain (x ∷ xs) (heights height (x ∷ xs)) ts us
list_from text P f plain height S back x [] w e ts us s free last =
    let c = cut (f x) [] s in
    let a = back x w ts us (rw c.second at c.first) free in
    record { values = a.value ∷ []; same = ap (λ v. v ∷ []) a.same; reads = rw (max_zero (height x)) (one a.reads last) }
list_from text P f plain height S back x (y ∷ ys) w e ts us s free last =
    let c = cut (f x) (flat_map (λ y. comma ++ f y) (y ∷ ys)) s in
    let z = c.second in
    let a = back x w ts (mark_at sign.Comma z.0 ∷ z.1) (rw z.2 at c.first) (refl, refl) in
    let b = list_from text P f plain height S back y ys e.0 e.1 z.1 us z.4 free last in
    record { values = a.value ∷ b.values; same = ap₂ (λ v vs. v ∷ vs) a.same b.same; reads = more a.reads b.reads }

pub list_back : {X Y : Type 0} (text : List ℕ) (P : List Token → X → ℕ → List Token → Type 0) (f : X → List Piece) (plain : X → Y) (height : X → ℕ) (S : X → Type 0) → ReadsBack text P f plain height S
    → (xs : List X) → Filled S xs → (ts us : List Token) → Says text (listed f xs) ts us → Free us → NoMark sign.Comma us → Backs P plain xs (heights height xs) ts us
list_back text P f plain height S back [] w ts us s free last = absurd w
list_back text P f plain height S back (x ∷ xs) w ts us s free last = list_from text P f plain height S back x xs w.0 w.1 ts us s free last

-- phrases of height 1
at_most_one : {X : Type 0} (xs : List X) → heights (λ x. 1) xs ≤ 1
at_most_one [] = omega arith
at_most_one (x ∷ xs) = let i = at_most_one xs in omega arith

all_one : {X : Type 0} (S : X → Type 0) (xs : List X) → Filled S xs → heights (λ x. 1) xs ≡ 1
all_one S [] w = absurd w
all_one S (x ∷ xs) w = let i = at_most_one xs in omega arith

pub low_list : {X Y : Type 0} (text : List ℕ) (P : List Token → X → ℕ → List Token → Type 0) (f : X → List Piece) (plain : X → Y) (S : X → Type 0) → ReadsBack text P f plain (λ x. 1) S
    → (xs : List X) → Filled S xs → (ts us : List Token) → Says text (listed f xs) ts us → Free us → NoMark sign.Comma us → Backs P plain xs 1 ts us
low_list text P f plain S back xs w ts us s free last =
    let a = list_back text P f plain (λ x. 1) S back xs w ts us s free last in
    record { values = a.values; same = a.same; reads = rw (all_one S xs w) at a.reads }

pub scalar_back : (text : List ℕ) → ReadsBack text ScalarAt scalar_pieces plain_scalar scalar_height IsScalarSource
scalar_back text t w ts us s free = let a = scalars.reads_back text t w ts us s free.0 free.1 in record { value = a.tree; same = a.same; reads = (a.extent, a.reads) }

abbrev made_pair : Column → Column → Pair
made_pair a b = record { left = a; right = b }

abbrev column_of : Span → ℕ → Column
column_of s n = record { span = s; index = n }

pub column_back : (text : List ℕ) → ReadsBack text ColumnAt column_pieces (λ c. c.index) (λ c. 1) IsColumnSource
column_back text c w ts us s free = record { value = column_of s.0 c.index; same = refl; reads = (s.2 ∙ ap (λ v. token (kind.Column c.index) s.0 ∷ v) s.4, refl) }

pub pair_back : (text : List ℕ) → ReadsBack text PairAt pair_pieces plain_pair (λ p. 1) IsPairSource
pair_back text p w ts us s free =
    let m = s.4 in
    let r = m.4 in
    record {
      value = made_pair (column_of s.0 p.left.index) (column_of r.0 p.right.index);
      same = refl;
      reads = (m.0, s.2 ∙ ap (λ v. token (kind.Column p.left.index) s.0 ∷ v) (m.2 ∙ ap (λ v. mark_at sign.Equal m.0 ∷ v) (r.2 ∙ ap (λ v. token (kind.Column p.right.index) r.0 ∷ v) r.4)), refl);
    }

-- the keyword of an aggregate and its column
record Of (k : Keyword) (c : Column) (ts us : List Token) : Type 0 where
  pub column : Column
  pub span : Span
  pub same : column.index ≡ c.index
  pub reads : AggOf k span column ts us

agg_of_back : (text : List ℕ) (k : Keyword) (c : Column) (ts us : List Token) → Says text (agg_of k c) ts us → Of k c ts us
agg_of_back text k c ts us s =
    let r = s.4 in
    record {
      column = column_of r.0 c.index;
      span = reaching s.0 r.0;
      same = refl;
      reads = (s.0, refl, s.2 ∙ ap (λ v. keyword_at k s.0 ∷ v) (r.2 ∙ ap (λ v. token (kind.Column c.index) r.0 ∷ v) r.4));
    }

pub agg_back : (text : List ℕ) → ReadsBack text AggAt agg_pieces plain_agg (λ g. 1) IsAggSource
agg_back text (Count r) w ts us s free = record { value = Count s.0; same = refl; reads = (s.2 ∙ ap (λ v. keyword_at keyword.Count s.0 ∷ v) s.4, refl) }
agg_back text (Sum r c) w ts us s free = let a = agg_of_back text keyword.Sum c ts us s in record { value = Sum a.span a.column; same = cc a.same; reads = (a.reads, refl) }
agg_back text (Min r c) w ts us s free = let a = agg_of_back text keyword.Min c ts us s in record { value = Min a.span a.column; same = cc a.same; reads = (a.reads, refl) }
agg_back text (Max r c) w ts us s free = let a = agg_of_back text keyword.Max c ts us s in record { value = Max a.span a.column; same = cc a.same; reads = (a.reads, refl) }
