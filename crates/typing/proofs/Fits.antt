-- No column is beyond exactly where the columns fit.
use Rattle.std.proofs.Common.{◌≡◌, ℕ, ◌<◌, Bool, true, false, cond, nat_lt, List, [], ◌∷◌, ◌++◌, map, flat_map, None, Some, refl, ◌∙◌, ap}
use Rattle.std.proofs.lemmas.Bool.{ltb-true, lt-ltb}
use Rattle.std.specs.List.{AllByRecursion}
use Rattle.record_core.specs.declared.span.Span.{Span}
use Rattle.expr_tree.specs.declared.scalar.Operator.{Operator}
use Rattle.expr_tree.specs.declared.scalar.Operator.TheVariants as operator
use Rattle.expr_tree.specs.declared.condition.Connective.{Connective}
use Rattle.expr_tree.specs.declared.condition.Connective.TheVariants as connective
use Rattle.expr_tree.specs.declared.relation.Column.{Column}
use Rattle.expr_tree.specs.declared.relation.Pair as declared_pair
use Rattle.expr_tree.specs.declared.relation.Agg as declared_agg
use Rattle.expr_tree.specs.declared.relation.Agg.TheVariants as agg
use Rattle.expr_tree.specs.Trees.{ScalarTree, CondTree}
use Rattle.expr_tree.specs.Plain.{plain_operator, plain_scalar, plain_connective, plain_cond, plain_pair, plain_agg}
use Rattle.semantics.specs.Query.{Scalar, Cond, Pair}
use Rattle.semantics.specs.Typing.{ScalarFits, CondFits, AggFits}
use Rattle.typing.specs.Columns.{ColumnUse, scalar_columns, cond_columns, pair_columns, key_columns, agg_columns, first_beyond}
use Rattle.typing.proofs.ColumnsBeyond.{first_none}

-- no column beyond
abbrev NoneBeyond : List ColumnUse → Type 0
NoneBeyond cs = first_beyond cs ≡ None

join : (xs ys : List ColumnUse) → NoneBeyond xs → NoneBeyond ys → NoneBeyond (xs ++ ys)
join xs ys h k = first_none xs ys h ∙ k

fronts : (xs ys : List ColumnUse) → NoneBeyond (xs ++ ys) → NoneBeyond xs × NoneBeyond ys
fronts [] ys h = (refl, h)
fronts (c ∷ xs) ys h = go (nat_lt c.index c.arity) (fronts xs ys) h
  where
    go : (b : Bool) → (NoneBeyond (xs ++ ys) → NoneBeyond xs × NoneBeyond ys) → cond b (first_beyond (xs ++ ys)) (Some c.span) ≡ None → (cond b (first_beyond xs) (Some c.span) ≡ None) × NoneBeyond ys
    go true ih k = ih k
    go false ih k = absurd (cc)

within : (c n : ℕ) (s : Span) → c < n → cond (nat_lt c n) None (Some s) ≡ None
within c n s h = ap (λ b. cond b None (Some s)) (lt-ltb c n h)

below : (c n : ℕ) (s : Span) → cond (nat_lt c n) None (Some s) ≡ None → c < n
below c n s h = go (nat_lt c n) refl h
  where
    go : (b : Bool) → nat_lt c n ≡ b → cond b None (Some s) ≡ None → c < n
    go true e k = ltb-true c n e
    go false e k = absurd (cc)

under : (o : Operator) (n : ℕ) (a b : Scalar) → ScalarFits n (plain_operator o a b) → ScalarFits n a × ScalarFits n b
under operator.Add n a b h = h
under operator.Subtract n a b h = h
under operator.Multiply n a b h = h

over : (o : Operator) (n : ℕ) (a b : Scalar) → ScalarFits n a × ScalarFits n b → ScalarFits n (plain_operator o a b)
over operator.Add n a b h = h
over operator.Subtract n a b h = h
over operator.Multiply n a b h = h

pub scalar_fits : (n : ℕ) (t : ScalarTree) → ScalarFits n (plain_scalar t) → NoneBeyond (scalar_columns n t)
scalar_fits n (ScalarTree.literal s z) h = refl
scalar_fits n (ScalarTree.column s c) h = within c n s h
scalar_fits n (ScalarTree.binary s o a b) h = let k = under o n (plain_scalar a) (plain_scalar b) h in join (scalar_columns n a) (scalar_columns n b) (scalar_fits n a k.0) (scalar_fits n b k.1)
scalar_fits n (ScalarTree.negate s a) h = scalar_fits n a h

pub scalar_none : (n : ℕ) (t : ScalarTree) → NoneBeyond (scalar_columns n t) → ScalarFits n (plain_scalar t)
scalar_none n (ScalarTree.literal s z) h = tt
scalar_none n (ScalarTree.column s c) h = below c n s h
scalar_none n (ScalarTree.binary s o a b) h = let k = fronts (scalar_columns n a) (scalar_columns n b) h in over o n (plain_scalar a) (plain_scalar b) (scalar_none n a k.0, scalar_none n b k.1)
scalar_none n (ScalarTree.negate s a) h = scalar_none n a h

under_cond : (o : Connective) (n : ℕ) (c d : Cond) → CondFits n (plain_connective o c d) → CondFits n c × CondFits n d
under_cond connective.And n c d h = h
under_cond connective.Or n c d h = h

over_cond : (o : Connective) (n : ℕ) (c d : Cond) → CondFits n c × CondFits n d → CondFits n (plain_connective o c d)
over_cond connective.And n c d h = h
over_cond connective.Or n c d h = h

pub cond_fits : (n : ℕ) (c : CondTree) → CondFits n (plain_cond c) → NoneBeyond (cond_columns n c)
cond_fits n (CondTree.compare s o a b) h = join (scalar_columns n a) (scalar_columns n b) (scalar_fits n a h.0) (scalar_fits n b h.1)
cond_fits n (CondTree.logical s o c d) h = let k = under_cond o n (plain_cond c) (plain_cond d) h in join (cond_columns n c) (cond_columns n d) (cond_fits n c k.0) (cond_fits n d k.1)
cond_fits n (CondTree.negate s c) h = cond_fits n c h

pub cond_none : (n : ℕ) (c : CondTree) → NoneBeyond (cond_columns n c) → CondFits n (plain_cond c)
cond_none n (CondTree.compare s o a b) h = let k = fronts (scalar_columns n a) (scalar_columns n b) h in (scalar_none n a k.0, scalar_none n b k.1)
cond_none n (CondTree.logical s o c d) h = let k = fronts (cond_columns n c) (cond_columns n d) h in over_cond o n (plain_cond c) (plain_cond d) (cond_none n c k.0, cond_none n d k.1)
cond_none n (CondTree.negate s c) h = cond_none n c h

-- of all elements
each_fits : {X Y : Type 0} (P : Y → Type 0) (g : X → Y) (f : X → List ColumnUse) → ((x : X) → P (g x) → NoneBeyond (f x)) → (xs : List X) → AllByRecursion P (map g xs) → NoneBeyond (flat_map f xs)
each_fits P g f one [] h = refl
each_fits P g f one (x ∷ xs) h = join (f x) (flat_map f xs) (one x h.0) (each_fits P g f one xs h.1)

each_none : {X Y : Type 0} (P : Y → Type 0) (g : X → Y) (f : X → List ColumnUse) → ((x : X) → NoneBeyond (f x) → P (g x)) → (xs : List X) → NoneBeyond (flat_map f xs) → AllByRecursion P (map g xs)
each_none P g f one [] h = tt
each_none P g f one (x ∷ xs) h = let k = fronts (f x) (flat_map f xs) h in (one x k.0, each_none P g f one xs k.1)

pub scalars_fit : (n : ℕ) (ts : List ScalarTree) → AllByRecursion (ScalarFits n) (map plain_scalar ts) → NoneBeyond (flat_map (scalar_columns n) ts)
scalars_fit n ts = each_fits (ScalarFits n) plain_scalar (scalar_columns n) (scalar_fits n) ts

pub scalars_none : (n : ℕ) (ts : List ScalarTree) → NoneBeyond (flat_map (scalar_columns n) ts) → AllByRecursion (ScalarFits n) (map plain_scalar ts)
scalars_none n ts = each_none (ScalarFits n) plain_scalar (scalar_columns n) (scalar_none n) ts

key_fits : (n : ℕ) (k : Column) → k.index < n → NoneBeyond (key_columns n k)
key_fits n k h = within k.index n k.span h

key_none : (n : ℕ) (k : Column) → NoneBeyond (key_columns n k) → k.index < n
key_none n k h = below k.index n k.span h

pub keys_fit : (n : ℕ) (ks : List Column) → AllByRecursion (λ k. k < n) (map (λ k. k.index) ks) → NoneBeyond (flat_map (key_columns n) ks)
keys_fit n ks = each_fits (λ k. k < n) (λ (k : Column). k.index) (key_columns n) (key_fits n) ks

pub keys_none : (n : ℕ) (ks : List Column) → NoneBeyond (flat_map (key_columns n) ks) → AllByRecursion (λ k. k < n) (map (λ k. k.index) ks)
keys_none n ks = each_none (λ k. k < n) (λ (k : Column). k.index) (key_columns n) (key_none n) ks

agg_fits : (n : ℕ) (g : declared_agg.Agg) → AggFits n (plain_agg g) → NoneBeyond (agg_columns n g)
agg_fits n (agg.Count s) h = refl
agg_fits n (agg.Sum s c) h = key_fits n c h
agg_fits n (agg.Min s c) h = key_fits n c h
agg_fits n (agg.Max s c) h = key_fits n c h

agg_none : (n : ℕ) (g : declared_agg.Agg) → NoneBeyond (agg_columns n g) → AggFits n (plain_agg g)
agg_none n (agg.Count s) h = tt
agg_none n (agg.Sum s c) h = key_none n c h
agg_none n (agg.Min s c) h = key_none n c h
agg_none n (agg.Max s c) h = key_none n c h

pub aggs_fit : (n : ℕ) (gs : List declared_agg.Agg) → AllByRecursion (AggFits n) (map plain_agg gs) → NoneBeyond (flat_map (agg_columns n) gs)
aggs_fit n gs = each_fits (AggFits n) plain_agg (agg_columns n) (agg_fits n) gs

pub aggs_none : (n : ℕ) (gs : List declared_agg.Agg) → NoneBeyond (flat_map (agg_columns n) gs) → AllByRecursion (AggFits n) (map plain_agg gs)
aggs_none n gs = each_none (AggFits n) plain_agg (agg_columns n) (agg_none n) gs

pair_fits : (l m : ℕ) (p : declared_pair.Pair) → (p.left.index < l) × (p.right.index < m) → NoneBeyond (pair_columns l m p)
pair_fits l m p h = join (key_columns l p.left) (key_columns m p.right) (key_fits l p.left h.0) (key_fits m p.right h.1)

pair_none : (l m : ℕ) (p : declared_pair.Pair) → NoneBeyond (pair_columns l m p) → (p.left.index < l) × (p.right.index < m)
pair_none l m p h = let k = fronts (key_columns l p.left) (key_columns m p.right) h in (key_none l p.left k.0, key_none m p.right k.1)

pub pairs_fit : (l m : ℕ) (ps : List declared_pair.Pair) → AllByRecursion (λ (x : Pair). (x.left < l) × (x.right < m)) (map plain_pair ps) → NoneBeyond (flat_map (pair_columns l m) ps)
pairs_fit l m ps = each_fits (λ (x : Pair). (x.left < l) × (x.right < m)) plain_pair (pair_columns l m) (pair_fits l m) ps

pub pairs_none : (l m : ℕ) (ps : List declared_pair.Pair) → NoneBeyond (flat_map (pair_columns l m) ps) → AllByRecursion (λ (x : Pair). (x.left < l) × (x.right < m)) (map plain_pair ps)
pairs_none l m ps = each_none (λ (x : Pair). (x.left < l) × (x.right < m)) plain_pair (pair_columns l m) (pair_none l m) ps
