-- Each form of a query means what the form of SQL means, on the same rows.
use Rattle.std.proofs.Common.{◌≡◌, ℕ, Bool, true, false, cond, ◌&&◌, List, [], ◌∷◌, ◌++◌, map, filter, length, refl, ap, ap₂, ◌∙◌, arith, ℤ, pos, ◌+ℤ◌}
use Rattle.std.specs.List.{AllByRecursion}
use Rattle.std.specs.Ordering.{int_eq}
use Rattle.std.specs.Int.{int_wrap, int_min, int_max}
use mir.Syntax.{w64}
use mathlib.Core.Path.{fun_ext}
use Rattle.semantics.specs.Multiset.{Record, same, total, each_once}
use Rattle.semantics.specs.Meaning.{field, value, project, folded, reduced, reduced_from, aggregate, selected, kept, left_columns, right_columns, paired, grouped, with_key}
use Rattle.semantics.specs.Query.{Scalar, Cond, Agg, Pair}
use Rattle.sql_meaning.specs.ScriptMeaning.{evaluated, is_true, row_pairs, is_joined, values, added, least_from, greatest_from, least_of, greatest_of, aggregated, group_row}
use Rattle.sql_meaning.specs.Translation.{expression, search, aggregate_of}
use Rattle.sql_meaning.proofs.Expressions.{Words, evaluated-value, search-holds}

pub items-values : (ss : List Scalar) (r : Record) → Words r → map (λ e. evaluated e r) (map expression ss) ≡ map (λ s. value s r) ss
items-values [] r h = refl
items-values (s ∷ ss) r h = ap₂ (λ z zs. z ∷ zs) (evaluated-value s r h) (items-values ss r h)

pub select-selected : (ss : List Scalar) (xs : List Record) → AllByRecursion Words xs → map (λ r. map (λ e. evaluated e r) (map expression ss)) xs ≡ selected ss xs
select-selected ss [] h = refl
select-selected ss (x ∷ xs) h = ap₂ (λ z zs. z ∷ zs) (items-values ss x h.0) (select-selected ss xs h.1)

pub where-kept : (c : Cond) (xs : List Record) → AllByRecursion Words xs → filter (is_true (search c)) xs ≡ kept c xs
where-kept c [] h = refl
where-kept c (x ∷ xs) h = ap₂ (λ b zs. cond b (x ∷ zs) zs) (search-holds c x h.0) (where-kept c xs h.1)

-- ---- joins

joined-same : (ps : List Pair) (a b : Record) → is_joined ps a b ≡ same (project (left_columns ps) a) (project (right_columns ps) b)
joined-same [] a b = refl
joined-same (p ∷ ps) a b = ap (λ t. int_eq (field p.left a) (field p.right b) && t) (joined-same ps a b)

map-cond : (f : Record × Record → Record) (b : Bool) (x : Record × Record) (xs : List (Record × Record)) → map f (cond b (x ∷ xs) xs) ≡ cond b (f x ∷ map f xs) (map f xs)
map-cond f true x xs = refl
map-cond f false x xs = refl

pub filter-append : (p : Record × Record → Bool) (xs ys : List (Record × Record)) → filter p (xs ++ ys) ≡ filter p xs ++ filter p ys
filter-append p [] ys = refl
filter-append p (x ∷ xs) ys = go (p x) (filter-append p xs ys)
  where
    go : (b : Bool) → filter p (xs ++ ys) ≡ filter p xs ++ filter p ys → cond b (x ∷ filter p (xs ++ ys)) (filter p (xs ++ ys)) ≡ cond b (x ∷ filter p xs) (filter p xs) ++ filter p ys
    go true e = ap (λ z. x ∷ z) e
    go false e = e

pub map-append : (f : Record × Record → Record) (xs ys : List (Record × Record)) → map f (xs ++ ys) ≡ map f xs ++ map f ys
map-append f [] ys = refl
map-append f (x ∷ xs) ys = ap (λ z. f x ∷ z) (map-append f xs ys)

join-one : (ps : List Pair) (a : Record) (ys : List Record) →
    map (λ (x : Record × Record). x.0 ++ x.1) (filter (λ (x : Record × Record). is_joined ps x.0 x.1) (map (λ b. (a, b)) ys)) ≡ map (λ b. a ++ b) (filter (λ b. same (project (left_columns ps) a) (project (right_columns ps) b)) ys)
join-one ps a [] = refl
join-one ps a (y ∷ ys) = rw (joined-same ps a y) (go (same (project (left_columns ps) a) (project (right_columns ps) y)) (join-one ps a ys))
  where
    l : List (Record × Record)
    l = filter (λ (x : Record × Record). is_joined ps x.0 x.1) (map (λ b. (a, b)) ys)

    r : List Record
    r = filter (λ b. same (project (left_columns ps) a) (project (right_columns ps) b)) ys

    go : (t : Bool) → map (λ (x : Record × Record). x.0 ++ x.1) l ≡ map (λ b. a ++ b) r → map (λ (x : Record × Record). x.0 ++ x.1) (cond t ((a, y) ∷ l) l) ≡ map (λ b. a ++ b) (cond t (y ∷ r) r)
    go true e = ap (λ z. (a ++ y) ∷ z) e
    go false e = e

pub join-paired : (ps : List Pair) (xs ys : List Record) → map (λ (x : Record × Record). x.0 ++ x.1) (filter (λ (x : Record × Record). is_joined ps x.0 x.1) (row_pairs xs ys)) ≡ paired ps xs ys
join-paired ps [] ys = refl
join-paired ps (x ∷ xs) ys =
    ap (map (λ (z : Record × Record). z.0 ++ z.1)) (filter-append (λ (z : Record × Record). is_joined ps z.0 z.1) (map (λ b. (x, b)) ys) (row_pairs xs ys))
    ∙ map-append (λ (z : Record × Record). z.0 ++ z.1) (filter (λ (z : Record × Record). is_joined ps z.0 z.1) (map (λ b. (x, b)) ys)) (filter (λ (z : Record × Record). is_joined ps z.0 z.1) (row_pairs xs ys))
    ∙ ap₂ (λ l r. l ++ r) (join-one ps x ys) (join-paired ps xs ys)

-- ---- groups

length-total : (xs : List Record) → length xs ≡ total (λ r. 1) xs
length-total [] = refl
length-total (x ∷ xs) = omega (arith, length-total xs)

added-folded : (c : ℕ) (xs : List Record) → added (values c xs) ≡ folded (λ r n. field c r +ℤ n) (pos 0) xs
added-folded c [] = refl
added-folded c (x ∷ xs) = ap (λ n. field c x +ℤ n) (added-folded c xs)

least-reduced_from : (z : ℤ) (zs : List ℤ) → least_from z zs ≡ reduced_from int_min z zs
least-reduced_from z [] = refl
least-reduced_from z (w ∷ ws) = ap (int_min z) (least-reduced_from w ws)

greatest-reduced_from : (z : ℤ) (zs : List ℤ) → greatest_from z zs ≡ reduced_from int_max z zs
greatest-reduced_from z [] = refl
greatest-reduced_from z (w ∷ ws) = ap (int_max z) (greatest-reduced_from w ws)

least-reduced : (zs : List ℤ) → least_of zs ≡ reduced int_min zs
least-reduced [] = refl
least-reduced (z ∷ zs) = least-reduced_from z zs

greatest-reduced : (zs : List ℤ) → greatest_of zs ≡ reduced int_max zs
greatest-reduced [] = refl
greatest-reduced (z ∷ zs) = greatest-reduced_from z zs

aggregated-aggregate : (a : Agg) (xs : List Record) → aggregated (aggregate_of a) xs ≡ aggregate a xs
aggregated-aggregate Agg.count xs = ap (λ n. int_wrap w64 (pos n)) (length-total xs)
aggregated-aggregate (Agg.sum c) xs = ap (int_wrap w64) (added-folded c xs)
aggregated-aggregate (Agg.min c) xs = least-reduced (values c xs)
aggregated-aggregate (Agg.max c) xs = greatest-reduced (values c xs)

aggregates-same : (as' : List Agg) (xs : List Record) → map (λ a. aggregated a xs) (map aggregate_of as') ≡ map (λ a. aggregate a xs) as'
aggregates-same [] xs = refl
aggregates-same (a ∷ as') xs = ap₂ (λ z zs. z ∷ zs) (aggregated-aggregate a xs) (aggregates-same as' xs)

pub group-grouped : (ks : List ℕ) (as' : List Agg) (xs : List Record) → map (group_row ks (map aggregate_of as') xs) (each_once (map (project ks) xs)) ≡ grouped ks as' xs
group-grouped ks as' xs = ap (λ f. map f (each_once (map (project ks) xs))) (fun_ext (λ k. ap (λ zs. k ++ zs) (aggregates-same as' (with_key ks k xs))))
