-- Aggregates of a record that occurs many times.
use Rattle.std.proofs.Common.{◌≡◌, ◌<◌, ◌≤◌, ℕ, zero, suc, List, [], ◌∷◌, ◌++◌, map, length, ℤ, pos, ◌+ℤ◌, ◌*ℤ◌, refl, sym, ap, ap₂, ◌∙◌, arith, append_assoc}
use Rattle.std.specs.Int.{int_wrap, w64, int_min, int_max}
use Rattle.std.proofs.lemmas.Int.{ints, int_wrap-add_left, int_wrap-add_right, int_min_is, int_max_is}
use Rattle.rows.specs.Counts.{repeated}
use Rattle.semantics.specs.Meaning.{aggregate, field, folded}
use Rattle.semantics.specs.Multiset.{Record, total}
use Rattle.semantics.specs.Query.{Agg}
use Rattle.semantics.proofs.DistinctAndGroups.{aggregate-same}
use Rattle.semantics.proofs.MultisetSums.{append_comm}
use Rattle.operators.specs.Aggregates.{begun, weighed, weighed_all}

-- ---- one more record

-- the aggregate with one more record
abbrev stepped : Agg → ℤ → Record → ℤ
stepped Agg.count v r = int_wrap w64 (v +ℤ pos 1)
stepped (Agg.sum c) v r = int_wrap w64 (v +ℤ field c r)
stepped (Agg.min c) v r = int_min (field c r) v
stepped (Agg.max c) v r = int_max (field c r) v

add_first : (v w : ℤ) → int_wrap w64 (int_wrap w64 v +ℤ w) ≡ int_wrap w64 (w +ℤ v)
add_first v w = int_wrap-add_left w64 v w ∙ ap (int_wrap w64) (omega (arith, ints))

front : (a : Agg) (y : Record) (ys : List Record) (x : Record) → stepped a (aggregate a (y ∷ ys)) x ≡ aggregate a (x ∷ y ∷ ys)
front Agg.count y ys x = add_first (pos (total (λ r. 1) (y ∷ ys))) (pos 1)
front (Agg.sum c) y ys x = add_first (folded (λ r n. field c r +ℤ n) (pos 0) (y ∷ ys)) (field c x)
front (Agg.min c) y ys x = refl
front (Agg.max c) y ys x = refl

one_more : (a : Agg) (y : Record) (ys : List Record) (x : Record) → stepped a (aggregate a (y ∷ ys)) x ≡ aggregate a ((y ∷ ys) ++ x ∷ [])
one_more a y ys x = front a y ys x ∙ aggregate-same a (x ∷ y ∷ ys) ((y ∷ ys) ++ x ∷ []) (append_comm (x ∷ []) (y ∷ ys))

-- ---- many more records

sums : (v f : ℤ) (n : ℕ) → (v +ℤ f) +ℤ (pos n *ℤ f) ≡ v +ℤ (pos (suc n) *ℤ f)
sums v f n = omega (arith, ints)

counts : (v : ℤ) (n : ℕ) → (v +ℤ pos n) +ℤ pos 1 ≡ v +ℤ pos (suc n)
counts v n = omega (arith, ints)

least_again : (f v : ℤ) → int_min f (int_min f v) ≡ int_min f v
least_again f v = omega (arith, ints, int_min_is f v, int_min_is f (int_min f v))

greatest_again : (f v : ℤ) → int_max f (int_max f v) ≡ int_max f v
greatest_again f v = omega (arith, ints, int_max_is f v, int_max_is f (int_max f v))

turn : (v w f : ℤ) → (v +ℤ w) +ℤ f ≡ (v +ℤ f) +ℤ w
turn v w f = omega (arith, ints)

once : (a : Agg) (v : ℤ) (x : Record) → weighed a v x 1 ≡ stepped a v x
once Agg.count v x = refl
once (Agg.sum c) v x = int_wrap-add_right w64 v (pos 1 *ℤ field c x) ∙ ap (int_wrap w64) (one v (field c x))
  where
    one : (v f : ℤ) → v +ℤ (pos 1 *ℤ f) ≡ v +ℤ f
    one v f = omega (arith, ints)
once (Agg.min c) v x = refl
once (Agg.max c) v x = refl

again : (a : Agg) (v : ℤ) (x : Record) (n : ℕ) → stepped a (weighed a v x n) x ≡ weighed a v x (suc n)
again Agg.count v x n = int_wrap-add_left w64 (v +ℤ pos n) (pos 1) ∙ ap (int_wrap w64) (counts v n)
again (Agg.sum c) v x n =
    int_wrap-add_left w64 (v +ℤ int_wrap w64 (pos n *ℤ field c x)) (field c x)
    ∙ ap (int_wrap w64) (turn v (int_wrap w64 (pos n *ℤ field c x)) (field c x))
    ∙ int_wrap-add_right w64 (v +ℤ field c x) (pos n *ℤ field c x)
    ∙ ap (int_wrap w64) (sums v (field c x) n)
    ∙ sym (int_wrap-add_right w64 v (pos (suc n) *ℤ field c x))
again (Agg.min c) v x n = least_again (field c x) v
again (Agg.max c) v x n = greatest_again (field c x) v

last_one : (n : ℕ) (x : Record) → repeated (suc n) x ≡ repeated n x ++ x ∷ []
last_one zero x = refl
last_one (suc n) x = ap (λ l. x ∷ l) (last_one n x)

-- a record that occurs n more times, in one step
weighed_aggregate : (a : Agg) (y : Record) (ys : List Record) (x : Record) (n : ℕ) → weighed a (aggregate a (y ∷ ys)) x (suc n) ≡ aggregate a ((y ∷ ys) ++ repeated (suc n) x)
weighed_aggregate a y ys x zero = once a (aggregate a (y ∷ ys)) x ∙ one_more a y ys x
weighed_aggregate a y ys x (suc n) =
    sym (again a (aggregate a (y ∷ ys)) x (suc n)) ∙ ap (λ v. stepped a v x) (weighed_aggregate a y ys x n)
    ∙ one_more a y (ys ++ repeated (suc n) x) x ∙ ap (aggregate a) (append_assoc (y ∷ ys) (repeated (suc n) x) (x ∷ []) ∙ ap (λ l. (y ∷ ys) ++ l) (sym (last_one (suc n) x)))

pub weighed_aggregates : (as' : List Agg) (rows : List Record) (x : Record) (n : ℕ) → 0 < length rows → 1 ≤ n → weighed_all as' (map (λ a. aggregate a rows) as') x n ≡ map (λ a. aggregate a (rows ++ repeated n x)) as'
weighed_aggregates as' rows x zero h m = absurd (omega (arith, m))
weighed_aggregates as' [] x (suc n) h m = absurd (omega (arith, h))
weighed_aggregates [] (y ∷ ys) x (suc n) h m = refl
weighed_aggregates (a ∷ as') (y ∷ ys) x (suc n) h m = ap₂ (λ v vs. v ∷ vs) (weighed_aggregate a y ys x n) (weighed_aggregates as' (y ∷ ys) x (suc n) h m)

-- ---- one record

one_sum : (f : ℤ) → pos 1 *ℤ f ≡ f +ℤ pos 0
one_sum f = omega (arith, ints)

more_counts : (n : ℕ) → pos (suc (suc n)) +ℤ pos 0 ≡ pos 1 +ℤ pos (suc n)
more_counts n = omega (arith, ints)

more_sums : (f : ℤ) (n : ℕ) → pos (suc (suc n)) *ℤ f ≡ (f +ℤ pos 0) +ℤ (pos (suc n) *ℤ f)
more_sums f n = omega (arith, ints)

least_of_one : (f : ℤ) → f ≡ int_min f f
least_of_one f = omega (arith, ints, int_min_is f f)

greatest_of_one : (f : ℤ) → f ≡ int_max f f
greatest_of_one f = omega (arith, ints, int_max_is f f)

-- first once, then the remaining times
begun_first : (a : Agg) (x : Record) (n : ℕ) → begun a x (suc (suc n)) ≡ weighed a (aggregate a (x ∷ [])) x (suc n)
begun_first Agg.count x n = ap (int_wrap w64) (more_counts n) ∙ sym (int_wrap-add_left w64 (pos 1) (pos (suc n)))
begun_first (Agg.sum c) x n =
    ap (int_wrap w64) (more_sums (field c x) n) ∙ sym (int_wrap-add_left w64 (field c x +ℤ pos 0) (pos (suc n) *ℤ field c x))
    ∙ sym (int_wrap-add_right w64 (int_wrap w64 (field c x +ℤ pos 0)) (pos (suc n) *ℤ field c x))
begun_first (Agg.min c) x n = least_of_one (field c x)
begun_first (Agg.max c) x n = greatest_of_one (field c x)

begun_aggregate : (a : Agg) (x : Record) (n : ℕ) → begun a x (suc n) ≡ aggregate a (repeated (suc n) x)
begun_aggregate Agg.count x zero = refl
begun_aggregate (Agg.sum c) x zero = ap (int_wrap w64) (one_sum (field c x))
begun_aggregate (Agg.min c) x zero = refl
begun_aggregate (Agg.max c) x zero = refl
begun_aggregate a x (suc n) = begun_first a x n ∙ weighed_aggregate a x [] x n

pub begun_all : (as' : List Agg) (x : Record) (n : ℕ) → 1 ≤ n → map (λ a. begun a x n) as' ≡ map (λ a. aggregate a (repeated n x)) as'
begun_all as' x zero h = absurd (omega (arith, h))
begun_all [] x (suc n) h = refl
begun_all (a ∷ as') x (suc n) h = ap₂ (λ v vs. v ∷ vs) (begun_aggregate a x n) (begun_all as' x (suc n) h)
