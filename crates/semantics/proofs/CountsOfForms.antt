-- The counts of what each form means; those of a join are products.
use Rattle.std.proofs.Common.{filter, map, subst, ◌+◌, ◌≡◌, ℕ, ◌*◌, ◌<◌, Bool, true, false, cond, List, [], ◌∷◌, ◌++◌, length, refl, sym, ap, ap₂, ◌∙◌, arith}
use Rattle.std.proofs.lemmas.Bool.{true≢false, false_from_ne_true}
use Rattle.semantics.specs.Multiset.{Record, same, one_if, total, count}
use Rattle.semantics.specs.Meaning.{project, left_columns, right_columns, paired, selected, kept, value, holds}
use Rattle.semantics.specs.Query.{Scalar, Cond, Pair}
use Rattle.semantics.proofs.MultisetSums.{Decides-same, same-refl, total_present, total_none, total-alike, total-map, total-append}
use Rattle.semantics.proofs.KeyedParts.{pair_adds, count-paired}

append_cancel : (a x b y : Record) → length a ≡ length x → a ++ b ≡ x ++ y → (a ≡ x) × (b ≡ y)
append_cancel [] [] b y l e = (refl, e)
append_cancel [] (z ∷ x) b y l e = absurd (omega arith)
append_cancel (z ∷ a) [] b y l e = absurd (omega arith)
append_cancel (c ∷ a) (d ∷ x) b y l e =
    let p : c ≡ d = cc in
    let q : a ++ b ≡ x ++ y = cc in
    let r = append_cancel a x b y (omega arith) q in
    (cc, r.1)

abbrev HasLength : ℕ → List Record → Type 0
HasLength n xs = (x : Record) → 0 < count x xs → length x ≡ n

scaled : (f : Record → ℕ) (n : ℕ) (xs : List Record) → total (λ x. f x * n) xs ≡ total f xs * n
scaled f n [] = omega arith
scaled f n (x ∷ xs) = omega (arith, scaled f n xs)

scaled_front : (f : Record → ℕ) (n : ℕ) (xs : List Record) → total (λ x. n * f x) xs ≡ n * total f xs
scaled_front f n [] = omega arith
scaled_front f n (x ∷ xs) = omega (arith, scaled_front f n xs)

cond_none : (t : Bool) → cond {A = ℕ} t 0 0 ≡ 0
cond_none true = refl
cond_none false = refl

pair_counts : (ps : List Pair) (a b x y : Record) → length x ≡ length a → pair_adds ps (a ++ b) x y ≡ one_if (same x a) * cond (same (project (left_columns ps) a) (project (right_columns ps) b)) (one_if (same y b)) 0
pair_counts ps a b x y l = go (same x a) (same y b) refl refl
  where
    t : Bool
    t = same (project (left_columns ps) a) (project (right_columns ps) b)

    apart : ((x ++ y ≡ a ++ b) → ⊥) → pair_adds ps (a ++ b) x y ≡ 0
    apart n = ap (λ b'. cond (same (project (left_columns ps) x) (project (right_columns ps) y)) (one_if b') 0) (false_from_ne_true (same (x ++ y) (a ++ b)) (λ e. n ((Decides-same (x ++ y) (a ++ b)).0 e))) ∙ cond_none (same (project (left_columns ps) x) (project (right_columns ps) y))

    go : (q r : Bool) → same x a ≡ q → same y b ≡ r → pair_adds ps (a ++ b) x y ≡ one_if (same x a) * cond t (one_if (same y b)) 0
    go true true e k =
        let ex : x ≡ a = (Decides-same x a).0 e in
        let ey : y ≡ b = (Decides-same y b).0 k in
        ap₂ (pair_adds ps (a ++ b)) ex ey
        ∙ ap (λ b'. cond t (one_if b') 0) (same-refl (a ++ b))
        ∙ rw (e, k) (omega arith)
    go true false e k = apart (λ z. true≢false (sym ((Decides-same y b).1 (append_cancel x a y b l z).1) ∙ k)) ∙ rw (e, k) (sym (ap (λ n. 1 * n) (cond_none t)))
    go false r e k = apart (λ z. true≢false (sym ((Decides-same x a).1 (append_cancel x a y b l z).0) ∙ e)) ∙ rw e (omega arith)

total-if : (t : Bool) (f : Record → ℕ) (ys : List Record) → total (λ y. cond t (f y) 0) ys ≡ cond t (total f ys) 0
total-if true f ys = refl
total-if false f ys = total_none ys

times_if : (t : Bool) (m n : ℕ) → m * cond t n 0 ≡ cond t (m * n) 0
times_if true m n = refl
times_if false m n = omega arith

-- the count of a followed by b
pub count-join : (ps : List Pair) (xs ys : List Record) (a b : Record) → HasLength (length a) xs → count (a ++ b) (paired ps xs ys) ≡ cond (same (project (left_columns ps) a) (project (right_columns ps) b)) (count a xs * count b ys) 0
count-join ps xs ys a b h =
    let t = same (project (left_columns ps) a) (project (right_columns ps) b) in
    let n = total (λ y. cond t (one_if (same y b)) 0) ys in
    count-paired ps xs ys (a ++ b)
    ∙ total_present (λ x. total (pair_adds ps (a ++ b) x) ys) (λ x. one_if (same x a) * n) xs (λ x p.
    total-alike (pair_adds ps (a ++ b) x) (λ y. one_if (same x a) * cond t (one_if (same y b)) 0) (λ y. pair_counts ps a b x y (h x p)) ys
    ∙ scaled_front (λ y. cond t (one_if (same y b)) 0) (one_if (same x a)) ys)
    ∙ scaled (λ x. one_if (same x a)) n xs
    ∙ ap (λ m. count a xs * m) (total-if t (λ y. one_if (same y b)) ys)
    ∙ times_if t (count a xs) (count b ys)

-- ---- the other forms

pub count-selected : (ss : List Scalar) (xs : List Record) (s : Record) → count s (selected ss xs) ≡ total (λ r. one_if (same (map (λ t. value t r) ss) s)) xs
count-selected ss xs s = total-map (λ x. one_if (same x s)) (λ r. map (λ t. value t r) ss) xs

pub count-filter : (p : Record → Bool) (xs : List Record) (r : Record) → count r (filter p xs) ≡ cond (p r) (count r xs) 0
count-filter p [] r = sym (cond_none (p r))
count-filter p (x ∷ xs) r = go (same x r) (p x) refl refl (count-filter p xs r)
  where
    moved : (b : Bool) → same x r ≡ true → p x ≡ b → p r ≡ b
    moved b e k = subst (λ z. p z ≡ b) ((Decides-same x r).0 e) k

    go : (s h : Bool) → same x r ≡ s → p x ≡ h → count r (filter p xs) ≡ cond (p r) (count r xs) 0 → count r (cond h (x ∷ filter p xs) (filter p xs)) ≡ cond (p r) (one_if s + count r xs) 0
    go true true e k ih = ap (λ n. one_if n + count r (filter p xs)) e ∙ (let a : count r (filter p xs) ≡ count r xs = ih ∙ ap (λ b. cond b (count r xs) 0) (moved true e k) in omega (arith, a)) ∙ sym (ap (λ b. cond b (1 + count r xs) 0) (moved true e k))
    go true false e k ih = ih ∙ ap (λ b. cond b (count r xs) 0) (moved false e k) ∙ sym (ap (λ b. cond b (1 + count r xs) 0) (moved false e k))
    go false true e k ih = ap (λ n. one_if n + count r (filter p xs)) e ∙ (let z : 0 + count r (filter p xs) ≡ count r (filter p xs) = omega arith in z) ∙ ih ∙ ap (λ n. cond (p r) n 0) (let z : count r xs ≡ 0 + count r xs = omega arith in z)
    go false false e k ih = ih ∙ ap (λ n. cond (p r) n 0) (let z : count r xs ≡ 0 + count r xs = omega arith in z)

pub count-kept : (c : Cond) (xs : List Record) (r : Record) → count r (kept c xs) ≡ cond (holds c r) (count r xs) 0
count-kept c xs r = count-filter (holds c) xs r

pub count-concat : (xs ys : List Record) (r : Record) → count r (xs ++ ys) ≡ count r xs + count r ys
count-concat xs ys r = total-append (λ x. one_if (same x r)) xs ys
