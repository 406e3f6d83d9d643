-- Numbers cut into rows.
use Rattle.std.proofs.Common.{◌≡◌, ℕ, zero, suc, ◌+◌, ◌*◌, ◌-◌, ◌≤◌, ◌<◌, List, [], ◌∷◌, ◌++◌, length, take, drop, ℤ, refl, sym, ap, ap₂, ◌∙◌, arith, append_assoc, length-append}
use Rattle.std.specs.Prelude.{slice_index_or, slice_set}
use Rattle.std.proofs.Math.Numerals.{add-one}
use Rattle.std.proofs.lemmas.List.{take-append-le, drop-append-le, length-drop, length-take-le, take-append-drop, take_all}
use Rattle.rows.specs.FlatRows.{RowList, cut, AllHave, arity_of}

pub length_cut : (n k : ℕ) (xs : List ℤ) → length (cut n k xs) ≡ k
length_cut n zero xs = refl
length_cut n (suc k) xs = ap suc (length_cut n k (drop n xs))

less : (n k l : ℕ) → l ≡ suc k * n → l - n ≡ k * n
less n k l e = omega (arith, e)

enough : (n k l : ℕ) → l ≡ suc k * n → n ≤ l
enough n k l e = omega (arith, e)

rest : (n k : ℕ) (xs : List ℤ) → length xs ≡ suc k * n → length (drop n xs) ≡ k * n
rest n k xs e = length-drop n xs ∙ less n k (length xs) e

pub cut_push : (n k : ℕ) (xs row : List ℤ) → length xs ≡ k * n → length row ≡ n → cut n (suc k) (xs ++ row) ≡ cut n k xs ++ row ∷ []
cut_push n zero [] row e f = ap (λ r. r ∷ []) (whole n row f)
  where
    whole : (n : ℕ) (row : List ℤ) → length row ≡ n → take n row ≡ row
    whole zero [] f = refl
    whole zero (x ∷ row) f = absurd (omega (arith, f))
    whole (suc n) [] f = absurd (omega (arith, f))
    whole (suc n) (x ∷ row) f = ap (λ r. x ∷ r) (whole n row (omega (arith, f)))
cut_push n zero (x ∷ xs) row e f = absurd (omega (arith, e))
cut_push n (suc k) xs row e f =
    let h = enough n k (length xs) e in
    ap₂ (λ r rs. r ∷ rs) (take-append-le n xs row h) (ap (cut n (suc k)) (drop-append-le n xs row h) ∙ cut_push n k (drop n xs) row (rest n k xs e) f)

drop_twice : (a b : ℕ) (xs : List ℤ) → drop b (drop a xs) ≡ drop (a + b) xs
drop_twice zero b xs = ap (λ m. drop m xs) same
  where
    same : b ≡ 0 + b
    same = omega arith
drop_twice (suc a) b [] = nothing b ∙ sym (nothing (suc a + b))
  where
    nothing : (m : ℕ) → drop {A = ℤ} m [] ≡ []
    nothing zero = refl
    nothing (suc m) = refl
drop_twice (suc a) b (x ∷ xs) = drop_twice a b xs ∙ ap (λ m. drop m (x ∷ xs)) shift
  where
    shift : suc (a + b) ≡ suc a + b
    shift = omega arith

pub cut_at : (n k i : ℕ) (xs : List ℤ) → i < k → slice_index_or (cut n k xs) i [] ≡ take n (drop (i * n) xs)
cut_at n zero i xs h = absurd (omega (arith, h))
cut_at n (suc k) zero xs h = ap (λ m. take n (drop m xs)) none
  where
    none : 0 ≡ 0 * n
    none = omega arith
cut_at n (suc k) (suc i) xs h = cut_at n k i (drop n xs) (omega (arith, h)) ∙ ap (take n) (drop_twice n (i * n) xs) ∙ ap (λ m. take n (drop m xs)) more
  where
    more : n + i * n ≡ suc i * n
    more = omega arith

pub row_ends : (n k l : ℕ) → k < l → k * n + n ≤ l * n
row_ends n zero (suc l) h = omega arith
row_ends n (suc k) (suc l) h = omega (arith, row_ends n k l (omega (arith, h)))
row_ends n k zero h = absurd (omega (arith, h))

pub cut_extend : (n k l : ℕ) (xs ys : List ℤ) → length xs ≡ k * n → cut n (k + l) (xs ++ ys) ≡ cut n k xs ++ cut n l ys
cut_extend n zero l [] ys e = ap (λ m. cut n m ys) none
  where
    none : 0 + l ≡ l
    none = omega arith
cut_extend n zero l (x ∷ xs) ys e = absurd (omega (arith, e))
cut_extend n (suc k) l xs ys e =
    let h = enough n k (length xs) e in
    ap (λ m. cut n m (xs ++ ys)) more ∙ ap₂ (λ r rs. r ∷ rs) (take-append-le n xs ys h) (ap (cut n (k + l)) (drop-append-le n xs ys h) ∙ cut_extend n k l (drop n xs) ys (rest n k xs e))
  where
    more : suc k + l ≡ suc (k + l)
    more = omega arith

-- the pieces end to end
abbrev pub concat : List (List ℤ) → List ℤ
concat [] = []
concat (r ∷ rs) = r ++ concat rs

pub concat_cut : (n k : ℕ) (xs : List ℤ) → length xs ≡ k * n → concat (cut n k xs) ≡ xs
concat_cut n zero [] e = refl
concat_cut n zero (x ∷ xs) e = absurd (omega (arith, e))
concat_cut n (suc k) xs e = ap (λ r. take n xs ++ r) (concat_cut n k (drop n xs) (rest n k xs e)) ∙ take-append-drop n xs

-- batches are the same where their parts are, and the other way round
pub parts_same : (a b : RowList) (n m k l : ℕ) (xs ys : List ℤ) → length xs ≡ k * n → length ys ≡ l * m → record { arity = n; rows = cut n k xs } ≡ a → record { arity = m; rows = cut m l ys } ≡ b → a ≡ b → (n ≡ m) × (k ≡ l) × (xs ≡ ys)
parts_same a b n m k l xs ys e f p q h =
    let whole = p ∙ h ∙ sym q in
    let one = ap (λ (r : RowList). r.arity) whole in
    let rows = ap (λ (r : RowList). r.rows) whole in
    let many = sym (length_cut n k xs) ∙ ap length rows ∙ length_cut m l ys in
    (one, many, sym (concat_cut n k xs e) ∙ ap concat rows ∙ concat_cut m l ys f)

pub whole_same : (a b : RowList) (n m k l : ℕ) (xs ys : List ℤ) → record { arity = n; rows = cut n k xs } ≡ a → record { arity = m; rows = cut m l ys } ≡ b → n ≡ m → k ≡ l → xs ≡ ys → a ≡ b
whole_same a b n m k l xs ys p q e f g = sym p ∙ (λ i. record { arity = e i; rows = cut (e i) (f i) (g i) }) ∙ q

pub all_have : (n k : ℕ) (xs : List ℤ) → length xs ≡ k * n → AllHave n (cut n k xs)
all_have n zero xs e i d h = absurd (omega (arith, h))
all_have n (suc k) xs e zero d h = length-take-le n xs (enough n k (length xs) e)
all_have n (suc k) xs e (suc i) d h = all_have n k (drop n xs) (rest n k xs e) i d (omega (arith, h))

-- the first row has the arity of all
pub first_arity : (n k : ℕ) (xs : List ℤ) → 0 < k → length xs ≡ k * n → arity_of (cut n k xs) ≡ n
first_arity n zero xs h e = absurd (omega (arith, h))
first_arity n (suc k) xs h e = length-take-le n xs (enough n k (length xs) e)

-- a row that is pushed in three parts
pub cut_push_parts : (n k : ℕ) (xs a b c all : List ℤ) → all ≡ ((xs ++ a) ++ b) ++ c → length xs ≡ k * n → length a + length b + length c ≡ n →
    cut n (k + 1) all ≡ cut n k xs ++ ((a ++ b) ++ c) ∷ []
cut_push_parts n k xs a b c all h e f =
    ap (cut n (k + 1)) (h ∙ ap (λ l. l ++ c) (append_assoc xs a b) ∙ append_assoc xs (a ++ b) c)
    ∙ ap (λ m. cut n m (xs ++ ((a ++ b) ++ c))) (add-one k)
    ∙ cut_push n k xs ((a ++ b) ++ c) e (omega (arith, f, length-append (a ++ b) c, length-append a b))

-- a piece in the middle
cut_parts : (n i m : ℕ) (p q s : List ℤ) → length p ≡ i * n → length q ≡ n → cut n (i + (1 + m)) (p ++ (q ++ s)) ≡ cut n i p ++ q ∷ cut n m s
cut_parts n i m p q s e f = cut_extend n i (1 + m) p (q ++ s) e ∙ ap (λ l. cut n i p ++ l) (cut_extend n 1 m q s (omega (arith, f)) ∙ ap (λ l. l ++ cut n m s) (cut_push n 0 [] q none f))
  where
    none : length {A = ℤ} [] ≡ 0 * n
    none = omega arith

set_there : (ps rs : List (List ℤ)) (q y : List ℤ) (i : ℕ) → length ps ≡ i → slice_set (ps ++ q ∷ rs) i y ≡ ps ++ y ∷ rs
set_there [] rs q y zero e = refl
set_there [] rs q y (suc i) e = absurd (omega (arith, e))
set_there (p ∷ ps) rs q y zero e = absurd (omega (arith, e))
set_there (p ∷ ps) rs q y (suc i) e = ap (λ l. p ∷ l) (set_there ps rs q y i (omega (arith, e)))

-- what a list of numbers is, once a part of it was lent and written
pub written_back : (new old : List ℤ) (n : ℕ) → length new ≡ n → take n (new ++ drop (length new) old) ≡ new
written_back new old n e = take-append-le n new (drop (length new) old) (omega (arith, e)) ∙ take_all n new (omega (arith, e))

-- a piece that is written over
pub cut_set : (n k i : ℕ) (xs ys all : List ℤ) → i < k → length xs ≡ k * n → length ys ≡ n → all ≡ take (i * n) xs ++ ys ++ drop (i * n + length ys) xs → cut n k all ≡ slice_set (cut n k xs) i ys
cut_set n k i xs ys all h e f g =
    let m = k - (i + 1) in
    let p = take (i * n) xs in
    let q = take n (drop (i * n) xs) in
    let s = drop n (drop (i * n) xs) in
    let many : k ≡ i + (1 + m) = omega (arith, h) in
    let ends : i * n + n ≤ k * n = row_ends n i k h in
    let front : length p ≡ i * n = length-take-le (i * n) xs (omega (arith, ends, e)) in
    let piece : length q ≡ n = length-take-le n (drop (i * n) xs) (omega (arith, length-drop (i * n) xs, ends, e)) in
    let parts : xs ≡ p ++ (q ++ s) = sym (take-append-drop (i * n) xs) ∙ ap (λ l. p ++ l) (sym (take-append-drop n (drop (i * n) xs))) in
    let back : drop (i * n + length ys) xs ≡ s = ap (λ l. drop (i * n + l) xs) f ∙ sym (drop_twice (i * n) n xs) in
    let rest : p ++ (ys ++ drop (i * n + length ys) xs) ≡ p ++ (ys ++ s) = (λ j. p ++ (ys ++ back j)) in
    let whole : all ≡ p ++ (ys ++ s) = g ∙ append_assoc p ys (drop (i * n + length ys) xs) ∙ rest in
    (λ j. cut n (many j) (whole j)) ∙ cut_parts n i m p ys s front f
    ∙ sym (set_there (cut n i p) (cut n m s) q ys i (length_cut n i p)) ∙ ap (λ l. slice_set l i ys) (sym (cut_parts n i m p q s front piece) ∙ (λ j. cut n (sym many j) (sym parts j)))
