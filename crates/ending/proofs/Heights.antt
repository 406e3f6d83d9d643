-- Numbers for lists of bounded length and bounded elements, which rise with their lexicographic order.
use Rattle.std.proofs.Common.{◌≡◌, ◌≤◌, ◌<◌, ℕ, zero, suc, ◌+◌, ◌-◌, ◌*◌, true, List, [], ◌∷◌, ◌⊎◌, inl, inr, sym, ap, arith, length}
use Rattle.std.proofs.lemmas.Bool.{true≢false}
use Rattle.std.proofs.lemmas.Nat.{mul-lt, mul-le, mul-add-lt, row_fits}
use Rattle.semantics.specs.Multiset.{total}
use Rattle.semantics.specs.Rank.{woven}
use Rattle.semantics.specs.Time.{is_before}
use Rattle.semantics.proofs.LexicographicOrder.{lex_cases}
use Rattle.machine.specs.Active.{sum_below}
use Rattle.machine.proofs.Kept.{each}

-- ---- powers

abbrev pub power : (base exponent : ℕ) → ℕ
power b zero = 1
power b (suc n) = power b n * b

pub power_pos : (b n : ℕ) → 0 < b → 0 < power b n
power_pos b zero l = omega arith
power_pos b (suc n) l = mul-lt 0 0 (power b n) b (power_pos b n l) l

pub power_more : (b m n : ℕ) → 0 < b → m ≤ n → power b m ≤ power b n
power_more b zero n b0 l = power_pos b n b0
power_more b (suc m) zero b0 l = absurd (omega arith)
power_more b (suc m) (suc n) b0 l = mul-le (power b m) b (power b n) b (power_more b m n b0 (omega arith)) (omega arith)

-- ---- lists of numbers, each at least 2 below the base, as numbers of so many places

abbrev pub placed : (base places : ℕ) → List ℕ → ℕ
placed b zero xs = 0
placed b (suc n) [] = 0
placed b (suc n) (x ∷ xs) = suc x * power b n + placed b n xs

pub placed_below : (b n : ℕ) (xs : List ℕ) → 0 < b → each (λ x. x + 2 ≤ b) xs → placed b n xs < power b n
placed_below b zero xs l a = omega arith
placed_below b (suc n) [] l a = power_pos b (suc n) l
placed_below b (suc n) (x ∷ xs) l a = mul-add-lt (suc x) (power b n) (placed b n xs) b (let h = a.0 in omega arith) (placed_below b n xs l a.1)

pub placed_rises : (b n : ℕ) (xs ys : List ℕ) → 0 < b → length xs ≤ n → length ys ≤ n → each (λ x. x + 2 ≤ b) xs → each (λ x. x + 2 ≤ b) ys → is_before xs ys ≡ true → placed b n xs < placed b n ys
placed_rises b n [] [] b0 l m a c h = absurd (true≢false (sym h))
placed_rises b zero [] (y ∷ ys) b0 l m a c h = absurd (omega arith)
placed_rises b (suc n) [] (y ∷ ys) b0 l m a c h = let p = mul-lt 0 0 (suc y) (power b n) (omega arith) (power_pos b n b0) in omega arith
placed_rises b n (x ∷ xs) [] b0 l m a c h = absurd (true≢false (sym h))
placed_rises b zero (x ∷ xs) (y ∷ ys) b0 l m a c h = absurd (omega arith)
placed_rises b (suc n) (x ∷ xs) (y ∷ ys) b0 l m a c h = go (lex_cases x y xs ys h) (placed_rises b n xs ys b0 (omega arith) (omega arith) a.1 c.1)
  where
    go : (x < y) ⊎ ((x ≡ y) × (is_before xs ys ≡ true)) → (is_before xs ys ≡ true → placed b n xs < placed b n ys) → suc x * power b n + placed b n xs < suc y * power b n + placed b n ys
    go (inl s) ih =
        let p : placed b n xs < power b n = placed_below b n xs b0 a.1 in
        let q : suc x * power b n + power b n ≤ suc y * power b n = row_fits (suc x) (power b n) (suc y) (power b n) (omega arith) (omega arith) in
        omega arith
    go (inr s) ih =
        let p : placed b n xs < placed b n ys = ih s.1 in
        let q : suc x * power b n ≡ suc y * power b n = ap (λ z. suc z * power b n) s.0 in
        omega arith

-- how far below the greatest number
abbrev pub short_of : (base places : ℕ) → List ℕ → ℕ
short_of b n xs = power b n - placed b n xs

pub short_falls : (b n : ℕ) (xs ys : List ℕ) → 0 < b → length xs ≤ n → length ys ≤ n → each (λ x. x + 2 ≤ b) xs → each (λ x. x + 2 ≤ b) ys → is_before xs ys ≡ true → short_of b n ys < short_of b n xs
short_falls b n xs ys b0 l m a c h =
    let p = placed_rises b n xs ys b0 l m a c h in
    let q = placed_below b n ys b0 c in
    omega arith

-- ---- woven lists

pub each_woven : (b : ℕ) (es cs : List ℕ) (p : ℕ) → each (λ e. 2 * e + 3 ≤ b) es → each (λ c. c + 2 ≤ b) cs → p + 2 ≤ b → each (λ x. x + 2 ≤ b) (woven es cs p)
each_woven b [] cs p a c h = (h, tt)
each_woven b (e ∷ es) [] p a c h = (h, tt)
each_woven b (e ∷ es) (d ∷ cs) p a c h = ((let x = a.0 in omega arith), (c.0, each_woven b es cs p a.1 c.1 h))

-- ---- sums

pub each_total : {X : Type 0} (f : X → ℕ) (xs : List X) (b : ℕ) → total f xs ≤ b → each (λ x. f x ≤ b) xs
each_total f [] b l = tt
each_total f (x ∷ xs) b l = (omega arith, each_total f xs b (omega arith))

pub total_most : {X : Type 0} (f : X → ℕ) (xs : List X) (b n : ℕ) → length xs ≤ n → each (λ x. f x ≤ b) xs → total f xs ≤ n * b
total_most f [] b n l a = omega arith
total_most f (x ∷ xs) b zero l a = absurd (omega arith)
total_most f (x ∷ xs) b (suc n) l a =
    let h : f x ≤ b = a.0 in
    let t : total f xs ≤ n * b = total_most f xs b n (omega arith) a.1 in
    let q : n * b + b ≤ suc n * b = row_fits n b (suc n) b (omega arith) (omega arith) in
    omega arith

pub below_most : (n : ℕ) (f : ℕ → ℕ) (b : ℕ) → ((k : ℕ) → k < n → f k ≤ b) → sum_below n f ≤ n * b
below_most zero f b h = omega arith
below_most (suc n) f b h =
    let t : sum_below n f ≤ n * b = below_most n f b (λ k l. h k (omega arith)) in
    let s : f n ≤ b = h n (omega arith) in
    let q : n * b + b ≤ suc n * b = row_fits n b (suc n) b (omega arith) (omega arith) in
    omega arith
