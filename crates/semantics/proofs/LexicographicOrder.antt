-- Lists of bounded length, in lexicographic order, have no infinite descent.
use Rattle.std.proofs.Common.{◌≡◌, ℕ, zero, suc, ◌≤◌, ◌<◌, nat_lt, nat_le, nat_eq, Bool, true, ◌&&◌, List, [], ◌∷◌, length, sym, subst, arith, ltb-true, leb-true, eqb-true, le-leb, inl, inr, ◌⊎◌}
use Rattle.std.proofs.lemmas.Bool.{and_parts, or_cases, true≢false, and_from}
use mathlib.Core.WellFounded.{Acc, WellFounded}
use Rattle.semantics.specs.Time.{is_before}

-- xs comes before ys, and is no longer than n
abbrev pub under : ℕ → List ℕ → List ℕ → Bool
under n xs ys = is_before xs ys && nat_le (length xs) n

abbrev pub Under : ℕ → List ℕ → List ℕ → Type 0
Under n xs ys = under n xs ys ≡ true

pub lex_cases : (y x : ℕ) (ys xs : List ℕ) → is_before (y ∷ ys) (x ∷ xs) ≡ true → (y < x) ⊎ ((y ≡ x) × (is_before ys xs ≡ true))
lex_cases y x ys xs h = go (or_cases (nat_lt y x) (nat_eq y x && is_before ys xs) h)
  where
    go : (nat_lt y x ≡ true) ⊎ ((nat_eq y x && is_before ys xs) ≡ true) → (y < x) ⊎ ((y ≡ x) × (is_before ys xs ≡ true))
    go (inl e) = inl (ltb-true y x e)
    go (inr e) = let p = and_parts (nat_eq y x) (is_before ys xs) e in inr (eqb-true y x p.0, p.1)

nothing_under : (n : ℕ) (ys : List ℕ) → Under n ys [] → ⊥
nothing_under n [] h = true≢false (sym h)
nothing_under n (y ∷ ys) h = true≢false (sym h)

acc_nil : (n : ℕ) → Acc (Under n) []
acc_nil n = Acc.intro [] (λ ys h. absurd (nothing_under n ys h))

-- the step for a head x, from all smaller heads
module _ (n : ℕ) (tails : (xs : List ℕ) → length xs ≤ n → Acc (Under n) xs) where
  inner : (x : ℕ) (lower : (y : ℕ) (ys : List ℕ) → y < x → length ys ≤ n → Acc (Under (suc n)) (y ∷ ys)) (xs : List ℕ) → Acc (Under n) xs → Acc (Under (suc n)) (x ∷ xs)
  inner x lower xs a = elim a as (λ xs a. Acc (Under (suc n)) (x ∷ xs)) [
    | Acc.intro xs (h → ih) ↦ Acc.intro (x ∷ xs) (λ ys. elim ys as (λ ys. Under (suc n) ys (x ∷ xs) → Acc (Under (suc n)) ys) [
      | [] ↦ λ e. acc_nil (suc n)
      | y ∷ zs ↦ λ e. step x lower xs h ih y zs (and_parts (is_before (y ∷ zs) (x ∷ xs)) (nat_le (suc (length zs)) (suc n)) e)
    ])
  ]
    where
      step : (x : ℕ) (lower : (y : ℕ) (ys : List ℕ) → y < x → length ys ≤ n → Acc (Under (suc n)) (y ∷ ys)) (xs : List ℕ) (h : (ys : List ℕ) → Under n ys xs → Acc (Under n) ys) (ih : (ys : List ℕ) → Under n ys xs → Acc (Under (suc n)) (x ∷ ys)) (y : ℕ) (zs : List ℕ) → (is_before (y ∷ zs) (x ∷ xs) ≡ true) × (nat_le (suc (length zs)) (suc n) ≡ true) → Acc (Under (suc n)) (y ∷ zs)
      step x lower xs h ih y zs e =
          let short : suc (length zs) ≤ suc n = leb-true (suc (length zs)) (suc n) e.1 in
          go (lex_cases y x zs xs e.0) (omega arith)
        where
          go : (y < x) ⊎ ((y ≡ x) × (is_before zs xs ≡ true)) → length zs ≤ n → Acc (Under (suc n)) (y ∷ zs)
          go (inl l) s = lower y zs l s
          go (inr p) s = subst (λ z. Acc (Under (suc n)) (z ∷ zs)) (sym p.0) (ih zs (and_from (is_before zs xs) (nat_le (length zs) n) p.1 (le-leb (length zs) n s)))

  heads : (b : ℕ) (x : ℕ) (xs : List ℕ) → x < b → length xs ≤ n → Acc (Under (suc n)) (x ∷ xs)
  heads zero x xs l s = absurd (omega arith)
  heads (suc b) x xs l s = inner x (λ y ys ly sy. heads b y ys (omega arith) sy) xs (tails xs s)

pub acc_short : (n : ℕ) (xs : List ℕ) → length xs ≤ n → Acc (Under n) xs
acc_short zero [] h = acc_nil 0
acc_short zero (x ∷ xs) h = absurd (omega arith)
acc_short (suc n) [] h = acc_nil (suc n)
acc_short (suc n) (x ∷ xs) h = heads n (acc_short n) (suc x) x xs (omega arith) (omega arith)

pub under_well_founded : (n : ℕ) → WellFounded (Under n)
under_well_founded n = record { apply = λ xs. Acc.intro xs (λ ys e. acc_short n ys (leb-true (length ys) n (and_parts (is_before ys xs) (nat_le (length ys) n) e).1)) }

pub lex_not_self : (xs : List ℕ) → is_before xs xs ≡ true → ⊥
lex_not_self [] h = true≢false (sym h)
lex_not_self (x ∷ xs) h = go (lex_cases x x xs xs h) (lex_not_self xs)
  where
    go : (x < x) ⊎ ((x ≡ x) × (is_before xs xs ≡ true)) → (is_before xs xs ≡ true → ⊥) → ⊥
    go (inl a) ih = omega arith
    go (inr a) ih = ih a.1
