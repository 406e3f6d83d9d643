-- Which inputs have records in which epochs.
use Rattle.std.proofs.Common.{◌≡◌, ◌<◌, ◌-◌, ◌+◌, ◌∙◌, ℕ, zero, suc, List, [], ◌∷◌, ◌++◌, Bool, true, false, ◌||◌, nat_lt, length, take, get_or, refl, sym, ap, arith}
use Rattle.std.proofs.lemmas.List.{length-append}
use Rattle.std.proofs.lemmas.List.Folds.{list_any-append}
use Rattle.std.specs.List.{list_any}
use Rattle.semantics.specs.Multiset.{Record}
use Rattle.semantics.specs.Time.{below}
use Rattle.rows.specs.FlatRows.{joined}
use Rattle.rows.proofs.Joined.{item_next}

no_element : {X : Type 0} (xs : List X) → length xs ≡ 0 → xs ≡ []
no_element [] h = refl
no_element (x ∷ xs) h = absurd (omega (arith, h))

-- a list without records more
pub none_more : (xs : List (List Record)) (i : ℕ) (x : List Record) → i < length xs → x ≡ get_or xs i x → joined (take i xs) ≡ [] → length x ≡ 0 → joined (take (i + 1) xs) ≡ []
none_more xs i x h e none empty = item_next xs i x h e ∙ ap (λ l. l ++ x) none ∙ no_element x empty

-- records in one of the lists are some in all
pub some_there : (xs : List (List Record)) (i : ℕ) (x : List Record) → i < length xs → x ≡ get_or xs i x → 0 < length x → 0 < length (joined xs)
some_there [] i x h e some = absurd (omega (arith, h))
some_there (y ∷ xs) zero x h e some = omega (arith, length-append y (joined xs), ap length e, some)
some_there (y ∷ xs) (suc i) x h e some = let a = some_there xs i x (omega (arith, h)) e some in omega (arith, length-append y (joined xs), a)

-- whether there are some
pub says_some : (all some : List Record) → some ≡ all → 0 < length some → true ≡ nat_lt 0 (length all)
says_some all some e h = more_than_none (length all) (omega (arith, ap length e, h))
  where
    more_than_none : (n : ℕ) → 0 < n → true ≡ nat_lt 0 n
    more_than_none n l = grind arith

-- a test of the numbers from 1 on, with one number more
pub any_next : (p : ℕ → Bool) (left : ℕ) → 1 < left → list_any (λ n. p (suc n)) (below (left - 1)) ≡ (list_any (λ n. p (suc n)) (below (left - 1 - 1)) || p (left - 1))
any_next p left h =
    let k : left - 1 ≡ suc (left - 1 - 1) = omega (arith, h) in
    ap (λ m. list_any (λ n. p (suc n)) (below m)) k ∙ list_any-append (λ n. p (suc n)) (below (left - 1 - 1)) ((left - 1 - 1) ∷ [])
    ∙ last (list_any (λ n. p (suc n)) (below (left - 1 - 1))) (p (suc (left - 1 - 1)))
    ∙ ap (λ m. list_any (λ n. p (suc n)) (below (left - 1 - 1)) || p m) (sym k)
  where
    last : (a b : Bool) → (a || (b || false)) ≡ (a || b)
    last true true = refl
    last true false = refl
    last false true = refl
    last false false = refl

pub or_true : (a b : Bool) → b ≡ true → (a || b) ≡ true
or_true true b h = refl
or_true false b h = h

pub or_false : (a b : Bool) → b ≡ false → (a || b) ≡ a
or_false true b h = refl
or_false false b h = h
