-- Lists of parts, by one part more.
use Rattle.std.proofs.Common.{◌≡◌, ◌<◌, ◌≤◌, ◌-◌, ℕ, zero, suc, ◌+◌, List, [], ◌∷◌, ◌++◌, length, get_or, take, drop, map, refl, sym, ap, ◌∙◌, arith, append-nil, append_assoc}
use Rattle.std.specs.List.{flat_map}

step : {X Y : Type 0} (g : X → List Y) (xs : List X) (i : ℕ) (x : X) → i < length xs → x ≡ get_or xs i x → flat_map g (take (suc i) xs) ≡ flat_map g (take i xs) ++ g x
step g [] i x h e = absurd (omega arith)
step g (y ∷ ys) zero x h e = append-nil (g y) ∙ ap g (sym e)
step g (y ∷ ys) (suc i) x h e = ap (λ l. g y ++ l) (step g ys i x (omega arith) e) ∙ sym (append_assoc (g y) (flat_map g (take i ys)) (g x))

pub more : {X Y : Type 0} (g : X → List Y) (xs : List X) (i : ℕ) (x : X) → i < length xs → x ≡ get_or xs i x → flat_map g (take (i + 1) xs) ≡ flat_map g (take i xs) ++ g x
more g xs i x h e =
    let k : i + 1 ≡ suc i = omega arith in
    ap (λ j. flat_map g (take j xs)) k ∙ step g xs i x h e

through : {X Y Z : Type 0} (t : X → Y) (g : Y → List Z) (xs : List X) → flat_map g (map t xs) ≡ flat_map (λ x. g (t x)) xs
through t g [] = refl
through t g (x ∷ xs) = ap (λ l. g (t x) ++ l) (through t g xs)

pub more_of : {X Y Z : Type 0} (t : X → Y) (g : Y → List Z) (xs : List X) (i : ℕ) (x : X) → i < length xs → x ≡ get_or xs i x → flat_map g (map t (take (i + 1) xs)) ≡ flat_map g (map t (take i xs)) ++ g (t x)
more_of t g xs i x h e = through t g (take (i + 1) xs) ∙ more (λ y. g (t y)) xs i x h e ∙ ap (λ l. l ++ g (t x)) (sym (through t g (take i xs)))

-- what is left of a list from a place on
pub from_place : {X : Type 0} (xs : List X) (i : ℕ) (x : X) → i < length xs → x ≡ get_or xs i x → drop i xs ≡ x ∷ drop (i + 1) xs
from_place {X} xs i x h e =
    let k : i + 1 ≡ suc i = omega arith in
    go xs i h e ∙ ap (λ j. x ∷ drop j xs) (sym k)
  where
    go : (ys : List X) (j : ℕ) → j < length ys → x ≡ get_or ys j x → drop j ys ≡ x ∷ drop (suc j) ys
    go [] j h e = absurd (omega arith)
    go (y ∷ ys) zero h e = ap (λ z. z ∷ ys) (sym e)
    go (y ∷ ys) (suc j) h e = go ys j (omega arith) e

pub none_left : {X : Type 0} (xs : List X) → drop (length xs) xs ≡ []
none_left [] = refl
none_left (x ∷ xs) = none_left xs

pub before_place : {X : Type 0} (xs : List X) (i : ℕ) (x : X) → 0 < i → i ≤ length xs → x ≡ get_or xs (i - 1) x → drop (i - 1) xs ≡ x ∷ drop i xs
before_place xs i x some h e =
    let k : i - 1 + 1 ≡ i = omega (arith, some) in
    from_place xs (i - 1) x (omega (arith, some, h)) e ∙ ap (λ j. x ∷ drop j xs) k
