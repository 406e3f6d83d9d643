-- Loops that check each element of a list.
use Rattle.std.proofs.Common.{◌≡◌, ◌≤◌, ◌<◌, ◌+◌, ◌↔◌, ℕ, zero, suc, List, [], ◌∷◌, ◌++◌, Bool, true, false, IsTrue, length, take, map, get_or, refl, sym, ap, subst, ◌∙◌, arith}
use Rattle.std.proofs.lemmas.List.{take_more, take_all}
use Rattle.record_core.specs.Names.{IsName}
use Rattle.expr_tree.specs.Trees.{LetTree}
use Rattle.grammar.specs.Texts.{max_height}
use Rattle.writer.specs.Relations.{heights, rel_height}
use Rattle.writer.specs.Programs.{lets_height}
use Rattle.writer.specs.Sources.{Each, Filled, IsLetSource}

each_append : {X : Type 0} (S : X → Type 0) (xs ys : List X) → Each S xs → Each S ys → Each S (xs ++ ys)
each_append S [] ys a b = b
each_append S (x ∷ xs) ys a b = (a.0, each_append S xs ys a.1 b)

pub each_at : {X : Type 0} (S : X → Type 0) (xs : List X) (i : ℕ) (d : X) → Each S xs → i < length xs → S (get_or xs i d)
each_at S [] i d a lt = absurd (omega arith)
each_at S (x ∷ xs) zero d a lt = a.0
each_at S (x ∷ xs) (suc i) d a lt = each_at S xs i d a.1 (omega arith)

pub each_more : {X : Type 0} (S : X → Type 0) (xs : List X) (i : ℕ) (x : X) → i < length xs → x ≡ get_or xs i x → Each S (take i xs) → S x → Each S (take (i + 1) xs)
each_more S xs i x lt e a s =
    let t : take (i + 1) xs ≡ take i xs ++ x ∷ [] = take_more xs i x lt ∙ ap (λ y. take i xs ++ y ∷ []) (sym e) in
    rw t (each_append S (take i xs) (x ∷ []) a (s, tt))

-- one that fails
pub not_each : {X : Type 0} (S : X → Type 0) (xs : List X) (i : ℕ) (x : X) → i < length xs → x ≡ get_or xs i x → (S x → ⊥) → Each S xs → ⊥
not_each S xs i x lt e n a = n (subst S (sym e) (each_at S xs i x a lt))

pub each_all : {X : Type 0} (S : X → Type 0) (xs : List X) (i : ℕ) → length xs ≤ i → Each S (take i xs) → Each S xs
each_all S xs i le a = rw (take_all i xs le) at a

pub filled_each : {X : Type 0} (S : X → Type 0) (xs : List X) → Filled S xs → Each S xs
filled_each S [] f = absurd f
filled_each S (x ∷ xs) f = f

pub each_filled : {X : Type 0} (S : X → Type 0) (xs : List X) → 0 < length xs → Each S xs → Filled S xs
each_filled S [] lt a = absurd (omega arith)
each_filled S (x ∷ xs) lt a = a

filled_some : {X : Type 0} (S : X → Type 0) (xs : List X) → Filled S xs → 0 < length xs
filled_some S [] f = absurd f
filled_some S (x ∷ xs) f = omega arith

-- a failed element decides
pub fails : {X : Type 0} (S : X → Type 0) (xs : List X) (i : ℕ) (x : X) (P : Type 0) (b : Bool) → i < length xs → x ≡ get_or xs i x → IsTrue b ↔ S x → b ≡ false → (P → Each S xs) → IsTrue false ↔ P
fails S xs i x P b lt e decides f from = (λ z. absurd cc, λ p. absurd (not_each S xs i x lt e (λ s. let t = decides.1 s in cc) (from p)))

-- all were seen, and there are some
pub filled_end : {X : Type 0} (S : X → Type 0) (xs : List X) (i : ℕ) (P : Type 0) (b : Bool) → length xs ≤ i → Each S (take i xs) → (IsTrue b ↔ (0 < length xs)) → (Filled S xs → P) → (P → Filled S xs) → IsTrue b ↔ P
filled_end S xs i P b le a some to from = (λ t. to (each_filled S xs (some.0 t) (each_all S xs i le a)), λ p. some.1 (filled_some S xs (from p)))

pub each_end : {X : Type 0} (S : X → Type 0) (xs : List X) (i : ℕ) (P : Type 0) → length xs ≤ i → Each S (take i xs) → (Each S xs → P) → IsTrue true ↔ P
each_end S xs i P le a to = (λ t. to (each_all S xs i le a), λ p. refl)

abbrev pub Fits : {X Y : Type 0} → (X → Y) → (Y → Type 0) → (Y → ℕ) → ℕ → X → Type 0
Fits view Q h room x = Q (view x) × (h (view x) ≤ room)

fit_to : {X Y : Type 0} (view : X → Y) (Q : Y → Type 0) (h : Y → ℕ) (room : ℕ) (xs : List X) → Each (Fits view Q h room) xs → Each Q (map view xs) × (heights h (map view xs) ≤ room)
fit_to view Q h room [] a = (tt, omega arith)
fit_to view Q h room (x ∷ xs) a = let r = fit_to view Q h room xs a.1 in let i = r.1 in let j = a.0.1 in ((a.0.0, r.0), omega arith)

fit_from : {X Y : Type 0} (view : X → Y) (Q : Y → Type 0) (h : Y → ℕ) (room : ℕ) (xs : List X) → Each Q (map view xs) → heights h (map view xs) ≤ room → Each (Fits view Q h room) xs
fit_from view Q h room [] a le = tt
fit_from view Q h room (x ∷ xs) a le = ((a.0, omega arith), fit_from view Q h room xs a.1 (omega arith))

pub filled_to : {X Y : Type 0} (view : X → Y) (Q : Y → Type 0) (h : Y → ℕ) (room : ℕ) (xs : List X) → Filled (Fits view Q h room) xs → Filled Q (map view xs) × (heights h (map view xs) ≤ room)
filled_to view Q h room [] a = absurd a
filled_to view Q h room (x ∷ xs) a = fit_to view Q h room (x ∷ xs) a

pub filled_from : {X Y : Type 0} (view : X → Y) (Q : Y → Type 0) (h : Y → ℕ) (room : ℕ) (xs : List X) → Filled Q (map view xs) × (heights h (map view xs) ≤ room) → Filled (Fits view Q h room) xs
filled_from view Q h room [] a = absurd a.0
filled_from view Q h room (x ∷ xs) a = fit_from view Q h room (x ∷ xs) a.0 a.1

-- named relations, of which there may be none
abbrev pub LetFits : {X : Type 0} → (X → LetTree) → X → Type 0
LetFits view x = IsLetSource (view x) × (rel_height (view x).relation ≤ max_height)

pub lets_to : {X : Type 0} (view : X → LetTree) (xs : List X) → Each (LetFits view) xs → Each IsLetSource (map view xs) × (lets_height (map view xs) ≤ max_height)
lets_to view [] a = (tt, omega arith)
lets_to view (x ∷ xs) a = let r = lets_to view xs a.1 in let i = r.1 in let j = a.0.1 in ((a.0.0, r.0), omega arith)

pub lets_from : {X : Type 0} (view : X → LetTree) (xs : List X) → Each IsLetSource (map view xs) × (lets_height (map view xs) ≤ max_height) → Each (LetFits view) xs
lets_from view [] a = tt
lets_from view (x ∷ xs) a = let i = a.1 in ((a.0.0, omega arith), lets_from view xs (a.0.1, omega arith))

pub name_some : (x : List ℕ) → IsName x → 0 < length x
name_some [] n = let b = n.begins in absurd cc
name_some (b ∷ bs) n = omega arith
