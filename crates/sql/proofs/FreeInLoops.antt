-- The names that are free in a loop.
use Rattle.std.proofs.Common.{◌≡◌, ℕ, Bool, true, false, cond, not, ◌&&◌, ◌||◌, List, [], ◌∷◌, ◌++◌, filter, refl, sym, ap, ◌∙◌}
use Rattle.std.proofs.lemmas.Bool.{true≢false}
use Rattle.semantics.specs.FreeNames.{free, has, other_than}
use Rattle.semantics.specs.Meaning.{same_name}
use Rattle.semantics.specs.Query.{Name, Loop, Rel}
use Rattle.semantics.proofs.NamesAmong.{Decides-same_name}

has_append : (y : Name) (xs ys : List Name) → has y (xs ++ ys) ≡ has y xs || has y ys
has_append y [] ys = refl
has_append y (x ∷ xs) ys = by (same_name x y) (has_append y xs ys)
  where
    by : (b : Bool) → has y (xs ++ ys) ≡ has y xs || has y ys → b || has y (xs ++ ys) ≡ (b || has y xs) || has y ys
    by true e = refl
    by false e = e

-- the variable itself
has_own : (x y : Name) (ys : List Name) → same_name x y ≡ true → has y (filter (other_than x) ys) ≡ false
has_own x y [] e = refl
has_own x y (z ∷ zs) e = by (same_name x z) refl (has_own x y zs e)
  where
    by : (b : Bool) → same_name x z ≡ b → has y (filter (other_than x) zs) ≡ false → has y (cond (not b) (z ∷ filter (other_than x) zs) (filter (other_than x) zs)) ≡ false
    by true n i = i
    by false n i = ap (λ b. b || has y (filter (other_than x) zs)) (other (same_name z y) refl) ∙ i
      where
        other : (b : Bool) → same_name z y ≡ b → b ≡ false
        other true m = absurd (true≢false (sym ((Decides-same_name x z).1 ((Decides-same_name x y).0 e ∙ sym ((Decides-same_name z y).0 m))) ∙ n))
        other false m = refl

-- another name
has_other : (x y : Name) (ys : List Name) → same_name x y ≡ false → has y (filter (other_than x) ys) ≡ has y ys
has_other x y [] e = refl
has_other x y (z ∷ zs) e = by (same_name x z) refl (has_other x y zs e)
  where
    by : (b : Bool) → same_name x z ≡ b → has y (filter (other_than x) zs) ≡ has y zs → has y (cond (not b) (z ∷ filter (other_than x) zs) (filter (other_than x) zs)) ≡ same_name z y || has y zs
    by true n i = i ∙ sym (ap (λ b. b || has y zs) (ap (λ w. same_name w y) (sym ((Decides-same_name x z).0 n)) ∙ e))
    by false n i = ap (λ b. same_name z y || b) i

pub free_inside : (l : Loop) (n : ℕ) (x y : Name) (r b : Rel) → has y (free r) ≡ false → same_name x y ≡ false → has y (free b) ≡ has y (free (Rel.loop l n x r b))
free_inside l n x y r b e f = sym (has_append y (free r) (filter (other_than x) (free b)) ∙ ap (λ c. c || has y (filter (other_than x) (free b))) e ∙ has_other x y (free b) f)

pub free_outside : (l : Loop) (n : ℕ) (x y : Name) (r b : Rel) → has y (free r) ≡ false → same_name x y ≡ true → false ≡ has y (free (Rel.loop l n x r b))
free_outside l n x y r b e f = sym (has_append y (free r) (filter (other_than x) (free b)) ∙ ap (λ c. c || has y (filter (other_than x) (free b))) e ∙ has_own x y (free b) f)

pub free_start : (l : Loop) (n : ℕ) (x y : Name) (r b : Rel) → has y (free r) ≡ true → true ≡ has y (free (Rel.loop l n x r b))
free_start l n x y r b e = sym (has_append y (free r) (filter (other_than x) (free b)) ∙ ap (λ c. c || has y (filter (other_than x) (free b))) e)
