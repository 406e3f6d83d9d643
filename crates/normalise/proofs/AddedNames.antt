-- Sets of names to which the free names of relations are added.
use Rattle.std.proofs.Common.{◌≡◌, ◌⊎◌, ◌↔◌, ◌<◌, ◌-◌, length, take, drop, get_or, map, arith, Bool, true, false, cond, not, List, [], ◌∷◌, ◌++◌, filter, refl, sym, ap, subst, inl, inr, ◌∙◌, IsTrue}
use Rattle.semantics.specs.Multiset.{IsAmong}
use Rattle.expr_tree.specs.declared.relation.SetOperator.{SetOperator}
use Rattle.expr_tree.specs.declared.relation.SetOperator.TheVariants as operation
use Rattle.expr_tree.specs.Plain.{plain_set_operation}
use Rattle.normalise.proofs.Fronts.{rest}
use Rattle.semantics.specs.Query.{Name, Rel}
use Rattle.semantics.specs.Meaning.{same_name}
use Rattle.semantics.specs.FreeNames.{free, other_than}
use Rattle.semantics.proofs.NamesAmong.{Decides-same_name, among_left, among_right, among_others, from_others}
use Rattle.normalise.specs.Reached.{Adds}

-- ---- one name

pub adds_one : (before after : Name → Bool) (x : Name) → ((y : Name) → after y ≡ cond (same_name x y) true (before y)) → Adds (x ∷ []) after before
adds_one before after x h = record { has = λ y. go y (same_name x y) refl }
  where
    go : (y : Name) (b : Bool) → same_name x y ≡ b → IsTrue (after y) ↔ (IsTrue (before y) ⊎ ((x ≡ y) ⊎ ⊥))
    go y true e = (λ t. inr (inl ((Decides-same_name x y).0 e)), λ t. h y ∙ ap (λ b. cond b true (before y)) e)
    go y false e = (λ t. inl (sym (h y ∙ ap (λ b. cond b true (before y)) e) ∙ t), λ t. back y e t)
      where
        back : (y : Name) → same_name x y ≡ false → IsTrue (before y) ⊎ ((x ≡ y) ⊎ ⊥) → IsTrue (after y)
        back y e (inl t) = h y ∙ ap (λ b. cond b true (before y)) e ∙ t
        back y e (inr (inl p)) = h y ∙ ap (λ b. cond b true (before y)) ((Decides-same_name x y).1 p)
        back y e (inr (inr n)) = absurd n

-- ---- one relation after another

pub adds_both : (xs ys : List Name) (before between after : Name → Bool) → Adds xs between before → Adds ys after between → Adds (xs ++ ys) after before
adds_both xs ys before between after f g = record { has = λ y. (λ t. there y ((g.has y).0 t), λ t. back y t) }
  where
    there : (y : Name) → IsTrue (between y) ⊎ IsAmong y ys → IsTrue (before y) ⊎ IsAmong y (xs ++ ys)
    there y (inl t) = again y ((f.has y).0 t)
      where
        again : (y : Name) → IsTrue (before y) ⊎ IsAmong y xs → IsTrue (before y) ⊎ IsAmong y (xs ++ ys)
        again y (inl s) = inl s
        again y (inr s) = inr (among_left y xs ys s)
    there y (inr s) = inr (among_right y xs ys s)

    parts : (y : Name) (zs : List Name) → IsAmong y (zs ++ ys) → IsAmong y zs ⊎ IsAmong y ys
    parts y [] s = inr s
    parts y (z ∷ zs) (inl e) = inl (inl e)
    parts y (z ∷ zs) (inr s) = more (parts y zs s)
      where
        more : IsAmong y zs ⊎ IsAmong y ys → ((z ≡ y) ⊎ IsAmong y zs) ⊎ IsAmong y ys
        more (inl a) = inl (inr a)
        more (inr a) = inr a

    back : (y : Name) → IsTrue (before y) ⊎ IsAmong y (xs ++ ys) → IsTrue (after y)
    back y (inl t) = (g.has y).1 (inl ((f.has y).1 (inl t)))
    back y (inr s) = which (parts y xs s)
      where
        which : IsAmong y xs ⊎ IsAmong y ys → IsTrue (after y)
        which (inl a) = (g.has y).1 (inl ((f.has y).1 (inr a)))
        which (inr a) = (g.has y).1 (inr a)

-- the two of a set operation
pub adds_set_operation : (o : SetOperator) (p q : Rel) (before between after : Name → Bool) → Adds (free p) between before → Adds (free q) after between → Adds (free (plain_set_operation o p q)) after before
adds_set_operation operation.Concat p q before between after f g = adds_both (free p) (free q) before between after f g
adds_set_operation operation.Except p q before between after f g = adds_both (free p) (free q) before between after f g
adds_set_operation operation.Intersect p q before between after f g = adds_both (free p) (free q) before between after f g

-- ---- a list by its first element

-- the first, and then the others
pub first_then : {A B : Type 0} (f : A → B) (xs : List A) (x : A) → 0 < length xs → x ≡ get_or xs 0 x → map f xs ≡ f x ∷ map f (take (length xs - 1) (drop 1 xs))
first_then f [] x h e = absurd (omega arith)
first_then f (y ∷ ys) x h e = ap (λ v. f v ∷ map f ys) (sym e) ∙ ap (λ zs. f x ∷ map f zs) (sym (rest y ys))

-- ---- a loop's variable

is_other : (x y : Name) (ys : List Name) → IsAmong y (filter (other_than x) ys) → same_name x y ≡ false
is_other x y [] s = absurd s
is_other x y (z ∷ zs) s = go (is_other x y zs) (same_name x z) refl s
  where
    go : (IsAmong y (filter (other_than x) zs) → same_name x y ≡ false) → (b : Bool) → same_name x z ≡ b → IsAmong y (cond (not b) (z ∷ filter (other_than x) zs) (filter (other_than x) zs)) → same_name x y ≡ false
    go ih true e t = ih t
    go ih false e (inl p) = subst (λ w. same_name x w ≡ false) p e
    go ih false e (inr t) = ih t

-- the variable was known before: its occurrences add nothing
pub adds_known : (x : Name) (ys : List Name) (before after : Name → Bool) → before x ≡ true → Adds ys after before → Adds (filter (other_than x) ys) after before
adds_known x ys before after k f = record { has = λ y. (λ t. there y (same_name x y) refl ((f.has y).0 t), λ t. (f.has y).1 (back y t)) }
  where
    there : (y : Name) (b : Bool) → same_name x y ≡ b → IsTrue (before y) ⊎ IsAmong y ys → IsTrue (before y) ⊎ IsAmong y (filter (other_than x) ys)
    there y b e (inl t) = inl t
    there y true e (inr s) = inl (subst (λ w. before w ≡ true) ((Decides-same_name x y).0 e) k)
    there y false e (inr s) = inr (among_others x y ys e s)

    back : (y : Name) → IsTrue (before y) ⊎ IsAmong y (filter (other_than x) ys) → IsTrue (before y) ⊎ IsAmong y ys
    back y (inl t) = inl t
    back y (inr s) = inr (from_others x y ys s)

-- it was not, and is taken out again
pub adds_bound : (x : Name) (ys : List Name) (before between after : Name → Bool) → before x ≡ false → Adds ys between before → ((y : Name) → after y ≡ cond (same_name x y) false (between y)) → Adds (filter (other_than x) ys) after before
adds_bound x ys before between after k f h = record { has = λ y. (λ t. there y (same_name x y) refl t, λ t. back y (same_name x y) refl t) }
  where
    differ : (y : Name) → IsTrue (before y) → same_name x y ≡ true → ⊥
    differ y t e = clash (sym k ∙ subst (λ w. before w ≡ true) (sym ((Decides-same_name x y).0 e)) t)
      where
        clash : false ≡ true → ⊥
        clash c = cc

    there : (y : Name) (b : Bool) → same_name x y ≡ b → IsTrue (after y) → IsTrue (before y) ⊎ IsAmong y (filter (other_than x) ys)
    there y true e t = absurd (clash (sym (h y ∙ ap (λ b. cond b false (between y)) e) ∙ t))
      where
        clash : false ≡ true → ⊥
        clash c = cc
    there y false e t = go ((f.has y).0 (sym (h y ∙ ap (λ b. cond b false (between y)) e) ∙ t))
      where
        go : IsTrue (before y) ⊎ IsAmong y ys → IsTrue (before y) ⊎ IsAmong y (filter (other_than x) ys)
        go (inl s) = inl s
        go (inr s) = inr (among_others x y ys e s)

    back : (y : Name) (b : Bool) → same_name x y ≡ b → IsTrue (before y) ⊎ IsAmong y (filter (other_than x) ys) → IsTrue (after y)
    back y true e (inl t) = absurd (differ y t e)
    back y true e (inr s) = absurd (clash (sym e ∙ is_other x y ys s))
      where
        clash : true ≡ false → ⊥
        clash c = cc
    back y false e (inl t) = h y ∙ ap (λ b. cond b false (between y)) e ∙ (f.has y).1 (inl t)
    back y false e (inr s) = h y ∙ ap (λ b. cond b false (between y)) e ∙ (f.has y).1 (inr (from_others x y ys s))
