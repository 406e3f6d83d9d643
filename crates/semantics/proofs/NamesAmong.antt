-- Names among the free names of a relation, and among those that a loop carries.
use Rattle.std.proofs.Common.{◌≡◌, Bool, true, false, cond, not, List, [], ◌∷◌, ◌++◌, filter, ◌||◌, refl, sym, ap, subst, ◌∙◌, inl, inr, ◌⊎◌, Decides}
use Rattle.std.proofs.lemmas.Bool.{true≢false}
use Rattle.std.proofs.lemmas.Bool.Decides.{Decides-eqb}
use Rattle.std.specs.Cmp.Lexicographic.{pointwise_decides}
use Rattle.semantics.specs.Multiset.{IsAmong}
use Rattle.semantics.specs.Query.{Name, Loop, Rel}
use Rattle.semantics.specs.Meaning.{same_name}
use Rattle.semantics.specs.FreeNames.{other_than, free, firsts, carried, looked_up, needed, has, once_names}

pub Decides-same_name : (x y : Name) → Decides (same_name x y) (x ≡ y)
Decides-same_name = pointwise_decides (λ x y. Decides-eqb x y)

pub among_left : (y : Name) (xs ys : List Name) → IsAmong y xs → IsAmong y (xs ++ ys)
among_left y [] ys h = absurd h
among_left y (x ∷ xs) ys (inl e) = inl e
among_left y (x ∷ xs) ys (inr h) = inr (among_left y xs ys h)

pub among_right : (y : Name) (xs ys : List Name) → IsAmong y ys → IsAmong y (xs ++ ys)
among_right y [] ys h = h
among_right y (x ∷ xs) ys h = inr (among_right y xs ys h)

among_cond_more : (y x : Name) (b : Bool) (xs : List Name) → IsAmong y xs → IsAmong y (cond b (x ∷ xs) xs)
among_cond_more y x true xs h = inr h
among_cond_more y x false xs h = h

pub among_others : (x y : Name) (ys : List Name) → same_name x y ≡ false → IsAmong y ys → IsAmong y (filter (other_than x) ys)
among_others x y [] n h = absurd h
among_others x y (z ∷ zs) n (inl e) = subst (λ b. IsAmong y (cond (not b) (z ∷ filter (other_than x) zs) (filter (other_than x) zs))) (sym (subst (λ w. same_name x w ≡ false) (sym e) n)) (inl e)
among_others x y (z ∷ zs) n (inr h) = among_cond_more y z (other_than x z) (filter (other_than x) zs) (among_others x y zs n h)

pub among_firsts : (y : Name) (ys : List Name) → IsAmong y ys → IsAmong y (firsts ys)
among_firsts y [] h = h
among_firsts y (x ∷ xs) (inl e) = inl e
among_firsts y (x ∷ xs) (inr h) = go (same_name x y) refl (among_firsts y xs h)
  where
    go : (b : Bool) → same_name x y ≡ b → IsAmong y (firsts xs) → (x ≡ y) ⊎ IsAmong y (filter (other_than x) (firsts xs))
    go true e k = inl ((Decides-same_name x y).0 e)
    go false e k = inr (among_others x y (firsts xs) e k)

-- ---- and back

from_cond : (y x : Name) (b : Bool) (xs : List Name) → IsAmong y (cond b (x ∷ xs) xs) → (x ≡ y) ⊎ IsAmong y xs
from_cond y x true xs h = h
from_cond y x false xs h = inr h

pub from_others : (x y : Name) (ys : List Name) → IsAmong y (filter (other_than x) ys) → IsAmong y ys
from_others x y [] h = h
from_others x y (z ∷ zs) h = go (from_cond y z (other_than x z) (filter (other_than x) zs) h) (from_others x y zs)
  where
    go : (z ≡ y) ⊎ IsAmong y (filter (other_than x) zs) → (IsAmong y (filter (other_than x) zs) → IsAmong y zs) → (z ≡ y) ⊎ IsAmong y zs
    go (inl e) f = inl e
    go (inr k) f = inr (f k)

pub from_firsts : (y : Name) (ys : List Name) → IsAmong y (firsts ys) → IsAmong y ys
from_firsts y [] h = h
from_firsts y (x ∷ xs) (inl e) = inl e
from_firsts y (x ∷ xs) (inr h) = inr (from_firsts y xs (from_others x y (firsts xs) h))

-- ---- names that are needed

pub has_among : (y : Name) (xs : List Name) → IsAmong y xs → has y xs ≡ true
has_among y [] h = absurd h
has_among y (x ∷ xs) h = go (same_name x y) refl h (has_among y xs)
  where
    go : (b : Bool) → same_name x y ≡ b → (x ≡ y) ⊎ IsAmong y xs → (IsAmong y xs → has y xs ≡ true) → (b || has y xs) ≡ true
    go true e h ih = refl
    go false e (inl q) ih = absurd (true≢false (sym ((Decides-same_name x y).1 q) ∙ e))
    go false e (inr h) ih = ih h

-- among the names of one of two lists
in_either : (y : Name) (xs ys xs' ys' : List Name) → (IsAmong y xs → IsAmong y xs') → (IsAmong y ys → IsAmong y ys') → IsAmong y (xs ++ ys) → IsAmong y (xs' ++ ys')
in_either y xs ys xs' ys' f g h = go (from_append y xs ys h)
  where
    from_append : (y : Name) (xs ys : List Name) → IsAmong y (xs ++ ys) → IsAmong y xs ⊎ IsAmong y ys
    from_append y [] ys h = inr h
    from_append y (x ∷ xs) ys (inl e) = inl (inl e)
    from_append y (x ∷ xs) ys (inr h) = more (from_append y xs ys h)
      where
        more : IsAmong y xs ⊎ IsAmong y ys → ((x ≡ y) ⊎ IsAmong y xs) ⊎ IsAmong y ys
        more (inl k) = inl (inr k)
        more (inr k) = inr k

    go : IsAmong y xs ⊎ IsAmong y ys → IsAmong y (xs' ++ ys')
    go (inl k) = among_left y xs' ys' (f k)
    go (inr k) = among_right y xs' ys' (g k)

none_or : (y : Name) (b : Bool) (xs ys : List Name) → (IsAmong y xs → IsAmong y ys) → IsAmong y (cond b [] xs) → IsAmong y ys
none_or y true xs ys f h = absurd h
none_or y false xs ys f h = f h

-- they are free
pub needed_free : (r : Rel) (y : Name) → IsAmong y (needed r) → IsAmong y (free r)
needed_free (Rel.named x) y h = h
needed_free (Rel.select r ss) y h = needed_free r y h
needed_free (Rel.filter r c) y h = needed_free r y h
needed_free (Rel.concat p q) y h = in_either y (needed p) (needed q) (free p) (free q) (needed_free p y) (needed_free q y) h
needed_free (Rel.join p q ps) y h = in_either y (needed p) (cond (looked_up q) [] (needed q)) (free p) (free q) (needed_free p y) (none_or y (looked_up q) (needed q) (free q) (needed_free q y)) h
needed_free (Rel.group r ks as') y h = needed_free r y h
needed_free (Rel.distinct r) y h = needed_free r y h
needed_free (Rel.except p q) y h = in_either y (needed p) (needed q) (free p) (free q) (needed_free p y) (needed_free q y) h
needed_free (Rel.intersect p q) y h = in_either y (needed p) (needed q) (free p) (free q) (needed_free p y) (needed_free q y) h
needed_free (Rel.loop l n x r b) y h = in_either y (needed r) (filter (other_than x) (free b)) (free r) (filter (other_than x) (free b)) (needed_free r y) (λ k. k) h

-- what is among them is one of them
among_has : (y : Name) (xs : List Name) → has y xs ≡ true → IsAmong y xs
among_has y [] h = absurd (true≢false (sym h))
among_has y (x ∷ xs) h = go (same_name x y) refl h (among_has y xs)
  where
    go : (b : Bool) → same_name x y ≡ b → (b || has y xs) ≡ true → (has y xs ≡ true → IsAmong y xs) → (x ≡ y) ⊎ IsAmong y xs
    go true e h ih = inl ((Decides-same_name x y).0 e)
    go false e h ih = inr (ih h)

-- among those of ys that p picks
has_kept : (p : Name → Bool) (y : Name) (ys : List Name) → IsAmong y ys → has y (filter p ys) ≡ p y
has_kept p y [] h = absurd h
has_kept p y (z ∷ zs) h = go (same_name z y) refl h (has_kept p y zs)
  where
    -- if it isn't picked
    never : p y ≡ false → (xs : List Name) → has y (filter p xs) ≡ false
    never e [] = refl
    never e (x ∷ xs) = by (same_name x y) refl (never e xs)
      where
        skip : (b : Bool) → p x ≡ b → same_name x y ≡ false → has y (filter p xs) ≡ false → has y (cond b (x ∷ filter p xs) (filter p xs)) ≡ false
        skip true k n ih = ap (λ t. t || has y (filter p xs)) n ∙ ih
        skip false k n ih = ih

        by : (b : Bool) → same_name x y ≡ b → has y (filter p xs) ≡ false → has y (cond (p x) (x ∷ filter p xs) (filter p xs)) ≡ false
        by true k ih = ap (λ t. has y (cond t (x ∷ filter p xs) (filter p xs))) (ap p ((Decides-same_name x y).0 k) ∙ e) ∙ ih
        by false k ih = skip (p x) refl k ih

    here : (b : Bool) → p z ≡ b → z ≡ y → has y (cond b (z ∷ filter p zs) (filter p zs)) ≡ b
    here true k e = ap (λ t. t || has y (filter p zs)) ((Decides-same_name z y).1 e)
    here false k e = never (sym (ap p e) ∙ k) zs

    past : (b : Bool) → same_name z y ≡ false → has y (filter p zs) ≡ p y → has y (cond b (z ∷ filter p zs) (filter p zs)) ≡ p y
    past true n ih = ap (λ t. t || has y (filter p zs)) n ∙ ih
    past false n ih = ih

    go : (b : Bool) → same_name z y ≡ b → (z ≡ y) ⊎ IsAmong y zs → (IsAmong y zs → has y (filter p zs) ≡ p y) → has y (cond (p z) (z ∷ filter p zs) (filter p zs)) ≡ p y
    go true e h ih = let q = (Decides-same_name z y).0 e in here (p z) refl q ∙ ap p q
    go false e (inl q) ih = absurd (true≢false (sym ((Decides-same_name z y).1 q) ∙ e))
    go false e (inr h) ih = past (p z) e (ih h)

-- a loop's variable doesn't come from outside
pub variable_inside : (l : Loop) (x : Name) (b : Rel) (y : Name) → same_name x y ≡ true → has y (once_names l x b) ≡ false
variable_inside Loop.iterate x b y e = refl
variable_inside Loop.closure x b y e = go (has y (once_names Loop.closure x b)) refl
  where
    -- the names that are left are different from x
    left : (ys : List Name) → IsAmong y (filter (other_than x) ys) → ⊥
    left [] h = h
    left (z ∷ zs) h = by (same_name x z) refl h (left zs)
      where
        by : (t : Bool) → same_name x z ≡ t → IsAmong y (cond (not t) (z ∷ filter (other_than x) zs) (filter (other_than x) zs)) → (IsAmong y (filter (other_than x) zs) → ⊥) → ⊥
        by true k h ih = ih h
        by false k (inl q) ih = true≢false (sym (subst (λ w. same_name x w ≡ true) (sym q) e) ∙ k)
        by false k (inr h) ih = ih h

    go : (t : Bool) → has y (once_names Loop.closure x b) ≡ t → t ≡ false
    go true k = absurd (left (free b) (from_firsts y (filter (other_than x) (free b)) (from_filter (carried x b) (among_has y (once_names Loop.closure x b) k))))
      where
        from_filter : (ys : List Name) → IsAmong y (filter (λ y. not (has y (needed b))) ys) → IsAmong y ys
        from_filter [] h = absurd h
        from_filter (z ∷ zs) h = by (not (has z (needed b))) h (from_filter zs)
          where
            by : (t : Bool) → IsAmong y (cond t (z ∷ filter (λ y. not (has y (needed b))) zs) (filter (λ y. not (has y (needed b))) zs)) → (IsAmong y (filter (λ y. not (has y (needed b))) zs) → IsAmong y zs) → (z ≡ y) ⊎ IsAmong y zs
            by true (inl q) ih = inl q
            by true (inr h) ih = inr (ih h)
            by false h ih = inr (ih h)
    go false k = refl

-- what the body needs comes at each turn
pub needed_inside : (l : Loop) (x : Name) (b : Rel) (y : Name) → IsAmong y (needed b) → has y (once_names l x b) ≡ false
needed_inside Loop.iterate x b y h = refl
needed_inside Loop.closure x b y h = go (same_name x y) refl
  where
    go : (t : Bool) → same_name x y ≡ t → has y (once_names Loop.closure x b) ≡ false
    go true e = variable_inside Loop.closure x b y e
    go false e = has_kept (λ y. not (has y (needed b))) y (carried x b) (among_firsts y (filter (other_than x) (free b)) (among_others x y (free b) e (needed_free b y h))) ∙ ap not (has_among y (needed b) h)
