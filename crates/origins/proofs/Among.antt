-- What is among lists that the forms make.
use Rattle.std.proofs.Common.{◌≡◌, ◌⊎◌, inl, inr, Bool, true, false, cond, List, [], ◌∷◌, ◌++◌, map, filter, flat_map, refl, sym, subst}
use Rattle.semantics.specs.Multiset.{Record, IsAmong, is_present, each_once}

pub among_map : {X Y : Type 0} (f : X → Y) (xs : List X) (y : Y) → IsAmong y (map f xs) → (x : X) × IsAmong x xs × (f x ≡ y)
among_map f [] y h = absurd h
among_map f (x ∷ xs) y (inl e) = (x, inl refl, e)
among_map f (x ∷ xs) y (inr h) = let r = among_map f xs y h in (r.0, inr r.1, r.2)

pub among_append : {X : Type 0} (xs ys : List X) (y : X) → IsAmong y (xs ++ ys) → IsAmong y xs ⊎ IsAmong y ys
among_append [] ys y h = inr h
among_append (x ∷ xs) ys y (inl e) = inl (inl e)
among_append (x ∷ xs) ys y (inr h) = go (among_append xs ys y h)
  where
    go : IsAmong y xs ⊎ IsAmong y ys → IsAmong y (x ∷ xs) ⊎ IsAmong y ys
    go (inl k) = inl (inr k)
    go (inr k) = inr k

pub among_left : {X : Type 0} (xs ys : List X) (y : X) → IsAmong y xs → IsAmong y (xs ++ ys)
among_left [] ys y h = absurd h
among_left (x ∷ xs) ys y (inl e) = inl e
among_left (x ∷ xs) ys y (inr h) = inr (among_left xs ys y h)

pub among_right : {X : Type 0} (xs ys : List X) (y : X) → IsAmong y ys → IsAmong y (xs ++ ys)
among_right [] ys y h = h
among_right (x ∷ xs) ys y h = inr (among_right xs ys y h)

pub among_filter : {X : Type 0} (p : X → Bool) (xs : List X) (y : X) → IsAmong y (filter p xs) → IsAmong y xs
among_filter p [] y h = absurd h
among_filter p (x ∷ xs) y h = go (p x) h (among_filter p xs y)
  where
    go : (b : Bool) → IsAmong y (cond b (x ∷ filter p xs) (filter p xs)) → (IsAmong y (filter p xs) → IsAmong y xs) → IsAmong y (x ∷ xs)
    go true (inl e) ih = inl e
    go true (inr k) ih = inr (ih k)
    go false k ih = inr (ih k)

pub in_filter : {X : Type 0} (p : X → Bool) (xs : List X) (y : X) → IsAmong y xs → p y ≡ true → IsAmong y (filter p xs)
in_filter p [] y h e = absurd h
in_filter p (x ∷ xs) y (inl q) e = subst (λ b. IsAmong y (cond b (x ∷ filter p xs) (filter p xs))) (sym (subst (λ z. p z ≡ true) (sym q) e)) (inl q)
in_filter p (x ∷ xs) y (inr h) e = go (p x) (in_filter p xs y h e)
  where
    go : (b : Bool) → IsAmong y (filter p xs) → IsAmong y (cond b (x ∷ filter p xs) (filter p xs))
    go true k = inr k
    go false k = k

pub among_once : (xs : List Record) (y : Record) → IsAmong y (each_once xs) → IsAmong y xs
among_once [] y h = absurd h
among_once (x ∷ xs) y h = go (is_present x xs) h (among_once xs y)
  where
    go : (b : Bool) → IsAmong y (cond b (each_once xs) (x ∷ each_once xs)) → (IsAmong y (each_once xs) → IsAmong y xs) → IsAmong y (x ∷ xs)
    go true k ih = inr (ih k)
    go false (inl e) ih = inl e
    go false (inr k) ih = inr (ih k)

pub among_flat : {X Y : Type 0} (f : X → List Y) (xs : List X) (y : Y) → IsAmong y (flat_map f xs) → (x : X) × IsAmong x xs × IsAmong y (f x)
among_flat f [] y h = absurd h
among_flat f (x ∷ xs) y h = go (among_append (f x) (flat_map f xs) y h) (among_flat f xs y)
  where
    go : IsAmong y (f x) ⊎ IsAmong y (flat_map f xs) → (IsAmong y (flat_map f xs) → (z : _) × IsAmong z xs × IsAmong y (f z)) → (z : _) × IsAmong z (x ∷ xs) × IsAmong y (f z)
    go (inl k) ih = (x, inl refl, k)
    go (inr k) ih = let r = ih k in (r.0, inr r.1, r.2)
