-- A well-typed program fits: its names are known, and its loops are limited.
use Rattle.std.proofs.Common.{◌≡◌, ℕ, suc, ◌≤◌, ◌<◌, Bool, true, false, cond, not, List, [], ◌∷◌, ◌++◌, filter, Some, refl, sym, subst, ◌∙◌, arith, inl, inr, ◌⊎◌}
use Rattle.std.proofs.lemmas.Bool.{true≢false}
use Rattle.semantics.proofs.NamesAmong.{Decides-same_name}
use Rattle.semantics.specs.Multiset.{IsAmong}
use Rattle.semantics.specs.FreeNames.{free, other_than}
use Rattle.semantics.specs.Limits.{max_turns}
use Rattle.semantics.specs.Meaning.{same_name}
use Rattle.semantics.specs.Query.{Name, Rel, Input, Let, Output, Program}
use Rattle.semantics.specs.Time.{turn_count}
use Rattle.semantics.specs.Typing.{Scope, lookup, entry, HasArity, after_inputs, OutputsFit, RestFits, WellTyped}
use Rattle.semantics.proofs.FittingPrograms.{Known, Limited, Nested, FitsIn, LetsFit, AllFit, names_after, input_list, IsFitting}

-- xs has every name of the scope
abbrev Covers : Scope → List Name → Type 0
Covers scope xs = (y : Name) (n : ℕ) → lookup scope y ≡ Some n → IsAmong y xs

among_append : (y : Name) (xs ys : List Name) → IsAmong y (xs ++ ys) → IsAmong y xs ⊎ IsAmong y ys
among_append y [] ys h = inr h
among_append y (x ∷ xs) ys (inl e) = inl (inl e)
among_append y (x ∷ xs) ys (inr h) = go (among_append y xs ys h)
  where
    go : IsAmong y xs ⊎ IsAmong y ys → ((x ≡ y) ⊎ IsAmong y xs) ⊎ IsAmong y ys
    go (inl k) = inl (inr k)
    go (inr k) = inr k

-- what remains of names after a filter
from_others_apart : (x y : Name) (ys : List Name) → IsAmong y (filter (other_than x) ys) → IsAmong y ys × (same_name x y ≡ false)
from_others_apart x y [] h = absurd h
from_others_apart x y (z ∷ zs) h = go (same_name x z) refl h (from_others_apart x y zs)
  where
    go : (b : Bool) → same_name x z ≡ b → IsAmong y (cond (not b) (z ∷ filter (other_than x) zs) (filter (other_than x) zs)) → (IsAmong y (filter (other_than x) zs) → IsAmong y zs × (same_name x y ≡ false)) → ((z ≡ y) ⊎ IsAmong y zs) × (same_name x y ≡ false)
    go true e k ih = let r = ih k in (inr r.0, r.1)
    go false e (inl q) ih = (inl q, subst (λ w. same_name x w ≡ false) q e)
    go false e (inr k) ih = let r = ih k in (inr r.0, r.1)

both : (p q : List Name) (xs : List Name) → ((y : Name) → IsAmong y p → IsAmong y xs) → ((y : Name) → IsAmong y q → IsAmong y xs) → (y : Name) → IsAmong y (p ++ q) → IsAmong y xs
both p q xs f g y h = go (among_append y p q h)
  where
    go : IsAmong y p ⊎ IsAmong y q → IsAmong y xs
    go (inl k) = f y k
    go (inr k) = g y k

covers_more : (scope : Scope) (xs : List Name) (x : Name) (n : ℕ) → Covers scope xs → Covers (entry x n ∷ scope) (x ∷ xs)
covers_more scope xs x n c y m h = go (same_name x y) refl h
  where
    go : (b : Bool) → same_name x y ≡ b → cond b (Some n) (lookup scope y) ≡ Some m → (x ≡ y) ⊎ IsAmong y xs
    go true e k = inl ((Decides-same_name x y).0 e)
    go false e k = inr (c y m k)

pub typed_known : (r : Rel) (scope : Scope) (d n : ℕ) (xs : List Name) → HasArity r scope d n → Covers scope xs → Known xs r
unfolding HasArity
typed_known (Rel.named x) scope d n xs t c y (inl e) = subst (λ z. IsAmong z xs) e (c x n t)
typed_known (Rel.named x) scope d n xs t c y (inr h) = absurd h
typed_known (Rel.select r ss) scope d n xs t c y h = typed_known r scope d t.0 xs t.1 c y h
typed_known (Rel.filter r k) scope d n xs t c y h = typed_known r scope d n xs t.0 c y h
typed_known (Rel.concat p q) scope d n xs t c y h = both (free p) (free q) xs (typed_known p scope d n xs t.0 c) (typed_known q scope d n xs t.1 c) y h
typed_known (Rel.join p q ps) scope d n xs t c y h = both (free p) (free q) xs (typed_known p scope d t.0 xs t.2 c) (typed_known q scope d t.1 xs t.3 c) y h
typed_known (Rel.group r ks as') scope d n xs t c y h = typed_known r scope d t.0 xs t.1 c y h
typed_known (Rel.distinct r) scope d n xs t c y h = typed_known r scope d n xs t c y h
typed_known (Rel.except p q) scope d n xs t c y h = both (free p) (free q) xs (typed_known p scope d n xs t.0 c) (typed_known q scope d n xs t.1 c) y h
typed_known (Rel.intersect p q) scope d n xs t c y h = both (free p) (free q) xs (typed_known p scope d n xs t.0 c) (typed_known q scope d n xs t.1 c) y h
typed_known (Rel.loop l k x r b) scope d n xs t c y h =
    both (free r) (filter (other_than x) (free b)) xs (typed_known r scope d n xs t.2 c)
    (λ y h. let a = from_others_apart x y (free b) h in inner y a.1 (typed_known b (entry x n ∷ scope) (suc d) n (x ∷ xs) t.4 (covers_more scope xs x n c) y a.0)) y h
  where
    inner : (y : Name) → same_name x y ≡ false → (x ≡ y) ⊎ IsAmong y xs → IsAmong y xs
    inner y e (inl q) = absurd (true≢false (sym ((Decides-same_name x y).1 q) ∙ e))
    inner y e (inr h) = h

at_most : (k : ℕ) → k ≤ max_turns → k < turn_count
unfolding turn_count
at_most k h = omega arith

pub typed_limited : (r : Rel) (scope : Scope) (d n : ℕ) → HasArity r scope d n → Limited r
unfolding HasArity
typed_limited (Rel.named x) scope d n t = tt
typed_limited (Rel.select r ss) scope d n t = typed_limited r scope d t.0 t.1
typed_limited (Rel.filter r k) scope d n t = typed_limited r scope d n t.0
typed_limited (Rel.concat p q) scope d n t = (typed_limited p scope d n t.0, typed_limited q scope d n t.1)
typed_limited (Rel.join p q ps) scope d n t = (typed_limited p scope d t.0 t.2, typed_limited q scope d t.1 t.3)
typed_limited (Rel.group r ks as') scope d n t = typed_limited r scope d t.0 t.1
typed_limited (Rel.distinct r) scope d n t = typed_limited r scope d n t
typed_limited (Rel.except p q) scope d n t = (typed_limited p scope d n t.0, typed_limited q scope d n t.1)
typed_limited (Rel.intersect p q) scope d n t = (typed_limited p scope d n t.0, typed_limited q scope d n t.1)
typed_limited (Rel.loop l k x r b) scope d n t = (at_most k t.0, typed_limited r scope d n t.2, typed_limited b (entry x n ∷ scope) (suc d) n t.4)

pub typed_nested : (r : Rel) (scope : Scope) (d n : ℕ) → HasArity r scope d n → Nested d r
unfolding HasArity
typed_nested (Rel.named x) scope d n t = tt
typed_nested (Rel.select r ss) scope d n t = typed_nested r scope d t.0 t.1
typed_nested (Rel.filter r k) scope d n t = typed_nested r scope d n t.0
typed_nested (Rel.concat p q) scope d n t = (typed_nested p scope d n t.0, typed_nested q scope d n t.1)
typed_nested (Rel.join p q ps) scope d n t = (typed_nested p scope d t.0 t.2, typed_nested q scope d t.1 t.3)
typed_nested (Rel.group r ks as') scope d n t = typed_nested r scope d t.0 t.1
typed_nested (Rel.distinct r) scope d n t = typed_nested r scope d n t
typed_nested (Rel.except p q) scope d n t = (typed_nested p scope d n t.0, typed_nested q scope d n t.1)
typed_nested (Rel.intersect p q) scope d n t = (typed_nested p scope d n t.0, typed_nested q scope d n t.1)
typed_nested (Rel.loop l k x r b) scope d n t = (typed_nested r scope d n t.2, t.1, typed_nested b (entry x n ∷ scope) (suc d) n t.4)

fits_in : (r : Rel) (scope : Scope) (n : ℕ) (xs : List Name) → HasArity r scope 0 n → Covers scope xs → FitsIn xs r
fits_in r scope n xs t c = record { known = typed_known r scope 0 n xs t c; limited = typed_limited r scope 0 n t; nested = typed_nested r scope 0 n t }

outputs_fit : (os : List Output) (scope before : Scope) (ns : List ℕ) (xs : List Name) → OutputsFit scope before os ns → Covers scope xs → AllFit xs os
outputs_fit [] scope before ns xs t c = tt
outputs_fit (o ∷ os) scope before [] xs t c = absurd t
outputs_fit (o ∷ os) scope before (n ∷ ns) xs t c = (fits_in o.value scope n xs t.0 c, outputs_fit os scope (entry o.name n ∷ before) ns xs t.2 c)

rest_fits : (as' : List Let) (outs : List Output) (scope : Scope) (ns : List ℕ) (xs : List Name) → RestFits scope as' outs ns → Covers scope xs → LetsFit xs as' × AllFit (names_after xs as') outs
rest_fits [] outs scope ns xs t c = (tt, outputs_fit outs scope [] ns xs t c)
rest_fits (a ∷ as') outs scope ns xs t c =
    let later = rest_fits as' outs (entry a.name t.0 ∷ scope) ns (a.name ∷ xs) t.3 (covers_more scope xs a.name t.0 c) in
    ((fits_in a.value scope t.0 xs t.1 c, later.0), later.1)

inputs_fit : (as' : List Input) (scope : Scope) (xs : List Name) (all : List Name) → Covers scope xs → ((y : Name) → IsAmong y xs ⊎ IsAmong y (input_list as') → IsAmong y all) → Covers (after_inputs scope as') all
inputs_fit [] scope xs all c f y n h = f y (inl (c y n h))
inputs_fit (a ∷ as') scope xs all c f y n h = inputs_fit as' (entry a.name a.arity ∷ scope) (a.name ∷ xs) all (covers_more scope xs a.name a.arity c) (λ z k. f z (go z k)) y n h
  where
    go : (z : Name) → ((a.name ≡ z) ⊎ IsAmong z xs) ⊎ IsAmong z (input_list as') → IsAmong z xs ⊎ ((a.name ≡ z) ⊎ IsAmong z (input_list as'))
    go z (inl (inl e)) = inr (inl e)
    go z (inl (inr k)) = inl k
    go z (inr k) = inr (inr k)

none_in_scope : Covers [] []
none_in_scope y n h = absurd (cc)

-- a program that `check` accepts fits
pub typed_fits : (p : Program) (ns : List ℕ) → WellTyped p ns → IsFitting p
typed_fits p ns t =
    let c = inputs_fit p.inputs [] [] (input_list p.inputs) none_in_scope (λ y. only y) in
    let r = rest_fits p.lets p.outputs (after_inputs [] p.inputs) ns (input_list p.inputs) t.rest c in
    record { lets = r.0; outputs = r.1 }
  where
    only : (y : Name) → IsAmong y [] ⊎ IsAmong y (input_list p.inputs) → IsAmong y (input_list p.inputs)
    only y (inl h) = absurd h
    only y (inr h) = h
