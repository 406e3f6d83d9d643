-- The rules of the normaliser keep a relation's arity, and keep programs well typed.
use Rattle.std.proofs.Common.{◌≡◌, ℕ, zero, suc, ◌<◌, Bool, true, false, cond, List, [], ◌∷◌, ◌++◌, map, length, slice_index_or, pos, Some, None, refl, sym, subst, ◌∙◌, arith, ap, inl, inr}
use Rattle.std.specs.List.{AllByRecursion}
use Rattle.semantics.proofs.NamesAmong.{Decides-same_name, among_left, among_right, among_others}
use Rattle.semantics.specs.Multiset.{IsAmong}
use Rattle.semantics.specs.Meaning.{same_name}
use Rattle.semantics.specs.FreeNames.{free, free_in_outputs}
use Rattle.semantics.specs.Query.{Scalar, Cond, Name, Loop, Rel, Input, Let, Output}
use Rattle.semantics.specs.Typing.{ScalarFits, Scope, lookup, entry, HasArity, after_inputs, OutputsFit, RestFits, WellTyped}
use Rattle.semantics.specs.Normal.{replaced, Reaches, AllReached}

-- ---- the rules on relations

pub arity_where : (r : Rel) (c d : Cond) (scope : Scope) (l n : ℕ) → HasArity (Rel.filter (Rel.filter r c) d) scope l n → HasArity (Rel.filter r (Cond.conjunction c d)) scope l n
unfolding HasArity
arity_where r c d scope l n t = (t.0.0, (t.0.1, t.1))

-- the column of a scalar that fits names one that fits
column_fits : (m : ℕ) (ss : List Scalar) (c : ℕ) → AllByRecursion (ScalarFits m) ss → c < length ss → ScalarFits m (slice_index_or ss c (Scalar.literal (pos 0)))
column_fits m [] c a l = absurd (omega arith)
column_fits m (s ∷ ss) zero a l = a.0
column_fits m (s ∷ ss) (suc c) a l = column_fits m ss c a.1 (omega arith)

replaced_fits : (m n : ℕ) (ss : List Scalar) → AllByRecursion (ScalarFits m) ss → n ≡ length ss → (t : Scalar) → ScalarFits n t → ScalarFits m (replaced ss t)
replaced_fits m n ss a e (Scalar.column c) h = column_fits m ss c a (subst (λ k. c < k) e h)
replaced_fits m n ss a e (Scalar.literal z) h = tt
replaced_fits m n ss a e (Scalar.plus s t) h = (replaced_fits m n ss a e s h.0, replaced_fits m n ss a e t h.1)
replaced_fits m n ss a e (Scalar.minus s t) h = (replaced_fits m n ss a e s h.0, replaced_fits m n ss a e t h.1)
replaced_fits m n ss a e (Scalar.times s t) h = (replaced_fits m n ss a e s h.0, replaced_fits m n ss a e t h.1)
replaced_fits m n ss a e (Scalar.negation s) h = replaced_fits m n ss a e s h

all_replaced : (m n : ℕ) (ss : List Scalar) → AllByRecursion (ScalarFits m) ss → n ≡ length ss → (ts : List Scalar) → AllByRecursion (ScalarFits n) ts → AllByRecursion (ScalarFits m) (map (replaced ss) ts)
all_replaced m n ss a e [] h = tt
all_replaced m n ss a e (t ∷ ts) h = (replaced_fits m n ss a e t h.0, all_replaced m n ss a e ts h.1)

length-replaced : (ss ts : List Scalar) → length (map (replaced ss) ts) ≡ length ts
length-replaced ss [] = refl
length-replaced ss (t ∷ ts) = ap suc (length-replaced ss ts)

pub arity_select : (r : Rel) (ss ts : List Scalar) (scope : Scope) (l n : ℕ) → HasArity (Rel.select (Rel.select r ss) ts) scope l n → HasArity (Rel.select r (map (replaced ss) ts)) scope l n
unfolding HasArity
arity_select r ss ts scope l n t = (t.1.0, t.1.1, all_replaced t.1.0 t.0 ss t.1.2 t.1.3 ts t.2, t.3 ∙ sym (length-replaced ss ts), t.4)

pub arity_distinct : (r : Rel) (scope : Scope) (l n : ℕ) → HasArity (Rel.distinct (Rel.distinct r)) scope l n → HasArity (Rel.distinct r) scope l n
unfolding HasArity
arity_distinct r scope l n t = t

pub arity_distinct_except : (p q : Rel) (scope : Scope) (l n : ℕ) → HasArity (Rel.distinct (Rel.except p q)) scope l n → HasArity (Rel.except p q) scope l n
unfolding HasArity
arity_distinct_except p q scope l n t = t

pub arity_distinct_intersect : (p q : Rel) (scope : Scope) (l n : ℕ) → HasArity (Rel.distinct (Rel.intersect p q)) scope l n → HasArity (Rel.intersect p q) scope l n
unfolding HasArity
arity_distinct_intersect p q scope l n t = t

pub arity_no_turns : (x : Name) (r b : Rel) (scope : Scope) (l n : ℕ) → HasArity (Rel.loop Loop.iterate 0 x r b) scope l n → HasArity r scope l n
unfolding HasArity
arity_no_turns x r b scope l n t = t.2

-- ---- the arity of a relation depends only on the arities of its free names, and its loops' variables stay new in a smaller scope

pub arity_free : (r : Rel) (scope scope' : Scope) (l n : ℕ) → ((y : Name) → IsAmong y (free r) → lookup scope y ≡ lookup scope' y) → ((y : Name) → lookup scope y ≡ None → lookup scope' y ≡ None) → HasArity r scope l n → HasArity r scope' l n
unfolding HasArity
arity_free (Rel.named x) scope scope' l n h none t = sym (h x (inl refl)) ∙ t
arity_free (Rel.select r ss) scope scope' l n h none t = (t.0, arity_free r scope scope' l t.0 h none t.1, t.2, t.3, t.4)
arity_free (Rel.filter r c) scope scope' l n h none t = (arity_free r scope scope' l n h none t.0, t.1)
arity_free (Rel.concat p q) scope scope' l n h none t = (arity_free p scope scope' l n (λ y j. h y (among_left y (free p) (free q) j)) none t.0, arity_free q scope scope' l n (λ y j. h y (among_right y (free p) (free q) j)) none t.1)
arity_free (Rel.join p q ps) scope scope' l n h none t = (t.0, t.1, arity_free p scope scope' l t.0 (λ y j. h y (among_left y (free p) (free q) j)) none t.2, arity_free q scope scope' l t.1 (λ y j. h y (among_right y (free p) (free q) j)) none t.3, t.4, t.5, t.6)
arity_free (Rel.group r ks as') scope scope' l n h none t = (t.0, arity_free r scope scope' l t.0 h none t.1, t.2, t.3, t.4, t.5)
arity_free (Rel.distinct r) scope scope' l n h none t = arity_free r scope scope' l n h none t
arity_free (Rel.except p q) scope scope' l n h none t = (arity_free p scope scope' l n (λ y j. h y (among_left y (free p) (free q) j)) none t.0, arity_free q scope scope' l n (λ y j. h y (among_right y (free p) (free q) j)) none t.1)
arity_free (Rel.intersect p q) scope scope' l n h none t = (arity_free p scope scope' l n (λ y j. h y (among_left y (free p) (free q) j)) none t.0, arity_free q scope scope' l n (λ y j. h y (among_right y (free p) (free q) j)) none t.1)
arity_free (Rel.loop kind k x r b) scope scope' l n h none t = (
  t.0,
  t.1,
  arity_free r scope scope' l n (λ y j. h y (among_left y (free r) _ j)) none t.2,
  none x t.3,
  arity_free b (entry x n ∷ scope) (entry x n ∷ scope') (suc l) n (λ y j. agree y j (same_name x y) refl) (λ y. absent y (same_name x y)) t.4,
)
  where
    agree : (y : Name) → IsAmong y (free b) → (q : Bool) → same_name x y ≡ q → cond q (Some n) (lookup scope y) ≡ cond q (Some n) (lookup scope' y)
    agree y j true e = refl
    agree y j false e = h y (among_right y (free r) _ (among_others x y (free b) e j))

    absent : (y : Name) (q : Bool) → cond q (Some n) (lookup scope y) ≡ None → cond q (Some n) (lookup scope' y) ≡ None
    absent y true e = e
    absent y false e = none y e

-- ---- a let that no output reaches may be dropped, if those after it are reached

outputs_free : (os : List Output) (ns : List ℕ) (before scope scope' : Scope) → ((y : Name) → IsAmong y (free_in_outputs os) → lookup scope y ≡ lookup scope' y) → ((y : Name) → lookup scope y ≡ None → lookup scope' y ≡ None) → OutputsFit scope before os ns → OutputsFit scope' before os ns
outputs_free [] [] before scope scope' h none t = tt
outputs_free [] (n ∷ ns) before scope scope' h none t = t
outputs_free (o ∷ os) [] before scope scope' h none t = t
outputs_free (o ∷ os) (n ∷ ns) before scope scope' h none t = (
  arity_free o.value scope scope' 0 n (λ y j. h y (among_left y (free o.value) (free_in_outputs os) j)) none t.0,
  t.1,
  outputs_free os ns (entry o.name n ∷ before) scope scope' (λ y j. h y (among_right y (free o.value) (free_in_outputs os) j)) none t.2,
)

rest_reached : (as' : List Let) (outs : List Output) (ns : List ℕ) (scope scope' : Scope) → AllReached as' outs → ((y : Name) → Reaches y as' outs → lookup scope y ≡ lookup scope' y) → ((y : Name) → lookup scope y ≡ None → lookup scope' y ≡ None) → RestFits scope as' outs ns → RestFits scope' as' outs ns
rest_reached [] outs ns scope scope' all h none t = outputs_free outs ns [] scope scope' h none t
rest_reached (a ∷ as') outs ns scope scope' all h none t = (
  t.0,
  arity_free a.value scope scope' 0 t.0 (λ y j. h y (inr (j, all.0))) none t.1,
  none a.name t.2,
  rest_reached as' outs ns (entry a.name t.0 ∷ scope) (entry a.name t.0 ∷ scope') all.1 (λ y j. agree y t.0 j (same_name a.name y)) (λ y. absent y t.0 (same_name a.name y)) t.3,
)
  where
    agree : (y : Name) (m : ℕ) → Reaches y as' outs → (q : Bool) → cond q (Some m) (lookup scope y) ≡ cond q (Some m) (lookup scope' y)
    agree y m j true = refl
    agree y m j false = h y (inl j)

    absent : (y : Name) (m : ℕ) (q : Bool) → cond q (Some m) (lookup scope y) ≡ None → cond q (Some m) (lookup scope' y) ≡ None
    absent y m true e = e
    absent y m false e = none y e

pub rest_dropped : (before : List Let) (a : Let) (after : List Let) (outs : List Output) (ns : List ℕ) (scope : Scope) → AllReached after outs → (Reaches a.name after outs → ⊥) → RestFits scope (before ++ (a ∷ after)) outs ns → RestFits scope (before ++ after) outs ns
rest_dropped [] a after outs ns scope all u t = rest_reached after outs ns (entry a.name t.0 ∷ scope) scope all (λ y j. agree y j (same_name a.name y) refl) (λ y. absent y (same_name a.name y)) t.3
  where
    agree : (y : Name) → Reaches y after outs → (q : Bool) → same_name a.name y ≡ q → cond q (Some t.0) (lookup scope y) ≡ lookup scope y
    agree y j true e = absurd (u (subst (λ w. Reaches w after outs) (sym ((Decides-same_name a.name y).0 e)) j))
    agree y j false e = refl

    absent : (y : Name) (q : Bool) → cond q (Some t.0) (lookup scope y) ≡ None → lookup scope y ≡ None
    absent y true e = absurd (clash e)
      where
        clash : Some t.0 ≡ None → ⊥
        clash k = cc
    absent y false e = e
rest_dropped (b ∷ before) a after outs ns scope all u t = (t.0, t.1, t.2, rest_dropped before a after outs ns (entry b.name t.0 ∷ scope) all u t.3)

pub typed_dropped : (inputs : List Input) (before : List Let) (a : Let) (after : List Let) (outs : List Output) (ns : List ℕ) → AllReached after outs → (Reaches a.name after outs → ⊥)
    → WellTyped (record { inputs = inputs; lets = before ++ (a ∷ after); outputs = outs }) ns → WellTyped (record { inputs = inputs; lets = before ++ after; outputs = outs }) ns
typed_dropped inputs before a after outs ns all u t = record { few = t.few; few_outputs = t.few_outputs; inputs = t.inputs; rest = rest_dropped before a after outs ns (after_inputs [] inputs) all u t.rest }
