-- The rules of the normaliser keep the meaning.
use Rattle.std.proofs.Common.{inr, ◌≡◌, ℕ, zero, suc, nat_lt, Bool, true, false, cond, not, ◌&&◌, List, [], ◌∷◌, ◌++◌, map, filter, slice_index_or, refl, sym, ap, ap₂, subst, ◌∙◌, arith, inl, ℤ, pos, ◌+ℤ◌, ◌-ℤ◌, ◌*ℤ◌, neg_ℤ}
use mathlib.Core.Path.{fun_ext}
use Rattle.std.specs.Int.{int_wrap}
use Rattle.std.proofs.lemmas.Int.{ints, int_wrap-add_left, int_wrap-add_right, int_wrap-sub_right, int_wrap-mul_left, int_wrap-mul_right}
use mir.Syntax.{w64}
use Rattle.semantics.proofs.NamesAmong.{Decides-same_name, among_left, among_right, among_others}
use Rattle.semantics.specs.FreeNames.{free, free_in_outputs, other_than}
use Rattle.semantics.specs.Multiset.{IsAmong, Record, one_if, count, is_present, each_once}
use Rattle.semantics.specs.Meaning.{field, exact, value, holds, selected, kept, same_name, Names, bind, after_turns, meaning, let_names, input_names, program_meaning, paired, grouped, only_left, in_both}
use Rattle.semantics.specs.Normal.{replaced, Reaches}
use Rattle.semantics.specs.Query.{Scalar, Cond, Name, Loop, Rel, Input, Let, Output}
use Rattle.semantics.proofs.DistinctAndGroups.{count-distinct}

-- ---- scalars: the value of a sum depends on its parts' values

pub value-plus : (s t : Scalar) (r : Record) → value (Scalar.plus s t) r ≡ int_wrap w64 (value s r +ℤ value t r)
value-plus s t r = sym (int_wrap-add_left w64 (exact s r) (value t r) ∙ int_wrap-add_right w64 (exact s r) (exact t r))

minus_as_plus : (a b : ℤ) → a -ℤ b ≡ a +ℤ neg_ℤ b
minus_as_plus a b = omega (arith, ints)

pub value-minus : (s t : Scalar) (r : Record) → value (Scalar.minus s t) r ≡ int_wrap w64 (value s r -ℤ value t r)
value-minus s t r = sym (
    ap (int_wrap w64) (minus_as_plus (value s r) (value t r))
    ∙ int_wrap-add_left w64 (exact s r) (neg_ℤ (value t r))
    ∙ ap (int_wrap w64) (sym (minus_as_plus (exact s r) (value t r)))
    ∙ int_wrap-sub_right w64 (exact s r) (exact t r))

pub value-times : (s t : Scalar) (r : Record) → value (Scalar.times s t) r ≡ int_wrap w64 (value s r *ℤ value t r)
value-times s t r = sym (int_wrap-mul_left w64 (exact s r) (value t r) ∙ int_wrap-mul_right w64 (exact s r) (exact t r))

neg_as_minus : (a : ℤ) → neg_ℤ a ≡ pos 0 -ℤ a
neg_as_minus a = omega (arith, ints)

pub value-negated : (s : Scalar) (r : Record) → value (Scalar.negation s) r ≡ int_wrap w64 (neg_ℤ (value s r))
value-negated s r = ap (int_wrap w64) (neg_as_minus (exact s r)) ∙ sym (ap (int_wrap w64) (neg_as_minus (value s r)) ∙ int_wrap-sub_right w64 (pos 0) (exact s r))

zero_plus : (a : ℤ) → pos 0 +ℤ a ≡ a
zero_plus a = omega (arith, ints)

wrap_twice : (a : ℤ) → int_wrap w64 (int_wrap w64 a) ≡ int_wrap w64 a
wrap_twice a = ap (int_wrap w64) (sym (zero_plus (int_wrap w64 a))) ∙ int_wrap-add_right w64 (pos 0) a ∙ ap (int_wrap w64) (zero_plus a)

-- folding two literals
pub fold-plus : (a b : ℤ) (r : Record) → value (Scalar.literal (int_wrap w64 (a +ℤ b))) r ≡ value (Scalar.plus (Scalar.literal a) (Scalar.literal b)) r
fold-plus a b r = wrap_twice (a +ℤ b)

pub fold-minus : (a b : ℤ) (r : Record) → value (Scalar.literal (int_wrap w64 (a -ℤ b))) r ≡ value (Scalar.minus (Scalar.literal a) (Scalar.literal b)) r
fold-minus a b r = wrap_twice (a -ℤ b)

pub fold-times : (a b : ℤ) (r : Record) → value (Scalar.literal (int_wrap w64 (a *ℤ b))) r ≡ value (Scalar.times (Scalar.literal a) (Scalar.literal b)) r
fold-times a b r = wrap_twice (a *ℤ b)

pub fold-negated : (a : ℤ) (r : Record) → value (Scalar.literal (int_wrap w64 (neg_ℤ a))) r ≡ value (Scalar.negation (Scalar.literal a)) r
fold-negated a r = wrap_twice (neg_ℤ a)

-- ---- where of where

pub where_where : (c d : Cond) (xs : List Record) → kept d (kept c xs) ≡ kept (Cond.conjunction c d) xs
where_where c d [] = refl
where_where c d (x ∷ xs) = go (holds c x) (holds d x) refl (where_where c d xs)
  where
    go : (p q : Bool) → holds d x ≡ q → kept d (kept c xs) ≡ kept (Cond.conjunction c d) xs → kept d (cond p (x ∷ kept c xs) (kept c xs)) ≡ cond (p && holds d x) (x ∷ kept (Cond.conjunction c d) xs) (kept (Cond.conjunction c d) xs)
    go true q e ih = ap (λ l. cond (holds d x) (x ∷ l) l) ih
    go false q e ih = ih

-- ---- select of select: each column of t is replaced by the scalar that it names

zero_wraps : int_wrap w64 (pos 0) ≡ pos 0
unfolding int_wrap
zero_wraps = refl

field-map : (ss : List Scalar) (c : ℕ) (r : Record) → field c (map (λ s. value s r) ss) ≡ value (slice_index_or ss c (Scalar.literal (pos 0))) r
field-map [] c r = sym zero_wraps
field-map (s ∷ ss) zero r = refl
field-map (s ∷ ss) (suc c) r = field-map ss c r

pub value-replaced : (ss : List Scalar) (t : Scalar) (r : Record) → value t (map (λ s. value s r) ss) ≡ value (replaced ss t) r
value-replaced ss (Scalar.column c) r = ap (int_wrap w64) (field-map ss c r) ∙ wrap_twice (exact (slice_index_or ss c (Scalar.literal (pos 0))) r)
value-replaced ss (Scalar.literal z) r = refl
value-replaced ss (Scalar.plus s t) r = value-plus s t (map (λ s. value s r) ss) ∙ ap₂ (λ a b. int_wrap w64 (a +ℤ b)) (value-replaced ss s r) (value-replaced ss t r) ∙ sym (value-plus (replaced ss s) (replaced ss t) r)
value-replaced ss (Scalar.minus s t) r = value-minus s t (map (λ s. value s r) ss) ∙ ap₂ (λ a b. int_wrap w64 (a -ℤ b)) (value-replaced ss s r) (value-replaced ss t r) ∙ sym (value-minus (replaced ss s) (replaced ss t) r)
value-replaced ss (Scalar.times s t) r = value-times s t (map (λ s. value s r) ss) ∙ ap₂ (λ a b. int_wrap w64 (a *ℤ b)) (value-replaced ss s r) (value-replaced ss t r) ∙ sym (value-times (replaced ss s) (replaced ss t) r)
value-replaced ss (Scalar.negation s) r = value-negated s (map (λ s. value s r) ss) ∙ ap (λ a. int_wrap w64 (neg_ℤ a)) (value-replaced ss s r) ∙ sym (value-negated (replaced ss s) r)

map-map_scalars : (ss ts : List Scalar) (r : Record) → map (λ t. value t (map (λ s. value s r) ss)) ts ≡ map (λ s. value s r) (map (replaced ss) ts)
map-map_scalars ss [] r = refl
map-map_scalars ss (t ∷ ts) r = ap₂ (λ a l. a ∷ l) (value-replaced ss t r) (map-map_scalars ss ts r)

pub select_select : (ss ts : List Scalar) (xs : List Record) → selected ts (selected ss xs) ≡ selected (map (replaced ss) ts) xs
select_select ss ts [] = refl
select_select ss ts (x ∷ xs) = ap₂ (λ a l. a ∷ l) (map-map_scalars ss ts x) (select_select ss ts xs)

-- ---- distinct of distinct

pub distinct_distinct : (xs : List Record) → each_once (each_once xs) ≡ each_once xs
distinct_distinct [] = refl
distinct_distinct (x ∷ xs) = go (nat_lt 0 (count x xs)) refl (distinct_distinct xs)
  where
    go : (b : Bool) → nat_lt 0 (count x xs) ≡ b → each_once (each_once xs) ≡ each_once xs → each_once (cond b (each_once xs) (x ∷ each_once xs)) ≡ cond b (each_once xs) (x ∷ each_once xs)
    go true e ih = ih
    go false e ih =
        let none : count x (each_once xs) ≡ 0 = count-distinct x xs ∙ ap one_if e in
        ap (λ n. cond (nat_lt 0 n) (each_once (each_once xs)) (x ∷ each_once (each_once xs))) none ∙ ap (λ l. x ∷ l) ih

-- ---- a relation depends only on its free names

pub turns-same : (l : Loop) (f g : List Record → List Record) → ((xs : List Record) → f xs ≡ g xs) → (n : ℕ) (xs ys : List Record) → xs ≡ ys → after_turns l f n xs ≡ after_turns l g n ys
turns-same l f g h n xs ys e = ap₂ (λ k zs. after_turns l k n zs) (fun_ext h) e

pub meaning-free : (r : Rel) (names names' : Names) → ((y : Name) → IsAmong y (free r) → names y ≡ names' y) → meaning r names ≡ meaning r names'
unfolding meaning
meaning-free (Rel.named x) names names' h = h x (inl refl)
meaning-free (Rel.select r ss) names names' h = ap (selected ss) (meaning-free r names names' h)
meaning-free (Rel.filter r c) names names' h = ap (kept c) (meaning-free r names names' h)
meaning-free (Rel.concat p q) names names' h = ap₂ (λ a b. a ++ b) (meaning-free p names names' (λ y j. h y (among_left y (free p) (free q) j))) (meaning-free q names names' (λ y j. h y (among_right y (free p) (free q) j)))
meaning-free (Rel.join p q ps) names names' h = ap₂ (paired ps) (meaning-free p names names' (λ y j. h y (among_left y (free p) (free q) j))) (meaning-free q names names' (λ y j. h y (among_right y (free p) (free q) j)))
meaning-free (Rel.group r ks as') names names' h = ap (grouped ks as') (meaning-free r names names' h)
meaning-free (Rel.distinct r) names names' h = ap each_once (meaning-free r names names' h)
meaning-free (Rel.except p q) names names' h = ap₂ only_left (meaning-free p names names' (λ y j. h y (among_left y (free p) (free q) j))) (meaning-free q names names' (λ y j. h y (among_right y (free p) (free q) j)))
meaning-free (Rel.intersect p q) names names' h = ap₂ in_both (meaning-free p names names' (λ y j. h y (among_left y (free p) (free q) j))) (meaning-free q names names' (λ y j. h y (among_right y (free p) (free q) j)))
meaning-free (Rel.loop l n x r b) names names' h =
    turns-same l (λ xs. meaning b (bind x xs names)) (λ xs. meaning b (bind x xs names')) (λ xs. meaning-free b (bind x xs names) (bind x xs names') (λ y j. go xs y (same_name x y) refl j)) n (meaning r names) (meaning r names')
    (meaning-free r names names' (λ y j. h y (among_left y (free r) (filter (other_than x) (free b)) j)))
  where
    go : (xs : List Record) (y : Name) (t : Bool) → same_name x y ≡ t → IsAmong y (free b) → cond t xs (names y) ≡ cond t xs (names' y)
    go xs y true e j = refl
    go xs y false e j = h y (among_right y (free r) (filter (other_than x) (free b)) (among_others x y (free b) e j))

-- ---- unreached lets

-- what each output means
abbrev outputs_meanings : List Output → Names → List (List Record)
outputs_meanings os names = map (λ (o : Output). meaning o.value names) os

outputs-free : (os : List Output) (names names' : Names) → ((y : Name) → IsAmong y (free_in_outputs os) → names y ≡ names' y) → outputs_meanings os names ≡ outputs_meanings os names'
outputs-free [] names names' h = refl
outputs-free (o ∷ os) names names' h =
    ap₂ (λ a l. a ∷ l) (meaning-free o.value names names' (λ y j. h y (among_left y (free o.value) (free_in_outputs os) j)))
    (outputs-free os names names' (λ y j. h y (among_right y (free o.value) (free_in_outputs os) j)))

-- names that agree where an output reaches them give each output the same meaning
pub meaning-reached : (as' : List Let) (outs : List Output) (names names' : Names) → ((y : Name) → Reaches y as' outs → names y ≡ names' y) → outputs_meanings outs (let_names as' names) ≡ outputs_meanings outs (let_names as' names')
unfolding let_names
meaning-reached [] outs names names' h = outputs-free outs names names' h
meaning-reached (a ∷ as') outs names names' h = meaning-reached as' outs (bind a.name (meaning a.value names) names) (bind a.name (meaning a.value names') names') (λ y j. go y j (same_name a.name y) refl)
  where
    go : (y : Name) → Reaches y as' outs → (t : Bool) → same_name a.name y ≡ t → cond t (meaning a.value names) (names y) ≡ cond t (meaning a.value names') (names' y)
    go y j true e = meaning-free a.value names names' (λ z k. h z (inr (k, subst (λ w. Reaches w as' outs) (sym ((Decides-same_name a.name y).0 e)) j)))
    go y j false e = h y (inl j)

-- the first let may be dropped if no output reaches it
pub unreached_let : (a : Let) (as' : List Let) (outs : List Output) (names : Names) → (Reaches a.name as' outs → ⊥) → outputs_meanings outs (let_names (a ∷ as') names) ≡ outputs_meanings outs (let_names as' names)
unfolding let_names
unreached_let a as' outs names n = meaning-reached as' outs (bind a.name (meaning a.value names) names) names (λ y j. go y j (same_name a.name y) refl)
  where
    go : (y : Name) → Reaches y as' outs → (t : Bool) → same_name a.name y ≡ t → cond t (meaning a.value names) (names y) ≡ names y
    go y j true e = absurd (n (subst (λ w. Reaches w as' outs) (sym ((Decides-same_name a.name y).0 e)) j))
    go y j false e = refl

-- lets one after the other
let_names-append : (as' bs : List Let) (names : Names) → let_names (as' ++ bs) names ≡ let_names bs (let_names as' names)
unfolding let_names
let_names-append [] bs names = refl
let_names-append (a ∷ as') bs names = let_names-append as' bs (bind a.name (meaning a.value names) names)

-- ---- the rules, on relations and programs

pub rule_where : (r : Rel) (c d : Cond) (names : Names) → meaning (Rel.filter (Rel.filter r c) d) names ≡ meaning (Rel.filter r (Cond.conjunction c d)) names
unfolding meaning
rule_where r c d names = where_where c d (meaning r names)

pub rule_select : (r : Rel) (ss ts : List Scalar) (names : Names) → meaning (Rel.select (Rel.select r ss) ts) names ≡ meaning (Rel.select r (map (replaced ss) ts)) names
unfolding meaning
rule_select r ss ts names = select_select ss ts (meaning r names)

pub rule_distinct : (r : Rel) (names : Names) → meaning (Rel.distinct (Rel.distinct r)) names ≡ meaning (Rel.distinct r) names
unfolding meaning
rule_distinct r names = distinct_distinct (meaning r names)

pub rule_distinct_except : (p q : Rel) (names : Names) → meaning (Rel.distinct (Rel.except p q)) names ≡ meaning (Rel.except p q) names
unfolding meaning
rule_distinct_except p q names = distinct_distinct (filter (λ r. not (is_present r (meaning q names))) (meaning p names))

pub rule_distinct_intersect : (p q : Rel) (names : Names) → meaning (Rel.distinct (Rel.intersect p q)) names ≡ meaning (Rel.intersect p q) names
unfolding meaning
rule_distinct_intersect p q names = distinct_distinct (filter (λ r. is_present r (meaning q names)) (meaning p names))

pub rule_no_turns : (x : Name) (r b : Rel) (names : Names) → meaning (Rel.loop Loop.iterate 0 x r b) names ≡ meaning r names
unfolding meaning
rule_no_turns x r b names = refl

pub rule_let : (inputs : List Input) (before : List Let) (a : Let) (after : List Let) (outs : List Output) (output : ℕ) (records : ℕ → List Record) → (Reaches a.name after outs → ⊥)
    → program_meaning (record { inputs = inputs; lets = before ++ (a ∷ after); outputs = outs }) output records ≡ program_meaning (record { inputs = inputs; lets = before ++ after; outputs = outs }) output records
unfolding program_meaning
rule_let inputs before a after outs output records n =
    let names = input_names inputs 0 records in
    ap (λ ms. slice_index_or ms output [])
    (ap (outputs_meanings outs) (let_names-append before (a ∷ after) names)
    ∙ unreached_let a after outs (let_names before names) n
    ∙ sym (ap (outputs_meanings outs) (let_names-append before after names)))
