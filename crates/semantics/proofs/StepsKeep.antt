-- A rewriting step keeps the meaning and the arity, and doesn't increase the size; a normal form has no step.
use Rattle.std.proofs.Common.{◌≡◌, ℕ, suc, ◌≤◌, cond, not, ◌&&◌, ◌||◌, List, [], ◌∷◌, ◌++◌, map, length, slice_index_or, refl, sym, ap, ◌∙◌, arith, ◌+ℤ◌, ◌-ℤ◌, ◌*ℤ◌, neg_ℤ}
use Rattle.std.specs.List.{AllByRecursion}
use Rattle.std.specs.Int.{int_wrap}
use mir.Syntax.{w64}
use Rattle.semantics.specs.Multiset.{Record, each_once}
use Rattle.semantics.specs.Query.{Scalar, Cond, Rel, Let, Output, Program}
use Rattle.semantics.specs.Meaning.{value, holds, compares, selected, kept, paired, grouped, Names, bind, after_turns, meaning, let_names, input_names, program_meaning, only_left, in_both}
use Rattle.semantics.specs.Size.{scalar_size, scalars_size, cond_size, rel_size, lets_size, outputs_size, program_size}
use Rattle.semantics.specs.Typing.{ScalarFits, CondFits, Scope, entry, HasArity, after_inputs, OutputsFit, RestFits, WellTyped}
use Rattle.semantics.specs.Normal.{NormalScalar, NormalCond, IsSet, NormalRel, NormalProgram, AllReached}
use Rattle.semantics.specs.Rewriting.{Steps, OneOf, ScalarStep, CondStep, RelStep, LetsStep, OutputStep, ProgramStep, RewritesTo}
use Rattle.semantics.proofs.RulesKeepMeaning.{value-plus, value-minus, value-times, value-negated, fold-plus, fold-minus, fold-times, fold-negated, rule_where, rule_select, rule_distinct, rule_distinct_except, rule_distinct_intersect, rule_no_turns, unreached_let, turns-same}
use Rattle.semantics.proofs.RulesKeepArity.{arity_where, arity_select, arity_no_turns, rest_dropped}
use Rattle.semantics.proofs.FusedSelects.{size-select_select}

-- ---- sequences of steps

pub steps_then : {X : Type 0} {S : X → X → Type 0} {x y z : X} → Steps S x y → Steps S y z → Steps S x z
steps_then Steps.stay e = e
steps_then (Steps.next s d) e = Steps.next s (steps_then d e)

-- steps of a part are steps of the whole
pub steps_within : {X Y : Type 0} {S : X → X → Type 0} {T : Y → Y → Type 0} (f : X → Y) → ((x y : X) → S x y → T (f x) (f y)) → {x y : X} → Steps S x y → Steps T (f x) (f y)
steps_within f g Steps.stay = Steps.stay
steps_within f g (Steps.next {x = x} {y = y} s d) = Steps.next (g x y s) (steps_within f g d)

-- ---- scalars

pub scalar_value : {s t : Scalar} → ScalarStep s t → (r : Record) → value s r ≡ value t r
scalar_value (ScalarStep.sum {a = a} {b = b}) r = sym (fold-plus a b r)
scalar_value (ScalarStep.difference {a = a} {b = b}) r = sym (fold-minus a b r)
scalar_value (ScalarStep.product {a = a} {b = b}) r = sym (fold-times a b r)
scalar_value (ScalarStep.negated {a = a}) r = sym (fold-negated a r)
scalar_value (ScalarStep.plus_left {s = s} {s' = s'} {t = t} d) r = value-plus s t r ∙ ap (λ a. int_wrap w64 (a +ℤ value t r)) (scalar_value d r) ∙ sym (value-plus s' t r)
scalar_value (ScalarStep.plus_right {s = s} {t = t} {t' = t'} d) r = value-plus s t r ∙ ap (λ a. int_wrap w64 (value s r +ℤ a)) (scalar_value d r) ∙ sym (value-plus s t' r)
scalar_value (ScalarStep.minus_left {s = s} {s' = s'} {t = t} d) r = value-minus s t r ∙ ap (λ a. int_wrap w64 (a -ℤ value t r)) (scalar_value d r) ∙ sym (value-minus s' t r)
scalar_value (ScalarStep.minus_right {s = s} {t = t} {t' = t'} d) r = value-minus s t r ∙ ap (λ a. int_wrap w64 (value s r -ℤ a)) (scalar_value d r) ∙ sym (value-minus s t' r)
scalar_value (ScalarStep.times_left {s = s} {s' = s'} {t = t} d) r = value-times s t r ∙ ap (λ a. int_wrap w64 (a *ℤ value t r)) (scalar_value d r) ∙ sym (value-times s' t r)
scalar_value (ScalarStep.times_right {s = s} {t = t} {t' = t'} d) r = value-times s t r ∙ ap (λ a. int_wrap w64 (value s r *ℤ a)) (scalar_value d r) ∙ sym (value-times s t' r)
scalar_value (ScalarStep.negation_of {s = s} {s' = s'} d) r = value-negated s r ∙ ap (λ a. int_wrap w64 (neg_ℤ a)) (scalar_value d r) ∙ sym (value-negated s' r)

scalar_fits : {s t : Scalar} → ScalarStep s t → (n : ℕ) → ScalarFits n s → ScalarFits n t
scalar_fits ScalarStep.sum n h = tt
scalar_fits ScalarStep.difference n h = tt
scalar_fits ScalarStep.product n h = tt
scalar_fits ScalarStep.negated n h = tt
scalar_fits (ScalarStep.plus_left d) n h = (scalar_fits d n h.0, h.1)
scalar_fits (ScalarStep.plus_right d) n h = (h.0, scalar_fits d n h.1)
scalar_fits (ScalarStep.minus_left d) n h = (scalar_fits d n h.0, h.1)
scalar_fits (ScalarStep.minus_right d) n h = (h.0, scalar_fits d n h.1)
scalar_fits (ScalarStep.times_left d) n h = (scalar_fits d n h.0, h.1)
scalar_fits (ScalarStep.times_right d) n h = (h.0, scalar_fits d n h.1)
scalar_fits (ScalarStep.negation_of d) n h = scalar_fits d n h

scalar_smaller : {s t : Scalar} → ScalarStep s t → scalar_size t ≤ scalar_size s
scalar_smaller ScalarStep.sum = omega arith
scalar_smaller ScalarStep.difference = omega arith
scalar_smaller ScalarStep.product = omega arith
scalar_smaller ScalarStep.negated = omega arith
scalar_smaller (ScalarStep.plus_left d) = omega (arith, scalar_smaller d)
scalar_smaller (ScalarStep.plus_right d) = omega (arith, scalar_smaller d)
scalar_smaller (ScalarStep.minus_left d) = omega (arith, scalar_smaller d)
scalar_smaller (ScalarStep.minus_right d) = omega (arith, scalar_smaller d)
scalar_smaller (ScalarStep.times_left d) = omega (arith, scalar_smaller d)
scalar_smaller (ScalarStep.times_right d) = omega (arith, scalar_smaller d)
scalar_smaller (ScalarStep.negation_of d) = omega (arith, scalar_smaller d)

-- ---- lists of scalars

values_same : {ss ts : List Scalar} → OneOf ScalarStep ss ts → (r : Record) → map (λ s. value s r) ss ≡ map (λ s. value s r) ts
values_same (OneOf.here {xs = xs} d) r = ap (λ v. v ∷ map (λ s. value s r) xs) (scalar_value d r)
values_same (OneOf.later {x = x} d) r = ap (λ l. value x r ∷ l) (values_same d r)

selected_same : {ss ts : List Scalar} → OneOf ScalarStep ss ts → (xs : List Record) → selected ss xs ≡ selected ts xs
selected_same d [] = refl
selected_same {ss} {ts} d (x ∷ xs) = ap (λ v. v ∷ selected ss xs) (values_same d x) ∙ ap (λ l. map (λ s. value s x) ts ∷ l) (selected_same d xs)

scalars_fit : {ss ts : List Scalar} → OneOf ScalarStep ss ts → (n : ℕ) → AllByRecursion (ScalarFits n) ss → AllByRecursion (ScalarFits n) ts
scalars_fit (OneOf.here d) n h = (scalar_fits d n h.0, h.1)
scalars_fit (OneOf.later d) n h = (h.0, scalars_fit d n h.1)

scalars_smaller : {ss ts : List Scalar} → OneOf ScalarStep ss ts → scalars_size ts ≤ scalars_size ss
scalars_smaller (OneOf.here d) = omega (arith, scalar_smaller d)
scalars_smaller (OneOf.later d) = omega (arith, scalars_smaller d)

scalars_length : {ss ts : List Scalar} → OneOf ScalarStep ss ts → length ss ≡ length ts
scalars_length (OneOf.here d) = refl
scalars_length (OneOf.later d) = ap suc (scalars_length d)

-- ---- conditions

cond_answer : {c d : Cond} → CondStep c d → (r : Record) → holds c r ≡ holds d r
cond_answer (CondStep.compare_left {o = o} {t = t} d) r = ap (λ a. compares o a (value t r)) (scalar_value d r)
cond_answer (CondStep.compare_right {o = o} {s = s} d) r = ap (λ a. compares o (value s r) a) (scalar_value d r)
cond_answer (CondStep.and_left {d = e} d) r = ap (λ a. a && holds e r) (cond_answer d r)
cond_answer (CondStep.and_right {c = c} d) r = ap (λ a. holds c r && a) (cond_answer d r)
cond_answer (CondStep.or_left {d = e} d) r = ap (λ a. a || holds e r) (cond_answer d r)
cond_answer (CondStep.or_right {c = c} d) r = ap (λ a. holds c r || a) (cond_answer d r)
cond_answer (CondStep.not_of d) r = ap not (cond_answer d r)

kept_same : {c d : Cond} → CondStep c d → (xs : List Record) → kept c xs ≡ kept d xs
kept_same e [] = refl
kept_same {c} {d} e (x ∷ xs) = ap (λ b. cond b (x ∷ kept c xs) (kept c xs)) (cond_answer e x) ∙ ap (λ l. cond (holds d x) (x ∷ l) l) (kept_same e xs)

cond_fits : {c d : Cond} → CondStep c d → (n : ℕ) → CondFits n c → CondFits n d
cond_fits (CondStep.compare_left d) n h = (scalar_fits d n h.0, h.1)
cond_fits (CondStep.compare_right d) n h = (h.0, scalar_fits d n h.1)
cond_fits (CondStep.and_left d) n h = (cond_fits d n h.0, h.1)
cond_fits (CondStep.and_right d) n h = (h.0, cond_fits d n h.1)
cond_fits (CondStep.or_left d) n h = (cond_fits d n h.0, h.1)
cond_fits (CondStep.or_right d) n h = (h.0, cond_fits d n h.1)
cond_fits (CondStep.not_of d) n h = cond_fits d n h

cond_smaller : {c d : Cond} → CondStep c d → cond_size d ≤ cond_size c
cond_smaller (CondStep.compare_left d) = omega (arith, scalar_smaller d)
cond_smaller (CondStep.compare_right d) = omega (arith, scalar_smaller d)
cond_smaller (CondStep.and_left d) = omega (arith, cond_smaller d)
cond_smaller (CondStep.and_right d) = omega (arith, cond_smaller d)
cond_smaller (CondStep.or_left d) = omega (arith, cond_smaller d)
cond_smaller (CondStep.or_right d) = omega (arith, cond_smaller d)
cond_smaller (CondStep.not_of d) = omega (arith, cond_smaller d)

-- ---- relations

-- a set has each record once
set_meaning : (r : Rel) → IsSet r → (names : Names) → meaning (Rel.distinct r) names ≡ meaning r names
set_meaning (Rel.named x) s names = absurd s
set_meaning (Rel.select r ss) s names = absurd s
set_meaning (Rel.filter r c) s names = absurd s
set_meaning (Rel.concat p q) s names = absurd s
set_meaning (Rel.join p q ps) s names = absurd s
set_meaning (Rel.group r ks as') s names = absurd s
set_meaning (Rel.distinct r) s names = rule_distinct r names
set_meaning (Rel.except p q) s names = rule_distinct_except p q names
set_meaning (Rel.intersect p q) s names = rule_distinct_intersect p q names
set_meaning (Rel.loop l n x r b) s names = absurd s

pub rel_meaning : {p q : Rel} → RelStep p q → (names : Names) → meaning p names ≡ meaning q names
unfolding meaning
rel_meaning (RelStep.wheres {r = r} {c = c} {d = d} h k) names = rule_where r c d names
rel_meaning (RelStep.selects {r = r} {ss = ss} {ts = ts} h k o) names = rule_select r ss ts names
rel_meaning (RelStep.distincts {r = r} h s) names = set_meaning r s names
rel_meaning (RelStep.no_turns {x = x} {r = r} {b = b} h) names = rule_no_turns x r b names
rel_meaning (RelStep.select_of {ss = ss} d) names = ap (selected ss) (rel_meaning d names)
rel_meaning (RelStep.select_scalar {r = r} d) names = selected_same d (meaning r names)
rel_meaning (RelStep.where_of {c = c} d) names = ap (kept c) (rel_meaning d names)
rel_meaning (RelStep.where_cond {r = r} d) names = kept_same d (meaning r names)
rel_meaning (RelStep.concat_left {q = q} d) names = ap (λ a. a ++ meaning q names) (rel_meaning d names)
rel_meaning (RelStep.concat_right {p = p} d) names = ap (λ a. meaning p names ++ a) (rel_meaning d names)
rel_meaning (RelStep.join_left {q = q} {ps = ps} d) names = ap (λ a. paired ps a (meaning q names)) (rel_meaning d names)
rel_meaning (RelStep.join_right {p = p} {ps = ps} d) names = ap (λ a. paired ps (meaning p names) a) (rel_meaning d names)
rel_meaning (RelStep.group_of {ks = ks} {as' = as'} d) names = ap (grouped ks as') (rel_meaning d names)
rel_meaning (RelStep.distinct_of d) names = ap each_once (rel_meaning d names)
rel_meaning (RelStep.except_left {q = q} d) names = ap (λ a. only_left a (meaning q names)) (rel_meaning d names)
rel_meaning (RelStep.except_right {p = p} d) names = ap (λ a. only_left (meaning p names) a) (rel_meaning d names)
rel_meaning (RelStep.intersect_left {q = q} d) names = ap (λ a. in_both a (meaning q names)) (rel_meaning d names)
rel_meaning (RelStep.intersect_right {p = p} d) names = ap (λ a. in_both (meaning p names) a) (rel_meaning d names)
rel_meaning (RelStep.loop_start {l = l} {n = n} {x = x} {b = b} d) names = ap (after_turns l (λ xs. meaning b (bind x xs names)) n) (rel_meaning d names)
rel_meaning (RelStep.loop_body {l = l} {n = n} {x = x} {r = r} {b = b} {b' = b'} d) names =
    turns-same l (λ xs. meaning b (bind x xs names)) (λ xs. meaning b' (bind x xs names)) (λ xs. rel_meaning d (bind x xs names)) n (meaning r names) (meaning r names) refl

pub rel_arity : {p q : Rel} → RelStep p q → (scope : Scope) (l n : ℕ) → HasArity p scope l n → HasArity q scope l n
unfolding HasArity
rel_arity (RelStep.wheres {r = r} {c = c} {d = d} h k) scope l n t = arity_where r c d scope l n t
rel_arity (RelStep.selects {r = r} {ss = ss} {ts = ts} h k o) scope l n t = arity_select r ss ts scope l n t
rel_arity (RelStep.distincts h s) scope l n t = t
rel_arity (RelStep.no_turns {x = x} {r = r} {b = b} h) scope l n t = arity_no_turns x r b scope l n t
rel_arity (RelStep.select_of d) scope l n t = (t.0, rel_arity d scope l t.0 t.1, t.2, t.3, t.4)
rel_arity (RelStep.select_scalar d) scope l n t = (t.0, t.1, scalars_fit d t.0 t.2, t.3 ∙ scalars_length d, t.4)
rel_arity (RelStep.where_of d) scope l n t = (rel_arity d scope l n t.0, t.1)
rel_arity (RelStep.where_cond d) scope l n t = (t.0, cond_fits d n t.1)
rel_arity (RelStep.concat_left d) scope l n t = (rel_arity d scope l n t.0, t.1)
rel_arity (RelStep.concat_right d) scope l n t = (t.0, rel_arity d scope l n t.1)
rel_arity (RelStep.join_left d) scope l n t = (t.0, t.1, rel_arity d scope l t.0 t.2, t.3, t.4, t.5, t.6)
rel_arity (RelStep.join_right d) scope l n t = (t.0, t.1, t.2, rel_arity d scope l t.1 t.3, t.4, t.5, t.6)
rel_arity (RelStep.group_of d) scope l n t = (t.0, rel_arity d scope l t.0 t.1, t.2, t.3, t.4, t.5)
rel_arity (RelStep.distinct_of d) scope l n t = rel_arity d scope l n t
rel_arity (RelStep.except_left d) scope l n t = (rel_arity d scope l n t.0, t.1)
rel_arity (RelStep.except_right d) scope l n t = (t.0, rel_arity d scope l n t.1)
rel_arity (RelStep.intersect_left d) scope l n t = (rel_arity d scope l n t.0, t.1)
rel_arity (RelStep.intersect_right d) scope l n t = (t.0, rel_arity d scope l n t.1)
rel_arity (RelStep.loop_start d) scope l n t = (t.0, t.1, rel_arity d scope l n t.2, t.3, t.4)
rel_arity (RelStep.loop_body {x = x} d) scope l n t = (t.0, t.1, t.2, t.3, rel_arity d (entry x n ∷ scope) (suc l) n t.4)

pub rel_smaller : {p q : Rel} → RelStep p q → rel_size q ≤ rel_size p
rel_smaller (RelStep.wheres h k) = omega arith
rel_smaller (RelStep.selects {r = r} {ss = ss} {ts = ts} h k o) = size-select_select r ss ts o
rel_smaller (RelStep.distincts h s) = omega arith
rel_smaller (RelStep.no_turns h) = omega arith
rel_smaller (RelStep.select_of d) = omega (arith, rel_smaller d)
rel_smaller (RelStep.select_scalar d) = omega (arith, scalars_smaller d)
rel_smaller (RelStep.where_of d) = omega (arith, rel_smaller d)
rel_smaller (RelStep.where_cond d) = omega (arith, cond_smaller d)
rel_smaller (RelStep.concat_left d) = omega (arith, rel_smaller d)
rel_smaller (RelStep.concat_right d) = omega (arith, rel_smaller d)
rel_smaller (RelStep.join_left d) = omega (arith, rel_smaller d)
rel_smaller (RelStep.join_right d) = omega (arith, rel_smaller d)
rel_smaller (RelStep.group_of d) = omega (arith, rel_smaller d)
rel_smaller (RelStep.distinct_of d) = omega (arith, rel_smaller d)
rel_smaller (RelStep.except_left d) = omega (arith, rel_smaller d)
rel_smaller (RelStep.except_right d) = omega (arith, rel_smaller d)
rel_smaller (RelStep.intersect_left d) = omega (arith, rel_smaller d)
rel_smaller (RelStep.intersect_right d) = omega (arith, rel_smaller d)
rel_smaller (RelStep.loop_start d) = omega (arith, rel_smaller d)
rel_smaller (RelStep.loop_body d) = omega (arith, rel_smaller d)

-- ---- programs

-- what each output means
abbrev each_meaning : List Output → Names → List (List Record)
each_meaning os names = map (λ (o : Output). meaning o.value names) os

lets_meaning : {outs : List Output} {as' bs : List Let} → LetsStep outs as' bs → (names : Names) → each_meaning outs (let_names as' names) ≡ each_meaning outs (let_names bs names)
unfolding let_names
lets_meaning {outs} (LetsStep.unreached {a = a} {as' = as'} all n) names = unreached_let a as' outs names n
lets_meaning {outs} (LetsStep.value {x = x} {as' = as'} d) names = ap (λ xs. each_meaning outs (let_names as' (bind x xs names))) (rel_meaning d names)
lets_meaning (LetsStep.later {a = a} d) names = lets_meaning d (bind a.name (meaning a.value names) names)

outputs_meaning : {os os' : List Output} → OneOf OutputStep os os' → (names : Names) → each_meaning os names ≡ each_meaning os' names
outputs_meaning (OneOf.here {xs = os} (OutputStep.value d)) names = ap (λ a. a ∷ each_meaning os names) (rel_meaning d names)
outputs_meaning (OneOf.later {x = o} d) names = ap (λ l. meaning o.value names ∷ l) (outputs_meaning d names)

pub lets_fit : {outs : List Output} {as' bs : List Let} → LetsStep outs as' bs → (scope : Scope) (ns : List ℕ) → RestFits scope as' outs ns → RestFits scope bs outs ns
lets_fit {outs} (LetsStep.unreached {a = a} {as' = as'} all u) scope ns t = rest_dropped [] a as' outs ns scope all u t
lets_fit (LetsStep.value d) scope ns t = (t.0, rel_arity d scope 0 t.0 t.1, t.2, t.3)
lets_fit (LetsStep.later {a = a} d) scope ns t = (t.0, t.1, t.2, lets_fit d (entry a.name t.0 ∷ scope) ns t.3)

lets_smaller : {outs : List Output} {as' bs : List Let} → LetsStep outs as' bs → lets_size bs ≤ lets_size as'
lets_smaller (LetsStep.unreached all u) = omega arith
lets_smaller (LetsStep.value d) = omega (arith, rel_smaller d)
lets_smaller (LetsStep.later d) = omega (arith, lets_smaller d)

outputs_fit : {os os' : List Output} → OneOf OutputStep os os' → (scope before : Scope) (ns : List ℕ) → OutputsFit scope before os ns → OutputsFit scope before os' ns
outputs_fit (OneOf.here d) scope before [] t = absurd t
outputs_fit (OneOf.later d) scope before [] t = absurd t
outputs_fit (OneOf.here (OutputStep.value d)) scope before (n ∷ ns) t = (rel_arity d scope 0 n t.0, t.1, t.2)
outputs_fit (OneOf.later {x = o} d) scope before (n ∷ ns) t = (t.0, t.1, outputs_fit d scope (entry o.name n ∷ before) ns t.2)

pub rest_fits : {os os' : List Output} → OneOf OutputStep os os' → (as' : List Let) (scope : Scope) (ns : List ℕ) → RestFits scope as' os ns → RestFits scope as' os' ns
rest_fits d [] scope ns t = outputs_fit d scope [] ns t
rest_fits d (a ∷ as') scope ns t = (t.0, t.1, t.2, rest_fits d as' (entry a.name t.0 ∷ scope) ns t.3)

outputs_smaller : {os os' : List Output} → OneOf OutputStep os os' → outputs_size os' ≤ outputs_size os
outputs_smaller (OneOf.here (OutputStep.value d)) = omega (arith, rel_smaller d)
outputs_smaller (OneOf.later d) = omega (arith, outputs_smaller d)

outputs_many : {os os' : List Output} → OneOf OutputStep os os' → length os' ≡ length os
outputs_many (OneOf.here d) = refl
outputs_many (OneOf.later d) = ap suc (outputs_many d)

program_same : {p q : Program} → ProgramStep p q → (output : ℕ) (records : ℕ → List Record) → program_meaning p output records ≡ program_meaning q output records
unfolding program_meaning
program_same (ProgramStep.lets {inputs = inputs} d) output records = ap (λ ms. slice_index_or ms output []) (lets_meaning d (input_names inputs 0 records))
program_same (ProgramStep.outputs {inputs = inputs} {as' = as'} d) output records = ap (λ ms. slice_index_or ms output []) (outputs_meaning d (let_names as' (input_names inputs 0 records)))

program_typed : {p q : Program} → ProgramStep p q → (ns : List ℕ) → WellTyped p ns → WellTyped q ns
program_typed (ProgramStep.lets {inputs = inputs} d) ns w = record { few = w.few; few_outputs = w.few_outputs; inputs = w.inputs; rest = lets_fit d (after_inputs [] inputs) ns w.rest }
program_typed (ProgramStep.outputs {inputs = inputs} {as' = as'} d) ns w =
    record { few = w.few; few_outputs = omega (arith, outputs_many d, w.few_outputs); inputs = w.inputs; rest = rest_fits d as' (after_inputs [] inputs) ns w.rest }

program_smaller : {p q : Program} → ProgramStep p q → program_size q ≤ program_size p
program_smaller (ProgramStep.lets d) = omega (arith, lets_smaller d)
program_smaller (ProgramStep.outputs d) = omega (arith, outputs_smaller d)

program_inputs : {p q : Program} → ProgramStep p q → q.inputs ≡ p.inputs
program_inputs (ProgramStep.lets d) = refl
program_inputs (ProgramStep.outputs d) = refl

outputs_named : {os os' : List Output} → OneOf OutputStep os os' → map (λ (o : Output). o.name) os' ≡ map (λ (o : Output). o.name) os
outputs_named (OneOf.here (OutputStep.value d)) = refl
outputs_named (OneOf.later {x = o} d) = ap (λ l. o.name ∷ l) (outputs_named d)

program_names : {p q : Program} → ProgramStep p q → map (λ (o : Output). o.name) q.outputs ≡ map (λ (o : Output). o.name) p.outputs
program_names (ProgramStep.lets d) = refl
program_names (ProgramStep.outputs d) = outputs_named d

-- ---- any number of steps

pub steps_meaning : {p q : Rel} → Steps RelStep p q → (names : Names) → meaning p names ≡ meaning q names
steps_meaning Steps.stay names = refl
steps_meaning (Steps.next s d) names = rel_meaning s names ∙ steps_meaning d names

pub steps_arity : {p q : Rel} → Steps RelStep p q → (scope : Scope) (l n : ℕ) → HasArity p scope l n → HasArity q scope l n
steps_arity Steps.stay scope l n t = t
steps_arity (Steps.next s d) scope l n t = steps_arity d scope l n (rel_arity s scope l n t)

pub rewrites_meaning : {p q : Program} → RewritesTo p q → (output : ℕ) (records : ℕ → List Record) → program_meaning q output records ≡ program_meaning p output records
rewrites_meaning Steps.stay output records = refl
rewrites_meaning (Steps.next s d) output records = rewrites_meaning d output records ∙ sym (program_same s output records)

pub rewrites_typed : {p q : Program} → RewritesTo p q → (ns : List ℕ) → WellTyped p ns → WellTyped q ns
rewrites_typed Steps.stay ns w = w
rewrites_typed (Steps.next s d) ns w = rewrites_typed d ns (program_typed s ns w)

pub rewrites_smaller : {p q : Program} → RewritesTo p q → program_size q ≤ program_size p
rewrites_smaller Steps.stay = omega arith
rewrites_smaller (Steps.next s d) = omega (arith, program_smaller s, rewrites_smaller d)

pub rewrites_inputs : {p q : Program} → RewritesTo p q → q.inputs ≡ p.inputs
rewrites_inputs Steps.stay = refl
rewrites_inputs (Steps.next s d) = rewrites_inputs d ∙ program_inputs s

pub rewrites_names : {p q : Program} → RewritesTo p q → map (λ (o : Output). o.name) q.outputs ≡ map (λ (o : Output). o.name) p.outputs
rewrites_names Steps.stay = refl
rewrites_names (Steps.next s d) = rewrites_names d ∙ program_names s

-- ---- a normal form has no step

scalar_normal : {s t : Scalar} → ScalarStep s t → NormalScalar s → ⊥
scalar_normal ScalarStep.sum n = n.2 tt tt
scalar_normal ScalarStep.difference n = n.2 tt tt
scalar_normal ScalarStep.product n = n.2 tt tt
scalar_normal ScalarStep.negated n = n.1 tt
scalar_normal (ScalarStep.plus_left d) n = scalar_normal d n.0
scalar_normal (ScalarStep.plus_right d) n = scalar_normal d n.1
scalar_normal (ScalarStep.minus_left d) n = scalar_normal d n.0
scalar_normal (ScalarStep.minus_right d) n = scalar_normal d n.1
scalar_normal (ScalarStep.times_left d) n = scalar_normal d n.0
scalar_normal (ScalarStep.times_right d) n = scalar_normal d n.1
scalar_normal (ScalarStep.negation_of d) n = scalar_normal d n.0

scalars_normal : {ss ts : List Scalar} → OneOf ScalarStep ss ts → AllByRecursion NormalScalar ss → ⊥
scalars_normal (OneOf.here d) n = scalar_normal d n.0
scalars_normal (OneOf.later d) n = scalars_normal d n.1

cond_normal : {c d : Cond} → CondStep c d → NormalCond c → ⊥
cond_normal (CondStep.compare_left d) n = scalar_normal d n.0
cond_normal (CondStep.compare_right d) n = scalar_normal d n.1
cond_normal (CondStep.and_left d) n = cond_normal d n.0
cond_normal (CondStep.and_right d) n = cond_normal d n.1
cond_normal (CondStep.or_left d) n = cond_normal d n.0
cond_normal (CondStep.or_right d) n = cond_normal d n.1
cond_normal (CondStep.not_of d) n = cond_normal d n

pub rel_normal : {p q : Rel} → RelStep p q → NormalRel p → ⊥
rel_normal (RelStep.wheres h k) n = n.2 tt
rel_normal (RelStep.selects h k o) n = n.2 tt o
rel_normal (RelStep.distincts h s) n = n.1 s
rel_normal (RelStep.no_turns h) n = n.2 refl refl
rel_normal (RelStep.select_of d) n = rel_normal d n.0
rel_normal (RelStep.select_scalar d) n = scalars_normal d n.1
rel_normal (RelStep.where_of d) n = rel_normal d n.0
rel_normal (RelStep.where_cond d) n = cond_normal d n.1
rel_normal (RelStep.concat_left d) n = rel_normal d n.0
rel_normal (RelStep.concat_right d) n = rel_normal d n.1
rel_normal (RelStep.join_left d) n = rel_normal d n.0
rel_normal (RelStep.join_right d) n = rel_normal d n.1
rel_normal (RelStep.group_of d) n = rel_normal d n
rel_normal (RelStep.distinct_of d) n = rel_normal d n.0
rel_normal (RelStep.except_left d) n = rel_normal d n.0
rel_normal (RelStep.except_right d) n = rel_normal d n.1
rel_normal (RelStep.intersect_left d) n = rel_normal d n.0
rel_normal (RelStep.intersect_right d) n = rel_normal d n.1
rel_normal (RelStep.loop_start d) n = rel_normal d n.0
rel_normal (RelStep.loop_body d) n = rel_normal d n.1

lets_normal : {outs : List Output} {as' bs : List Let} → LetsStep outs as' bs → AllByRecursion (λ (a : Let). NormalRel a.value) as' → AllReached as' outs → ⊥
lets_normal (LetsStep.unreached all u) n r = u r.0
lets_normal (LetsStep.value d) n r = rel_normal d n.0
lets_normal (LetsStep.later d) n r = lets_normal d n.1 r.1

outputs_normal : {os os' : List Output} → OneOf OutputStep os os' → AllByRecursion (λ (o : Output). NormalRel o.value) os → ⊥
outputs_normal (OneOf.here (OutputStep.value d)) n = rel_normal d n.0
outputs_normal (OneOf.later d) n = outputs_normal d n.1

pub program_normal : {p q : Program} → ProgramStep p q → NormalProgram p → ⊥
program_normal (ProgramStep.lets d) n = lets_normal d n.lets n.reached
program_normal (ProgramStep.outputs d) n = outputs_normal d n.outputs
