-- Outputs that are rewritten, and lets that are rewritten or dropped, from the last to the first.
use Rattle.std.proofs.Common.{◌≡◌, ◌⊎◌, IsTrue, ℕ, Bool, true, false, List, [], ◌∷◌, ◌++◌, map, reverse, refl, sym, ap, subst, inl, inr, ◌∙◌}
use Rattle.std.proofs.lemmas.List.{append-nil, reverse-append}
use Rattle.std.specs.List.{AllByRecursion, AllZip}
use Rattle.semantics.specs.Multiset.{IsAmong}
use Rattle.semantics.specs.Query.{Name, Rel, Input, Let, Output, Program}
use Rattle.semantics.specs.FreeNames.{free, free_in_outputs}
use Rattle.semantics.specs.Typing.{Scope, entry, HasArity, after_inputs, OutputsFit, RestFits, WellTyped}
use Rattle.semantics.specs.Normal.{Reaches, AllReached, NormalRel, NormalProgram}
use Rattle.semantics.specs.Rewriting.{Steps, OneOf, LetsStep, OutputStep, ProgramStep, RewritesTo}
use Rattle.semantics.proofs.StepsKeep.{steps_then, steps_within, lets_fit, rewrites_typed}
use Rattle.normalise.specs.Reached.{Adds, Finds, LetsReached}
use Rattle.normalise.specs.Rewritten.{IsReached, Reduced, IsRewrittenOutput}
use Rattle.normalise.proofs.Rewriting.{normal_reduced}

pub lets_themselves : (as' : List Let) (outs : List Output) → LetsReached as' as' outs
lets_themselves as' outs = record { steps = λ scope ns h. Steps.stay }

-- a let with that name and relation
abbrev pub named : Name → Rel → Let
named x r = record { name = x; value = r }

lets_fit_after : {outs : List Output} {as' bs : List Let} → Steps (LetsStep outs) as' bs → (scope : Scope) (ns : List ℕ) → RestFits scope as' outs ns → RestFits scope bs outs ns
lets_fit_after Steps.stay scope ns h = h
lets_fit_after (Steps.next s d) scope ns h = lets_fit_after d scope ns (lets_fit s scope ns h)

-- steps behind other lets
behind : {outs : List Output} {as' bs : List Let} (before : List Let) → Steps (LetsStep outs) as' bs → Steps (LetsStep outs) (before ++ as') (before ++ bs)
behind [] d = d
behind (b ∷ before) d = steps_within (λ l. b ∷ l) (λ l m s. LetsStep.later s) (behind before d)

-- ---- a let is dropped

pub lets_dropped : (before : List Let) (a : Let) (after first : List Let) (outs : List Output) → AllReached after outs → (Reaches a.name after outs → ⊥) → LetsReached (before ++ (a ∷ after)) first outs → LetsReached (before ++ after) first outs
lets_dropped before a after first outs all n k = record { steps = λ scope ns h. steps_then (k.steps scope ns h) (behind before (Steps.next (LetsStep.unreached all n) Steps.stay)) }

-- ---- a let is rewritten

value-rewritten : (before : List Let) (x : Name) (r q : Rel) (after : List Let) (outs : List Output) (scope : Scope) (ns : List ℕ) → IsReached r q → RestFits scope (before ++ (named x q ∷ after)) outs ns
    → Steps (LetsStep outs) (before ++ (named x q ∷ after)) (before ++ (named x r ∷ after))
value-rewritten [] x r q after outs scope ns k h = steps_within (λ u. named x u ∷ after) (λ u v s. LetsStep.value s) (k.steps scope 0 h.0 h.1)
value-rewritten (b ∷ before) x r q after outs scope ns k h = steps_within (λ l. b ∷ l) (λ l m s. LetsStep.later s) (value-rewritten before x r q after outs (entry b.name h.0 ∷ scope) ns k h.3)

pub lets_rewritten : (before : List Let) (x : Name) (r q : Rel) (after first : List Let) (outs : List Output) → IsReached r q → LetsReached (before ++ (named x q ∷ after)) first outs → LetsReached (before ++ (named x r ∷ after)) first outs
lets_rewritten before x r q after first outs f k = record {
  steps = λ scope ns h. (let d = k.steps scope ns h in steps_then d (value-rewritten before x r q after outs scope ns f (lets_fit_after d scope ns h)));
}

-- ---- the names that are reached

pub finds_outputs : (set none : Name → Bool) (outs : List Output) → ((y : Name) → none y ≡ false) → Adds (free_in_outputs outs) set none → Finds set [] outs
finds_outputs set none outs n f = record { has = λ y. (λ t. there y ((f.has y).0 t), λ t. (f.has y).1 (inr t)) }
  where
    there : (y : Name) → IsTrue (none y) ⊎ IsAmong y (free_in_outputs outs) → IsAmong y (free_in_outputs outs)
    there y (inl t) = absurd (clash (sym (n y) ∙ t))
      where
        clash : false ≡ true → ⊥
        clash c = cc
    there y (inr t) = t

pub finds_more : (set more : Name → Bool) (x : Name) (r : Rel) (after : List Let) (outs : List Output) → Reaches x after outs → Finds set after outs → Adds (free r) more set → Finds more (named x r ∷ after) outs
finds_more set more x r after outs reached f a = record { has = λ y. (λ t. there y ((a.has y).0 t), λ t. back y t) }
  where
    there : (y : Name) → IsTrue (set y) ⊎ IsAmong y (free r) → Reaches y after outs ⊎ (IsAmong y (free r) × Reaches x after outs)
    there y (inl t) = inl ((f.has y).0 t)
    there y (inr t) = inr (t, reached)

    back : (y : Name) → Reaches y after outs ⊎ (IsAmong y (free r) × Reaches x after outs) → IsTrue (more y)
    back y (inl t) = (a.has y).1 (inl ((f.has y).1 t))
    back y (inr t) = (a.has y).1 (inr t.0)

-- ---- the outputs

output-rewritten : (o q : Output) (scope : Scope) (n : ℕ) → IsRewrittenOutput o q → HasArity q.value scope 0 n → Steps OutputStep q o
output-rewritten o q scope n f h =
    subst (λ x. Steps OutputStep q (record { name = x; value = o.value })) (sym f.name)
    (steps_within (λ u. record { name = q.name; value = u }) (λ u v s. OutputStep.value s) (f.value.reached.steps scope 0 n h))

outputs-rewritten : (os qs : List Output) (scope before : Scope) (ns : List ℕ) → AllZip IsRewrittenOutput os qs → OutputsFit scope before qs ns → Steps (OneOf OutputStep) qs os
outputs-rewritten [] [] scope before ns f h = Steps.stay
outputs-rewritten [] (q ∷ qs) scope before ns f h = absurd f
outputs-rewritten (o ∷ os) [] scope before ns f h = absurd f
outputs-rewritten (o ∷ os) (q ∷ qs) scope before [] f h = absurd h
outputs-rewritten (o ∷ os) (q ∷ qs) scope before (n ∷ ns) f h =
    steps_then (steps_within (λ u. u ∷ qs) (λ u v s. OneOf.here s) (output-rewritten o q scope n f.0 h.0))
    (steps_within (λ l. o ∷ l) (λ l m s. OneOf.later s) (outputs-rewritten os qs scope (entry q.name n ∷ before) ns f.1 h.2))

-- behind the lets
rest-rewritten : (as' : List Let) (os qs : List Output) (scope : Scope) (ns : List ℕ) → AllZip IsRewrittenOutput os qs → RestFits scope as' qs ns → Steps (OneOf OutputStep) qs os
rest-rewritten [] os qs scope ns f h = outputs-rewritten os qs scope [] ns f h
rest-rewritten (a ∷ as') os qs scope ns f h = rest-rewritten as' os qs (entry a.name h.0 ∷ scope) ns f h.3

-- ---- the whole program

-- the outputs are rewritten, and then the lets
pub program_rewritten : (inputs : List Input) (as' bs : List Let) (os qs : List Output) (ns : List ℕ) → AllZip IsRewrittenOutput os qs → LetsReached bs as' os → WellTyped (record { inputs = inputs; lets = as'; outputs = qs }) ns
    → RewritesTo (record { inputs = inputs; lets = as'; outputs = qs }) (record { inputs = inputs; lets = bs; outputs = os })
program_rewritten inputs as' bs os qs ns f k w = steps_then first (steps_within inside (λ l m s. ProgramStep.lets s) (k.steps (after_inputs [] inputs) ns (rewrites_typed first ns w).rest))
  where
    inside : List Let → Program
    inside l = record { inputs = inputs; lets = l; outputs = os }

    first : RewritesTo (record { inputs = inputs; lets = as'; outputs = qs }) (record { inputs = inputs; lets = as'; outputs = os })
    first = steps_within (λ u. record { inputs = inputs; lets = as'; outputs = u }) (λ u v s. ProgramStep.outputs s) (rest-rewritten as' os qs (after_inputs [] inputs) ns f w.rest)

outputs-normal : (os qs : List Output) (scope before : Scope) (ns : List ℕ) → OutputsFit scope before os ns → AllZip IsRewrittenOutput os qs → AllByRecursion (λ (o : Output). NormalRel o.value) os
outputs-normal [] qs scope before ns h f = tt
outputs-normal (o ∷ os) [] scope before ns h f = absurd f
outputs-normal (o ∷ os) (q ∷ qs) scope before [] h f = absurd h
outputs-normal (o ∷ os) (q ∷ qs) scope before (n ∷ ns) h f = (normal_reduced o.value scope 0 n h.0 f.0.value.reduced, outputs-normal os qs scope (entry o.name n ∷ before) ns h.2 f.1)

rest-normal : (as' : List Let) (os qs : List Output) (scope : Scope) (ns : List ℕ) → RestFits scope as' os ns → AllByRecursion (λ (a : Let). Reduced a.value) as' → AllZip IsRewrittenOutput os qs
    → AllByRecursion (λ (a : Let). NormalRel a.value) as' × AllByRecursion (λ (o : Output). NormalRel o.value) os
rest-normal [] os qs scope ns h k f = (tt, outputs-normal os qs scope [] ns h f)
rest-normal (a ∷ as') os qs scope ns h k f =
    let later = rest-normal as' os qs (entry a.name h.0 ∷ scope) ns h.3 k.1 f in
    ((normal_reduced a.value scope 0 h.0 h.1 k.0, later.0), later.1)

pub normal_program : (inputs : List Input) (as' : List Let) (os qs : List Output) (ns : List ℕ) → WellTyped (record { inputs = inputs; lets = as'; outputs = os }) ns → AllByRecursion (λ (a : Let). Reduced a.value) as' → AllZip IsRewrittenOutput os qs → AllReached as' os
    → NormalProgram (record { inputs = inputs; lets = as'; outputs = os })
normal_program inputs as' os qs ns h k f r =
    let both = rest-normal as' os qs (after_inputs [] inputs) ns h.rest k f in
    record { lets = both.0; outputs = both.1; reached = r }

-- ---- as the code goes through them

pub lets_at_first : (as' : List Let) (outs : List Output) → LetsReached (as' ++ []) as' outs
lets_at_first as' outs = rw append-nil (lets_themselves as' outs)

-- the last of those to come is the first of those that follow
pub popped : {A B : Type 0} (t : A → B) (p : B → Let) (xs ys : List A) (x : A) (after first : List Let) (outs : List Output) → xs ≡ ys ++ x ∷ [] → LetsReached (map p (map t xs) ++ after) first outs → LetsReached (map p (map t ys) ++ (p (t x) ∷ after)) first outs
popped {A} t p xs ys x after first outs e k = subst (λ zs. LetsReached zs first outs) (ap (λ zs. map p (map t zs) ++ after) e ∙ moved ys) k
  where
    moved : (zs : List A) → map p (map t (zs ++ x ∷ [])) ++ after ≡ map p (map t zs) ++ (p (t x) ∷ after)
    moved [] = refl
    moved (z ∷ zs) = ap (λ l. p (t z) ∷ l) (moved zs)

pub last_first : {A : Type 0} (xs ys : List A) (x : A) → ys ≡ xs ++ x ∷ [] → reverse ys ≡ x ∷ reverse xs
last_first xs ys x e = ap reverse e ∙ reverse-append xs (x ∷ [])

pub not_reached : (set : Name → Bool) (x : Name) (after : List Let) (outs : List Output) (b : Bool) → Finds set after outs → b ≡ set x → b ≡ false → Reaches x after outs → ⊥
not_reached set x after outs b f e n r = clash (sym n ∙ e ∙ (f.has x).1 r)
  where
    clash : false ≡ true → ⊥
    clash c = cc
