-- Folding of literals: operators of folded scalars.
use Rattle.std.proofs.Common.{◌≡◌, ℤ, List, [], ◌∷◌, sym, subst}
use Rattle.std.specs.List.{AllZip, AllByRecursion}
use Rattle.expr_tree.specs.declared.scalar.Operator.{Operator}
use Rattle.expr_tree.specs.declared.scalar.Operator.TheVariants as operator
use Rattle.expr_tree.specs.declared.condition.Connective.{Connective}
use Rattle.expr_tree.specs.declared.condition.Connective.TheVariants as connective
use Rattle.expr_tree.specs.Plain.{plain_operator, plain_connective}
use Rattle.semantics.specs.Multiset.{Record}
use Rattle.semantics.specs.Query.{Scalar, Cond, Comparison}
use Rattle.semantics.specs.Meaning.{value}
use Rattle.semantics.specs.Normal.{IsLiteral, NormalScalar, NormalCond}
use Rattle.semantics.specs.Rewriting.{Steps, OneOf, ScalarStep, CondStep}
use Rattle.semantics.proofs.StepsKeep.{steps_then, steps_within}
use Rattle.normalise.specs.Rewritten.{IsFolded, IsFoldedCond}

operator_left : (o : Operator) (s s' t : Scalar) → ScalarStep s s' → ScalarStep (plain_operator o s t) (plain_operator o s' t)
operator_left operator.Add s s' t d = ScalarStep.plus_left d
operator_left operator.Subtract s s' t d = ScalarStep.minus_left d
operator_left operator.Multiply s s' t d = ScalarStep.times_left d

operator_right : (o : Operator) (s t t' : Scalar) → ScalarStep t t' → ScalarStep (plain_operator o s t) (plain_operator o s t')
operator_right operator.Add s t t' d = ScalarStep.plus_right d
operator_right operator.Subtract s t t' d = ScalarStep.minus_right d
operator_right operator.Multiply s t t' d = ScalarStep.times_right d

normal-operator : (o : Operator) (s t : Scalar) → NormalScalar s → NormalScalar t → (IsLiteral s → IsLiteral t → ⊥) → NormalScalar (plain_operator o s t)
normal-operator operator.Add s t f g n = (f, g, n)
normal-operator operator.Subtract s t f g n = (f, g, n)
normal-operator operator.Multiply s t f g n = (f, g, n)

literals_step : (o : Operator) (x y z : ℤ) → ((r : Record) → z ≡ value (plain_operator o (Scalar.literal x) (Scalar.literal y)) r)
    → Steps ScalarStep (plain_operator o (Scalar.literal x) (Scalar.literal y)) (Scalar.literal z)
literals_step operator.Add x y z e = subst (λ w. Steps ScalarStep (Scalar.plus (Scalar.literal x) (Scalar.literal y)) (Scalar.literal w)) (sym (e [])) (Steps.next ScalarStep.sum Steps.stay)
literals_step operator.Subtract x y z e = subst (λ w. Steps ScalarStep (Scalar.minus (Scalar.literal x) (Scalar.literal y)) (Scalar.literal w)) (sym (e [])) (Steps.next ScalarStep.difference Steps.stay)
literals_step operator.Multiply x y z e = subst (λ w. Steps ScalarStep (Scalar.times (Scalar.literal x) (Scalar.literal y)) (Scalar.literal w)) (sym (e [])) (Steps.next ScalarStep.product Steps.stay)

-- a folded operator of two literals is a literal
pub folded_literals : (o : Operator) (s t : Scalar) (x y z : ℤ) → s ≡ Scalar.literal x → t ≡ Scalar.literal y
    → ((r : Record) → z ≡ value (plain_operator o (Scalar.literal x) (Scalar.literal y)) r) → IsFolded (Scalar.literal z) (plain_operator o s t)
folded_literals o s t x y z p q e = rw (p, q) (record { steps = literals_step o x y z e; normal = tt })

-- a folded scalar stays
pub folded_already : (s : Scalar) → NormalScalar s → IsFolded s s
folded_already s n = record { steps = Steps.stay; normal = n }

-- an operator of folded scalars that aren't both literals is folded
pub folded_operator : (o : Operator) (s t : Scalar) → (IsLiteral s → IsLiteral t → ⊥) → NormalScalar s → NormalScalar t → IsFolded (plain_operator o s t) (plain_operator o s t)
folded_operator o s t n f g = folded_already (plain_operator o s t) (normal-operator o s t f g n)

-- what folds an operator of folded scalars folds that of the scalars
pub operator-folded : (o : Operator) (after s t a b : Scalar) → IsFolded after (plain_operator o s t) → IsFolded s a → IsFolded t b → IsFolded after (plain_operator o a b)
operator-folded o after s t a b h f g = record {
  steps = steps_then (steps_within (λ u. plain_operator o u b) (λ u v d. operator_left o u v b d) f.steps) (steps_then (steps_within (λ u. plain_operator o s u) (λ u v d. operator_right o s u v d) g.steps) h.steps);
  normal = h.normal;
}

-- the folded negation of a literal is a literal
pub folded_literal : (s : Scalar) (x z : ℤ) → s ≡ Scalar.literal x → ((r : Record) → z ≡ value (Scalar.negation (Scalar.literal x)) r) → IsFolded (Scalar.literal z) (Scalar.negation s)
folded_literal s x z p e = rw p (record {
  steps = subst (λ w. Steps ScalarStep (Scalar.negation (Scalar.literal x)) (Scalar.literal w)) (sym (e [])) (Steps.next ScalarStep.negated Steps.stay);
  normal = tt;
})

-- the negation of another folded scalar is folded
pub folded_negation : (s : Scalar) → (IsLiteral s → ⊥) → NormalScalar s → IsFolded (Scalar.negation s) (Scalar.negation s)
folded_negation s n f = folded_already (Scalar.negation s) (f, n)

-- what folds the negation of a folded scalar folds that of the scalar
pub negation-folded : (after s a : Scalar) → IsFolded after (Scalar.negation s) → IsFolded s a → IsFolded after (Scalar.negation a)
negation-folded after s a h f = record { steps = steps_then (steps_within Scalar.negation (λ u v d. ScalarStep.negation_of d) f.steps) h.steps; normal = h.normal }

-- ---- conditions

pub folded_compare : (c : Comparison) (s t a b : Scalar) → IsFolded s a → IsFolded t b → IsFoldedCond (Cond.compare c s t) (Cond.compare c a b)
folded_compare c s t a b f g = record {
  steps = steps_then (steps_within (λ u. Cond.compare c u b) (λ u v d. CondStep.compare_left d) f.steps) (steps_within (λ u. Cond.compare c s u) (λ u v d. CondStep.compare_right d) g.steps);
  normal = (f.normal, g.normal);
}

connective_left : (o : Connective) (c c' d : Cond) → CondStep c c' → CondStep (plain_connective o c d) (plain_connective o c' d)
connective_left connective.And c c' d h = CondStep.and_left h
connective_left connective.Or c c' d h = CondStep.or_left h

connective_right : (o : Connective) (c d d' : Cond) → CondStep d d' → CondStep (plain_connective o c d) (plain_connective o c d')
connective_right connective.And c d d' h = CondStep.and_right h
connective_right connective.Or c d d' h = CondStep.or_right h

normal-connective : (o : Connective) (c d : Cond) → NormalCond c → NormalCond d → NormalCond (plain_connective o c d)
normal-connective connective.And c d f g = (f, g)
normal-connective connective.Or c d f g = (f, g)

pub folded_connective : (o : Connective) (c d a b : Cond) → IsFoldedCond c a → IsFoldedCond d b → IsFoldedCond (plain_connective o c d) (plain_connective o a b)
folded_connective o c d a b f g = record {
  steps = steps_then (steps_within (λ u. plain_connective o u b) (λ u v h. connective_left o u v b h) f.steps) (steps_within (λ u. plain_connective o c u) (λ u v h. connective_right o c u v h) g.steps);
  normal = normal-connective o c d f.normal g.normal;
}

pub folded_not : (c a : Cond) → IsFoldedCond c a → IsFoldedCond (Cond.negation c) (Cond.negation a)
folded_not c a f = record { steps = steps_within Cond.negation (λ u v d. CondStep.not_of d) f.steps; normal = f.normal }

-- ---- lists of scalars

pub scalars_steps : (ss ts : List Scalar) → AllZip IsFolded ss ts → Steps (OneOf ScalarStep) ts ss
scalars_steps [] [] h = Steps.stay
scalars_steps [] (t ∷ ts) h = absurd h
scalars_steps (s ∷ ss) [] h = absurd h
scalars_steps (s ∷ ss) (t ∷ ts) h = steps_then (steps_within (λ u. u ∷ ts) (λ u v d. OneOf.here d) h.0.steps) (steps_within (λ l. s ∷ l) (λ u v d. OneOf.later d) (scalars_steps ss ts h.1))

pub normal-folded : (ss ts : List Scalar) → AllZip IsFolded ss ts → AllByRecursion NormalScalar ss
normal-folded [] [] h = tt
normal-folded [] (t ∷ ts) h = absurd h
normal-folded (s ∷ ss) [] h = absurd h
normal-folded (s ∷ ss) (t ∷ ts) h = (h.0.normal, normal-folded ss ts h.1)
