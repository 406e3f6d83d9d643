-- Rewritten parts make rewritten relations, by the rules and by steps of the parts.
use Rattle.std.proofs.Common.{Result, Ok, Err, IfOk, ◌≡◌, ℕ, suc, ◌≤◌, ◌<◌, List, [], ◌∷◌, ◌++◌, map, arith}
use Rattle.std.specs.List.{AllZip, AllByRecursion}
use Rattle.expr_tree.specs.declared.relation.SetOperator.{SetOperator}
use Rattle.expr_tree.specs.declared.relation.SetOperator.TheVariants as operation
use Rattle.expr_tree.specs.Plain.{plain_set_operation}
use Rattle.semantics.specs.Limits.{max_fields}
use Rattle.semantics.specs.Query.{Loop, Scalar, Cond, Agg, Name, Pair, Rel}
use Rattle.semantics.specs.Typing.{ScalarFits, Scope, entry, HasArity}
use Rattle.semantics.specs.Normal.{NormalScalar, NormalCond, NormalRel, IsFilter, IsSelect, IsSet, UsesOnce, uses, uses_all, replaced}
use Rattle.semantics.specs.Rewriting.{Steps, RelStep}
use Rattle.semantics.proofs.StepsKeep.{steps_then, steps_within, steps_arity}
use Rattle.typing.proofs.DecidedArities.{set_arity}
use Rattle.normalise.specs.Rewritten.{IsFolded, IsFoldedCond, IsReached, Reduced, IsRewritten}
use Rattle.normalise.proofs.Folding.{scalars_steps}

-- ---- where there is an arity, no rule applies

uses_append : (m : ℕ) (xs ys : List ℕ) → AllByRecursion (λ c. c < m) xs → AllByRecursion (λ c. c < m) ys → AllByRecursion (λ c. c < m) (xs ++ ys)
uses_append m [] ys h k = k
uses_append m (x ∷ xs) ys h k = (h.0, uses_append m xs ys h.1 k)

uses_fit : (l m : ℕ) (s : Scalar) → m ≤ l → ScalarFits m s → AllByRecursion (λ c. c < l) (uses s)
uses_fit l m (Scalar.column c) le h = (omega arith, tt)
uses_fit l m (Scalar.literal z) le h = tt
uses_fit l m (Scalar.plus s t) le h = uses_append l (uses s) (uses t) (uses_fit l m s le h.0) (uses_fit l m t le h.1)
uses_fit l m (Scalar.minus s t) le h = uses_append l (uses s) (uses t) (uses_fit l m s le h.0) (uses_fit l m t le h.1)
uses_fit l m (Scalar.times s t) le h = uses_append l (uses s) (uses t) (uses_fit l m s le h.0) (uses_fit l m t le h.1)
uses_fit l m (Scalar.negation s) le h = uses_fit l m s le h

all_fit : (l m : ℕ) (ss : List Scalar) → m ≤ l → AllByRecursion (ScalarFits m) ss → AllByRecursion (λ c. c < l) (uses_all ss)
all_fit l m [] le h = tt
all_fit l m (s ∷ ss) le h = uses_append l (uses s) (uses_all ss) (uses_fit l m s le h.0) (all_fit l m ss le h.1)

few_fields : (r : Rel) (scope : Scope) (d m : ℕ) → IsSelect r → HasArity r scope d m → m ≤ max_fields
unfolding HasArity
few_fields (Rel.named x) scope d m i h = absurd i
few_fields (Rel.select r ss) scope d m i h = h.4.1
few_fields (Rel.filter r c) scope d m i h = absurd i
few_fields (Rel.concat p q) scope d m i h = absurd i
few_fields (Rel.join p q ps) scope d m i h = absurd i
few_fields (Rel.group r ks as') scope d m i h = absurd i
few_fields (Rel.distinct r) scope d m i h = absurd i
few_fields (Rel.except p q) scope d m i h = absurd i
few_fields (Rel.intersect p q) scope d m i h = absurd i
few_fields (Rel.loop l n x r b) scope d m i h = absurd i

pub normal_reduced : (r : Rel) (scope : Scope) (d n : ℕ) → HasArity r scope d n → Reduced r → NormalRel r
unfolding HasArity
normal_reduced (Rel.named x) scope d n h k = tt
normal_reduced (Rel.select r ss) scope d n h k = (normal_reduced r scope d h.0 h.1 k.0, k.1, λ i u. k.2 i (all_fit max_fields h.0 ss (few_fields r scope d h.0 i h.1) h.2) u)
normal_reduced (Rel.filter r c) scope d n h k = (normal_reduced r scope d n h.0 k.0, k.1, k.2)
normal_reduced (Rel.concat p q) scope d n h k = (normal_reduced p scope d n h.0 k.0, normal_reduced q scope d n h.1 k.1)
normal_reduced (Rel.join p q ps) scope d n h k = (normal_reduced p scope d h.0 h.2 k.0, normal_reduced q scope d h.1 h.3 k.1)
normal_reduced (Rel.group r ks as') scope d n h k = normal_reduced r scope d h.0 h.1 k
normal_reduced (Rel.distinct r) scope d n h k = (normal_reduced r scope d n h k.0, k.1)
normal_reduced (Rel.except p q) scope d n h k = (normal_reduced p scope d n h.0 k.0, normal_reduced q scope d n h.1 k.1)
normal_reduced (Rel.intersect p q) scope d n h k = (normal_reduced p scope d n h.0 k.0, normal_reduced q scope d n h.1 k.1)
normal_reduced (Rel.loop l t x r b) scope d n h k = (normal_reduced r scope d n h.2 k.0, normal_reduced b (entry x n ∷ scope) (suc d) n h.4 k.1, k.2)

-- ---- steps one after the other

pub reached_itself : (r : Rel) → IsReached r r
reached_itself r = record { steps = λ scope d n h. Steps.stay }

pub reached_then : (p q r : Rel) → IsReached p q → IsReached q r → IsReached p r
reached_then p q r f g = record { steps = λ scope d n h. (let first = g.steps scope d n h in steps_then first (f.steps scope d n (steps_arity first scope d n h))) }

-- ---- each form of parts that were reached

pub reached_select : (p q : Rel) (ss ts : List Scalar) → IsReached p q → AllZip IsFolded ss ts → IsReached (Rel.select p ss) (Rel.select q ts)
unfolding HasArity
reached_select p q ss ts f h = record {
  steps = λ scope d n t. steps_then
      (steps_within (λ r. Rel.select r ts) (λ r r' s. RelStep.select_of s) (f.steps scope d t.0 t.1))
      (steps_within (λ us. Rel.select p us) (λ us vs s. RelStep.select_scalar s) (scalars_steps ss ts h));
}

pub reached_filter : (p q : Rel) (c d : Cond) → IsReached p q → IsFoldedCond c d → IsReached (Rel.filter p c) (Rel.filter q d)
unfolding HasArity
reached_filter p q c d f h = record {
  steps = λ scope l n t. steps_then
      (steps_within (λ r. Rel.filter r d) (λ r r' s. RelStep.where_of s) (f.steps scope l n t.0))
      (steps_within (λ e. Rel.filter p e) (λ e e' s. RelStep.where_cond s) h.steps);
}

set_left : (o : SetOperator) (p p' q : Rel) → RelStep p p' → RelStep (plain_set_operation o p q) (plain_set_operation o p' q)
set_left operation.Concat p p' q s = RelStep.concat_left s
set_left operation.Except p p' q s = RelStep.except_left s
set_left operation.Intersect p p' q s = RelStep.intersect_left s

set_right : (o : SetOperator) (p q q' : Rel) → RelStep q q' → RelStep (plain_set_operation o p q) (plain_set_operation o p q')
set_right operation.Concat p q q' s = RelStep.concat_right s
set_right operation.Except p q q' s = RelStep.except_right s
set_right operation.Intersect p q q' s = RelStep.intersect_right s

reached_set_operation : (o : SetOperator) (p q r s : Rel) → IsReached p r → IsReached q s → IsReached (plain_set_operation o p q) (plain_set_operation o r s)
reached_set_operation o p q r s f g = record {
  steps = λ scope d n t. (let both = (set_arity o r s scope d n).0 t in steps_then
      (steps_within (λ u. plain_set_operation o u s) (λ u u' k. set_left o u u' s k) (f.steps scope d n both.0))
      (steps_within (λ u. plain_set_operation o p u) (λ u u' k. set_right o p u u' k) (g.steps scope d n both.1)));
}

pub reached_join : (p q r s : Rel) (ps : List Pair) → IsReached p r → IsReached q s → IsReached (Rel.join p q ps) (Rel.join r s ps)
unfolding HasArity
reached_join p q r s ps f g = record {
  steps = λ scope d n t. steps_then
      (steps_within (λ u. Rel.join u s ps) (λ u u' k. RelStep.join_left k) (f.steps scope d t.0 t.2))
      (steps_within (λ u. Rel.join p u ps) (λ u u' k. RelStep.join_right k) (g.steps scope d t.1 t.3));
}

pub reached_group : (p q : Rel) (ks : List ℕ) (as' : List Agg) → IsReached p q → IsReached (Rel.group p ks as') (Rel.group q ks as')
unfolding HasArity
reached_group p q ks as' f = record { steps = λ scope d n t. steps_within (λ r. Rel.group r ks as') (λ r r' s. RelStep.group_of s) (f.steps scope d t.0 t.1) }

pub reached_distinct : (p q : Rel) → IsReached p q → IsReached (Rel.distinct p) (Rel.distinct q)
unfolding HasArity
reached_distinct p q f = record { steps = λ scope d n t. steps_within Rel.distinct (λ r r' s. RelStep.distinct_of s) (f.steps scope d n t) }

pub reached_loop : (l : Loop) (n : ℕ) (x : Name) (p q b c : Rel) → IsReached p q → IsReached b c → IsReached (Rel.loop l n x p b) (Rel.loop l n x q c)
unfolding HasArity
reached_loop l n x p q b c f g = record {
  steps = λ scope d m t. steps_then
      (steps_within (λ r. Rel.loop l n x r c) (λ r r' s. RelStep.loop_start s) (f.steps scope d m t.2))
      (steps_within (λ r. Rel.loop l n x p r) (λ r r' s. RelStep.loop_body s) (g.steps (entry x m ∷ scope) (suc d) m t.4));
}

-- ---- what is rewritten of reached parts is rewritten

pub rewritten_then : (p q r : Rel) → IsRewritten p q → IsReached q r → IsRewritten p r
rewritten_then p q r f g = record { reached = reached_then p q r f.reached g; reduced = f.reduced }

reduced_set_operation : (o : SetOperator) (p q : Rel) → Reduced p → Reduced q → Reduced (plain_set_operation o p q)
reduced_set_operation operation.Concat p q h k = (h, k)
reduced_set_operation operation.Except p q h k = (h, k)
reduced_set_operation operation.Intersect p q h k = (h, k)

pub rewritten_set_operation : (o : SetOperator) (p q r s : Rel) → IsRewritten p r → IsRewritten q s → IsRewritten (plain_set_operation o p q) (plain_set_operation o r s)
rewritten_set_operation o p q r s f g = record { reached = reached_set_operation o p q r s f.reached g.reached; reduced = reduced_set_operation o p q f.reduced g.reduced }

-- ---- the rules

-- a where of a where is one
wheres : (r : Rel) (c d : Cond) → Reduced (Rel.filter r c) → NormalCond d → IsRewritten (Rel.filter r (Cond.conjunction c d)) (Rel.filter (Rel.filter r c) d)
unfolding HasArity
wheres r c d h n = record {
  reached = record { steps = λ scope l m t. Steps.next (RelStep.wheres (normal_reduced (Rel.filter r c) scope l m t.0 h) n) Steps.stay };
  reduced = (h.0, (h.1, n), h.2);
}

pub rewritten_wheres : (q r : Rel) (c d e : Cond) → q ≡ Rel.filter r c → e ≡ Cond.conjunction c d → Reduced q → NormalCond d → IsRewritten (Rel.filter r e) (Rel.filter q d)
rewritten_wheres q r c d e i j h n = rw (i, j) (wheres r c d (rw i at h) n)

-- a where of another relation stays
pub rewritten_where : (r : Rel) (c : Cond) → (IsFilter r → ⊥) → Reduced r → NormalCond c → IsRewritten (Rel.filter r c) (Rel.filter r c)
rewritten_where r c n h k = record { reached = reached_itself (Rel.filter r c); reduced = (h, k, n) }

-- a distinct of a set is that
pub rewritten_set : (r : Rel) → IsSet r → Reduced r → IsRewritten r (Rel.distinct r)
unfolding HasArity
rewritten_set r i h = record {
  reached = record { steps = λ scope l m t. Steps.next (RelStep.distincts (normal_reduced r scope l m t h) i) Steps.stay };
  reduced = h;
}

-- a distinct of another relation stays
pub rewritten_distinct : (r : Rel) → (IsSet r → ⊥) → Reduced r → IsRewritten (Rel.distinct r) (Rel.distinct r)
rewritten_distinct r n h = record { reached = reached_itself (Rel.distinct r); reduced = (h, n) }

-- a loop of no turns is its start
no_turns : (x : Name) (p q b : Rel) → IsRewritten p q → IsRewritten p (Rel.loop Loop.iterate 0 x q b)
unfolding HasArity
no_turns x p q b f = record {
  reached = record {
    steps = λ scope l m t. (let start = f.reached.steps scope l m t.2 in steps_then
        (steps_within (λ r. Rel.loop Loop.iterate 0 x r b) (λ r r' s. RelStep.loop_start s) start)
        (Steps.next (RelStep.no_turns (normal_reduced p scope l m (steps_arity start scope l m t.2) f.reduced)) Steps.stay));
  };
  reduced = f.reduced;
}

pub rewritten_no_turns : (l : Loop) (n : ℕ) (x : Name) (p q b : Rel) → l ≡ Loop.iterate → n ≡ 0 → IsRewritten p q → IsRewritten p (Rel.loop l n x q b)
rewritten_no_turns l n x p q b e k f = rw (e, k) (no_turns x p q b f)

pub rewritten_loop : (l : Loop) (n : ℕ) (x : Name) (p q b c : Rel) → (l ≡ Loop.iterate → n ≡ 0 → ⊥) → IsRewritten p q → IsRewritten b c → IsRewritten (Rel.loop l n x p b) (Rel.loop l n x q c)
rewritten_loop l n x p q b c k f g = record { reached = reached_loop l n x p q b c f.reached g.reached; reduced = (f.reduced, g.reduced, k) }

-- a select of a select that copies nothing becomes one
selects : (r : Rel) (ss ts us : List Scalar) → Reduced (Rel.select r ss) → AllByRecursion NormalScalar ts → UsesOnce ts → AllZip IsFolded us (map (replaced ss) ts) → IsReached (Rel.select r us) (Rel.select (Rel.select r ss) ts)
unfolding HasArity
selects r ss ts us n k once h = record {
  steps = λ scope l m t. Steps.next
      (RelStep.selects (normal_reduced (Rel.select r ss) scope l t.0 t.1 n) k once)
      (steps_within (λ vs. Rel.select r vs) (λ vs ws s. RelStep.select_scalar s) (scalars_steps us (map (replaced ss) ts) h));
}

pub rewritten_selects : (q r p : Rel) (ss ts us : List Scalar) → q ≡ Rel.select r ss → Reduced (Rel.select r ss) → AllByRecursion NormalScalar ts → UsesOnce ts → AllZip IsFolded us (map (replaced ss) ts) → IsRewritten p (Rel.select r us) → IsRewritten p (Rel.select q ts)
rewritten_selects q r p ss ts us e n k once h f = rw e (rewritten_then p (Rel.select r us) (Rel.select (Rel.select r ss) ts) f (selects r ss ts us n k once h))

-- another select stays
pub rewritten_select : (r : Rel) (ss : List Scalar) → (IsSelect r → AllByRecursion (λ c. c < max_fields) (uses_all ss) → UsesOnce ss → ⊥) → Reduced r → AllByRecursion NormalScalar ss → IsRewritten (Rel.select r ss) (Rel.select r ss)
rewritten_select r ss n h k = record { reached = reached_itself (Rel.select r ss); reduced = (h, k, n) }

-- what follows of an answer follows where there is one
pub ok_then : {X E : Type 0} (r : Result X E) (P Q : X → Type 0) → ((x : X) → P x → Q x) → IfOk r P → IfOk r Q
ok_then (Ok x) P Q f h = f x h
ok_then (Err e) P Q f h = h
