-- The normaliser's rules as a rewriting system. One step applies one rule at one place whose parts are normal (from the inside out); a program
-- rewrites to another by a sequence of steps. A tree without a step is a normal form.
use Rattle.std.specs.Prelude.{ℕ, List, ◌∷◌, map, ℤ, ◌+ℤ◌, ◌-ℤ◌, ◌*ℤ◌, neg_ℤ}
use Rattle.std.specs.List.{AllByRecursion}
use Rattle.std.specs.Int.{int_wrap}
use mir.Syntax.{w64}
use Rattle.semantics.specs.Query.{Scalar, Comparison, Cond, Agg, Name, Pair, Loop, Rel, Input, Let, Output, Program}
use Rattle.semantics.specs.Normal.{UsesOnce, replaced, Reaches, AllReached, NormalScalar, NormalCond, IsSet, NormalRel, NormalProgram}

-- ---- sequences of steps

-- none, or a step and then more
pub data Steps {X : Type 0} (Step : X → X → Type 0) : X → X → Type 0 where
  stay : {x : X} → Steps Step x x
  next : {x y z : X} → Step x y → Steps Step y z → Steps Step x z

-- one element takes a step, and the others stay
pub data OneOf {X : Type 0} (Step : X → X → Type 0) : List X → List X → Type 0 where
  here : {x y : X} {xs : List X} → Step x y → OneOf Step (x ∷ xs) (y ∷ xs)
  later : {x : X} {xs ys : List X} → OneOf Step xs ys → OneOf Step (x ∷ xs) (x ∷ ys)

-- ---- one step of a scalar

pub data ScalarStep : Scalar → Scalar → Type 0 where
  -- literals are folded to the wrapped value
  sum : {a b : ℤ} → ScalarStep (Scalar.plus (Scalar.literal a) (Scalar.literal b)) (Scalar.literal (int_wrap w64 (a +ℤ b)))
  difference : {a b : ℤ} → ScalarStep (Scalar.minus (Scalar.literal a) (Scalar.literal b)) (Scalar.literal (int_wrap w64 (a -ℤ b)))
  product : {a b : ℤ} → ScalarStep (Scalar.times (Scalar.literal a) (Scalar.literal b)) (Scalar.literal (int_wrap w64 (a *ℤ b)))
  negated : {a : ℤ} → ScalarStep (Scalar.negation (Scalar.literal a)) (Scalar.literal (int_wrap w64 (neg_ℤ a)))
  -- a step of a part
  plus_left : {s s' t : Scalar} → ScalarStep s s' → ScalarStep (Scalar.plus s t) (Scalar.plus s' t)
  plus_right : {s t t' : Scalar} → ScalarStep t t' → ScalarStep (Scalar.plus s t) (Scalar.plus s t')
  minus_left : {s s' t : Scalar} → ScalarStep s s' → ScalarStep (Scalar.minus s t) (Scalar.minus s' t)
  minus_right : {s t t' : Scalar} → ScalarStep t t' → ScalarStep (Scalar.minus s t) (Scalar.minus s t')
  times_left : {s s' t : Scalar} → ScalarStep s s' → ScalarStep (Scalar.times s t) (Scalar.times s' t)
  times_right : {s t t' : Scalar} → ScalarStep t t' → ScalarStep (Scalar.times s t) (Scalar.times s t')
  negation_of : {s s' : Scalar} → ScalarStep s s' → ScalarStep (Scalar.negation s) (Scalar.negation s')

-- ---- one step of a condition: a step of one of its scalars

pub data CondStep : Cond → Cond → Type 0 where
  compare_left : {o : Comparison} {s s' t : Scalar} → ScalarStep s s' → CondStep (Cond.compare o s t) (Cond.compare o s' t)
  compare_right : {o : Comparison} {s t t' : Scalar} → ScalarStep t t' → CondStep (Cond.compare o s t) (Cond.compare o s t')
  and_left : {c c' d : Cond} → CondStep c c' → CondStep (Cond.conjunction c d) (Cond.conjunction c' d)
  and_right : {c d d' : Cond} → CondStep d d' → CondStep (Cond.conjunction c d) (Cond.conjunction c d')
  or_left : {c c' d : Cond} → CondStep c c' → CondStep (Cond.disjunction c d) (Cond.disjunction c' d)
  or_right : {c d d' : Cond} → CondStep d d' → CondStep (Cond.disjunction c d) (Cond.disjunction c d')
  not_of : {c c' : Cond} → CondStep c c' → CondStep (Cond.negation c) (Cond.negation c')

-- ---- one step of a relation

pub data RelStep : Rel → Rel → Type 0 where
  -- where of where, with the inner condition first
  wheres : {r : Rel} {c d : Cond} → NormalRel (Rel.filter r c) → NormalCond d → RelStep (Rel.filter (Rel.filter r c) d) (Rel.filter r (Cond.conjunction c d))
  -- select of select, if no scalar is copied
  selects : {r : Rel} {ss ts : List Scalar} → NormalRel (Rel.select r ss) → AllByRecursion NormalScalar ts → UsesOnce ts
      → RelStep (Rel.select (Rel.select r ss) ts) (Rel.select r (map (replaced ss) ts))
  -- distinct of a distinct, an except or an intersect
  distincts : {r : Rel} → NormalRel r → IsSet r → RelStep (Rel.distinct r) r
  -- an iterate of no turns is its start
  no_turns : {x : Name} {r b : Rel} → NormalRel r → RelStep (Rel.loop Loop.iterate 0 x r b) r
  -- a step of a part
  select_of : {r r' : Rel} {ss : List Scalar} → RelStep r r' → RelStep (Rel.select r ss) (Rel.select r' ss)
  select_scalar : {r : Rel} {ss ss' : List Scalar} → OneOf ScalarStep ss ss' → RelStep (Rel.select r ss) (Rel.select r ss')
  where_of : {r r' : Rel} {c : Cond} → RelStep r r' → RelStep (Rel.filter r c) (Rel.filter r' c)
  where_cond : {r : Rel} {c c' : Cond} → CondStep c c' → RelStep (Rel.filter r c) (Rel.filter r c')
  concat_left : {p p' q : Rel} → RelStep p p' → RelStep (Rel.concat p q) (Rel.concat p' q)
  concat_right : {p q q' : Rel} → RelStep q q' → RelStep (Rel.concat p q) (Rel.concat p q')
  join_left : {p p' q : Rel} {ps : List Pair} → RelStep p p' → RelStep (Rel.join p q ps) (Rel.join p' q ps)
  join_right : {p q q' : Rel} {ps : List Pair} → RelStep q q' → RelStep (Rel.join p q ps) (Rel.join p q' ps)
  group_of : {r r' : Rel} {ks : List ℕ} {as' : List Agg} → RelStep r r' → RelStep (Rel.group r ks as') (Rel.group r' ks as')
  distinct_of : {r r' : Rel} → RelStep r r' → RelStep (Rel.distinct r) (Rel.distinct r')
  except_left : {p p' q : Rel} → RelStep p p' → RelStep (Rel.except p q) (Rel.except p' q)
  except_right : {p q q' : Rel} → RelStep q q' → RelStep (Rel.except p q) (Rel.except p q')
  intersect_left : {p p' q : Rel} → RelStep p p' → RelStep (Rel.intersect p q) (Rel.intersect p' q)
  intersect_right : {p q q' : Rel} → RelStep q q' → RelStep (Rel.intersect p q) (Rel.intersect p q')
  loop_start : {l : Loop} {n : ℕ} {x : Name} {r r' b : Rel} → RelStep r r' → RelStep (Rel.loop l n x r b) (Rel.loop l n x r' b)
  loop_body : {l : Loop} {n : ℕ} {x : Name} {r b b' : Rel} → RelStep b b' → RelStep (Rel.loop l n x r b) (Rel.loop l n x r b')

-- ---- one step of a program

-- one step of the lets before the outputs
pub data LetsStep (outs : List Output) : List Let → List Let → Type 0 where
  -- the last let that no output reaches is dropped
  unreached : {a : Let} {as' : List Let} → AllReached as' outs → (Reaches a.name as' outs → ⊥) → LetsStep outs (a ∷ as') as'
  -- a step of a part
  value : {x : Name} {r r' : Rel} {as' : List Let} → RelStep r r' → LetsStep outs (record { name = x; value = r } ∷ as') (record { name = x; value = r' } ∷ as')
  later : {a : Let} {as' bs : List Let} → LetsStep outs as' bs → LetsStep outs (a ∷ as') (a ∷ bs)

-- one step of an output: of its relation
pub data OutputStep : Output → Output → Type 0 where
  value : {x : Name} {r r' : Rel} → RelStep r r' → OutputStep (record { name = x; value = r }) (record { name = x; value = r' })

pub data ProgramStep : Program → Program → Type 0 where
  lets : {inputs : List Input} {as' bs : List Let} {outs : List Output} → LetsStep outs as' bs
      → ProgramStep (record { inputs = inputs; lets = as'; outputs = outs }) (record { inputs = inputs; lets = bs; outputs = outs })
  outputs : {inputs : List Input} {as' : List Let} {os os' : List Output} → OneOf OutputStep os os'
      → ProgramStep (record { inputs = inputs; lets = as'; outputs = os }) (record { inputs = inputs; lets = as'; outputs = os' })

-- the same, by any number of steps
abbrev pub RewritesTo : Program → Program → Type 0
RewritesTo p q = Steps ProgramStep p q

-- q is the normal form that p rewrites to
pub record IsNormalForm (q p : Program) : Type 0 where
  pub reached : RewritesTo p q
  pub normal : NormalProgram q
