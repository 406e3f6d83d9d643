-- Well-typed relations and programs: each name is known, each column exists, arities agree, and limits are kept. The check of a query refuses what
-- breaks a condition here.
use Rattle.std.specs.Prelude.{◌≡◌, ℕ, suc, ◌+◌, ◌≤◌, ◌<◌, cond, List, [], ◌∷◌, length, Option, Some, None}
use Rattle.std.specs.List.{AllByRecursion}
use Rattle.semantics.specs.Limits.{max_fields, max_inputs, max_outputs, max_turns, max_loops}
use Rattle.semantics.specs.Meaning.{same_name}
use Rattle.semantics.specs.Query.{Scalar, Cond, Agg, Name, Pair, Rel, Input, Let, Output, Program}

-- a name in scope and its arity
pub record Entry : Type 0 where
  pub name : Name
  pub arity : ℕ

-- the names in scope, the latest first
abbrev pub Scope : Type 0
Scope = List Entry

-- the arity of a name
abbrev pub lookup : Scope → Name → Option ℕ
lookup [] x = None
lookup (e ∷ es) x = cond (same_name e.name x) (Some e.arity) (lookup es x)

-- a name with its arity
abbrev pub entry : Name → ℕ → Entry
entry x n = record { name = x; arity = n }

-- as many fields as a record may have
abbrev pub IsArity : ℕ → Type 0
IsArity n = (0 < n) × (n ≤ max_fields)

-- each column is below n
abbrev pub ScalarFits : ℕ → Scalar → Type 0
ScalarFits n (Scalar.column c) = c < n
ScalarFits n (Scalar.literal z) = Unit {0}
ScalarFits n (Scalar.plus s t) = ScalarFits n s × ScalarFits n t
ScalarFits n (Scalar.minus s t) = ScalarFits n s × ScalarFits n t
ScalarFits n (Scalar.times s t) = ScalarFits n s × ScalarFits n t
ScalarFits n (Scalar.negation s) = ScalarFits n s

-- each column of a condition is below n
abbrev pub CondFits : ℕ → Cond → Type 0
CondFits n (Cond.compare c s t) = ScalarFits n s × ScalarFits n t
CondFits n (Cond.conjunction c d) = CondFits n c × CondFits n d
CondFits n (Cond.disjunction c d) = CondFits n c × CondFits n d
CondFits n (Cond.negation c) = CondFits n c

-- each column of an aggregate is below n
abbrev pub AggFits : ℕ → Agg → Type 0
AggFits n Agg.count = Unit {0}
AggFits n (Agg.sum c) = c < n
AggFits n (Agg.min c) = c < n
AggFits n (Agg.max c) = c < n

-- the relation has the arity n in that scope, inside the bodies of d loops
unfoldable pub HasArity : Rel → Scope → (d n : ℕ) → Type 0
HasArity (Rel.named x) scope d n = lookup scope x ≡ Some n
HasArity (Rel.select r ss) scope d n =
    (m : ℕ) × HasArity r scope d m × AllByRecursion (ScalarFits m) ss × (n ≡ length ss) × IsArity n
HasArity (Rel.filter r c) scope d n = HasArity r scope d n × CondFits n c
HasArity (Rel.concat p q) scope d n = HasArity p scope d n × HasArity q scope d n
HasArity (Rel.join p q ps) scope d n =
    (l : ℕ) × (m : ℕ) × HasArity p scope d l × HasArity q scope d m
    × AllByRecursion (λ (x : Pair). (x.left < l) × (x.right < m)) ps × (n ≡ l + m) × IsArity n
HasArity (Rel.group r ks as') scope d n =
    (m : ℕ) × HasArity r scope d m × AllByRecursion (λ k. k < m) ks × AllByRecursion (AggFits m) as'
    × (n ≡ length ks + length as') × IsArity n
HasArity (Rel.distinct r) scope d n = HasArity r scope d n
HasArity (Rel.except p q) scope d n = HasArity p scope d n × HasArity q scope d n
HasArity (Rel.intersect p q) scope d n = HasArity p scope d n × HasArity q scope d n
HasArity (Rel.loop l k x r b) scope d n =
    (k ≤ max_turns) × (d < max_loops) × HasArity r scope d n × (lookup scope x ≡ None) × HasArity b (entry x n ∷ scope) (suc d) n

-- inputs in order, each name new
abbrev pub InputsFit : Scope → List Input → Type 0
InputsFit scope [] = Unit {0}
InputsFit scope (a ∷ as') = (lookup scope a.name ≡ None) × IsArity a.arity × InputsFit (entry a.name a.arity ∷ scope) as'

-- the scope after the inputs
abbrev pub after_inputs : Scope → List Input → Scope
after_inputs scope [] = scope
after_inputs scope (a ∷ as') = after_inputs (entry a.name a.arity ∷ scope) as'

-- outputs in order, of these arities, each name different from those `before` it; output names have a scope by themselves, which no relation sees
abbrev pub OutputsFit : Scope → (before : Scope) → List Output → List ℕ → Type 0
OutputsFit scope before [] [] = Unit {0}
OutputsFit scope before [] (n ∷ ns) = ⊥
OutputsFit scope before (o ∷ os) [] = ⊥
OutputsFit scope before (o ∷ os) (n ∷ ns) =
    HasArity o.value scope 0 n × (lookup before o.name ≡ None) × OutputsFit scope (entry o.name n ∷ before) os ns

-- lets in order, and then the outputs, of these arities
abbrev pub RestFits : Scope → List Let → List Output → List ℕ → Type 0
RestFits scope [] outs ns = OutputsFit scope [] outs ns
RestFits scope (a ∷ as') outs ns =
    (m : ℕ) × HasArity a.value scope 0 m × (lookup scope a.name ≡ None) × RestFits (entry a.name m ∷ scope) as' outs ns

-- the program is well typed, and its outputs have these arities, in order
pub record WellTyped (p : Program) (ns : List ℕ) : Type 0 where
  pub few : length p.inputs ≤ max_inputs
  pub few_outputs : length p.outputs ≤ max_outputs
  pub inputs : InputsFit [] p.inputs
  pub rest : RestFits (after_inputs [] p.inputs) p.lets p.outputs ns
