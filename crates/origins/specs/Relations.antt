-- Where the values of the fields of relations and outputs come from.
use Rattle.std.specs.Prelude.{ℕ, suc, cond, List, [], ◌∷◌, ◌++◌, map, length}
use Rattle.semantics.specs.Meaning.{same_name}
use Rattle.semantics.specs.Query.{Name, Rel, Input, Let, Output, Program}
use Rattle.field_origins.specs.Sources.{Origin, merged, origin_at, scalar_origin, agg_origin, columns_from}
use Rattle.field_origins.specs.Loops.{settled}

-- a name in scope, with the origins of its fields
pub record Entry : Type 0 where
  pub name : Name
  pub origins : List Origin

-- the names in scope, the latest first
abbrev pub Scope : Type 0
Scope = List Entry

-- the origins of a name
abbrev pub lookup : Scope → Name → List Origin
lookup [] x = []
lookup (e ∷ es) x = cond (same_name e.name x) e.origins (lookup es x)

-- a name with its origins
abbrev pub entry : Name → List Origin → Entry
entry x os = record { name = x; origins = os }

-- of a loop, by what its body makes of the columns of an input v that stands for its variable
abbrev pub looped : (v : ℕ) → (body : List Origin → List Origin) → (start : List Origin) → List Origin
looped v body start = settled v (body (columns_from v 0 (length start))) start

-- of a relation in a scope, where no input has the number v or a later one
abbrev pub rel_origins : Rel → Scope → (v : ℕ) → List Origin
rel_origins (Rel.named x) scope v = lookup scope x
rel_origins (Rel.select r ss) scope v = map (scalar_origin (rel_origins r scope v)) ss
rel_origins (Rel.filter r c) scope v = rel_origins r scope v
rel_origins (Rel.concat p q) scope v = merged (rel_origins p scope v) (rel_origins q scope v)
rel_origins (Rel.join p q ps) scope v = rel_origins p scope v ++ rel_origins q scope v
rel_origins (Rel.group r cs as') scope v = map (origin_at (rel_origins r scope v)) cs ++ map (agg_origin (rel_origins r scope v)) as'
rel_origins (Rel.distinct r) scope v = rel_origins r scope v
rel_origins (Rel.except p q) scope v = rel_origins p scope v
rel_origins (Rel.intersect p q) scope v = rel_origins p scope v
rel_origins (Rel.loop l n x r b) scope v = looped v (λ os. rel_origins b (entry x os ∷ scope) (suc v)) (rel_origins r scope v)

-- the scope of the inputs, each field from itself; the first has the number i
abbrev pub inputs_scope : List Input → (i : ℕ) → Scope
inputs_scope [] i = []
inputs_scope (a ∷ as') i = entry a.name (columns_from i 0 a.arity) ∷ inputs_scope as' (suc i)

-- of the outputs, after the lets
abbrev pub rest_origins : Scope → (v : ℕ) → List Let → List Output → List (List Origin)
rest_origins scope v [] outputs = map (λ (o : Output). rel_origins o.value scope v) outputs
rest_origins scope v (l ∷ ls) outputs = rest_origins (entry l.name (rel_origins l.value scope v) ∷ scope) v ls outputs

-- of the outputs of a program
abbrev pub program_origins : Program → List (List Origin)
program_origins p = rest_origins (inputs_scope p.inputs 0) (length p.inputs) p.lets p.outputs
