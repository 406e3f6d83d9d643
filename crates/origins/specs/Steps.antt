-- What lets and loops do to a scope.
use Rattle.std.specs.Prelude.{◌≡◌, ℕ, suc, List, [], ◌∷◌}
use Rattle.semantics.specs.Query.{Name, Rel, Let, Output}
use Rattle.origins.specs.Relations.{Scope, entry, rel_origins, rest_origins}
use Rattle.field_origins.specs.Sources.{Origin}

-- what a loop's body makes of the origins of its variable x, which has the number v
abbrev pub turn_origins : (body : Rel) → Name → Scope → (v : ℕ) → List Origin → List Origin
turn_origins body x scope v os = rel_origins body (entry x os ∷ scope) (suc v)

-- what the outputs come from after the lets in one scope, they come from alone in the other
abbrev pub LeadsTo : (v : ℕ) → List Let → (old new : Scope) → Type 0
LeadsTo v ls old new = (outputs : List Output) → rest_origins old v ls outputs ≡ rest_origins new v [] outputs
