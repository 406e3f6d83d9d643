-- What lets and loops do to a scope.
use Rattle.std.specs.Prelude.{◌≡◌, List, [], ◌∷◌, Option, None, ℤ}
use Rattle.semantics.specs.Query.{Name, Rel, Let, Output}
use Rattle.kinds.specs.Relations.{Scope, entry, rel_kinds, rest_kinds}
use Rattle.kinds.specs.declared.kind.Kind.{Kind}
use Rattle.field_kinds.specs.Found.{IfSomeKinds}

-- what a turn of a loop makes of kinds
abbrev pub turn_kinds : (named : List ℤ) → (body : Rel) → Name → Scope → List Kind → Option (List Kind)
turn_kinds named body x scope ks = rel_kinds named body (entry x ks ∷ scope)

-- the let's relation has kinds, and its name comes first
abbrev pub DeclaresLet : (named : List ℤ) → Let → (old new : Scope) → Type 0
DeclaresLet named l old new = IfSomeKinds (rel_kinds named l.value old) (λ ks. new ≡ entry l.name ks ∷ old)

-- what the lets and outputs have in one scope, the outputs alone have in the other
abbrev pub LeadsTo : (named : List ℤ) → List Let → (old new : Scope) → Type 0
LeadsTo named ls old new = (outputs : List Output) → rest_kinds named old ls outputs ≡ rest_kinds named new [] outputs

-- one of the lets has no kinds
abbrev pub LeadsNowhere : (named : List ℤ) → List Let → Scope → Type 0
LeadsNowhere named ls scope = (outputs : List Output) → rest_kinds named scope ls outputs ≡ None
