-- The scope that a table of names shows.
use Rattle.std.specs.Prelude.{ℕ, List, [], ◌∷◌, ◌++◌, refl}
use Rattle.std.specs.Coded.{Coded, code_by, coded×, coded_ℕ, coded_list}
use Rattle.semantics.specs.Typing.{Entry, Scope, entry}

-- the entries, declared in that order: the last first
abbrev pub scope_of : List (List ℕ × ℕ) → Scope
scope_of [] = []
scope_of (e ∷ es) = scope_of es ++ entry e.0 e.1 ∷ []

-- an entry is stored as the pair of its fields
abbrev pub entry_code : Coded Entry
entry_code = code_by (List ℕ × ℕ) (coded× (coded_list coded_ℕ) coded_ℕ) (λ e. (e.name, e.arity)) (λ p. record { name = p.0; arity = p.1 }) (λ _. refl)

-- a scope is stored as the list of its entries
abbrev pub scope_code : Coded Scope
scope_code = coded_list entry_code
