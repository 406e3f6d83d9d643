-- What an input of a query is.
use Rattle.semantics.specs.Query.{Input}
use Rattle.record_core.specs.declared.input.DeclaredInput.{DeclaredInput}

-- as the definitions have it
abbrev pub input_of : DeclaredInput → Input
input_of i = record { name = i.name; arity = i.arity }
