-- The scope that a list of names shows.
use Rattle.std.specs.Prelude.{map}
use Rattle.field_origins.specs.Shown.{origins}
use Rattle.origins.specs.declared.scope.Known as known
use Rattle.origins.specs.declared.scope.Scope as names
use Rattle.origins.specs.Relations.{Entry, Scope, entry}

-- a name with the origins of its fields
abbrev pub entry_of : known.Known → Entry
entry_of k = entry k.name (origins k.origins.items)

-- the names, the latest first
abbrev pub scope_of : names.Scope → Scope
scope_of s = map entry_of s.names.items
