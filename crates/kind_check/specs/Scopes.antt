-- The scope that a list of names shows.
use Rattle.std.specs.Prelude.{map}
use Rattle.kinds.specs.Relations.{Entry, Scope, entry}
use Rattle.kind_check.specs.declared.scope.Known as known
use Rattle.kind_check.specs.declared.scope.Scope as names

-- a name with the kinds of its fields
abbrev pub entry_of : known.Known → Entry
entry_of k = entry k.name k.kinds.items

-- the names, the latest first
abbrev pub scope_of : names.Scope → Scope
scope_of s = map entry_of s.names.items
