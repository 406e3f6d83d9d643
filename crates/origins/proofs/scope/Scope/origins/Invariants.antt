use Rattle.std.proofs.Common.{◌≡◌, drop, map}
use Rattle.origins.specs.Relations.{lookup}
use Rattle.origins.specs.Scopes.{entry_of, scope_of}
use Rattle.origins.proofs.scope.Scope.origins.Given as goal

-- what is left decides
abbrev pub invariant-loop-at : goal.invariant-loop-at
invariant-loop-at l = lookup (scope_of l.self) l.name ≡ lookup (map entry_of (drop l.at l.self.names.items)) l.name
