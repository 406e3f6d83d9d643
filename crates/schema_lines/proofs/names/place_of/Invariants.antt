use Rattle.std.proofs.Common.{◌≡◌, ◌+◌, drop, map}
use Rattle.schema_lines.specs.Words.{place_in}
use Rattle.schema_lines.proofs.names.place_of.Given as goal

abbrev pub invariant-loop-i : goal.invariant-loop-i
invariant-loop-i l = place_in l.name (map (λ v. v.items) l.headers) ≡ l.i + place_in l.name (drop l.i (map (λ v. v.items) l.headers))
