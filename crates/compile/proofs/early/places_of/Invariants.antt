use Rattle.std.proofs.Common.{◌≡◌, map, take}
use Rattle.compile.proofs.early.places_of.Given as goal

abbrev pub invariant-loop-i : goal.invariant-loop-i
invariant-loop-i l = l.places.items ≡ map (λ i. i.name_span) (take l.i l.inputs)
