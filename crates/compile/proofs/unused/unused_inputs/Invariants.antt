use Rattle.std.proofs.Common.{◌≡◌, take}
use Rattle.std.specs.HashSet.{contains}
use Rattle.std.specs.List.{flat_map}
use Rattle.semantics.specs.Meaning.{same_name}
use Rattle.compile.specs.Unused.{unused_input}
use Rattle.compile.proofs.unused.unused_inputs.Given as goal

abbrev pub invariant-loop-i : goal.invariant-loop-i
invariant-loop-i l = l.places.items ≡ flat_map (unused_input (contains same_name l.names)) (take l.i l.inputs)
