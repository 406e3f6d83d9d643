use Rattle.std.proofs.Common.{◌≡◌, take, map}
use Rattle.std.specs.HashSet.{contains}
use Rattle.std.specs.List.{flat_map}
use Rattle.semantics.specs.Meaning.{same_name}
use Rattle.expr_tree.specs.Views.{let_tree}
use Rattle.compile.specs.Unused.{unused_let}
use Rattle.compile.proofs.unused.unused_lets.Given as goal

abbrev pub invariant-loop-i : goal.invariant-loop-i
invariant-loop-i g l = l.places.items ≡ flat_map (unused_let (contains same_name l.names)) (map let_tree (take l.i l.lets))
