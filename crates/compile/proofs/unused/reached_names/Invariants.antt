use Rattle.std.proofs.Common.{◌≤◌, length, drop, map}
use Rattle.std.specs.HashSet.{contains}
use Rattle.semantics.specs.Meaning.{same_name}
use Rattle.expr_tree.specs.PlainLists.{plain_lets, plain_outputs}
use Rattle.normalise.specs.Reached.{Finds}
use Rattle.compile.proofs.unused.reached_names.Given as goal

abbrev pub invariant-loop-left : goal.invariant-loop-left
invariant-loop-left g l = record {
  few : l.left ≤ length l.lets;
  finds : Finds (contains same_name l.names) (plain_lets (drop l.left l.lets)) (plain_outputs l.outputs);
}

abbrev pub decreases-loop-left : goal.decreases-loop-left
decreases-loop-left g l = l.left
