use Rattle.std.proofs.Common.{◌++◌, map, reverse, length}
use Rattle.std.specs.HashSet.{contains}
use Rattle.std.specs.List.{AllByRecursion}
use Rattle.semantics.specs.Meaning.{same_name}
use Rattle.semantics.specs.Normal.{AllReached}
use Rattle.semantics.specs.Query.{Let}
use Rattle.expr_tree.specs.Plain.{plain_let, plain_output}
use Rattle.expr_tree.specs.Views.{let_tree, output_tree}
use Rattle.normalise.specs.Reached.{Finds, LetsReached}
use Rattle.normalise.specs.Rewritten.{Reduced}
use Rattle.normalise.proofs.program.reached_lets.Given as goal

abbrev pub invariant-loop-item : goal.invariant-loop-item
invariant-loop-item g l = record {
  steps : LetsReached (map plain_let (map let_tree l.lets.items) ++ map plain_let (map let_tree (reverse l.kept.items))) (map plain_let (map let_tree l.fn.lets.items)) (map plain_output (map output_tree l.outputs));
  reduced : AllByRecursion (λ (a : Let). Reduced a.value) (map plain_let (map let_tree (reverse l.kept.items)));
  reached : AllReached (map plain_let (map let_tree (reverse l.kept.items))) (map plain_output (map output_tree l.outputs));
  finds : Finds (contains same_name l.reached) (map plain_let (map let_tree (reverse l.kept.items))) (map plain_output (map output_tree l.outputs));
}

abbrev pub decreases-loop-item : goal.decreases-loop-item
decreases-loop-item g l = length l.lets.items
