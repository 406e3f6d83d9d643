-- Each side of a fork has fewer entries than the fork.
use Rattle.std.specs.Prelude.{◌≤◌, max, length}
use Rattle.std.proofs.Common.{arith, length-append}
use Rattle.progress.specs.declared.tree.Node.{Node}
use Rattle.progress.specs.declared.tree.Node.TheVariants.{Leaf, Fork}
use Rattle.progress.specs.declared.tree.Tree.TheDeep.{deep-Node}
use Rattle.progress.specs.NodeCounts.{node_counts}

-- no side is deeper than the node's number of entries
pub deep_entries : (n : Node) → max (deep-Node n) 0 ≤ length (node_counts n)
deep_entries Leaf = omega arith
deep_entries (Fork left here split right) = omega (arith, length-append left.value right.value)
