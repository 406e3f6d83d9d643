-- What the nodes of a search tree show.
use Rattle.progress.specs.TimeCounts.{TimeCounts, with_times, IsFork}
use Rattle.std.specs.Prelude.{[]}
use Rattle.progress.specs.declared.tree.Node.{Node}
use Rattle.progress.specs.declared.tree.Node.TheVariants.{Leaf, Fork}

-- the times of a node
abbrev pub node_counts : Node → TimeCounts
node_counts Leaf = []
node_counts (Fork left here split right) = with_times left.value here.time here.count right.value

-- a fork has its order
abbrev pub IsNode : Node → Type 0
IsNode Leaf = Unit {0}
IsNode (Fork left here split right) = IsFork left.value here.time here.count split right.value
