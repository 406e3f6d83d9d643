use Rattle.std.proofs.Common.{◌∷◌, [], arith, length-append}
use Rattle.progress.proofs.Places.{no_bag, no_bag_more}
use Rattle.progress.proofs.located.empty_trees.Goals as goal

pub loop-init : goal.loop-init
loop-init c = rw c.in_ok-trees.ensures.items (record { long = omega arith; empty = no_bag })

pub loop-preserved : goal.loop-preserved
loop-preserved c =
    rw (c.in_ok-push.ensures.items, c.new.ensures) (record {
      long = omega (arith, length-append c.loop.trees.items ([] ∷ []), c.loop.invariant.long);
      empty = no_bag_more c.loop.trees.items c.loop.invariant.empty;
    })
