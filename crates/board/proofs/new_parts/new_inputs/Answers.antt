use Rattle.std.proofs.Common.{◌∷◌, [], arith, length-append}
use Rattle.board.specs.Shown.{no_input}
use Rattle.board.proofs.Growing.{all_same_more, nothing_there}
use Rattle.board.proofs.new_parts.new_inputs.Goals as goal

pub loop-init : goal.loop-init
loop-init c = rw c.in_ok-inputs.ensures.items (record { long = omega arith; unfed = nothing_there no_input })

pub loop-preserved : goal.loop-preserved
loop-preserved c =
    rw (c.in_ok-push.ensures.items, c.new.ensures) (record {
      long = omega (arith, length-append c.loop.inputs.items (no_input ∷ []), c.loop.invariant.long);
      unfed = all_same_more c.loop.inputs.items no_input c.loop.invariant.unfed;
    })
