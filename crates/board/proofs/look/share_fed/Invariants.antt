use Rattle.std.proofs.Common.{◌≡◌, [], map, slice_index_or, take}
use Rattle.board.proofs.look.share_fed.Given as goal

abbrev pub invariant-loop-input : goal.invariant-loop-input
invariant-loop-input l = l.fed.items ≡ map (λ i. slice_index_or i.fed l.epoch []) (take l.input-index l.inputs)
