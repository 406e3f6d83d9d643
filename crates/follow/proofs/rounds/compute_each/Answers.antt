use denote.Param.Send.{sendable}
use Rattle.std.proofs.Common.{◌≡◌, ◌∙◌, ap, arith, drop, length, rules}
use Rattle.std.proofs.Crossing.{crosses}
use Rattle.follow.specs.Slots.{workers_of}
use Rattle.follow.proofs.Working.{same_workers, take_first}
use Rattle.follow.proofs.Crossing.{slot_send}
use Rattle.follow.proofs.rounds.compute_each.Goals as goal

pub for_each_mut-requires-send-T : goal.for_each_mut-requires-send-T
for_each_mut-requires-send-T g c κs within = search (sendable, crosses, slot_send) depth 40

pub returns-clause-workers : goal.returns-clause-workers
returns-clause-workers g c =
    let old = c.args.slots.now.items in
    let new = c.for_each_mut.new.s in
    let size : length new ≡ length old = search rules in
    ap workers_of (take_first new (drop (length new) old) c.args.slots.now.len (omega (arith, size, c.args.slots.now.ok.0))) ∙ same_workers old new size (search rules)
