use Rattle.std.proofs.Common.{List, ap, ◌∙◌}
use Rattle.board.specs.Shown.{Side}
use Rattle.board.specs.Steps.{delivered, settled}
use Rattle.board.proofs.MailboxRoom.{sides_change}
use Rattle.board.proofs.delivery.finish.Goals as goal

pub returns-clause-sides : goal.returns-clause-sides
returns-clause-sides c =
    c.deliver.ensures.sides
    ∙ ap (λ (xs : List Side). delivered xs c.args.output.sent.items)
    (sides_change c.args.workers.now.items c.args.worker c.settle.new.self c.index_mut.result.now (λ (x : Side). settled x c.args.vertex c.args.output.shard.value c.args.output.asked) c.requires.there c.index_mut.ensures.value c.settle.ensures.side)
