use Rattle.board.specs.Shown.{Side}
use Rattle.board.specs.Steps.{with_mail}
use Rattle.board.proofs.MailboxRoom.{sides_change}
use Rattle.board.proofs.delivery.put_letter.Goals as goal

pub returns-clause-sides : goal.returns-clause-sides
returns-clause-sides c =
    sides_change c.args.workers.now.items c.args.letter.to c.put.new.self c.index_mut.result.now (λ (x : Side). with_mail x c.args.letter.message) c.requires.within c.index_mut.ensures.value
    c.put.ensures.side
