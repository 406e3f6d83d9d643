use Rattle.std.proofs.Common.{◌∙◌, arith}
use Rattle.board.proofs.MailboxRoom.{sides_same, as_many}
use Rattle.board.proofs.delivery.prepare.Goals as goal

pub returns-then-is_err-2-clause-sides : goal.returns-then-is_err-2-clause-sides
returns-then-is_err-2-clause-sides c =
    let many = as_many c.reserve_letters.new.workers.items c.args.workers.now.items c.reserve_letters.ensures.sides in
    sides_same c.reserve_letters.new.workers.items c.args.worker c.reserve_request.new.self c.index_mut.result.now (omega (arith, many, c.requires.there)) c.index_mut.ensures.value c.reserve_request.ensures.side ∙ c.reserve_letters.ensures.sides

pub returns-clause-sides : goal.returns-clause-sides
returns-clause-sides c =
    let many = as_many c.reserve_letters.new.workers.items c.args.workers.now.items c.reserve_letters.ensures.sides in
    sides_same c.reserve_letters.new.workers.items c.args.worker c.reserve_request.new.self c.index_mut.result.now (omega (arith, many, c.requires.there)) c.index_mut.ensures.value c.reserve_request.ensures.side ∙ c.reserve_letters.ensures.sides
