use Rattle.std.proofs.Common.{◌≡◌, sym, ap, ◌∙◌, subst, arith, length, take, List}
use Rattle.std.proofs.lemmas.List.{take_all}
use Rattle.events.specs.declared.letter.Letter.{Letter}
use Rattle.board.proofs.MailboxRoom.{AllRoom, sides_same, as_many, letter_there, reserved_next, has_room}
use Rattle.board.proofs.delivery.reserve_letters.Goals as goal

pub returns-in_err-reserve_mail-clause-sides : goal.returns-in_err-reserve_mail-clause-sides
returns-in_err-reserve_mail-clause-sides c =
    let many = as_many c.loop-i.workers.items c.args.workers.now.items c.loop-i.invariant.sides in
    let there = letter_there (length c.args.workers.now.items) c.args.letters.now c.loop-i.i _ c.index-letters-i.result c.requires c.loop-i-test.true c.index-letters-i.is (ap (λ (l : Letter). l.to) (sym c.index-letters-i.is)) in
    sides_same c.loop-i.workers.items _ c.reserve_mail.new.self c.index_mut.result.now (omega (arith, there, many)) c.index_mut.ensures.value c.reserve_mail.ensures.side ∙ c.loop-i.invariant.sides

pub loop-i-preserved : goal.loop-i-preserved
loop-i-preserved c =
    let many = as_many c.loop-i.workers.items c.args.workers.now.items c.loop-i.invariant.sides in
    let there = letter_there (length c.args.workers.now.items) c.args.letters.now c.loop-i.i _ c.index-letters-i.result c.requires c.loop-i-test.true c.index-letters-i.is (ap (λ (l : Letter). l.to) (sym c.index-letters-i.is)) in
    record {
      sides = sides_same c.loop-i.workers.items _ c.reserve_mail.new.self c.index_mut.result.now (omega (arith, there, many)) c.index_mut.ensures.value c.reserve_mail.ensures.side ∙ c.loop-i.invariant.sides;
      room = reserved_next (length c.args.letters.now) c.loop-i.workers.items c.args.letters.now c.loop-i.i _ c.index-letters-i.result c.reserve_mail.new.self c.index_mut.result.now (omega (arith, there, many)) (ap (λ (l : Letter). l.to) (sym c.index-letters-i.is)) c.loop-i-test.true c.index-letters-i.is (c.in_ok-reserve_mail.ensures.room) c.loop-i.invariant.room;
    }

pub returns-clause-room : goal.returns-clause-room
returns-clause-room c =
    let all : take c.loop-i.i c.args.letters.now ≡ c.args.letters.now = take_all c.loop-i.i c.args.letters.now (omega (arith, c.loop-i-test.false)) in
    let P : List Letter → Type 0 = λ ls. AllRoom (length c.args.letters.now) c.loop-i.workers.items ls in
    has_room (length c.args.letters.now) c.loop-i.workers.items c.args.letters.now (omega arith) (subst P all c.loop-i.invariant.room)
