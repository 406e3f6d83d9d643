use Rattle.std.proofs.Common.{arith, suc}
use Rattle.std.proofs.lemmas.Option.{slice_get_within}
use Rattle.board.specs.Merging.{AreAlike}
use Rattle.board.proofs.MergedMail.{none_more}
use Rattle.board.proofs.merging.next_alike.Goals as goal

pub loop-place-preserved : goal.loop-place-preserved
loop-place-preserved c = none_more (AreAlike c.args.mailbox.now.messages) c.args.from c.loop-place.place c.loop-place.invariant c.if-are_alike.ensures.alike

pub returns-clause-none : goal.returns-clause-none
returns-clause-none c = λ at l m h.
    let there = slice_get_within c.args.mailbox.now.messages (suc at) h.second h.other in
    c.loop-place.invariant at l (omega (arith, m, there, c.loop-place-test.false)) h
