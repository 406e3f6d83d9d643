use Rattle.std.proofs.Common.{sym, arith}
use Rattle.lexer.proofs.Marks.{begins, not_there, is_longest, place}
use Rattle.lexer.proofs.mark.Mark.at_front.Goals as goal

pub returns-then-starts_with-clause-found : goal.returns-then-starts_with-clause-found
returns-then-starts_with-clause-found c = is_longest c.args.bytes.now c.loop-mark.mark-index c.loop-mark.invariant (begins c.args.bytes.now c.text.result.now _ c.text.ensures (sym c.if-starts_with.ensures.value))

pub loop-mark-preserved : goal.loop-mark-preserved
loop-mark-preserved c = not_there c.args.bytes.now c.text.result.now c.loop-mark.mark-index c.loop-mark.invariant c.text.ensures (sym c.if-starts_with.ensures.value)

pub returns-clause-none : goal.returns-clause-none
returns-clause-none c = λ m b. let p = place m in c.loop-mark.invariant m p.at (omega (arith, p.small)) p.there b
