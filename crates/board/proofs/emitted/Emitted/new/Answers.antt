use Rattle.std.proofs.Common.{sym, subst, arith}
use Rattle.board.proofs.Outputs.{AreSilent, silent_more, silent_new}
use Rattle.board.proofs.emitted.Emitted.new.Goals as goal

pub loop-made-init : goal.loop-made-init
loop-made-init c = subst (λ es. AreSilent es 0) (sym c.in_ok-lists.ensures.items) silent_new

pub loop-made-preserved : goal.loop-made-preserved
loop-made-preserved c = silent_more c.loop-made.lists.items c.push.new.self.items c.loop-made.made c.new.result c.in_ok-push.ensures.items c.new.ensures c.loop-made.invariant

pub returns-clause-count : goal.returns-clause-count
returns-clause-count c =
    let many = c.loop-made.invariant.many in
    let end = c.loop-made-test.false in
    let most = c.loop-made.auto.made-end in
    omega (arith, many, end, most)

pub returns-clause-none : goal.returns-clause-none
returns-clause-none c = c.loop-made.invariant.none
