use Rattle.std.proofs.Common.{◌<◌, arith}
use Rattle.views.specs.Waiting.{IsSeenBy}
use Rattle.board.specs.Seals.{NoneLeftAtAll}
use Rattle.board.proofs.Passing.{passed_next}
use Rattle.board.proofs.passed.passed_from.Goals as goal

pub loop-epoch-init : goal.loop-epoch-init
loop-epoch-init g c e low lt = absurd (omega (arith, low, lt))

pub loop-epoch-preserved : goal.loop-epoch-preserved
loop-epoch-preserved g c e low lt =
    passed_next (λ j. NoneLeftAtAll (g.V.Views.graph c.args.views.now) (λ q. 0 < g.V.Views.content c.args.views.now q) c.args.state.now j
    × NoneLeftAtAll (g.V.Views.graph c.args.views.now) (IsSeenBy (g.V.Views.content c.args.views.now) (g.V.Views.waiting c.args.views.now) (g.V.Views.workers c.args.views.now) 0) c.args.state.now j)
    c.args.from c.loop-epoch.epoch (c.is_over.ensures.there c.if-not-is_over.false, c.is_over.ensures.seen.0 c.if-not-is_over.false) c.loop-epoch.invariant e low lt

pub returns-then-not-is_over-clause-passed : goal.returns-then-not-is_over-clause-passed
returns-then-not-is_over-clause-passed g c e low lt = (c.loop-epoch.invariant e low lt).0

pub returns-then-not-is_over-clause-seen : goal.returns-then-not-is_over-clause-seen
returns-then-not-is_over-clause-seen g c e low lt = (c.loop-epoch.invariant e low lt).1

pub returns-clause-passed : goal.returns-clause-passed
returns-clause-passed g c e low lt =
    let less : e < c.loop-epoch.epoch = (let end = c.loop-epoch-test.false in omega (arith, lt, end)) in
    (c.loop-epoch.invariant e low less).0

pub returns-clause-seen : goal.returns-clause-seen
returns-clause-seen g c e low lt =
    let less : e < c.loop-epoch.epoch = (let end = c.loop-epoch-test.false in omega (arith, lt, end)) in
    (c.loop-epoch.invariant e low less).1
