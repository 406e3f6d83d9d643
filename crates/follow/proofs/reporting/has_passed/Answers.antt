use Rattle.std.proofs.Common.{◌≡◌, ◌∙◌, arith, false, sym, true}
use Rattle.follow.proofs.reporting.has_passed.Goals as goal

pub returns-clause-passed : goal.returns-clause-passed
returns-clause-passed g c = λ yes_way k place. c.loop-output.invariant.passed k (omega (arith, place, c.loop-output-test.false, c.loop-output.invariant.end_is))

pub returns-then-not-passed-clause-seen : goal.returns-then-not-passed-clause-seen
returns-then-not-passed-clause-seen g c = λ seen all.
    let yes_way = c.passed.ensures.seen seen (all c.loop-output.output (omega (arith, c.loop-output-test.true, c.loop-output.invariant.end_is))) in
    absurd (let p : true ≡ false = sym yes_way ∙ c.if-not-passed.true in cc)
