use Rattle.std.proofs.Common.{◌∙◌, sym, refl, arith}
use Rattle.scalar_texts.proofs.Joined.{joined-all, joined-kept}
use Rattle.scalar_texts.proofs.numbers.joined.Goals as goal

pub loop-i-preserved : goal.loop-i-preserved
loop-i-preserved c = λ lt. joined-kept c.args.start c.loop-i.sum c.loop-i.i c.from.result _ c.args.digits.now lt (c.loop-i.invariant lt) c.loop-i-test.true (omega (arith, c.from.ensures, c.saturating_sub-digit.ensures)) refl

pub returns : goal.returns
returns c = λ lt. sym (joined-all c.loop-i.sum c.loop-i.i c.args.digits.now c.loop-i-test.false) ∙ c.loop-i.invariant lt
