use Rattle.scalar_texts.proofs.LastDigits.{three_pushed}
use Rattle.scalar_texts.proofs.digits.push_three.Goals as goal

pub returns : goal.returns
returns c = three_pushed c.push_digits-3.result c.args.between c.args.out.now.items _ _ _ _ _ _ _ _ c.in_ok-push_digits.ensures c.in_ok-push.ensures.items c.in_ok-push_digits-2.ensures c.in_ok-push-2.ensures.items c.push_digits-3.ensures
