use Rattle.std.proofs.Common.{rules, ◌≡◌, ◌-◌, suc}
use Rattle.scalar_texts.proofs.LastDigits.{digit_pushed}
use Rattle.scalar_texts.proofs.digits.+push_digits.Goals as goal

pub returns : goal.returns
returns t c =
    let less : c.args.count ≡ suc (c.args.count - 1) = search (rules, c.if-count-eq0.false) in
    digit_pushed c.args.count c.args.n (c.args.count - 1) c.digit.result c.args.out.now.items c.push_digits.new.out.items c.push.new.self.items less c.in_ok-push_digits.ensures c.digit.ensures c.in_ok-push.ensures.items
