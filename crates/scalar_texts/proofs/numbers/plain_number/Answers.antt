use Rattle.std.proofs.Common.{rules, ◌≤◌, get_or}
use Rattle.scalar_texts.proofs.Spelled.{plain-made}
use Rattle.scalar_texts.proofs.numbers.plain_number.Goals as goal

pub returns-in-49-to-57 : goal.returns-in-49-to-57
returns-in-49-to-57 c =
    let low : 49 ≤ get_or c.args.text.now 0 0 = search rules in
    let high : get_or c.args.text.now 0 0 ≤ 57 = search rules in
    plain-made c.args.text.now c.from.result c.with_digits.result c.in-49-to-57.len_at_least c.from.ensures low high c.with_digits.ensures
