use Rattle.std.proofs.Common.{◌≤◌, arith, length}
use Rattle.follow.proofs.TooLong.{not_long, told_long}
use Rattle.follow.proofs.line_stop.is_too_long.Goals as goal

pub returns-then-text-le-MAX_LINE : goal.returns-then-text-le-MAX_LINE
returns-then-text-le-MAX_LINE c = ((λ e. cc e), λ long. absurd (not_long c.args.text.now (omega (arith, c.if-text-le-MAX_LINE.true)) long))

pub returns : goal.returns
returns c =
    let front = c.split_at.ensures.front in
    let within : 369 ≤ length c.args.text.now = omega (arith, c.if-text-le-MAX_LINE.false) in
    rw (← front) at (told_long c.args.text.now c.find.result c.is_none.result within c.is_none.ensures) c.find.ensures.found c.find.ensures.none
