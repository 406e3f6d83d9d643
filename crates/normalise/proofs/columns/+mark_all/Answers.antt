use Rattle.std.proofs.Common.{rules, ◌<◌, length, arith}
use Rattle.normalise.proofs.Fronts.{plain-front}
use Rattle.normalise.proofs.ColumnMarks.{marks_both, repeats_first, repeats_second}
use Rattle.normalise.proofs.columns.+mark_all.Goals as goal

pub returns-then-mark_columns-clause-marked : goal.returns-then-mark_columns-clause-marked
returns-then-mark_columns-clause-marked g t c h =
    let some : 0 < length c.args.scalars.now = omega arith in
    rw (plain-front c.args.scalars.now c.scalar-item.result some c.scalar-item.is) (marks_both _ _ _ _ _ (c.mark_columns.ensures.marked (search rules)) (c.mark_all.ensures.marked h))

pub returns-then-mark_columns-clause-repeated : goal.returns-then-mark_columns-clause-repeated
returns-then-mark_columns-clause-repeated g t c h =
    let some : 0 < length c.args.scalars.now = omega arith in
    rw (plain-front c.args.scalars.now c.scalar-item.result some c.scalar-item.is)
    (repeats_second _ _ _ _ c.mark_columns.auto.seen (c.mark_columns.ensures.marked (search rules)) (c.mark_all.ensures.repeated h))

pub returns-else-mark_columns-clause-repeated : goal.returns-else-mark_columns-clause-repeated
returns-else-mark_columns-clause-repeated g t c h =
    let some : 0 < length c.args.scalars.now = omega arith in
    rw (plain-front c.args.scalars.now c.scalar-item.result some c.scalar-item.is) (repeats_first _ _ _ (c.mark_columns.ensures.repeated h))
