use Rattle.std.proofs.Common.{rules}
use Rattle.normalise.proofs.ColumnMarks.{uses-operator, marks_both, repeats_first, repeats_second}
use Rattle.normalise.proofs.columns.+mark_columns.Goals as goal

pub returns-then-mark_columns-clause-marked : goal.returns-then-mark_columns-clause-marked
returns-then-mark_columns-clause-marked g t c h =
    rw (c.in-Binary.is, uses-operator, ← c.deref.ensures, ← c.deref-then-mark_columns.ensures)
    (marks_both _ _ _ _ _ (c.mark_columns.ensures.marked (search rules)) (c.mark_columns-then-mark_columns.ensures.marked h))

pub returns-then-mark_columns-clause-repeated : goal.returns-then-mark_columns-clause-repeated
returns-then-mark_columns-clause-repeated g t c h =
    rw (c.in-Binary.is, uses-operator, ← c.deref.ensures, ← c.deref-then-mark_columns.ensures)
    (repeats_second _ _ _ _ c.mark_columns.auto.seen (c.mark_columns.ensures.marked (search rules)) (c.mark_columns-then-mark_columns.ensures.repeated h))

pub returns-else-mark_columns-clause-repeated : goal.returns-else-mark_columns-clause-repeated
returns-else-mark_columns-clause-repeated g t c h =
    rw (c.in-Binary.is, uses-operator, ← c.deref.ensures) (repeats_first _ _ _ (c.mark_columns.ensures.repeated h))
