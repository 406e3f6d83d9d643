use Rattle.std.proofs.Common.{rules, FitsSigned}
use Rattle.std.specs.Int.{w64}
use Rattle.std.proofs.lemmas.Int.{to_z-of_z}
use Rattle.normalise.proofs.Folding.{folded_already, negation-folded}
use Rattle.normalise.proofs.ColumnMarks.{uses-operator}
use Rattle.normalise.proofs.Moved.{once_first, once_second, moves_both, replaced_both}
use Rattle.normalise.proofs.replacement.+replace.Goals as goal

pub replaced-returns-in-Binary-clause-folded : goal.replaced-returns-in-Binary-clause-folded
replaced-returns-in-Binary-clause-folded g t c normal once =
    let each = rw (c.into_parts.ensures, c.in-Binary.is, uses-operator) at once in
    let moved = c.replaced_in_box-left.ensures.moved in
    let left = c.replaced_in_box-left.ensures.folded normal (once_first _ _ each) in
    let right = c.replaced_in_box-right.ensures.folded (moved.normal normal) (once_second _ _ each) in
    rw (c.into_parts.ensures, c.in-Binary.is) (replaced_both c.in-Binary.operator _ _ _ _ _ _ _ (c.operation.ensures left.normal right.normal) left right moved each)

pub replaced-returns-in-Binary-clause-moved : goal.replaced-returns-in-Binary-clause-moved
replaced-returns-in-Binary-clause-moved g t c =
    rw (c.into_parts.ensures, c.in-Binary.is, uses-operator) (moves_both _ _ _ _ _ c.replaced_in_box-left.ensures.moved c.replaced_in_box-right.ensures.moved)

pub replaced-returns-in-Negate-clause-folded : goal.replaced-returns-in-Negate-clause-folded
replaced-returns-in-Negate-clause-folded g t c normal once =
    let inner = c.replaced_in_box-inner.ensures.folded normal (rw (c.into_parts.ensures, c.in-Negate.is) at once) in
    rw (c.into_parts.ensures, c.in-Negate.is) (negation-folded _ _ _ (c.negation.ensures inner.normal) inner)

pub replaced-returns-in-Literal-clause-folded : goal.replaced-returns-in-Literal-clause-folded
replaced-returns-in-Literal-clause-folded g t c normal once =
    let fits : FitsSigned w64 c.in-Literal.number = search rules in
    rw (c.into_parts.ensures, c.in-Literal.is, to_z-of_z w64 c.in-Literal.number fits) (folded_already _ tt)
