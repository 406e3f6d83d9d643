use Rattle.std.proofs.Common.{rules, FitsSigned}
use Rattle.std.specs.Int.{w64}
use Rattle.std.proofs.lemmas.Int.{to_z-of_z}
use Rattle.normalise.proofs.Folding.{folded_already, operator-folded, negation-folded}
use Rattle.normalise.proofs.scalars.+fold.Goals as goal

pub folded-returns-in-Binary : goal.folded-returns-in-Binary
folded-returns-in-Binary g t c = rw (c.into_parts.ensures, c.in-Binary.is) (operator-folded c.in-Binary.operator _ _ _ _ _ (c.operation.ensures c.folded_in_box-left.ensures.normal c.folded_in_box-right.ensures.normal) c.folded_in_box-left.ensures c.folded_in_box-right.ensures)

pub folded-returns-in-Negate : goal.folded-returns-in-Negate
folded-returns-in-Negate g t c = rw (c.into_parts.ensures, c.in-Negate.is) (negation-folded _ _ _ (c.negation.ensures c.folded_in_box-inner.ensures.normal) c.folded_in_box-inner.ensures)

pub folded-returns-in-Literal : goal.folded-returns-in-Literal
folded-returns-in-Literal g t c =
    let fits : FitsSigned w64 c.in-Literal.number = search rules in
    rw (c.into_parts.ensures, c.in-Literal.is, to_z-of_z w64 c.in-Literal.number fits) (folded_already _ tt)

pub folded-returns-in-Column : goal.folded-returns-in-Column
folded-returns-in-Column g t c = rw (c.into_parts.ensures, c.in-Column.is) (folded_already _ tt)
