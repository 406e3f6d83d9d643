-- What comes of two quantities under an operator of a query.
use Rattle.std.specs.Prelude.{Option}
use Rattle.expr_tree.specs.declared.scalar.Operator.{Operator}
use Rattle.expr_tree.specs.declared.scalar.Operator.TheVariants as operator
use Rattle.kinds.specs.Kinds.{sum, difference, product}
use Rattle.kinds.specs.declared.kind.Quantity.{Quantity}

abbrev pub of_operator : Operator → Quantity → Quantity → Option Quantity
of_operator operator.Add = sum
of_operator operator.Subtract = difference
of_operator operator.Multiply = product
