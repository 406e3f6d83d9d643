use Rattle.std.proofs.Common.{rules}
use Rattle.operators.proofs.Undoing.{plus_keeps, minus_keeps, inverse_keeps}
use Rattle.operators.proofs.determined.is_invertible.Goals as goal

pub returns-in-Add-Literal : goal.returns-in-Add-Literal
returns-in-Add-Literal c = rw c.in-Add-Literal.is-0 (rw c.in-Add-Literal.is-1 (λ _. plus_keeps c.in-Add-Literal.field-1-1))

pub returns-in-Subtract-Literal : goal.returns-in-Subtract-Literal
returns-in-Subtract-Literal c = rw c.in-Subtract-Literal.is-0 (rw c.in-Subtract-Literal.is-1 (λ _. minus_keeps c.in-Subtract-Literal.field-1-1))

pub returns-in-Multiply-Literal : goal.returns-in-Multiply-Literal
returns-in-Multiply-Literal c =
    rw c.in-Multiply-Literal.is-0 (rw c.in-Multiply-Literal.is-1 (λ t. inverse_keeps c.in-Multiply-Literal.number c.inverse.result (search rules) (search rules)))
