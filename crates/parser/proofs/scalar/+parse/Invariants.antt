use Rattle.std.proofs.Common.{◌+◌, ◌*◌, ◌<◌, ◌≤◌, length}
use Rattle.expr_tree.specs.Views.{scalar_tree}
use Rattle.grammar.specs.Texts.{max_height}
use Rattle.parser.proofs.Scalars.{GoesOn, steps}
use Rattle.parser.proofs.scalar.+parse.Given as goal

abbrev pub decreases-parse_atom : goal.decreases-parse_atom
decreases-parse_atom g l = 8 * l.room

abbrev pub decreases-parse_unary : goal.decreases-parse_unary
decreases-parse_unary g l = 8 * l.room + 1

abbrev pub decreases-parse_operand : goal.decreases-parse_operand
decreases-parse_operand g l = 8 * l.room + steps l.level

abbrev pub decreases-parse_chain : goal.decreases-parse_chain
decreases-parse_chain g l = 8 * l.room + steps l.level + 1

abbrev pub invariant-parse_chain-loop-operator : goal.invariant-parse_chain-loop-operator
invariant-parse_chain-loop-operator g l = record {
  on : GoesOn l.level l.tokens (scalar_tree l.left) l.extent l.height l.rest;
  shorter : length l.rest < length l.tokens;
  low : 1 ≤ l.height;
  most : l.height ≤ max_height;
}

abbrev pub decreases-parse_chain-loop-operator : goal.decreases-parse_chain-loop-operator
decreases-parse_chain-loop-operator g l = length l.rest
