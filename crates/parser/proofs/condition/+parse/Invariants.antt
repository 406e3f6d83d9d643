use Rattle.std.proofs.Common.{◌+◌, ◌*◌, ◌<◌, ◌≤◌, length}
use Rattle.expr_tree.specs.Views.{cond_tree}
use Rattle.grammar.specs.Texts.{max_height}
use Rattle.parser.proofs.Conditions.{GoesOn, steps}
use Rattle.parser.proofs.condition.+parse.Given as goal

abbrev pub decreases-parse_square : goal.decreases-parse_square
decreases-parse_square g l = 8 * l.room

abbrev pub decreases-parse_single : goal.decreases-parse_single
decreases-parse_single g l = 8 * l.room + 1

abbrev pub decreases-parse_operand : goal.decreases-parse_operand
decreases-parse_operand g l = 8 * l.room + steps l.level

abbrev pub decreases-parse_condition : goal.decreases-parse_condition
decreases-parse_condition g l = 8 * l.room + steps l.level + 1

abbrev pub invariant-parse_condition-loop-connective : goal.invariant-parse_condition-loop-connective
invariant-parse_condition-loop-connective g l = record {
  on : GoesOn l.level l.tokens (cond_tree l.left) l.extent l.height l.rest;
  shorter : length l.rest < length l.tokens;
  low : 1 ≤ l.height;
  most : l.height ≤ max_height;
}

abbrev pub decreases-parse_condition-loop-connective : goal.decreases-parse_condition-loop-connective
decreases-parse_condition-loop-connective g l = length l.rest
