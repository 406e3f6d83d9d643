use Rattle.std.proofs.Common.{◌≤◌, length, map}
use Rattle.expr_tree.specs.Views.{output_tree}
use Rattle.grammar.specs.Texts.{max_height}
use Rattle.parser.proofs.Outputs.{OutputsOn}
use Rattle.parser.proofs.output.parse_outputs.Given as goal

abbrev pub invariant-items : goal.invariant-items
invariant-items g l = record {
  on : OutputsOn l.text l.tokens (map output_tree l.outputs.items) l.height l.rest;
  most : l.height ≤ max_height;
}

abbrev pub decreases-items : goal.decreases-items
decreases-items g l = length l.rest
