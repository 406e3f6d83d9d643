use Rattle.std.proofs.Common.{◌≤◌, length, map}
use Rattle.expr_tree.specs.Views.{let_tree}
use Rattle.grammar.specs.Texts.{max_height}
use Rattle.parser.proofs.Items.{LetsOn}
use Rattle.parser.proofs.item.parse_lets.Given as goal

abbrev pub invariant-items : goal.invariant-items
invariant-items g l = record {
  on : LetsOn l.text l.tokens (map let_tree l.lets.items) l.height l.rest;
  low : 1 ≤ l.height;
  most : l.height ≤ max_height;
}

abbrev pub decreases-items : goal.decreases-items
decreases-items g l = length l.rest
