use Rattle.std.proofs.Common.{◌≤◌, length, map}
use Rattle.expr_tree.specs.Views.{scalar_tree}
use Rattle.grammar.specs.Scalars.{ScalarAt}
use Rattle.grammar.specs.Texts.{max_height}
use Rattle.parser.proofs.Lists.{ListOn}
use Rattle.parser.proofs.list.parse_scalars.Given as goal

abbrev pub invariant-items : goal.invariant-items
invariant-items g l = record {
  on : ListOn ScalarAt l.tokens (map scalar_tree l.scalars.items) l.height l.rest;
  shorter : length l.rest ≤ length l.tokens;
  most : l.height ≤ max_height;
}

abbrev pub decreases-items : goal.decreases-items
decreases-items g l = length l.rest
