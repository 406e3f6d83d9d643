use Rattle.std.proofs.Common.{◌≤◌, length}
use Rattle.grammar.specs.Relations.{ColumnAt}
use Rattle.parser.proofs.Lists.{OnesOn}
use Rattle.parser.proofs.list.parse_columns.Given as goal

abbrev pub invariant-items : goal.invariant-items
invariant-items g l = record {
  on : OnesOn ColumnAt l.tokens l.columns.items l.rest;
  shorter : length l.rest ≤ length l.tokens;
}

abbrev pub decreases-items : goal.decreases-items
decreases-items g l = length l.rest
