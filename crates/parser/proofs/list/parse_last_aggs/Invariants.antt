use Rattle.std.proofs.Common.{◌≤◌, length}
use Rattle.grammar.specs.Relations.{AggAt}
use Rattle.parser.proofs.Lists.{OnesOn}
use Rattle.parser.proofs.list.parse_last_aggs.Given as goal

abbrev pub invariant-items : goal.invariant-items
invariant-items g l = record {
  on : OnesOn AggAt l.tokens l.aggs.items l.rest;
  shorter : length l.rest ≤ length l.tokens;
}

abbrev pub decreases-items : goal.decreases-items
decreases-items g l = length l.rest
