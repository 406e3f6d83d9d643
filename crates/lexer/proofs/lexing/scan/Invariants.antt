use Rattle.std.proofs.Common.{◌≤◌, ◌-◌, length}
use Rattle.lexer.specs.Tokens.{max_length, LexesTo}
use Rattle.lexer.proofs.lexing.scan.Given as goal

abbrev pub invariant-loop-tokens : goal.invariant-loop-tokens
invariant-loop-tokens g l = record {
  short : length l.text ≤ max_length;
  within : l.at ≤ length l.text;
  so_far : LexesTo l.text 0 l.tokens.items l.at;
}

abbrev pub decreases-loop-tokens : goal.decreases-loop-tokens
decreases-loop-tokens g l = length l.text - l.at
