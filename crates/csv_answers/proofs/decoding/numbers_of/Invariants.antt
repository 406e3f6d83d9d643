use Rattle.std.proofs.Common.{◌≡◌, ◌≤◌, drop, take}
use Rattle.csv_answers.proofs.Cut.{Fit, Free}
use Rattle.csv_answers.proofs.Decoded.{begun_text}
use Rattle.csv_answers.proofs.decoding.numbers_of.Given as goal

abbrev pub invariant-loop-end : goal.invariant-loop-end
invariant-loop-end l = record {
  within : l.begin ≤ l.end;
  read : take l.begin l.line ≡ begun_text l.numbers.items;
  free : Free 32 (drop l.begin (take l.end l.line));
  fit : Fit l.numbers.items;
}
