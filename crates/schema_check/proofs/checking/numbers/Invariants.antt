use Rattle.std.proofs.Common.{◌≡◌, ◌++◌, length, drop}
use Rattle.schema_check.specs.Checked.{numbers_from}
use Rattle.schema_check.proofs.checking.numbers.Given as goal

-- the numbers so far, and those of what is left
abbrev pub invariant-loop-constant : goal.invariant-loop-constant
invariant-loop-constant l = record {
  so_far : length l.numbers.items ≡ l._constant-index;
  all : numbers_from 0 l.constants ≡ l.numbers.items ++ numbers_from l._constant-index (drop l._constant-index l.constants);
}
