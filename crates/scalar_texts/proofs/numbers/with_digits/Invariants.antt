use Rattle.std.proofs.Common.{◌≡◌, ◌<◌, ◌++◌, decimal, take}
use Rattle.scalar_texts.proofs.numbers.with_digits.Given as goal

-- the digits so far are of the number so far
abbrev pub invariant-loop-i : goal.invariant-loop-i
invariant-loop-i l = record { some : 0 < l.sum; spelled : decimal l.sum ≡ decimal l.start ++ take l.i l.digits }
