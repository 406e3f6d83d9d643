use Rattle.std.proofs.Common.{◌≡◌, ◌<◌, ◌^◌, drop}
use Rattle.scalar_texts.specs.Numbers.{joined}
use Rattle.scalar_texts.proofs.numbers.joined.Given as goal

-- the digits that are left make of the number so far what all make of the first
abbrev pub invariant-loop-i : goal.invariant-loop-i
invariant-loop-i l = joined l.start l.digits < 2 ^ 64 → joined l.sum (drop l.i l.digits) ≡ joined l.start l.digits
