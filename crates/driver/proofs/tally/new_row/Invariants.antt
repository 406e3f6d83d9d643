use Rattle.std.proofs.Common.{◌≡◌, length}
use Rattle.driver.specs.Tallies.{Covers, IsZero}
use Rattle.driver.proofs.tally.new_row.Given as goal

abbrev pub invariant-row : goal.invariant-row
invariant-row l = record {
  zero : IsZero l.row.items;
  full : Covers l.row.items l._worker;
  many : l._worker ≡ length l.row.items;
}
