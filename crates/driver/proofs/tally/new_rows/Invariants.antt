use Rattle.std.proofs.Common.{◌≡◌, length, map}
use Rattle.driver.specs.Tallies.{AreZero, CoversAll}
use Rattle.driver.proofs.tally.new_rows.Given as goal

abbrev pub invariant-rows : goal.invariant-rows
invariant-rows l = record {
  zero : AreZero (map (λ row. row.items) l.rows.items);
  full : CoversAll (map (λ row. row.items) l.rows.items) l._vertex l.workers;
  many : l._vertex ≡ length l.rows.items;
}
