use Rattle.std.proofs.Common.{refl, inl}
use Rattle.csv_epochs.proofs.Readings.{none-yet}
use Rattle.csv_epochs.proofs.open.Open.new.Goals as goal

pub returns-clause-kept : goal.returns-clause-kept
returns-clause-kept c = inl (record { stage = refl; body = c.new-2.ensures.items; tail = c.new-3.ensures.items; row = none-yet _ _ _ _ c.new.ensures.items c.new-4.ensures.reading c.new-4.ensures.column })
