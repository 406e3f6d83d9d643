use Rattle.std.proofs.Common.{ap}
use Rattle.board.specs.Lateness.{BoardShown}
use Rattle.board.specs.Overflow.{DoesOverflow}
use Rattle.replay.proofs.Inputs.{stays_same}
use Rattle.replay.proofs.Taken.{abandoned_stays, fault_refused, is_abandoned}
use Rattle.replay.proofs.worker_lines.compute.Goals as goal

pub returns-in-Ok-clause-stays : goal.returns-in-Ok-clause-stays
returns-in-Ok-clause-stays g c = stays_same c.args.board.now.shown c.compute.new.board.shown (ap (λ (b : BoardShown). b.shown) c.in-Ok.ensures.kept)

pub returns-in-Err-clause-stays : goal.returns-in-Err-clause-stays
returns-in-Err-clause-stays g c = abandoned_stays c.args.board.now.shown c.compute.new.board.shown c.args.work.0 c.in-Err.ensures.abandoned c.compute.ensures.tables

pub returns-in-Err-clause-abandoned : goal.returns-in-Err-clause-abandoned
returns-in-Err-clause-abandoned g c =
    is_abandoned c.args.board.now c.compute.new.board c.args.work.0 c.in-Err.ensures.abandoned c.compute.ensures.views
    (abandoned_stays c.args.board.now.shown c.compute.new.board.shown c.args.work.0 c.in-Err.ensures.abandoned c.compute.ensures.tables)

pub returns-in-Err-clause-refused : goal.returns-in-Err-clause-refused
returns-in-Err-clause-refused g c = fault_refused (DoesOverflow c.args.board.now.shown c.args.work.0) c.in-Err.fault c.from.result c.from.ensures (c.in-Err.ensures.over c.requires.whole)

pub returns-in-Ok-clause-fits : goal.returns-in-Ok-clause-fits
returns-in-Ok-clause-fits g c = λ holds. c.in-Ok.ensures.fits c.requires.whole holds
