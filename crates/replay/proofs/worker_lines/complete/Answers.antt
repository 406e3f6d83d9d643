use Rattle.board.specs.Overflow.{DoesOverflow}
use Rattle.replay.proofs.Taken.{ended_stays, fault_refused, is_abandoned, is_committed}
use Rattle.replay.proofs.worker_lines.complete.Goals as goal

pub returns-in-Ok-clause-stays : goal.returns-in-Ok-clause-stays
returns-in-Ok-clause-stays g c = ended_stays c.args.board.now.shown c.process.new.board.shown c.args.work.0 c.process.result c.process.ensures.ends c.process.ensures.tables

pub returns-in-Ok-clause-ends : goal.returns-in-Ok-clause-ends
returns-in-Ok-clause-ends g c =
    let ends = c.in-Ok.ensures.ends in
    is_committed g.V.Views.late c.args.board.now c.process.new.board c.args.work.0 ends.1.0 ends.0 ends.1.1 c.in-Ok.ensures.posts
    (ended_stays c.args.board.now.shown c.process.new.board.shown c.args.work.0 c.process.result c.process.ensures.ends c.process.ensures.tables)

pub returns-in-Err-clause-stays : goal.returns-in-Err-clause-stays
returns-in-Err-clause-stays g c = ended_stays c.args.board.now.shown c.process.new.board.shown c.args.work.0 c.process.result c.process.ensures.ends c.process.ensures.tables

pub returns-in-Err-clause-abandoned : goal.returns-in-Err-clause-abandoned
returns-in-Err-clause-abandoned g c =
    is_abandoned c.args.board.now c.process.new.board c.args.work.0 c.in-Err.ensures.ends c.in-Err.ensures.views
    (ended_stays c.args.board.now.shown c.process.new.board.shown c.args.work.0 c.process.result c.process.ensures.ends c.process.ensures.tables)

pub returns-in-Err-clause-refused : goal.returns-in-Err-clause-refused
returns-in-Err-clause-refused g c = fault_refused (DoesOverflow c.args.board.now.shown c.args.work.0) c.in-Err.fault c.from.result c.from.ensures (c.in-Err.ensures.over c.requires.whole)

pub returns-in-Ok-clause-fits : goal.returns-in-Ok-clause-fits
returns-in-Ok-clause-fits g c = c.in-Ok.ensures.fits c.requires.whole
