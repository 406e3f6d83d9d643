use Rattle.replay.proofs.Taken.{ended_stays, is_committed}
use Rattle.replay.proofs.worker_lines.end.Goals as goal

pub returns-in-Ok-clause-stays : goal.returns-in-Ok-clause-stays
returns-in-Ok-clause-stays g c = ended_stays c.args.board.now.shown c.commit.new.board.shown c.args.done c.commit.result c.commit.ensures.ends c.commit.ensures.tables

pub returns-in-Ok-clause-ends : goal.returns-in-Ok-clause-ends
returns-in-Ok-clause-ends g c =
    let ends = c.in-Ok.ensures.ends in
    is_committed g.V.Views.late c.args.board.now c.commit.new.board c.args.done ends.1.0 ends.0 ends.1.1 c.in-Ok.ensures.posts
    (ended_stays c.args.board.now.shown c.commit.new.board.shown c.args.done c.commit.result c.commit.ensures.ends c.commit.ensures.tables)

pub returns-in-Err-clause-stays : goal.returns-in-Err-clause-stays
returns-in-Err-clause-stays g c = ended_stays c.args.board.now.shown c.commit.new.board.shown c.args.done c.commit.result c.commit.ensures.ends c.commit.ensures.tables
