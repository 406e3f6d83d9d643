use Rattle.workers.proofs.Publishing.{counted_then}
use Rattle.workers.proofs.held.publish.Goals as goal

pub returns-clause-applies : goal.returns-clause-applies
returns-clause-applies g c =
    counted_then 0 c.args.board.now c.catch_up.new.self c.publish_seen.new.board c.publish_seen.new.board.passed c.catch_up.ensures.applies c.publish_seen.ensures.kept c.publish_seen.ensures.rises

pub returns-clause-publishes : goal.returns-clause-publishes
returns-clause-publishes g c = c.publish_seen.ensures.publishes c.catch_up.ensures.prompt
