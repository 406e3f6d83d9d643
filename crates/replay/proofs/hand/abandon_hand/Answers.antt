use Rattle.replay.proofs.Holding.{last_off}
use Rattle.replay.proofs.hand.abandon_hand.Goals as goal

pub loop-rest-preserved : goal.loop-rest-preserved
loop-rest-preserved g c = last_off c.loop-rest.board.shown c.abandon_done.new.self.shown c.loop-rest.rest.items c.take_last.new.self.items c.take_last.result c.take_last.ensures.items c.abandon_done.ensures.tables c.loop-rest.invariant
