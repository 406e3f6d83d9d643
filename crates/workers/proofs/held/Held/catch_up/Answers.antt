use Rattle.workers.proofs.Counting.{tally_same}
use Rattle.workers.proofs.Publishing.{after_catching_up}
use Rattle.workers.proofs.held.Held.catch_up.Goals as goal

pub invariant_of-self : goal.invariant_of-self
invariant_of-self g c = (after_catching_up g.J.Naming.names g.J.Naming.graph c.self.inside.board c.self.inside.publisher.number c.self.invariant.0 c.args.worker c.catch_up.new.self c.catch_up.ensures.shown c.catch_up.ensures.known c.catch_up.ensures.applies, c.self.invariant.1, tally_same g.J.Naming.first c.self.inside.board.shown c.self.inside.counters.tally c.self.invariant.2 c.catch_up.new.self.shown c.catch_up.ensures.shown)
