use Rattle.std.proofs.Common.{◌∙◌}
use Rattle.driver.proofs.Graphs.{claimed_graph}
use Rattle.driver.proofs.claiming.claim.Goals as goal

pub returns-clause-claims : goal.returns-clause-claims
returns-clause-claims g c = (c.gather-merged.new.board.shown, c.gather-merged.ensures.gathers, c.claim.ensures.claims)

pub returns-clause-graph : goal.returns-clause-graph
returns-clause-graph g c = claimed_graph c.gather-merged.new.board.shown c.claim.new.self.shown c.args.worker c.claim.result c.claim.ensures.claims ∙ c.gather-merged.ensures.graph
