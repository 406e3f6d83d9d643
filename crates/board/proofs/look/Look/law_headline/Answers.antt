use Rattle.std.proofs.Common.{subst}
use Rattle.board.specs.Looks.{IsPromised}
use Rattle.board.proofs.look.Look.law_headline.Goals as goal

pub returns : goal.returns
returns c = subst IsPromised c.self.view_is c.self.invariant
