use Rattle.std.proofs.Common.{◌≡◌, subst, sym}
use Rattle.board.specs.Promises.{CountsPassed}
use Rattle.driver.specs.Tallies.{IsTally}
use Rattle.workers.specs.Held.{IsHeld}
use Rattle.workers.specs.Tokens.{Token}
use Rattle.workers.proofs.held.Held.observe.Goals as goal

pub invariant_of-self : goal.invariant_of-self
invariant_of-self g c =
    subst (λ (p : Token). IsHeld g.J.Naming.names g.J.Naming.graph c.self.inside.board p.number × (p.table ≡ g.J.Naming.mark)
    × IsTally g.J.Naming.first c.self.inside.board.shown c.self.inside.counters.tally) (sym c.show.ensures.publisher) c.self.invariant

pub returns-clause-counts : goal.returns-clause-counts
returns-clause-counts g c = subst (CountsPassed c.self.inside.board.shown) (sym c.show.ensures.read.0) c.self.invariant.0.published

pub returns-clause-passed : goal.returns-clause-passed
returns-clause-passed g c = c.law_count.ensures.below c.show.result (subst (CountsPassed c.self.inside.board.shown) (sym c.show.ensures.read.0) c.self.invariant.0.published)
