use Rattle.std.proofs.Common.{subst, sym}
use Rattle.driver.specs.Tallies.{IsTally, Rows}
use Rattle.workers.proofs.engine.Engine.new.Goals as goal

pub counting-requires-clause-counts : goal.counting-requires-clause-counts
counting-requires-clause-counts g c =
    subst (λ (rows : Rows). IsTally g.J.Naming.first c.args.board.shown rows) (sym c.new-counters.ensures) (c.none.ensures.begins g.J.Naming.first c.args.board.shown)
