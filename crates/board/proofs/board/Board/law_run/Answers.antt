use Rattle.std.proofs.Common.{ap, subst}
use Rattle.board.specs.Lateness.{BoardShown}
use Rattle.board.specs.Reached.{IsReached}
use Rattle.board.proofs.board.Board.law_run.Goals as goal

pub returns : goal.returns
returns g c =
    let kept = c.self.invariant.kept in
    subst IsReached (ap (λ (b : BoardShown). b.shown) c.self.view_is) (record {
      flows = kept.flows;
      some = kept.some;
      steps = kept.steps;
      world = kept.world;
      run = kept.run;
      shows = kept.shows;
    })
