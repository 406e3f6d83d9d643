use Rattle.std.proofs.Common.{◌∙◌, ◌∷◌, arith}
use Rattle.board.specs.Answers.{Merges}
use Rattle.board.proofs.gathering.gather.Goals as goal

pub loop-looks-preserved : goal.loop-looks-preserved
loop-looks-preserved g c =
    let m : Merges c.loop-looks.board.shown c.args.worker c.in-Some.next c.merge.new.self.shown = c.merge.ensures.merges c.if-not-merge.false in
    record {
      gathers = (c.in-Some.next ∷ c.loop-looks.invariant.gathers.0, (c.loop-looks.board.shown, c.loop-looks.invariant.gathers.1, m));
      nothing = λ e. absurd cc;
      tables = c.merge.ensures.tables ∙ c.loop-looks.invariant.tables;
      graph = m.2.graph ∙ c.loop-looks.invariant.graph;
      passed = let a = c.merge.ensures.passed in let b = c.loop-looks.invariant.passed in omega (arith, a, b);
      called = λ k e called. (c.merge.ensures.posts c.if-not-merge.false).called k e (c.loop-looks.invariant.called k e called);
    }
