use Rattle.std.proofs.Common.{◌≡◌, ◌≤◌, false}
use Rattle.board.specs.Answers.{Gathers}
use Rattle.board.specs.Lateness.{KeepsCalled}
use Rattle.board.specs.Shown.{tables}
use Rattle.board.proofs.gathering.gather.Given as goal

abbrev pub invariant-loop-looks : goal.invariant-loop-looks
invariant-loop-looks g l = record {
  gathers : Gathers l.fn.board.shown l.worker l.board.shown;
  nothing : l.merged ≡ false → l.board ≡ l.fn.board;
  tables : tables l.board.shown ≡ tables l.fn.board.shown;
  graph : l.board.shown.graph ≡ l.fn.board.shown.graph;
  passed : l.fn.board.passed ≤ l.board.passed;
  called : KeepsCalled l.fn.board l.board;
}
