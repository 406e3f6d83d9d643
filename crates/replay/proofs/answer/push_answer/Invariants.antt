use Rattle.graph.specs.Shown.{shown_names}
use Rattle.replay.proofs.Printed.{PrintedSoFar}
use Rattle.replay.proofs.answer.push_answer.Given as goal

abbrev pub invariant-loop-output : goal.invariant-loop-output
invariant-loop-output g l = PrintedSoFar g.V.Views.late l.board (shown_names l.board.shown.graph) l.output l.epoch l.initial.out.items l.out.items
