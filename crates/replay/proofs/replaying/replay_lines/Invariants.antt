use Rattle.std.proofs.Common.{map, take}
use Rattle.record_core.specs.Inputs.{input_of}
use Rattle.schedule.specs.LineReader.{command_of}
use Rattle.replay.specs.Hands.{IsHand}
use Rattle.driver.specs.Inputs.{AreInputsOf}
use Rattle.replay.proofs.Runs.{Replayed}
use Rattle.replay.proofs.replaying.replay_lines.Given as goal

abbrev pub invariant-loop-line : goal.invariant-loop-line
invariant-loop-line g l = record {
  inputs : AreInputsOf l.board.shown.graph (map input_of l.inputs);
  hand : IsHand l.board.shown l.hand;
  so_far : Replayed g.V.Views.late l.fn.board l.board l.fn.hand l.hand (map command_of (take l.line-index l.lines)) l.out.items;
}
