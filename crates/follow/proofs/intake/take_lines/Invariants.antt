use Rattle.std.proofs.Common.{◌≤◌, ◌+◌, length, map}
use Rattle.record_core.specs.Inputs.{input_of}
use Rattle.follow.proofs.Lines.{Takes}
use Rattle.follow.proofs.intake.take_lines.Given as goal

abbrev pub invariant-loop-alloc : goal.invariant-loop-alloc
invariant-loop-alloc g l = record {
  takes : Takes l.base l.fn.board.shown l.board.shown l.fn.intake l.intake (map input_of l.inputs) l.text l.rest;
  within : length l.rest ≤ length l.text;
  counted : l.intake.line + length l.rest ≤ l.fn.intake.line + length l.text;
}

abbrev pub decreases-loop-alloc : goal.decreases-loop-alloc
decreases-loop-alloc g l = length l.rest
