use Rattle.std.proofs.Common.{take}
use Rattle.schema_lines.specs.Words.{Lacks}
use Rattle.schema_lines.proofs.lines.around_first.Given as goal

abbrev pub invariant-loop-place : goal.invariant-loop-place
invariant-loop-place l = Lacks l.byte (take l.place l.text)
