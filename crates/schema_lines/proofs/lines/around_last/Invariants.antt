use Rattle.std.proofs.Common.{◌≤◌, drop, length}
use Rattle.schema_lines.specs.Words.{Lacks}
use Rattle.schema_lines.proofs.lines.around_last.Given as goal

abbrev pub invariant-loop-end : goal.invariant-loop-end
invariant-loop-end l = record { within : l.end ≤ length l.text; lacks : Lacks l.byte (drop l.end l.text) }

abbrev pub decreases-loop-end : goal.decreases-loop-end
decreases-loop-end l = l.end
