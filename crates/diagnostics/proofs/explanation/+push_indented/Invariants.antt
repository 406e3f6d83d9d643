use Rattle.std.proofs.Common.{length}
use Rattle.diagnostics.proofs.explanation.+push_indented.Given as goal

abbrev pub decreases-push_indented : goal.decreases-push_indented
decreases-push_indented l = length l.lines.now
