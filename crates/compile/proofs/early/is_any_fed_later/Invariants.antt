use Rattle.std.proofs.Common.{◌≡◌}
use Rattle.std.specs.List.{list_any}
use Rattle.semantics.specs.Time.{below}
use Rattle.compile.specs.Early.{is_fed_later}
use Rattle.compile.proofs.early.is_any_fed_later.Given as goal

abbrev pub invariant-loop-left : goal.invariant-loop-left
invariant-loop-left l = list_any (is_fed_later l.epochs) (below l.inputs) ≡ list_any (is_fed_later l.epochs) (below l.left)

abbrev pub decreases-loop-left : goal.decreases-loop-left
decreases-loop-left l = l.left
