use Rattle.std.proofs.Common.{◌≡◌, ◌≤◌, ◌-◌, suc}
use Rattle.std.specs.List.{list_any}
use Rattle.semantics.specs.Time.{below}
use Rattle.collector.specs.ReadEpochs.{epoch_count}
use Rattle.compile.specs.Early.{is_fed, is_fed_later}
use Rattle.compile.proofs.early.is_fed_later.Given as goal

abbrev pub invariant-loop-left : goal.invariant-loop-left
invariant-loop-left l = is_fed_later l.epochs l.input ≡ list_any (λ n. is_fed l.epochs l.input (suc n)) (below (l.left - 1))

abbrev pub decreases-loop-left : goal.decreases-loop-left
decreases-loop-left l = l.left
