use Rattle.std.proofs.Common.{◌≡◌}
use Rattle.std.specs.List.{filter}
use Rattle.semantics.specs.Time.{below}
use Rattle.compile.specs.Early.{is_early}
use Rattle.compile.proofs.early.early_inputs.Given as goal

abbrev pub invariant-loop-input : goal.invariant-loop-input
invariant-loop-input l = l.early.items ≡ filter (is_early l.epochs l.inputs) (below l.input)
