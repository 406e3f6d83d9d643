use Rattle.std.proofs.Common.{◌≡◌, ◌<◌, ◌≤◌, ◌+◌, ◌^◌, ◌++◌, length, take}
use Rattle.std.specs.List.{All}
use Rattle.semantics.specs.Limits.{max_loops}
use Rattle.path_summary.specs.Carried.{kept}
use Rattle.path_summary.proofs.summary.Summary.carried.Given as goal

abbrev pub invariant-loop-counter : goal.invariant-loop-counter
invariant-loop-counter l = record {
  items : l.out.items ≡ kept l.fn.self.keep l.fn.self.add l.fn.counters ++ take l.counter-index l.counter-items;
  few : length l.out.items ≤ max_loops + l.counter-index;
  small : All (λ c. c < 2 ^ 33) l.out.items;
}
