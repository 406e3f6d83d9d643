use Rattle.std.proofs.Common.{◌≡◌, ◌-◌, ◌++◌}
use Rattle.collector.specs.Marks.{given_of, has_to_end}
use Rattle.collector.proofs.end_mark.Marked.read_marked.Given as goal

abbrev pub invariant-turns : goal.invariant-turns
invariant-turns g l = record { given : given_of l.self ≡ given_of l.fn.self; marked : has_to_end l.self ≡ has_to_end l.fn.self }

abbrev pub decreases-turns : goal.decreases-turns
decreases-turns g l = 4 - l.self.held
