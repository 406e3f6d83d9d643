use Rattle.lowering.proofs.Tables.{last_known, one_forgotten}
use Rattle.lowering.proofs.scope.Scope.forget.Goals as goal

pub invariant_of-self : goal.invariant_of-self
invariant_of-self c = one_forgotten c.self.inside.table.entries c.insert.new.self.entries c.self.inside.bound.items c.pop.new.self.items c.in-Some.last c.self.invariant c.in-Some.ensures.items c.in-Ok.ensures.updates.0

pub unreachable-requires : goal.unreachable-requires
unreachable-requires c = last_known c.self.inside.table.entries c.self.inside.bound.items c.pop.new.self.items c.in-Some.last c.self.invariant c.in-Some.ensures.items c.in-Err.ensures.absent
