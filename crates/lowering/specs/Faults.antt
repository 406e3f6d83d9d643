-- Which fault is which.
use Rattle.std.specs.Prelude.{ℕ, ◌<◌}
use Rattle.graph.specs.Limits.{max_vertices}
use Rattle.lowering.specs.declared.fault.LowerFault.{LowerFault}
use Rattle.lowering.specs.declared.fault.LowerFault.TheVariants.{TooMany, NoMemory}

-- the fault is that there would be too many vertices
abbrev pub IsTooMany : LowerFault → Type 0
IsTooMany TooMany = Unit {0}
IsTooMany NoMemory = ⊥

-- that fault comes only where there are more than `max_vertices` vertices
pub record IsOver (e : LowerFault) (n : ℕ) : Type 0 where
  pub over : IsTooMany e → max_vertices < n
