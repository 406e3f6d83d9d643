use Rattle.std.proofs.Common.{◌≡◌}
use Rattle.semantics.specs.Meaning.{repeated}
use Rattle.field_origins.specs.Loops.{turned}
use Rattle.field_origins.specs.Shown.{origins}
use Rattle.field_origins.proofs.loops.settled.Given as goal

-- after so many turns
abbrev pub invariant-loop-turn : goal.invariant-loop-turn
invariant-loop-turn l = origins l.fields.items ≡ repeated (turned l.variable (origins l.turn)) l._turn (origins l.fn.start.items)
