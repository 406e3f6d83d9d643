-- Which views the workers of a replay have.
use Rattle.std.specs.Prelude.{Bool, true, false}
use Rattle.schedule.specs.declared.verb.ViewKind.{ViewKind}
use Rattle.schedule.specs.declared.verb.ViewKind.TheVariants.{Shared, Local}

-- the workers have views of their own where that is asked for
abbrev pub kind_asked : (views : Bool) → ViewKind
kind_asked true = Local
kind_asked false = Shared
