-- What vertices do to times.
use Rattle.std.specs.Prelude.{◌<◌, ◌-◌, ◌^◌, length}
use Rattle.semantics.specs.Limits.{max_loops}
use Rattle.semantics.specs.Time as semantics
use Rattle.semantics.specs.Time.{last}
use Rattle.loop_context.specs.declared.action.Action.{Action}
use Rattle.loop_context.specs.declared.action.Action.TheVariants.{Stay, Enter, Leave, Next}

-- the action, in the definition's terms
abbrev pub action_of : Action → semantics.Action
action_of Stay = semantics.Action.stay
action_of Enter = semantics.Action.enter
action_of Leave = semantics.Action.leave
action_of Next = semantics.Action.next

-- the action can take the time in memory: a leave and a next have a counter, and the time after has at most `max_loops` counters, each below 2^32
abbrev pub CanTake : semantics.Action → semantics.Time → Type 0
CanTake semantics.Action.stay t = Unit {0}
CanTake semantics.Action.enter t = length t.counters < max_loops
CanTake semantics.Action.leave t = 0 < length t.counters
CanTake semantics.Action.next t = (0 < length t.counters) × (last t.counters < 2 ^ 32 - 1)
