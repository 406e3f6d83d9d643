-- The board that an event is of, by the names of the workers' tables.
use Rattle.std.specs.Prelude.{◌≡◌, List, Some, slice_get}
use Rattle.atomic_table.specs.Seated.{TableId}
use Rattle.events.specs.Jobs.{Pass}
use Rattle.board.specs.declared.claimed.Claimed.{Claimed}
use Rattle.board.specs.declared.claimed.Claimed.TheVariants.{Stopped, Busy, Work, Drained, Idle}

-- the event is one of the board with these tables
abbrev pub IsNamed : List TableId → Pass → Type 0
IsNamed names p = slice_get names p.worker ≡ Some p.table

-- so is an event that is handed out
abbrev pub GivesNamed : List TableId → Claimed → Type 0
GivesNamed names Stopped = Unit {0}
GivesNamed names Busy = Unit {0}
GivesNamed names (Work x) = IsNamed names x.0
GivesNamed names Drained = Unit {0}
GivesNamed names Idle = Unit {0}
