-- Events that threads compute.
use Rattle.std.specs.Prelude.{◌≡◌, ℕ, List, Some, map, slice_get}
use Rattle.atomic_table.specs.Seated.{TableId}
use Rattle.events.specs.Jobs.{Pass}
use Rattle.follow.specs.declared.slot.Slot.{Slot}
use Rattle.follow.specs.declared.slot.Slot.TheVariants as slot

-- the event, whether it is computed or not
abbrev pub event_in : Slot → Pass
event_in (slot.Claimed w) = w.0
event_in (slot.Computed d) = d
event_in (slot.Refused w fault) = w.0

-- the event is one of a board with these tables
abbrev pub IsSlotOf : List TableId → Slot → Type 0
IsSlotOf tables x = slice_get tables (event_in x).worker ≡ Some (event_in x).table

-- the workers that hold these events
abbrev pub workers_of : List Slot → List ℕ
workers_of xs = map (λ (x : Slot). (event_in x).worker) xs
