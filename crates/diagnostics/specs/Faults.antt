-- The statuses of faults.
use Rattle.std.specs.Prelude.{ℕ}
use Rattle.diagnostics.specs.declared.fault.Fault.{Fault}
use Rattle.diagnostics.specs.declared.fault.Fault.TheVariants.{Query, TooManyVertices, Input, Schedule, NoMemory, Count}
use Rattle.diagnostics.specs.declared.fault.Fault.TheVariants.{NoWorker, Incomplete, ReadQuery, ReadInput, Write}

-- 3 of the query, 4 of the input or the schedule, 5 of memory and threads, 6 of files
abbrev pub status_of : Fault → ℕ
status_of (Query code start end) = 3
status_of TooManyVertices = 3
status_of (Input code line) = 4
status_of (Schedule code line) = 4
status_of NoMemory = 5
status_of Count = 5
status_of NoWorker = 5
status_of Incomplete = 5
status_of ReadQuery = 6
status_of ReadInput = 6
status_of Write = 6
