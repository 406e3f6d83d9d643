-- A fault's status is none of a run that ended well.
use Rattle.std.proofs.Common.{◌<◌, arith}
use Rattle.diagnostics.specs.Faults.{status_of}
use Rattle.diagnostics.specs.declared.fault.Fault.{Fault}
use Rattle.diagnostics.specs.declared.fault.Fault.TheVariants.{Query, TooManyVertices, Input, Schedule, NoMemory, Count}
use Rattle.diagnostics.specs.declared.fault.Fault.TheVariants.{NoWorker, Incomplete, ReadQuery, ReadInput, Write}

pub above_zero : (fault : Fault) → 0 < status_of fault
above_zero (Query code start end) = omega arith
above_zero TooManyVertices = omega arith
above_zero (Input code line) = omega arith
above_zero (Schedule code line) = omega arith
above_zero NoMemory = omega arith
above_zero Count = omega arith
above_zero NoWorker = omega arith
above_zero Incomplete = omega arith
above_zero ReadQuery = omega arith
above_zero ReadInput = omega arith
above_zero Write = omega arith
