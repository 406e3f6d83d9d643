-- The faults of what the layers below refuse.
use Rattle.schedule.specs.declared.refusal.ScheduleRefusal as schedule_refusal
use Rattle.schedule.specs.declared.refusal.ScheduleRefusal.TheVariants as schedule
use Rattle.execution.specs.declared.unfinished.Unfinished.{Unfinished}
use Rattle.execution.specs.declared.unfinished.Unfinished.TheVariants as run
use Rattle.follow.specs.declared.outcome.Ending.{Ending}
use Rattle.follow.specs.declared.outcome.Ending.TheVariants as ending
use Rattle.diagnostics.specs.declared.fault.Fault.{Fault}
use Rattle.diagnostics.specs.declared.fault.Fault.TheVariants.{Input, Schedule, NoMemory, Count, Incomplete, ReadInput, Write}

-- of a refused schedule
abbrev pub schedule_fault_of : schedule_refusal.ScheduleRefusal → Fault
schedule_fault_of (schedule.At code line) = Schedule code line
schedule_fault_of schedule.NoMemory = NoMemory

-- of a run that came to no end, though all of its threads were started
abbrev pub run_fault_of : Unfinished → Fault
run_fault_of run.NoMemory = NoMemory
run_fault_of run.Count = Count
run_fault_of run.NoWorker = Incomplete
run_fault_of run.Incomplete = Incomplete

-- of following that ended before the whole input was answered
abbrev pub follow_fault_of : Ending → Fault
follow_fault_of (ending.Input code line) = Input code line
follow_fault_of ending.Read = ReadInput
follow_fault_of ending.Write = Write
follow_fault_of ending.NoMemory = NoMemory
follow_fault_of ending.Count = Count
follow_fault_of ending.TooLong = Incomplete
