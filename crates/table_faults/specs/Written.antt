-- At which faults something may have been written.
use Rattle.table_faults.specs.declared.fault.Fault.{Fault}
use Rattle.table_faults.specs.declared.fault.Fault.TheVariants.{Write, Dictionary}

-- standard output or the dictionary's file failed
abbrev pub IsWriteFault : Fault → Type 0
IsWriteFault Write = Unit {0}
IsWriteFault (Dictionary path busy) = Unit {0}
IsWriteFault _ = ⊥
