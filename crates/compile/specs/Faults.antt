-- The faults of what the layers below refuse.
use Rattle.record_core.specs.declared.span.Refusal as query_refusal
use Rattle.record_core.specs.declared.span.Refusal.TheVariants as query
use Rattle.collector.specs.declared.refusal.InputRefusal as input_refusal
use Rattle.collector.specs.declared.refusal.InputRefusal.TheVariants as input
use Rattle.compile.specs.declared.fault.CompileFault.{CompileFault}
use Rattle.compile.specs.declared.fault.CompileFault.TheVariants as compile
use Rattle.diagnostics.specs.declared.fault.Fault.{Fault}
use Rattle.diagnostics.specs.declared.fault.Fault.TheVariants.{Query, TooManyVertices, Input, NoMemory}

-- of a refused query
abbrev pub fault_of : query_refusal.Refusal → Fault
fault_of (query.At code span) = Query code span.start span.end
fault_of query.NoMemory = NoMemory

-- of a query text that has no graph
abbrev pub compile_fault_of : query_refusal.Refusal → CompileFault
compile_fault_of (query.At code span) = compile.Query code span
compile_fault_of query.NoMemory = compile.NoMemory

abbrev pub graph_fault_of : CompileFault → Fault
graph_fault_of (compile.Query code span) = Query code span.start span.end
graph_fault_of compile.TooManyVertices = TooManyVertices
graph_fault_of compile.NoMemory = NoMemory

-- of a refused input
abbrev pub input_fault_of : input_refusal.InputRefusal → Fault
input_fault_of (input.At code line) = Input code line
input_fault_of input.NoMemory = NoMemory
