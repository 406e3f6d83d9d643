use Rattle.collector.proofs.QuickRows.{NoneBefore}
use Rattle.collector.proofs.quick.quick_row.Given as goal

abbrev pub invariant-loop-i : goal.invariant-loop-i
invariant-loop-i l = NoneBefore l.text l.inputs l.i
