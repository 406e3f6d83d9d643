use Rattle.expr_tree.specs.Plain.{plain_program}
use Rattle.expr_tree.specs.Views.{program_tree}
use Rattle.lowering.proofs.VertexArities.{CountedTo}
use Rattle.lowering.proofs.arities.arities_of.Given as goal

abbrev pub invariant-loop-i : goal.invariant-loop-i
invariant-loop-i g l = CountedTo (plain_program (program_tree l.program)) l.i l.arities.items
