use Rattle.expr_tree.specs.Views.{program_tree}
use Rattle.compile.proofs.QueryFaults.{ill_typed}
use Rattle.compile.proofs.typed_program.Goals as goal

pub returns-clause-refusal : goal.returns-clause-refusal
returns-clause-refusal g c = ill_typed c.args.text.now (program_tree c.in-Ok.program) c.in-Err-check.refusal c.in-Ok.ensures.read c.in-Err-check.ensures.fault
