use Rattle.expr_tree.specs.Views.{program_tree}
use Rattle.typing.proofs.Programs.{program_checked_typed}
use Rattle.typing.proofs.DecidedPrograms.{says_first_fault}
use Rattle.typing.proofs.program.check.Goals as goal

pub new-requires : goal.new-requires
new-requires g c = program_checked_typed (program_tree c.args.program) c.in-Ok.arities.items c.in-Ok.ensures.ok

pub returns-in-Err-clause-fault : goal.returns-in-Err-clause-fault
returns-in-Err-clause-fault g c = says_first_fault (program_tree c.args.program) c.in-Err.refusal c.in-Err.ensures.err
