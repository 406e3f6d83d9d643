use Rattle.expr_tree.specs.Views.{program_tree}
use Rattle.typing.proofs.DecidedPrograms.{well_typed}
use Rattle.typing.proofs.typed.Typed.program.Goals as goal

pub returns-clause-typed : goal.returns-clause-typed
returns-clause-typed g c = well_typed (program_tree c.args.self.now.program) c.args.self.now.arities.items c.args.self.now.typed
