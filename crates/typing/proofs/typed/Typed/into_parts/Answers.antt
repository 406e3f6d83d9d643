use Rattle.expr_tree.specs.Views.{program_tree}
use Rattle.typing.proofs.DecidedPrograms.{well_typed}
use Rattle.typing.proofs.typed.Typed.into_parts.Goals as goal

pub returns-clause-typed : goal.returns-clause-typed
returns-clause-typed g c = well_typed (program_tree c.args.self.program) c.args.self.arities.items c.args.self.typed
