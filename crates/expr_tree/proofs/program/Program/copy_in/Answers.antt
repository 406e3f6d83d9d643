use Rattle.std.proofs.Common.{rules}
use Rattle.expr_tree.proofs.program.Program.copy_in.Goals as goal

pub returns : goal.returns
returns g c = search rules
