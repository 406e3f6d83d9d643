use Rattle.std.proofs.Common.{arith}
use Rattle.lowering.proofs.Gathers.{gathered_one}
use Rattle.lowering.proofs.names.gather_name.Goals as goal

pub returns-in_ok-insert : goal.returns-in_ok-insert
returns-in_ok-insert c = grind (arith, gathered_one)
