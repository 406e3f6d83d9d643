use Rattle.std.proofs.Common.{inr}
use Rattle.table_commands.proofs.Results.{any-err}
use Rattle.table_commands.proofs.Streamed.{none-stays}
use Rattle.table_commands.proofs.encoding.begin_with.Goals as goal

pub returns-in_err-dictionary-clause-fault : goal.returns-in_err-dictionary-clause-fault
returns-in_err-dictionary-clause-fault g c = any-err c.from_residual.result (λ e. inr (none-stays c.args.files.end_mark _))
