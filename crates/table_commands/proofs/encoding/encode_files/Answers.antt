use Rattle.std.proofs.Common.{inr}
use Rattle.table_commands.proofs.Results.{any-err}
use Rattle.table_commands.proofs.Streamed.{none-stays}
use Rattle.table_commands.proofs.encoding.encode_files.Goals as goal

pub returns-in_err-schema-clause-fault : goal.returns-in_err-schema-clause-fault
returns-in_err-schema-clause-fault g c = any-err c.from_residual.result (λ e. inr (none-stays c.args.asked.end_mark _))
