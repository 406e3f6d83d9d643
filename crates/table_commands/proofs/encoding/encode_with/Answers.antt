use Rattle.std.proofs.Common.{◌++◌, inr}
use Rattle.std.proofs.KnownBytes.{Appends-trans}
use Rattle.table_commands.proofs.Results.{any-err, on-ok}
use Rattle.table_commands.proofs.Streamed.{none-stays}
use Rattle.table_commands.proofs.encoding.encode_with.Goals as goal

pub returns-in_err-draft-clause-fault : goal.returns-in_err-draft-clause-fault
returns-in_err-draft-clause-fault g c = any-err c.from_residual.result (λ e. inr (none-stays c.args.files.end_mark _))

pub returns-in-Ok-clause-written : goal.returns-in-Ok-clause-written
returns-in-Ok-clause-written g c =
    let (begun, has, by) = c.in-Ok.ensures.input in
    on-ok c.write_with.result (λ more. (begun ++ c.in-Ok.made.0.items, by, Appends-trans _ _ _ begun c.in-Ok.made.0.items has more)) c.write_with.ensures.written
