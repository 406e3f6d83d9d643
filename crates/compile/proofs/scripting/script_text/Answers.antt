use Rattle.sql.specs.Asked.{asked_of}
use Rattle.compile.proofs.Scripts.{script_unwritten}
use Rattle.compile.proofs.scripting.script_text.Goals as goal

pub returns-clause-fault : goal.returns-clause-fault
returns-clause-fault g c =
    rw c.query_fault-in-Err-sql_text.ensures
    (script_unwritten (asked_of c.args.request) c.args.query.now _ _ c.in-Err-sql_text.refusal (rw (← c.program.ensures.value) at c.in-Ok.ensures.typed) c.program.ensures.typed c.in-Err-sql_text.ensures.refusal)
