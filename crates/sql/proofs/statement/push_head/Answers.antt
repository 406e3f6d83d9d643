use Rattle.sql.proofs.Texts.{ends_six}
use Rattle.sql.proofs.statement.push_head.Goals as goal

pub returns : goal.returns
returns c =
    ends_six c.push-5.result c.args.text.now.items _ _ _ _ _ _ _ _ _ _ _ _ c.in_ok-push.ensures (rw (c.database_name.ensures, c.dialect-dialect.ensures) at c.in_ok-push-2.ensures) (rw c.reads_text.ensures at c.in_ok-push-3.ensures)
    (rw c.dialect-dialect.ensures at c.in_ok-push_inputs.ensures) (rw (c.promise_text.ensures, c.arithmetic.ensures) at c.in_ok-push-4.ensures) (rw (c.opening_text.ensures, c.layout.ensures, c.dialect-dialect.ensures) at c.push-5.ensures)
