use Rattle.sql.proofs.Texts.{ends_five}
use Rattle.sql.proofs.columns.push_sum.Goals as goal

pub returns : goal.returns
returns c =
    ends_five c.push-4.result c.args.text.now.items _ _ _ _ _ _ _ _ _ _ (rw (c.sum_open.ensures, c.arithmetic.ensures) at c.in_ok-push.ensures) (rw c.operand_open.ensures at c.in_ok-push-2.ensures) c.in_ok-push_column.ensures
    (rw c.operand_close.ensures at c.in_ok-push-3.ensures) (rw (c.sum_close.ensures, c.arithmetic-2.ensures) at c.push-4.ensures)
