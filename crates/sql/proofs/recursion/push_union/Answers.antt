use Rattle.sql.proofs.Texts.{ends_six}
use Rattle.sql.proofs.recursion.push_union.Goals as goal

pub returns : goal.returns
returns g c =
    ends_six c.push_made.result c.args.text.now.items _ _ _ _ _ _ _ _ _ _ _ _ c.in_ok-push.ensures (rw c.dialect.ensures at c.in_ok-push_table.ensures) c.in_ok-push-2.ensures (rw c.table_width.ensures at c.in_ok-push_term.ensures)
    c.in_ok-push-3.ensures (rw c.dialect-2.ensures at c.push_made.ensures)
