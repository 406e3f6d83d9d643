use Rattle.sql.proofs.Texts.{ends_six}
use Rattle.sql.proofs.recursion.push_recursive.Goals as goal

pub returns : goal.returns
returns g c =
    ends_six c.push_union.result c.args.text.now.items _ _ _ _ _ _ _ _ _ _ _ _ c.in_ok-push_turns.ensures c.in_ok-push.ensures (rw c.dialect.ensures at c.in_ok-push_made.ensures) c.in_ok-push-2.ensures
    (rw c.table_width.ensures at c.in_ok-push_columns.ensures) c.push_union.ensures
