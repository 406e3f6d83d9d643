use Rattle.sql.proofs.Texts.{ends_six}
use Rattle.sql.proofs.statement.push_result.Goals as goal

pub returns : goal.returns
returns c =
    ends_six c.push-3.result c.args.text.now.items _ _ _ _ _ _ _ _ _ _ _ _ (rw c.layout.ensures at c.in_ok-push_row_title.ensures) c.in_ok-push.ensures
    (rw c.dialect.ensures at c.in_ok-push_table.ensures) c.in_ok-push-2.ensures c.in_ok-push_places.ensures c.push-3.ensures
