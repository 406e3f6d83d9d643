use Rattle.sql.proofs.Texts.{ends_seven}
use Rattle.sql.proofs.statement.push_create.Goals as goal

pub returns : goal.returns
returns g c =
    rw (← c.dialect-dialect.ensures) (ends_seven c.push_made_keep.result c.args.text.now.items _ _ _ _ _ _ _ _ _ _ _ _ _ _ (rw c.word.ensures at c.in_ok-push.ensures) c.in_ok-push_made.ensures c.in_ok-push-2.ensures (rw c.table_width-width.ensures at c.in_ok-push_made_columns.ensures)
    c.in_ok-push_made_fill.ensures c.in_ok-push_query.ensures c.push_made_keep.ensures)
