use Rattle.sql.proofs.Texts.{ends_four}
use Rattle.sql.proofs.query.push_where.Goals as goal

pub returns : goal.returns
returns g c =
    rw (← c.dialect.ensures) (ends_four c.push_cond.result c.args.text.now.items _ _ _ _ _ _ _ _ c.in_ok-push.ensures c.in_ok-push_table.ensures c.in_ok-push-2.ensures c.push_cond.ensures)
