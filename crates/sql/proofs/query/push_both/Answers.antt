use Rattle.sql.proofs.Texts.{ends_five}
use Rattle.sql.proofs.query.push_both.Goals as goal

pub returns : goal.returns
returns c =
    ends_five c.push_table-2.result c.args.text.now.items _ _ _ _ _ _ _ _ _ _ c.in_ok-push.ensures c.in_ok-push_table.ensures c.in_ok-push_set_operator.ensures c.in_ok-push-2.ensures c.push_table-2.ensures
