use Rattle.sql.proofs.Texts.{ends_six}
use Rattle.sql.proofs.query.push_join.Goals as goal

pub returns : goal.returns
returns c =
    ends_six c.push_pairs.result c.args.text.now.items _ _ _ _ _ _ _ _ _ _ _ _ c.in_ok-push.ensures c.in_ok-push_table.ensures c.in_ok-push-2.ensures c.in_ok-push_table-2.ensures (rw c.join_word.ensures at c.in_ok-push-3.ensures) c.push_pairs.ensures
