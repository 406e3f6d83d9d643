use Rattle.sql.proofs.Texts.{ends_three}
use Rattle.sql.proofs.recursion.push_turns.Goals as goal

pub returns : goal.returns
returns c = ends_three c.push-2.result c.args.text.now.items _ _ _ _ _ _ c.in_ok-push.ensures c.in_ok-push_number.ensures c.push-2.ensures
