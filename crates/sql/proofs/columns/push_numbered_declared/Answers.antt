use Rattle.sql.specs.Text.{declared_text}
use Rattle.sql.proofs.Texts.{numbered_more, two_texts}
use Rattle.sql.proofs.columns.push_numbered_declared.Goals as goal

pub loop-i-preserved : goal.loop-i-preserved
loop-i-preserved c =
    numbered_more declared_text c.loop-i.i c.args.text.now.items _ _ _ c.loop-i.invariant c.in_ok-push_comma.ensures
    (two_texts _ _ _ _ _ c.in_ok-push_column.ensures c.in_ok-push.ensures)
