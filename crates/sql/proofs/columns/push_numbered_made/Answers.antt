use Rattle.sql.specs.Text.{made_column_text}
use Rattle.sql.proofs.Texts.{numbered_more}
use Rattle.sql.proofs.columns.push_numbered_made.Goals as goal

pub loop-i-preserved : goal.loop-i-preserved
loop-i-preserved c = numbered_more (made_column_text c.args.dialect) c.loop-i.i c.args.text.now.items _ _ _ c.loop-i.invariant c.in_ok-push_comma.ensures c.in_ok-push_made_column.ensures
