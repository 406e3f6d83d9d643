use Rattle.sql.specs.Text.{column_text}
use Rattle.sql.proofs.Texts.{numbered_more}
use Rattle.sql.proofs.columns.push_numbered_columns.Goals as goal

pub loop-i-preserved : goal.loop-i-preserved
loop-i-preserved c = numbered_more column_text c.loop-i.i c.args.text.now.items _ _ _ c.loop-i.invariant c.in_ok-push_comma.ensures c.in_ok-push_column.ensures
