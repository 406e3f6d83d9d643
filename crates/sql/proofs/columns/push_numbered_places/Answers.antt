use Rattle.sql.specs.Text.{place_text}
use Rattle.sql.proofs.Texts.{numbered_more}
use Rattle.sql.proofs.columns.push_numbered_places.Goals as goal

pub loop-i-preserved : goal.loop-i-preserved
loop-i-preserved c = numbered_more place_text c.loop-i.i c.args.text.now.items _ _ _ c.loop-i.invariant c.in_ok-push_comma.ensures c.in_ok-push_number.ensures
