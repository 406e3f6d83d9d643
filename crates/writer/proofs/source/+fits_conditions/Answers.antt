use Rattle.expr_tree.specs.Views.{cond_tree}
use Rattle.writer.specs.Conditions.{cond_height}
use Rattle.writer.specs.Sources.{IsCondSource}
use Rattle.writer.proofs.Sizes.{cond_high, no_room}
use Rattle.writer.proofs.source.+fits_conditions.Goals as goal

pub cond_fits-returns-then-room-eq0 : goal.cond_fits-returns-then-room-eq0
cond_fits-returns-then-room-eq0 g t c = no_room (IsCondSource (cond_tree c.args.condition.now)) (cond_height (cond_tree c.args.condition.now)) c.args.room c.if-room-eq0.true (cond_high (cond_tree c.args.condition.now))
