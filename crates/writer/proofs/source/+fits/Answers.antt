use Rattle.expr_tree.specs.Views.{scalar_tree}
use Rattle.writer.specs.Scalars.{scalar_height}
use Rattle.writer.specs.Sources.{IsScalarSource}
use Rattle.writer.proofs.Sizes.{scalar_high, no_room}
use Rattle.writer.proofs.source.+fits.Goals as goal

pub scalar_fits-returns-then-room-eq0 : goal.scalar_fits-returns-then-room-eq0
scalar_fits-returns-then-room-eq0 g t c = no_room (IsScalarSource (scalar_tree c.args.scalar.now)) (scalar_height (scalar_tree c.args.scalar.now)) c.args.room c.if-room-eq0.true (scalar_high (scalar_tree c.args.scalar.now))
