use Rattle.std.proofs.Common.{rules, map, ◌≤◌}
use Rattle.expr_tree.specs.Views.{scalar_tree}
use Rattle.writer.specs.Scalars.{scalar_height}
use Rattle.writer.specs.Relations.{heights}
use Rattle.writer.specs.Sources.{Filled, IsScalarSource}
use Rattle.writer.proofs.Checks.{Fits, fails, filled_each, filled_end, filled_to, filled_from}
use Rattle.writer.proofs.source.scalars_fit.Goals as goal

pub returns-then-not-scalar_fits : goal.returns-then-not-scalar_fits
returns-then-not-scalar_fits g c = fails (Fits scalar_tree IsScalarSource scalar_height c.args.room) c.args.scalars.now c.loop-scalar.scalar-index c.scalar-item.result (Filled IsScalarSource (map scalar_tree c.args.scalars.now) × (heights scalar_height (map scalar_tree c.args.scalars.now) ≤ c.args.room)) c.scalar_fits.result c.loop-scalar-test.true c.scalar-item.is c.scalar_fits.ensures c.if-not-scalar_fits.true (λ p. filled_each (Fits scalar_tree IsScalarSource scalar_height c.args.room) c.args.scalars.now (filled_from scalar_tree IsScalarSource scalar_height c.args.room c.args.scalars.now p))

pub returns : goal.returns
returns g c = filled_end (Fits scalar_tree IsScalarSource scalar_height c.args.room) c.args.scalars.now c.loop-scalar.scalar-index (Filled IsScalarSource (map scalar_tree c.args.scalars.now) × (heights scalar_height (map scalar_tree c.args.scalars.now) ≤ c.args.room)) _ c.loop-scalar-test.false c.loop-scalar.invariant (search rules) (filled_to scalar_tree IsScalarSource scalar_height c.args.room c.args.scalars.now) (filled_from scalar_tree IsScalarSource scalar_height c.args.room c.args.scalars.now)
