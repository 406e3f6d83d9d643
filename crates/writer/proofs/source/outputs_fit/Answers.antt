use Rattle.std.proofs.Common.{rules, map, ◌≤◌}
use Rattle.expr_tree.specs.Views.{output_tree}
use Rattle.grammar.specs.Texts.{max_height}
use Rattle.writer.specs.Relations.{heights}
use Rattle.writer.specs.Programs.{output_height}
use Rattle.writer.specs.Sources.{Filled, IsOutputSource}
use Rattle.writer.proofs.Checks.{Fits, fails, filled_each, filled_end, filled_to, filled_from}
use Rattle.writer.proofs.source.outputs_fit.Goals as goal

pub returns-then-not-output_fits : goal.returns-then-not-output_fits
returns-then-not-output_fits g c = fails (Fits output_tree IsOutputSource output_height max_height) c.args.outputs.now c.loop-output.output-index c.output-item.result (Filled IsOutputSource (map output_tree c.args.outputs.now) × (heights output_height (map output_tree c.args.outputs.now) ≤ max_height)) c.output_fits.result c.loop-output-test.true c.output-item.is c.output_fits.ensures c.if-not-output_fits.true (λ p. filled_each (Fits output_tree IsOutputSource output_height max_height) c.args.outputs.now (filled_from output_tree IsOutputSource output_height max_height c.args.outputs.now p))

pub returns : goal.returns
returns g c = filled_end (Fits output_tree IsOutputSource output_height max_height) c.args.outputs.now c.loop-output.output-index (Filled IsOutputSource (map output_tree c.args.outputs.now) × (heights output_height (map output_tree c.args.outputs.now) ≤ max_height)) _ c.loop-output-test.false c.loop-output.invariant (search rules) (filled_to output_tree IsOutputSource output_height max_height c.args.outputs.now) (filled_from output_tree IsOutputSource output_height max_height c.args.outputs.now)
