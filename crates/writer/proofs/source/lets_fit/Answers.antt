use Rattle.std.proofs.Common.{map, ◌≤◌}
use Rattle.expr_tree.specs.Views.{let_tree}
use Rattle.grammar.specs.Texts.{max_height}
use Rattle.writer.specs.Programs.{lets_height}
use Rattle.writer.specs.Sources.{Each, IsLetSource}
use Rattle.writer.proofs.Checks.{LetFits, fails, each_end, lets_to, lets_from}
use Rattle.writer.proofs.source.lets_fit.Goals as goal

pub returns-then-not-let_fits : goal.returns-then-not-let_fits
returns-then-not-let_fits g c = fails (LetFits let_tree) c.args.lets.now c.loop-item.item-index c.item-item.result (Each IsLetSource (map let_tree c.args.lets.now) × (lets_height (map let_tree c.args.lets.now) ≤ max_height)) c.let_fits.result c.loop-item-test.true c.item-item.is c.let_fits.ensures c.if-not-let_fits.true (lets_from let_tree c.args.lets.now)

pub returns : goal.returns
returns g c = each_end (LetFits let_tree) c.args.lets.now c.loop-item.item-index (Each IsLetSource (map let_tree c.args.lets.now) × (lets_height (map let_tree c.args.lets.now) ≤ max_height)) c.loop-item-test.false c.loop-item.invariant (lets_to let_tree c.args.lets.now)
