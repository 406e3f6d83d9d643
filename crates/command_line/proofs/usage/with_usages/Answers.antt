use Rattle.std.proofs.Common.{ap, ap₂, ◌∙◌, sym}
use Rattle.std.proofs.lemmas.List.{take_all}
use Rattle.std.proofs.lemmas.List.Sums.{fold_more}
use Rattle.clap.specs.Words.{App, Shape, app_of, with_subcommand}
use Rattle.command_line.specs.Usages.{app_of_usage, with_usages}
use Rattle.command_line.proofs.usage.with_usages.Goals as goal

abbrev top_of : App → Shape
top_of a = a.top

pub loop-usage-preserved : goal.loop-usage-preserved
loop-usage-preserved c =
    c.in_ok-line.ensures.shape c.in_ok-command_of.ensures.local ∙ ap₂ with_subcommand c.loop-usage.invariant (ap top_of c.in_ok-command_of.ensures.app)
    ∙ sym (fold_more (λ a u. with_subcommand a (app_of_usage u).top) (app_of c.args.line) c.args.usages.now c.loop-usage.usage-index _ c.loop-usage-test.true)

pub returns : goal.returns
returns c = c.loop-usage.invariant ∙ ap (with_usages (app_of c.args.line)) (take_all _ c.args.usages.now c.loop-usage-test.false)
