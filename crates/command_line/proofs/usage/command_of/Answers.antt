use Rattle.std.proofs.Common.{ap, ap₂, ◌∙◌, ◌||◌, map, sym}
use Rattle.std.proofs.lemmas.List.{map_more, take_all}
use Rattle.clap.specs.Simple.{app_of_fields}
use Rattle.clap.specs.Words.{with_rule}
use Rattle.command_line.specs.Line.{taking}
use Rattle.command_line.specs.Usages.{rule_of_parameter}
use Rattle.command_line.proofs.usage.command_of.Goals as goal

pub loop-parameter-init : goal.loop-parameter-init
loop-parameter-init c = (
  ap app_of_fields c.about-command.ensures ∙ c.new.ensures.app,
  ap (λ f. f.has_globals) c.about-command.ensures ∙ c.new.ensures.local,
)

pub loop-parameter-preserved : goal.loop-parameter-preserved
loop-parameter-preserved c =
    let usage = c.args.usage in (
      c.in_ok-command.ensures.shape c.arg_of.ensures.local ∙ ap₂ with_rule c.loop-parameter.invariant.0 c.arg_of.ensures.rule
          ∙ ap (taking usage.name.now) (sym (map_more rule_of_parameter usage.parameters.now c.loop-parameter.parameter-index _ c.loop-parameter-test.true)),
      c.in_ok-command.ensures.globals ∙ ap₂ ◌||◌ c.loop-parameter.invariant.1 c.arg_of.ensures.local,
    )

pub returns-clause-app : goal.returns-clause-app
returns-clause-app c =
    c.loop-parameter.invariant.0 ∙ ap (λ l. taking c.args.usage.name.now (map rule_of_parameter l)) (take_all _ c.args.usage.parameters.now c.loop-parameter-test.false)

pub returns-clause-local : goal.returns-clause-local
returns-clause-local c = c.loop-parameter.invariant.1
