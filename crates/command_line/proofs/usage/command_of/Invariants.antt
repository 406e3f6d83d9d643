use Rattle.std.specs.Prelude.{◌≡◌, false, map, take}
use Rattle.clap.specs.Words.{app_of}
use Rattle.clap.specs.declared.builder.Command.TheViews.{out-Command as fields_of}
use Rattle.command_line.specs.Line.{taking}
use Rattle.command_line.specs.Usages.{rule_of_parameter}
use Rattle.command_line.proofs.usage.command_of.Given as goal

abbrev pub invariant-loop-parameter : goal.invariant-loop-parameter
invariant-loop-parameter l =
    (app_of l.command ≡ taking l.usage.name.now (map rule_of_parameter (take l.parameter-index l.usage.parameters.now)))
    × ((fields_of l.command).has_globals ≡ false)
