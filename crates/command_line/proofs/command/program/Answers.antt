use Rattle.std.proofs.Common.{ap, ◌∙◌, true}
use Rattle.clap.specs.Simple.{app_of_fields}
use Rattle.clap.specs.Words.{App}
use Rattle.command_line.proofs.command.program.Goals as goal

abbrev telling : App → App
telling a = record a { top = record a.top { has_version = true } }

abbrev requiring : App → App
requiring a = record a { top = record a.top { subcommand_required = true } }

pub returns : goal.returns
returns c =
    let told = ap app_of_fields c.version.ensures ∙ ap telling c.new.ensures.app in
    ap app_of_fields c.subcommand_required.ensures ∙ ap requiring (ap app_of_fields c.after_help.ensures ∙ told)
