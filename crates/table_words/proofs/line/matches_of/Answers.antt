use Rattle.std.proofs.Common.{List, ap, map, subst, ◌∙◌, true}
use Rattle.clap.specs.Simple.{app_of_fields}
use Rattle.clap.specs.Words.{App, HasMatchesOf, Text}
use Rattle.command_line.specs.Usages.{with_usages}
use Rattle.table_words.proofs.line.matches_of.Goals as goal

abbrev requiring : App → App
requiring a = record a { top = record a.top { subcommand_required = true } }

pub returns-in-Ok : goal.returns-in-Ok
returns-in-Ok c =
    let words : List Text = map (λ s. s.now) c.args.words.now in
    let top = ap app_of_fields c.subcommand_required-top.ensures ∙ ap requiring c.new.ensures.app in
    let line = c.in_ok-line.ensures ∙ ap (λ a. with_usages a c.args.usages.now) top in
    subst (λ a. HasMatchesOf a words c.in-Ok.found) line c.in-Ok.ensures.matches
