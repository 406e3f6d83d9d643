-- What commands take, as clap's rules.
use Rattle.std.specs.Prelude.{List, fold, map}
use Rattle.clap.specs.Words.{App, Rule, Text, with_subcommand}
use Rattle.command_line.specs.declared.usage.Form.{Form}
use Rattle.command_line.specs.declared.usage.Form.TheVariants.{Word, OptionalWord, Words, Flag, LetterFlag, Named, RequiredNamed, Number}
use Rattle.command_line.specs.declared.usage.Parameter.{Parameter}
use Rattle.command_line.specs.declared.usage.Usage.{Usage}
use Rattle.command_line.specs.Line.{flag_rule, letter_rule, named_rule, optional_rule, range_rule, required_rule, taking, word_rule, words_rule}

abbrev pub rule_of_form : Text → Form → Rule
rule_of_form id Word = word_rule id
rule_of_form id OptionalWord = optional_rule id
rule_of_form id Words = words_rule id
rule_of_form id Flag = flag_rule id
rule_of_form id (LetterFlag letter) = letter_rule id letter
rule_of_form id (Named value) = named_rule id
rule_of_form id (RequiredNamed value) = required_rule id
rule_of_form id (Number value least most) = range_rule id least most

abbrev pub rule_of_parameter : Parameter → Rule
rule_of_parameter p = rule_of_form p.name.now p.form

abbrev pub app_of_usage : Usage → App
app_of_usage u = taking u.name.now (map rule_of_parameter u.parameters.now)

-- a line with these commands, in turn
abbrev pub with_usages : App → List Usage → App
with_usages line usages = fold (λ a u. with_subcommand a (app_of_usage u).top) line usages
