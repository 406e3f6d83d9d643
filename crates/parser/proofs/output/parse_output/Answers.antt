use Rattle.std.proofs.Common.{rules, refl}
use Rattle.lexer.specs.declared.mark.Mark.TheVariants as mark
use Rattle.grammar.specs.Phrases.{Unread, Ended}
use Rattle.grammar.specs.Relations as relation
use Rattle.grammar.specs.Programs.{OutputAt}
use Rattle.grammar.specs.Texts.{max_height}
use Rattle.parser.proofs.Faults.{denied_with, passed_on}
use Rattle.parser.proofs.Outputs.{output_at, no_output_keyword, unread_output}
use Rattle.parser.proofs.output.parse_output.Goals as goal

pub returns-in_default-clause-denied : goal.returns-in_default-clause-denied
returns-in_default-clause-denied g c = λ m. no_output_keyword _ _ m c.in_default.ensures

pub returns-in_err-relation-clause-denied : goal.returns-in_err-relation-clause-denied
returns-in_err-relation-clause-denied g c =
    passed_on c.from_residual.result c.in_err-relation.field-0.0 (Unread (OutputAt c.args.text.now) c.args.tokens.now) max_height (search rules)
    (denied_with (Unread (Ended (relation.Reads c.args.text.now) mark.Semicolon) c.output_name-name.result.2.now) (Unread (OutputAt c.args.text.now) c.args.tokens.now) c.in_err-relation.field-0.0 max_height
    (λ m u. unread_output _ _ _ _ _ _ _ m c.in-Some.ensures c.output_name-name.ensures.found u) c.in_err-relation.ensures.denied)

pub returns-clause-found : goal.returns-clause-found
returns-clause-found g c = output_at _ _ _ _ _ _ _ _ _ _ _ _ c.in-Some.ensures c.output_name-name.ensures.found c.in_ok-relation.ensures.found refl
