use Rattle.std.proofs.Common.{rules, refl}
use Rattle.lexer.specs.declared.mark.Mark.TheVariants as mark
use Rattle.grammar.specs.Phrases.{Unread, Ended}
use Rattle.grammar.specs.Relations as relation
use Rattle.grammar.specs.Texts.{max_height}
use Rattle.parser.specs.Items.{Binds}
use Rattle.parser.proofs.Faults.{denied_with, passed_on}
use Rattle.parser.proofs.Items.{binds_at, no_bound_name, no_bound_equal, unread_bound}
use Rattle.parser.proofs.item.parse_let.Goals as goal

pub returns-in_default-clause-denied : goal.returns-in_default-clause-denied
returns-in_default-clause-denied g c = λ m. no_bound_name _ _ m c.in_default.ensures

pub returns-in_default-after_mark-clause-denied : goal.returns-in_default-after_mark-clause-denied
returns-in_default-after_mark-clause-denied g c = λ m. no_bound_equal _ _ _ _ m c.in-Some.ensures.0 c.in_default-after_mark.ensures

pub returns-in_err-relation-clause-denied : goal.returns-in_err-relation-clause-denied
returns-in_err-relation-clause-denied g c =
    passed_on c.from_residual.result c.in_err-relation.field-0.0 (Unread (Binds c.args.text.now) c.args.tokens.now) max_height (search rules)
    (denied_with (Unread (Ended (relation.Reads c.args.text.now) mark.Semicolon) c.in-Some-after_mark.third.now) (Unread (Binds c.args.text.now) c.args.tokens.now) c.in_err-relation.field-0.0 max_height
    (λ m u. unread_bound _ _ _ _ _ _ m c.in-Some.ensures.0 c.in-Some-after_mark.ensures u) c.in_err-relation.ensures.denied)

pub returns-clause-found : goal.returns-clause-found
returns-clause-found g c = binds_at _ _ _ _ _ _ _ _ _ _ _ _ c.in-Some.ensures.0 c.in-Some.ensures.1 c.in-Some.ensures.2 c.in-Some-after_mark.ensures c.in_ok-relation.ensures.found refl
