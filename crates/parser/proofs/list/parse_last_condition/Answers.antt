use Rattle.std.proofs.Common.{rules}
use Rattle.lexer.specs.declared.mark.Mark.TheVariants as mark
use Rattle.grammar.specs.declared.level.ConnectiveLevel.TheVariants.{Disjunctions}
use Rattle.grammar.specs.Phrases.{Unread, Ended}
use Rattle.grammar.specs.Conditions.{Chain, ConditionAt}
use Rattle.parser.specs.Conditions as missing
use Rattle.grammar.proofs.Conditions.{one_condition}
use Rattle.parser.proofs.Faults.{denied_with, passed_on}
use Rattle.parser.proofs.Lists.{no_end}
use Rattle.parser.proofs.list.parse_last_condition.Goals as goal

pub returns-in_err-condition-clause-denied : goal.returns-in_err-condition-clause-denied
returns-in_err-condition-clause-denied g c =
    passed_on c.from_residual.result c.in_err-condition.field-0.0 (Unread (Ended ConditionAt mark.CloseRound) c.args.tokens.now) c.args.room (search rules)
    (denied_with (missing.Unread (Chain Disjunctions) c.args.tokens.now) (Unread (Ended ConditionAt mark.CloseRound) c.args.tokens.now) c.in_err-condition.field-0.0 c.args.room (λ m u x h us d. u _ _ _ _ d.1.1) c.in_err-condition.ensures.denied)

pub returns-in_default-clause-denied : goal.returns-in_default-clause-denied
returns-in_default-clause-denied g c = λ m. no_end ConditionAt mark.CloseRound _ _ _ _ m one_condition (_, c.in_ok-condition.ensures.found) c.in_default.ensures
