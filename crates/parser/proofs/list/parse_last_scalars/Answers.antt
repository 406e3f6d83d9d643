use Rattle.std.proofs.Common.{rules}
use Rattle.lexer.specs.declared.mark.Mark.TheVariants as mark
use Rattle.grammar.specs.Phrases.{Listed}
use Rattle.grammar.specs.Scalars.{ScalarAt}
use Rattle.grammar.proofs.Scalars.{one_scalar}
use Rattle.grammar.proofs.Phrases.{one_list}
use Rattle.parser.proofs.Faults.{denied_with, passed_on}
use Rattle.parser.proofs.Lists.{no_end, unread_ended}
use Rattle.parser.proofs.list.parse_last_scalars.Goals as goal

pub returns-in_err-scalars-clause-denied : goal.returns-in_err-scalars-clause-denied
returns-in_err-scalars-clause-denied g c =
    passed_on c.from_residual.result c.in_err-scalars.field-0.0 _ _ (search rules) (denied_with _ _ _ _ (λ m u. unread_ended (Listed ScalarAt) mark.CloseRound _ m u) c.in_err-scalars.ensures.denied)

pub returns-in_default-clause-denied : goal.returns-in_default-clause-denied
returns-in_default-clause-denied g c = λ m. no_end (Listed ScalarAt) mark.CloseRound _ _ _ _ m (one_list ScalarAt one_scalar) c.in_ok-scalars.ensures.found c.in_default.ensures
