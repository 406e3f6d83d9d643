use Rattle.std.proofs.Common.{arith, rules, ap, ◌+◌}
use Rattle.parser.proofs.Faults.{denied_with, passed_on}
use Rattle.parser.proofs.Conditions.{no_left, no_comparison, no_right, high_compared, compared_at}
use Rattle.parser.proofs.condition.parse_comparison.Goals as goal

pub returns-in_err-left-clause-denied : goal.returns-in_err-left-clause-denied
returns-in_err-left-clause-denied g c =
    passed_on _ c.in_err-left.field-0.0 _ _ (search rules) (denied_with _ _ _ _ (λ m u. no_left _ m c.requires.no_not c.requires.no_square u) c.in_err-left.ensures.denied)

pub returns-in_default-clause-denied : goal.returns-in_default-clause-denied
returns-in_default-clause-denied g c = λ m. no_comparison _ _ m _ _ _ c.requires.no_not c.requires.no_square c.in_ok-left.ensures.found c.in_default.ensures

pub returns-in_err-right-clause-denied : goal.returns-in_err-right-clause-denied
returns-in_err-right-clause-denied g c =
    passed_on _ c.in_err-right.field-0.0 _ _ (search rules) (denied_with _ _ _ _ (λ m u. no_right _ _ _ _ _ _ _ m c.requires.no_not c.requires.no_square c.in_ok-left.ensures.found c.in-Some.ensures.0 u) c.in_err-right.ensures.denied)

pub returns-then-most-eq-MAX_HEIGHT-clause-denied : goal.returns-then-most-eq-MAX_HEIGHT-clause-denied
returns-then-most-eq-MAX_HEIGHT-clause-denied g c = high_compared _ _ _ _ _ _ _ _ _ c.in_ok-left.height c.in_ok-right.other c.args.room c.requires.no_not c.requires.no_square c.in_ok-left.ensures.found c.in-Some.ensures.0 c.in_ok-right.ensures.found (omega arith)

pub returns-clause-found : goal.returns-clause-found
returns-clause-found g c = compared_at _ _ _ _ _ _ _ _ _ _ _ _ _ _ _ c.in_ok-left.ensures.found c.in-Some.ensures.0 c.in-Some.ensures.1 c.in_ok-right.ensures.found c.spanning-extent.ensures c.comparison-condition.ensures (ap (λ v. v + 1) c.max-most.ensures)
