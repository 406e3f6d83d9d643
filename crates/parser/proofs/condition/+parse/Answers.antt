use Rattle.std.proofs.Common.{arith, rules, refl, ap, ◌+◌, ◌≤◌}
use Rattle.std.proofs.lemmas.Result.{IfOk-weaker, IfErr-weaker}
use Rattle.grammar.specs.Conditions.{stop, bracketed}
use Rattle.parser.proofs.Faults.{denied_with, denied_around, passed_on, shorter_at}
use Rattle.parser.proofs.Conditions.{square_at, unread_inner, high_square, no_close, negated_at, unread_not, unread_square, begins, unread_chain, goes_on, no_operand, high_operand}
use Rattle.parser.proofs.condition.+parse.Goals as goal

pub parse_square-returns-in_err-condition-clause-denied : goal.parse_square-returns-in_err-condition-clause-denied
parse_square-returns-in_err-condition-clause-denied g t c =
    passed_on _ c.in_err-condition.field-0.0 _ _ (search rules) (denied_around _ _ _ _ _ (omega arith) (λ m l e u. unread_inner _ _ _ _ _ c.in-Some.ensures e u) c.in_err-condition.ensures.denied)

pub parse_square-returns-in_default-after_mark-clause-denied : goal.parse_square-returns-in_default-after_mark-clause-denied
parse_square-returns-in_default-after_mark-clause-denied g t c = λ m.
    no_close _ _ _ _ _ _ _ m c.in-Some.ensures c.in_ok-condition.ensures.found c.in_default-after_mark.ensures

pub parse_square-returns-then-height-eq-MAX_HEIGHT-clause-denied : goal.parse_square-returns-then-height-eq-MAX_HEIGHT-clause-denied
parse_square-returns-then-height-eq-MAX_HEIGHT-clause-denied g t c =
    let most : c.args.room ≤ c.in_ok-condition.height = omega arith in
    high_square _ _ _ _ _ _ _ _ c.in-Some.ensures c.in_ok-condition.ensures.found most

pub parse_square-returns-clause-found : goal.parse_square-returns-clause-found
parse_square-returns-clause-found g t c =
    square_at _ _ _ _ _ _ _ _ _ _ _ c.in-Some.ensures c.in_ok-condition.ensures.found c.in-Some-after_mark.ensures c.spanning.ensures refl

pub parse_single-returns-in_err-condition-clause-denied : goal.parse_single-returns-in_err-condition-clause-denied
parse_single-returns-in_err-condition-clause-denied g t c =
    passed_on _ c.in_err-condition.field-0.0 _ _ (search rules) (denied_with _ _ _ _ (λ m u. unread_not _ _ _ m c.in-Some.ensures u) c.in_err-condition.ensures.denied)

pub parse_single-returns-in-Some-clause-found : goal.parse_single-returns-in-Some-clause-found
parse_single-returns-in-Some-clause-found g t c =
    negated_at _ _ _ _ _ _ _ _ _ c.in-Some.ensures c.in_ok-condition.ensures.found c.spanning-extent.ensures c.in_ok-condition-2.ensures

pub parse_single-returns-in-Some-after_mark-clause-found : goal.parse_single-returns-in-Some-after_mark-clause-found
parse_single-returns-in-Some-after_mark-clause-found g t c =
    IfOk-weaker c.parse_square-in-Some-after_mark.result _ _ (λ r h. bracketed h) c.parse_square-in-Some-after_mark.ensures.found

pub parse_single-returns-in-Some-after_mark-clause-denied : goal.parse_single-returns-in-Some-after_mark-clause-denied
parse_single-returns-in-Some-after_mark-clause-denied g t c =
    IfErr-weaker c.parse_square-in-Some-after_mark.result _ _ (λ f h. denied_with _ _ f _ (λ m u. unread_square _ _ _ m c.in-Some-after_mark.ensures u) h) c.parse_square-in-Some-after_mark.ensures.denied

pub parse_condition-returns-in_err-left-clause-denied : goal.parse_condition-returns-in_err-left-clause-denied
parse_condition-returns-in_err-left-clause-denied g t c =
    passed_on _ c.in_err-left.field-0.0 _ _ (search rules) (denied_with _ _ _ _ (λ m u. unread_chain _ _ m u) c.in_err-left.ensures.denied)

pub parse_condition-loop-connective-init : goal.parse_condition-loop-connective-init
parse_condition-loop-connective-init g t c = record {
  on = begins _ _ _ _ _ _ c.in_ok-left.ensures.found;
  shorter = c.in_ok-left.ensures.shorter;
  low = c.in_ok-left.ensures.low.0;
  most = c.in_ok-left.ensures.low.1;
}

pub parse_condition-returns-in_err-right-clause-denied : goal.parse_condition-returns-in_err-right-clause-denied
parse_condition-returns-in_err-right-clause-denied g t c =
    passed_on _ c.in_err-right.field-0.0 _ _ (search rules) (denied_with _ _ _ _ (λ m u. no_operand _ _ _ _ _ _ _ _ _ m c.loop-connective.invariant.on c.in-Some.ensures.0 c.in-Some.ensures.1 u) c.in_err-right.ensures.denied)

pub parse_condition-returns-then-most-eq-MAX_HEIGHT-clause-denied : goal.parse_condition-returns-then-most-eq-MAX_HEIGHT-clause-denied
parse_condition-returns-then-most-eq-MAX_HEIGHT-clause-denied g t c =
    high_operand _ _ _ _ _ _ _ _ _ _ _ c.loop-connective.height c.in_ok-right.other c.args.room c.loop-connective.invariant.on c.in-Some.ensures.0 c.in-Some.ensures.1 c.in_ok-right.ensures.found (omega arith)

pub parse_condition-loop-connective-preserved : goal.parse_condition-loop-connective-preserved
parse_condition-loop-connective-preserved g t c =
    let o = ap (λ v. v + 1) c.max-most.ensures in
    record {
      on = goes_on _ _ _ _ _ _ _ _ _ _ _ _ _ _ _ _ c.loop-connective.invariant.on c.in-Some.ensures.0 c.in-Some.ensures.1 c.in_ok-right.ensures.found c.spanning-extent.ensures c.in_ok-left-2.ensures o;
      shorter = shorter_at _ _ _ _ _ c.loop-connective.invariant.shorter c.in-Some.ensures.0 c.in_ok-right.ensures.shorter;
      low = omega arith;
      most = omega (arith, c.in_ok-right.ensures.low.1, c.loop-connective.invariant.most);
    }

pub parse_condition-returns-clause-found : goal.parse_condition-returns-clause-found
parse_condition-returns-clause-found g t c = c.loop-connective.invariant.on.completes _ _ _ _ (stop c.in_default.ensures)
