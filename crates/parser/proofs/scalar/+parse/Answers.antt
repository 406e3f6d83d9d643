use Rattle.std.proofs.Common.{arith, rules, refl, ap, ◌+◌, ◌≤◌}
use Rattle.std.specs.Int.{w64}
use Rattle.std.proofs.lemmas.Int.{to_z_pos}
use Rattle.std.proofs.lemmas.Result.{IfOk-weaker, IfErr-weaker}
use Rattle.grammar.specs.Scalars.{stop, plain}
use Rattle.parser.proofs.Faults.{denied_with, denied_around, passed_on, shorter_at}
use Rattle.parser.proofs.Scalars.{number_at, column_at, bracket_at, minus_at, unread_inner, high_bracket, no_close, no_plain, unread_minus, high_minus, begins, unread_chain, goes_on, no_operand, high_operand}
use Rattle.parser.proofs.scalar.+parse.Goals as goal

pub parse_atom-returns-in-Some-clause-found : goal.parse_atom-returns-in-Some-clause-found
parse_atom-returns-in-Some-clause-found g t c =
    number_at _ _ _ c.in-Some.number _ c.in-Some.ensures.0 c.in-Some.ensures.1 (to_z_pos w64 c.in-Some.number c.in-Some.ensures.1)

pub parse_atom-returns-in-Some-after_column-clause-found : goal.parse_atom-returns-in-Some-after_column-clause-found
parse_atom-returns-in-Some-after_column-clause-found g t c =
    column_at _ _ _ _ c.in-Some-after_column.ensures

pub parse_atom-returns-in_err-scalar-clause-denied : goal.parse_atom-returns-in_err-scalar-clause-denied
parse_atom-returns-in_err-scalar-clause-denied g t c =
    passed_on _ c.in_err-scalar.field-0.0 _ _ (search rules) (denied_around _ _ _ _ _ (omega arith) (λ m l e u. unread_inner _ _ _ _ _ c.in-Some-after_mark.ensures e u) c.in_err-scalar.ensures.denied)

pub parse_atom-returns-in_default-after_mark-2-clause-denied : goal.parse_atom-returns-in_default-after_mark-2-clause-denied
parse_atom-returns-in_default-after_mark-2-clause-denied g t c = λ m.
    no_close _ _ _ _ _ _ _ m c.in-Some-after_mark.ensures c.in_ok-scalar.ensures.found c.in_default-after_mark-2.ensures

pub parse_atom-returns-then-height-eq-MAX_HEIGHT-clause-denied : goal.parse_atom-returns-then-height-eq-MAX_HEIGHT-clause-denied
parse_atom-returns-then-height-eq-MAX_HEIGHT-clause-denied g t c =
    let most : c.args.room ≤ c.in_ok-scalar.height = omega arith in
    high_bracket _ _ _ _ _ _ _ _ c.in-Some-after_mark.ensures c.in_ok-scalar.ensures.found most

pub parse_atom-returns-clause-found : goal.parse_atom-returns-clause-found
parse_atom-returns-clause-found g t c =
    bracket_at _ _ _ _ _ _ _ _ _ _ _ c.in-Some-after_mark.ensures c.in_ok-scalar.ensures.found c.in-Some-after_mark-2.ensures c.spanning.ensures refl

pub parse_unary-returns-in_default-clause-found : goal.parse_unary-returns-in_default-clause-found
parse_unary-returns-in_default-clause-found g t c =
    IfOk-weaker c.parse_atom.result _ _ (λ r h. plain h) c.parse_atom.ensures.found

pub parse_unary-returns-in_default-clause-denied : goal.parse_unary-returns-in_default-clause-denied
parse_unary-returns-in_default-clause-denied g t c =
    IfErr-weaker c.parse_atom.result _ _ (λ f h. denied_with _ _ f _ (λ m u. no_plain _ m c.in_default.ensures u) h) c.parse_atom.ensures.denied

pub parse_unary-returns-in_err-scalar-clause-denied : goal.parse_unary-returns-in_err-scalar-clause-denied
parse_unary-returns-in_err-scalar-clause-denied g t c =
    passed_on _ c.in_err-scalar.field-0.0 _ _ (search rules) (denied_with _ _ _ _ (λ m u. unread_minus _ _ _ m c.in-Some.ensures u) c.in_err-scalar.ensures.denied)

pub parse_unary-returns-then-height-eq-MAX_HEIGHT-clause-denied : goal.parse_unary-returns-then-height-eq-MAX_HEIGHT-clause-denied
parse_unary-returns-then-height-eq-MAX_HEIGHT-clause-denied g t c =
    let most : c.args.room ≤ c.in_ok-scalar.height = omega arith in
    high_minus _ _ _ _ _ _ _ _ c.in-Some.ensures c.in_ok-scalar.ensures.found most

pub parse_unary-returns-clause-found : goal.parse_unary-returns-clause-found
parse_unary-returns-clause-found g t c =
    minus_at _ _ _ _ _ _ _ _ _ _ c.in-Some.ensures c.in_ok-scalar.ensures.found c.spanning-extent.ensures c.in_ok-scalar-2.ensures refl

pub parse_chain-returns-in_err-left-clause-denied : goal.parse_chain-returns-in_err-left-clause-denied
parse_chain-returns-in_err-left-clause-denied g t c =
    passed_on _ c.in_err-left.field-0.0 _ _ (search rules) (denied_with _ _ _ _ (λ m u. unread_chain _ _ m u) c.in_err-left.ensures.denied)

pub parse_chain-loop-operator-init : goal.parse_chain-loop-operator-init
parse_chain-loop-operator-init g t c = record {
  on = begins _ _ _ _ _ _ c.in_ok-left.ensures.found;
  shorter = c.in_ok-left.ensures.shorter;
  low = c.in_ok-left.ensures.low.0;
  most = c.in_ok-left.ensures.low.1;
}

pub parse_chain-returns-in_err-right-clause-denied : goal.parse_chain-returns-in_err-right-clause-denied
parse_chain-returns-in_err-right-clause-denied g t c =
    passed_on _ c.in_err-right.field-0.0 _ _ (search rules) (denied_with _ _ _ _ (λ m u. no_operand _ _ _ _ _ _ _ _ _ m c.loop-operator.invariant.on c.in-Some.ensures.0 c.in-Some.ensures.1 u) c.in_err-right.ensures.denied)

pub parse_chain-returns-then-most-eq-MAX_HEIGHT-clause-denied : goal.parse_chain-returns-then-most-eq-MAX_HEIGHT-clause-denied
parse_chain-returns-then-most-eq-MAX_HEIGHT-clause-denied g t c =
    high_operand _ _ _ _ _ _ _ _ _ _ _ c.loop-operator.height c.in_ok-right.other c.args.room c.loop-operator.invariant.on c.in-Some.ensures.0 c.in-Some.ensures.1 c.in_ok-right.ensures.found (omega arith)

pub parse_chain-loop-operator-preserved : goal.parse_chain-loop-operator-preserved
parse_chain-loop-operator-preserved g t c =
    let o = ap (λ v. v + 1) c.max-most.ensures in
    record {
      on = goes_on _ _ _ _ _ _ _ _ _ _ _ _ _ _ _ _ c.loop-operator.invariant.on c.in-Some.ensures.0 c.in-Some.ensures.1 c.in_ok-right.ensures.found c.spanning-extent.ensures c.in_ok-left-2.ensures o;
      shorter = shorter_at _ _ _ _ _ c.loop-operator.invariant.shorter c.in-Some.ensures.0 c.in_ok-right.ensures.shorter;
      low = omega arith;
      most = omega (arith, c.in_ok-right.ensures.low.1, c.loop-operator.invariant.most);
    }

pub parse_chain-returns-clause-found : goal.parse_chain-returns-clause-found
parse_chain-returns-clause-found g t c = c.loop-operator.invariant.on.completes _ _ _ _ (stop c.in_default.ensures)
